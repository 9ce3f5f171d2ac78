use Rattle.std.proofs.Common.{Ok, ap, inl, subst}
use Rattle.vol_tree.specs.declared.errno.Errno.TheVariants as errno
use Rattle.vol_tree.specs.Tree.{Tree, Directory}
use Rattle.vol_tree.specs.Calls.{created}
use Rattle.path_walk.specs.Paths.{◌>>=◌}
use Rattle.path_walk.specs.Walk.{reached_as}
use Rattle.vol_commands.specs.Tasks.{reached}
use Rattle.vol_commands.specs.Changes.{directory_in, directory_made}
use Rattle.vol_commands.proofs.Changed.{asked_first, created_err, created_ok, means, refused, refused_on}
use Rattle.vol_commands.proofs.Meant.{made_found, made_missing, stops}
use Rattle.vol_commands.proofs.Missing.{missing_in}
use Rattle.path_walk.specs.declared.walking.Reached.{Reached}
use Rattle.path_walk.specs.Walk.{IsReached}
use Rattle.vol_commands.proofs.changing.make_directory.Goals as goal

pub returns-in_err-found : goal.returns-in_err-found
returns-in_err-found g c =
    refused_on g.D.Device.honest g.D.Device.disk g.D.Device.size g.D.Device.failures g.D.Device.goes_on (λ T. directory_made T c.args.path.now) c.args.volume.now c.reached.new.volume c.in_err-found.field-0.0 c.from_residual.result
    c.in_err-found.ensures.asked
    (λ h. stops (reached c.args.volume.now.tree c.args.path.now) (directory_in c.args.volume.now.tree) c.in_err-found.field-0.0 (c.in_err-found.ensures.answer h)) c.from_residual.ensures.1

pub returns-in-Found : goal.returns-in-Found
returns-in-Found g c =
    refused g.D.Device.honest g.D.Device.disk g.D.Device.size g.D.Device.failures g.D.Device.goes_on (λ T. directory_made T c.args.path.now) c.args.volume.now c.reached.new.volume errno.Exist c.in_ok-found.ensures.asked
    (λ h. inl (made_found c.args.volume.now.tree c.args.path.now (reached_as c.in_ok-found.found) _ _ (c.in_ok-found.ensures.answer h) (ap reached_as c.in-Found.is)))

-- what is missing is missing in a directory
pub create_dir-requires-clause-directory : goal.create_dir-requires-clause-directory
create_dir-requires-clause-directory g c h =
    let asked = c.in_ok-found.ensures.asked in
    let before = asked.kept.honest.1 h in
    rw c.new.ensures (missing_in c.args.volume.now.tree c.reached.new.volume.tree c.args.path.now (reached_as c.in_ok-found.found) _ c.in-Missing.parent c.in-Missing.name.now
    (asked.tree before) (c.in_ok-found.ensures.answer before) (ap reached_as c.in-Missing.is))

pub returns-in_err-create_dir-in-Missing : goal.returns-in_err-create_dir-in-Missing
returns-in_err-create_dir-in-Missing g c =
    let v = c.args.volume.now in
    let mid = c.reached.new.volume in
    let new = c.create_dir.new.self in
    let r = c.from_residual-in_err-create_dir-in-Missing.result in
    let place = λ (T : Tree). created T c.in-Missing.parent c.in-Missing.name.now Directory >>= λ made. Ok made.0 in
    means g.D.Device.honest g.D.Device.disk g.D.Device.size g.D.Device.failures g.D.Device.goes_on place (λ T. directory_made T c.args.path.now) v new r
    (λ h. made_missing v.tree c.args.path.now (reached_as c.in_ok-found.found) _ c.in-Missing.parent c.in-Missing.name.now (c.in_ok-found.ensures.answer h) (ap reached_as c.in-Missing.is))
    (asked_first g.D.Device.honest g.D.Device.disk g.D.Device.size g.D.Device.failures g.D.Device.goes_on place v mid new r c.in_ok-found.ensures.asked
    (created_err g.D.Device.honest g.D.Device.disk g.D.Device.size g.D.Device.failures g.D.Device.goes_on c.in-Missing.parent c.in-Missing.name.now mid new c.in_err-create_dir-in-Missing.field-0.0 r (λ h. rw c.new.ensures at c.in_err-create_dir-in-Missing.ensures.answer h) c.in_err-create_dir-in-Missing.ensures.crash c.in_err-create_dir-in-Missing.ensures.kept c.in_err-create_dir-in-Missing.ensures.goes_on c.from_residual-in_err-create_dir-in-Missing.ensures.1))

pub returns-in_ok-create_dir-in-Missing : goal.returns-in_ok-create_dir-in-Missing
returns-in_ok-create_dir-in-Missing g c =
    let v = c.args.volume.now in
    let mid = c.reached.new.volume in
    let new = c.create_dir.new.self in
    let place = λ (T : Tree). created T c.in-Missing.parent c.in-Missing.name.now Directory >>= λ made. Ok made.0 in
    means g.D.Device.honest g.D.Device.disk g.D.Device.size g.D.Device.failures g.D.Device.goes_on place (λ T. directory_made T c.args.path.now) v new (Ok tt)
    (λ h. made_missing v.tree c.args.path.now (reached_as c.in_ok-found.found) _ c.in-Missing.parent c.in-Missing.name.now (c.in_ok-found.ensures.answer h) (ap reached_as c.in-Missing.is))
    (asked_first g.D.Device.honest g.D.Device.disk g.D.Device.size g.D.Device.failures g.D.Device.goes_on place v mid new (Ok tt) c.in_ok-found.ensures.asked
    (created_ok g.D.Device.honest g.D.Device.disk g.D.Device.size g.D.Device.failures g.D.Device.goes_on c.in-Missing.parent c.in-Missing.name.now mid new c.in_ok-create_dir-in-Missing.field-0 (λ h. rw c.new.ensures at c.in_ok-create_dir-in-Missing.ensures.answer h) c.in_ok-create_dir-in-Missing.ensures.crash c.in_ok-create_dir-in-Missing.ensures.kept c.in_ok-create_dir-in-Missing.ensures.goes_on))

pub create_dir-requires-clause-name : goal.create_dir-requires-clause-name
create_dir-requires-clause-name g c =
    (subst (λ (r : Reached). IsReached g.D.Device.honest c.reached.new.volume r) c.in-Missing.is c.in_ok-found.ensures.reached).1
