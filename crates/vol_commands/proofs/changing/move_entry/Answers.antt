use Rattle.std.proofs.Common.{◌≡◌, ◌⊎◌, Bool, Err, ap, sym, subst, inl, ◌∙◌, false}
use Rattle.vol_tree.specs.declared.errno.Errno.TheVariants as errno
use Rattle.vol_tree.specs.Tree.{Tree}
use Rattle.path_walk.specs.Paths.{Reached, ◌>>=◌}
use Rattle.path_walk.specs.Walk.{IsReached, reached_as}
use Rattle.path_walk.proofs.Chaining.{asked_then}
use Rattle.vol_commands.specs.Tasks.{reached, entry_found}
use Rattle.vol_commands.specs.Changes.{entry_moved, moved_to}
use Rattle.vol_commands.proofs.Changed.{asked_first, entry_kept, means, refused, refused_on}
use Rattle.vol_commands.proofs.Meant.{moved_found, moved_missing, moved_stops, stops}
use Rattle.vol_commands.proofs.Missing.{missing_in}
use Rattle.vol_commands.proofs.changing.move_entry.Goals as goal

pub returns-in_err-target : goal.returns-in_err-target
returns-in_err-target g c =
    let v = c.args.volume.now in
    let first = c.in_ok-source.ensures.asked in
    refused_on g.D.Device.honest g.D.Device.disk g.D.Device.size g.D.Device.failures g.D.Device.goes_on (λ T. entry_moved T c.args.from.now c.args.to.now) v c.reached-2.new.volume c.in_err-target.field-0.0 c.from_residual-in_err-target.result
    (asked_then g.D.Device.honest g.D.Device.disk g.D.Device.size g.D.Device.failures g.D.Device.goes_on v c.reached.new.volume c.reached-2.new.volume _ first c.in_err-target.ensures.asked)
    (λ h. moved_stops v.tree c.args.from.now c.args.to.now (reached_as c.in_ok-source.source, _) c.in_err-target.field-0.0 (c.in_ok-source.ensures.answer h)
    (subst (λ (T : Tree). (reached T c.args.to.now ≡ Err c.in_err-target.field-0.0) ⊎ (c.in_err-target.field-0.0 ≡ errno.Io)) (first.tree h) (c.in_err-target.ensures.answer (first.kept.honest.0 h))))
    c.from_residual-in_err-target.ensures.1

pub returns-in-Found : goal.returns-in-Found
returns-in-Found g c =
    let v = c.args.volume.now in
    let first = c.in_ok-source.ensures.asked in
    let second = c.in_ok-target.ensures in
    let target : Reached × Bool = (reached_as c.in_ok-target.target, c.in_ok-target.wants_dir) in
    means g.D.Device.honest g.D.Device.disk g.D.Device.size g.D.Device.failures g.D.Device.goes_on (λ T. moved_to T c.new.result target) (λ T. entry_moved T c.args.from.now c.args.to.now) v c.move_to.new.volume c.move_to.result
    (λ h. rw c.new.ensures (moved_found v.tree c.args.from.now c.args.to.now (reached_as c.in_ok-source.source) (reached_as c.in_ok-target.target) _ c.in_ok-target.wants_dir c.in-Found.source
    (c.in_ok-source.ensures.answer h) (ap (λ (T : Tree). reached T c.args.to.now) (sym (first.tree h)) ∙ second.answer (first.kept.honest.0 h)) (ap reached_as c.in-Found.is)))
    (asked_first g.D.Device.honest g.D.Device.disk g.D.Device.size g.D.Device.failures g.D.Device.goes_on (λ T. moved_to T c.new.result target) v c.reached-2.new.volume c.move_to.new.volume c.move_to.result
    (asked_then g.D.Device.honest g.D.Device.disk g.D.Device.size g.D.Device.failures g.D.Device.goes_on v c.reached.new.volume c.reached-2.new.volume false first second.asked) c.move_to.ensures)

pub returns-in-Missing : goal.returns-in-Missing
returns-in-Missing g c =
    let v = c.args.volume.now in
    let first = c.in_ok-source.ensures.asked in
    let second = c.in_ok-target.ensures in
    refused g.D.Device.honest g.D.Device.disk g.D.Device.size g.D.Device.failures g.D.Device.goes_on (λ T. entry_moved T c.args.from.now c.args.to.now) v c.reached-2.new.volume errno.NotFound
    (asked_then g.D.Device.honest g.D.Device.disk g.D.Device.size g.D.Device.failures g.D.Device.goes_on v c.reached.new.volume c.reached-2.new.volume false first second.asked)
    (λ h. inl (moved_missing v.tree c.args.from.now c.args.to.now (reached_as c.in_ok-source.source) (reached_as c.in_ok-target.target) _ c.in_ok-target.wants_dir _ _
    (c.in_ok-source.ensures.answer h) (ap (λ (T : Tree). reached T c.args.to.now) (sym (first.tree h)) ∙ second.answer (first.kept.honest.0 h)) (ap reached_as c.in-Missing.is)))

pub move_to-requires-clause-source : goal.move_to-requires-clause-source
move_to-requires-clause-source g c =
    rw c.new.ensures (entry_kept g.D.Device.honest g.D.Device.disk g.D.Device.size g.D.Device.failures g.D.Device.goes_on c.reached.new.volume c.reached-2.new.volume c.in-Found.source c.in_ok-target.ensures.asked
    (subst (IsReached g.D.Device.honest c.reached.new.volume) c.in-Found.is c.in_ok-source.ensures.reached))

-- what is missing is missing in a directory
pub move_to-requires-clause-place : goal.move_to-requires-clause-place
move_to-requires-clause-place g c h parent name missing =
    let second = c.in_ok-target.ensures in
    let before = second.asked.kept.honest.1 h in
    missing_in c.reached.new.volume.tree c.reached-2.new.volume.tree c.args.to.now (reached_as c.in_ok-target.target) c.in_ok-target.wants_dir parent name
    (second.asked.tree before) (second.answer before) missing

-- the first path is refused
pub returns-in_err-source : goal.returns-in_err-source
returns-in_err-source g c =
    let T = c.args.volume.now.tree in
    refused_on g.D.Device.honest g.D.Device.disk g.D.Device.size g.D.Device.failures g.D.Device.goes_on (λ T. entry_moved T c.args.from.now c.args.to.now) c.args.volume.now c.reached.new.volume c.in_err-source.field-0.0 c.from_residual.result
    c.in_err-source.ensures.asked (λ h. stops (reached T c.args.from.now) (λ source. reached T c.args.to.now >>= λ target. entry_found source >>= λ serial. moved_to T serial target) c.in_err-source.field-0.0 (c.in_err-source.ensures.answer h)) c.from_residual.ensures.1
