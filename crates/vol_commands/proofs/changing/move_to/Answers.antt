use Rattle.std.proofs.Common.{ap, sym, subst}
use Rattle.vol_tree.specs.Calls.{renamed, name_at, parent_at}
use Rattle.path_walk.specs.Paths.{Missing}
use Rattle.path_walk.specs.Walk.{IsReached, reached_as}
use Rattle.path_walk.specs.declared.walking.Reached.{Reached}
use Rattle.vol_commands.specs.Changes.{moved_to}
use Rattle.vol_commands.proofs.Changed.{means}
use Rattle.vol_commands.proofs.changing.move_to.Goals as goal

pub returns-in-Found : goal.returns-in-Found
returns-in-Found g c =
    let v = c.args.volume.now in
    let s = c.args.source in
    let t = c.new.result in
    means g.D.Device.honest g.D.Device.disk g.D.Device.size g.D.Device.failures g.D.Device.goes_on (λ T. renamed T s (parent_at T t) (name_at T t)) (λ T. moved_to T s (reached_as c.args.target, c.args.wants_dir)) v c.move_onto.new.volume c.move_onto.result
    (λ h. rw c.new.ensures (ap (λ (r : Reached). moved_to v.tree s (reached_as r, c.args.wants_dir)) (sym c.in-Found.is))) c.move_onto.ensures

pub returns-in-Missing : goal.returns-in-Missing
returns-in-Missing g c =
    let v = c.args.volume.now in
    let s = c.args.source in
    means g.D.Device.honest g.D.Device.disk g.D.Device.size g.D.Device.failures g.D.Device.goes_on (λ T. moved_to T s (Missing c.new-in-Missing.result c.in-Missing.name.now, c.args.wants_dir)) (λ T. moved_to T s (reached_as c.args.target, c.args.wants_dir)) v c.move_into.new.volume c.move_into.result
    (λ h. rw c.new-in-Missing.ensures (ap (λ (r : Reached). moved_to v.tree s (reached_as r, c.args.wants_dir)) (sym c.in-Missing.is))) c.move_into.ensures

pub move_onto-requires-clause-target : goal.move_onto-requires-clause-target
move_onto-requires-clause-target g c = rw c.new.ensures (subst (IsReached g.D.Device.honest c.args.volume.now) c.in-Found.is c.requires.reached)

pub move_into-requires-clause-parent : goal.move_into-requires-clause-parent
move_into-requires-clause-parent g c = let both = subst (IsReached g.D.Device.honest c.args.volume.now) c.in-Missing.is c.requires.reached in rw c.new-in-Missing.ensures both.0

pub move_into-requires-clause-name : goal.move_into-requires-clause-name
move_into-requires-clause-name g c = let both = subst (IsReached g.D.Device.honest c.args.volume.now) c.in-Missing.is c.requires.reached in both.1

pub move_into-requires-clause-directory : goal.move_into-requires-clause-directory
move_into-requires-clause-directory g c h = rw c.new-in-Missing.ensures (c.requires.place h c.in-Missing.parent c.in-Missing.name.now (ap reached_as c.in-Missing.is))
