use Rattle.std.proofs.Common.{refl}
use Rattle.vol_log.specs.Log.{view}
use Rattle.vol_tree.proofs.Children.{next_is}
use Rattle.vol_tree.proofs.Ranges.{child_serial}
use Rattle.vol_tree.proofs.volume.Volume.list_next.Goals as goal

pub returns-clause-answer : goal.returns-clause-answer
returns-clause-answer g c =
    let p = c.self.inside.parts in
    let is_open = c.self.invariant in
    rw (← c.self.view_is) (λ h.
    (next_is (view p.log) p.numbers p.dirs (is_open.content h) (is_open.shows h) c.in_ok-next_child.field-0 c.args.directory c.args.after c.in_ok-next_child.ensures.found, refl))

pub returns-clause-range : goal.returns-clause-range
returns-clause-range g c =
    let p = c.self.inside.parts in
    rw (← c.self.view_is) (child_serial p.dirs p.numbers c.args.directory c.args.after c.in_ok-next_child.field-0 c.self.invariant.slots c.in_ok-next_child.ensures.found)
