use Rattle.std.proofs.Common.{ap, arith, false, sym, ◌∙◌}
use Rattle.vol_tree.specs.Tree.{Tree}
use Rattle.vol_tree.specs.Calls.{next_child}
use Rattle.path_walk.proofs.Chaining.{asked_then}
use Rattle.vol_commands.proofs.Asking.{works_on}
use Rattle.vol_commands.proofs.WaysDown.{leaf_found, way_ends, way_next}
use Rattle.vol_commands.proofs.removing.leaf_below.Goals as goal

pub loop-depth-preserved : goal.loop-depth-preserved
loop-depth-preserved g c =
    let before = c.loop-depth.invariant in
    let next = c.in_ok-child.ensures in
    record {
      working = works_on g.D.Device.honest g.D.Device.disk g.D.Device.size g.D.Device.failures g.D.Device.goes_on c.loop-depth.volume c.next_entry.new.volume before.working next.asked;
      asked = asked_then g.D.Device.honest g.D.Device.disk g.D.Device.size g.D.Device.failures g.D.Device.goes_on c.args.volume.now c.loop-depth.volume c.next_entry.new.volume _ before.asked next.asked;
      here = rw c.in-Some.is at next.range;
      way = λ h.
          let found = rw c.in-Some.is at next.answer (before.asked.kept.honest.0 h) in
          way_next c.args.volume.now.tree c.args.from c.loop-depth.here c.loop-depth._depth c.in-Some.child (before.way h)
          (ap (λ (T : Tree). next_child T c.loop-depth.here 0) (sym (before.asked.tree h)) ∙ sym found.0);
    }

pub returns-in-None-clause-answer : goal.returns-in-None-clause-answer
returns-in-None-clause-answer g c h =
    let before = c.loop-depth.invariant in
    let found = rw c.in-None.is at c.in_ok-child.ensures.answer (before.asked.kept.honest.0 h) in
    leaf_found c.args.volume.now.tree c.args.from c.loop-depth.here c.loop-depth._depth (before.way h)
    (ap (λ (T : Tree). next_child T c.loop-depth.here 0) (sym (before.asked.tree h)) ∙ sym found.0)

-- on a device that keeps its model there are no more steps than slots
pub returns-clause-answer : goal.returns-clause-answer
returns-clause-answer g c h =
    let before = c.loop-depth.invariant in
    let few = way_ends c.args.volume.now.tree c.args.from c.loop-depth.here c.loop-depth._depth (c.is_a_tree.ensures.tree h) (c.requires.from.used h) (before.way h) in
    absurd (omega (arith, few, c.is_a_tree.ensures.count, c.is_a_tree.ensures.ranges.few_slots, c.loop-depth-test.false))

pub returns-in-None-clause-asked : goal.returns-in-None-clause-asked
returns-in-None-clause-asked g c =
    asked_then g.D.Device.honest g.D.Device.disk g.D.Device.size g.D.Device.failures g.D.Device.goes_on c.args.volume.now c.loop-depth.volume c.next_entry.new.volume false c.loop-depth.invariant.asked c.in_ok-child.ensures.asked
