use Rattle.std.proofs.Common.{arith, false, sym, subst, ◌∙◌, Ok, None}
use Rattle.std.proofs.lemmas.Bool.{eqb-true, eqb-false}
use Rattle.vol_tree.specs.declared.superblock.Superblock.{Superblock}
use Rattle.vol_tree.specs.Tree.{Tree, changed}
use Rattle.vol_tree.specs.Calls.{parent_at}
use Rattle.vol_tree.specs.Opened.{IsSerial}
use Rattle.vol_commands.specs.Changes.{IsThinned, without}
use Rattle.vol_tree.proofs.GoingOn.{goes_then}
use Rattle.vol_tar.proofs.Kept.{keeps_then}
use Rattle.vol_commands.proofs.Asking.{works_after}
use Rattle.vol_commands.proofs.Removed.{only_io, quiet_left, stopped, turn_left, turned}
use Rattle.vol_commands.proofs.Thinned.{amid_ends, leaf_not_root}
use Rattle.vol_commands.proofs.removing.remove_tree.Goals as goal

pub loop-removed-preserved : goal.loop-removed-preserved
loop-removed-preserved g c =
    let v = c.args.volume.now in
    let T = v.tree in
    let before = c.loop-removed.invariant in
    let leaf = c.in_ok-leaf.ensures in
    let gone = c.in_ok-here.ensures in
    let first = keeps_then g.D.Device.honest g.D.Device.size g.D.Device.failures v c.loop-removed.volume c.leaf_below.new.volume false before.kept leaf.asked.kept in
    let kept = keeps_then g.D.Device.honest g.D.Device.size g.D.Device.failures v c.leaf_below.new.volume c.remove_leaf.new.volume false first gone.kept in
    let turn = λ (h : g.D.Device.honest v.device).
    turned T c.args.top c.loop-removed.volume.tree c.leaf_below.new.volume.tree c.remove_leaf.new.volume.tree c.loop-removed.here c.in_ok-leaf.leaf c.in_ok-here.here c.loop-removed._removed
    (before.amid h) (c.is_a_tree.ensures.tree h) c.requires.root (c.requires.top.used h) (leaf.answer (before.kept.honest.0 h)) (leaf.asked.tree (before.kept.honest.0 h)) (leaf.entry.used (first.honest.0 h)) (gone.answer (first.honest.0 h)) in
    record {
      working = works_after g.D.Device.honest g.D.Device.size g.D.Device.failures v c.remove_leaf.new.volume c.requires.working kept;
      kept = kept;
      goes = goes_then g.D.Device.goes_on v c.leaf_below.new.volume c.remove_leaf.new.volume first.numbers (goes_then g.D.Device.goes_on v c.loop-removed.volume c.leaf_below.new.volume before.kept.numbers before.goes leaf.asked.goes) gone.goes_on;
      here = record {
        number = subst (λ (s : Superblock). IsSerial s c.in_ok-here.here) (sym gone.kept.numbers) gone.range;
        used = λ h. (turn (kept.honest.1 h)).used;
      };
      amid = λ h. (turn h).amid (eqb-false c.in_ok-leaf.leaf c.args.top (sym c.eq.ensures ∙ c.if-eq.false));
      crash = λ h. turn_left g.D.Device.honest g.D.Device.disk g.D.Device.size g.D.Device.failures g.D.Device.goes_on v c.loop-removed.volume c.leaf_below.new.volume (IsThinned T c.args.top) before.kept.numbers (before.kept.honest.0 h)
          c.remove_leaf.new.volume leaf.asked (before.amid h).thinned (before.crash h) (gone.crash (first.honest.0 h));
    }

pub remove_leaf-requires-clause-root : goal.remove_leaf-requires-clause-root
remove_leaf-requires-clause-root g c now =
    let before = c.loop-removed.invariant in
    let leaf = c.in_ok-leaf.ensures in
    let then = leaf.asked.kept.honest.1 now in
    let h = before.kept.honest.1 then in
    leaf_not_root c.args.volume.now.tree c.args.top c.loop-removed.volume.tree c.loop-removed.here c.loop-removed._removed c.in_ok-leaf.leaf (before.amid h) (c.is_a_tree.ensures.tree h) c.requires.root (c.requires.top.used h) (leaf.answer then)

-- the device failed as an entry was removed
pub returns-in_err-here : goal.returns-in_err-here
returns-in_err-here g c =
    let v = c.args.volume.now in
    let T = v.tree in
    let before = c.loop-removed.invariant in
    let leaf = c.in_ok-leaf.ensures in
    let stop = c.in_err-here.ensures in
    let first = keeps_then g.D.Device.honest g.D.Device.size g.D.Device.failures v c.loop-removed.volume c.leaf_below.new.volume false before.kept leaf.asked.kept in
    let same = λ (h : g.D.Device.honest v.device). (stop.answer (first.honest.0 h)).0 ∙ leaf.asked.tree (before.kept.honest.0 h) in
    stopped g.D.Device.honest g.D.Device.disk g.D.Device.size g.D.Device.failures g.D.Device.goes_on (λ T. Ok (without T c.args.top)) (λ T U. IsThinned T c.args.top U) v c.leaf_below.new.volume c.remove_leaf.new.volume c.in_err-here.field-0.0 c.from_residual-in_err-here.result
    first stop.kept (goes_then g.D.Device.goes_on v c.loop-removed.volume c.leaf_below.new.volume before.kept.numbers before.goes leaf.asked.goes) stop.goes_on
    (λ h. only_io (changed c.leaf_below.new.volume.tree c.in_ok-leaf.leaf None, parent_at c.leaf_below.new.volume.tree c.in_ok-leaf.leaf) c.in_err-here.field-0.0 (stop.answer (first.honest.0 h)).1)
    (λ h. subst (λ (U : Tree). IsThinned T c.args.top U) (sym (same h)) (before.amid h).thinned)
    (λ h. turn_left g.D.Device.honest g.D.Device.disk g.D.Device.size g.D.Device.failures g.D.Device.goes_on v c.loop-removed.volume c.leaf_below.new.volume (IsThinned T c.args.top) before.kept.numbers (before.kept.honest.0 h)
    c.remove_leaf.new.volume leaf.asked (before.amid h).thinned (before.crash h) (stop.crash (first.honest.0 h)))
    c.from_residual-in_err-here.ensures.1

-- the top is gone, the last of all
pub returns-then-eq : goal.returns-then-eq
returns-then-eq g c =
    let v = c.args.volume.now in
    let T = v.tree in
    let before = c.loop-removed.invariant in
    let leaf = c.in_ok-leaf.ensures in
    let gone = c.in_ok-here.ensures in
    let first = keeps_then g.D.Device.honest g.D.Device.size g.D.Device.failures v c.loop-removed.volume c.leaf_below.new.volume false before.kept leaf.asked.kept in
    let turn = λ (h : g.D.Device.honest v.device).
    turned T c.args.top c.loop-removed.volume.tree c.leaf_below.new.volume.tree c.remove_leaf.new.volume.tree c.loop-removed.here c.in_ok-leaf.leaf c.in_ok-here.here c.loop-removed._removed
    (before.amid h) (c.is_a_tree.ensures.tree h) c.requires.root (c.requires.top.used h) (leaf.answer (before.kept.honest.0 h)) (leaf.asked.tree (before.kept.honest.0 h)) (leaf.entry.used (first.honest.0 h)) (gone.answer (first.honest.0 h)) in
    record {
      answer = λ h. (turn h).last (eqb-true c.in_ok-leaf.leaf c.args.top (sym c.eq.ensures ∙ c.if-eq.true));
      part = λ h. (turn h).thinned;
      crash = λ h. turn_left g.D.Device.honest g.D.Device.disk g.D.Device.size g.D.Device.failures g.D.Device.goes_on v c.loop-removed.volume c.leaf_below.new.volume (IsThinned T c.args.top) before.kept.numbers (before.kept.honest.0 h)
          c.remove_leaf.new.volume leaf.asked (before.amid h).thinned (before.crash h) (gone.crash (first.honest.0 h));
      kept = keeps_then g.D.Device.honest g.D.Device.size g.D.Device.failures v c.leaf_below.new.volume c.remove_leaf.new.volume false first gone.kept;
      goes = goes_then g.D.Device.goes_on v c.leaf_below.new.volume c.remove_leaf.new.volume first.numbers (goes_then g.D.Device.goes_on v c.loop-removed.volume c.leaf_below.new.volume before.kept.numbers before.goes leaf.asked.goes) gone.goes_on;
    }

-- there are no more entries than slots
pub returns : goal.returns
returns g c =
    let before = c.loop-removed.invariant in
    record {
      answer = λ h.
          let few = amid_ends c.args.volume.now.tree c.args.top c.loop-removed.volume.tree c.loop-removed.here c.loop-removed._removed (before.amid h) in
          absurd (omega (arith, few, c.is_a_tree.ensures.count, c.is_a_tree.ensures.ranges.few_slots, c.loop-removed-test.false));
      part = λ h. (before.amid h).thinned;
      crash = before.crash;
      kept = before.kept;
      goes = before.goes;
    }

-- the device failed on the way down
pub returns-in_err-leaf : goal.returns-in_err-leaf
returns-in_err-leaf g c =
    let v = c.args.volume.now in
    let T = v.tree in
    let before = c.loop-removed.invariant in
    let stop = c.in_err-leaf.ensures in
    stopped g.D.Device.honest g.D.Device.disk g.D.Device.size g.D.Device.failures g.D.Device.goes_on (λ T. Ok (without T c.args.top)) (λ T U. IsThinned T c.args.top U) v c.loop-removed.volume c.leaf_below.new.volume c.in_err-leaf.field-0.0 c.from_residual.result
    before.kept stop.asked.kept before.goes stop.asked.goes (λ h. stop.answer (before.kept.honest.0 h))
    (λ h. subst (λ (U : Tree). IsThinned T c.args.top U) (sym (stop.asked.tree (before.kept.honest.0 h))) (before.amid h).thinned)
    (λ h. quiet_left g.D.Device.honest g.D.Device.disk g.D.Device.size g.D.Device.failures g.D.Device.goes_on v c.loop-removed.volume c.leaf_below.new.volume (IsThinned T c.args.top) before.kept.numbers (before.kept.honest.0 h) _ stop.asked (before.crash h))
    c.from_residual.ensures.1
