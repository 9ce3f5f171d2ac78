use Rattle.std.proofs.Common.{◌≡◌, ℕ, suc, ◌+◌, ◌-◌, length, IsSome, sym, ◌∙◌, ap, subst, arith}
use Rattle.vol_tree.specs.declared.superblock.Superblock.{Superblock}
use Rattle.vol_tree.specs.Tree.{Tree, entry}
use Rattle.vol_tree.specs.Calls.{is_within}
use Rattle.vol_tree.specs.Opened.{IsSerial}
use Rattle.wasi_paths.specs.internal.paths.Climbing.{IsAbove}
use Rattle.wasi_bodies.proofs.bodies.AskingCalls.{works_on, asked_on, works_as, still_works}
use Rattle.wasi_paths.proofs.paths.Below.{within_here, within_root, within_step, above_used, below_root}
use Rattle.std.proofs.lemmas.Bool.{eqb-true, eqb-false}
use Rattle.wasi_paths.proofs.paths.renaming.is_within.Goals as goal

pub returns-then-eq-clause-told : goal.returns-then-eq-clause-told
returns-then-eq-clause-told g c = λ h.
    let T : Tree = c.args.volume.now.tree in
    sym (ap (λ (n : ℕ). is_within (length T) T n c.args.serial) (eqb-true c.args.top 1 (sym c.eq.ensures ∙ c.if-eq.true)) ∙ below_root T c.args.serial (c.is_a_tree.ensures.tree h) (c.requires.serial.used h))

pub returns-then-eq-2-clause-told : goal.returns-then-eq-2-clause-told
returns-then-eq-2-clause-told g c = λ h.
    let T : Tree = c.args.volume.now.tree in
    let slots = c.stats-slots.result.slots in
    let whole : is_within (length T) T c.args.top c.args.serial ≡ is_within slots T c.args.top c.args.serial =
    ap (λ (k : ℕ). is_within k T c.args.top c.args.serial) (c.is_a_tree.ensures.count ∙ sym (c.stats-slots.ensures h).slots) in
    sym (whole ∙ (c.loop-step.invariant.same h ∙ within_here (slots - c.loop-step.step) T c.args.top c.loop-step.at (eqb-true c.loop-step.at c.args.top (sym c.eq-in-loop-step.ensures ∙ c.if-eq-2.true))))

pub returns-then-eq-3-clause-told : goal.returns-then-eq-3-clause-told
returns-then-eq-3-clause-told g c = λ h.
    let T : Tree = c.args.volume.now.tree in
    let slots = c.stats-slots.result.slots in
    let k = slots - c.loop-step.step in
    let whole : is_within (length T) T c.args.top c.args.serial ≡ is_within slots T c.args.top c.args.serial =
    ap (λ (k : ℕ). is_within k T c.args.top c.args.serial) (c.is_a_tree.ensures.count ∙ sym (c.stats-slots.ensures h).slots) in
    sym (whole ∙ (c.loop-step.invariant.same h ∙ (ap (is_within k T c.args.top) (eqb-true c.loop-step.at 1 (sym c.eq-in-loop-step-2.ensures ∙ c.if-eq-3.true))
    ∙ within_root k T c.args.top (c.is_a_tree.ensures.tree h) c.requires.top.number.first (λ same. (eqb-false c.args.top 1 (sym c.eq.ensures ∙ c.if-eq.false)) (sym same)))))

pub loop-step-preserved : goal.loop-step-preserved
loop-step-preserved g c =
    let old = c.args.volume.now in
    let T : Tree = old.tree in
    let slots = c.stats-slots.result.slots in
    let here = c.loop-step.volume in
    let was = c.loop-step.invariant in
    let asked = c.in-Ok.ensures.asked in
    let above = λ (h : g.D.Device.honest old.device).
    let up : IsAbove T c.loop-step.at c.in-Ok.parent = subst (λ (U : Tree). IsAbove U c.loop-step.at c.in-Ok.parent) (was.works.tree h) (c.in-Ok.ensures.told (was.works.kept.honest.0 h) (eqb-false c.loop-step.at 1 (sym c.eq-in-loop-step-2.ensures ∙ c.if-eq-3.false))) in
    up in
    record {
      works = works_on g.D.Device.honest g.D.Device.disk g.D.Device.size g.D.Device.failures g.D.Device.goes_on old here c.above.new.volume was.works asked;
      here = record {
        number = subst (λ (n : Superblock). IsSerial n c.in-Ok.parent) (sym asked.kept.numbers) c.in-Ok.ensures.range;
        used = λ h.
            let h1 = asked.kept.honest.1 h in
            let h0 = was.works.kept.honest.1 h1 in
            subst (λ (U : Tree). IsSome (entry U c.in-Ok.parent)) (sym (asked.tree h1 ∙ was.works.tree h0))
            (above_used T (c.is_a_tree.ensures.tree h0) c.loop-step.at c.in-Ok.parent (eqb-false c.loop-step.at 1 (sym c.eq-in-loop-step-2.ensures ∙ c.if-eq-3.false)) (above h0));
      };
      same = λ h.
          let k = slots - (c.loop-step.step + 1) in
          let more : slots - c.loop-step.step ≡ suc k = omega (arith, c.loop-step-test.true) in
          was.same h ∙ (ap (λ (n : ℕ). is_within n T c.args.top c.loop-step.at) more ∙ within_step k T c.args.top c.loop-step.at c.in-Ok.parent (eqb-false c.loop-step.at c.args.top (sym c.eq-in-loop-step.ensures ∙ c.if-eq-2.false)) (above h));
    }

pub returns-in-Err-clause-asked : goal.returns-in-Err-clause-asked
returns-in-Err-clause-asked g c = asked_on g.D.Device.honest g.D.Device.disk g.D.Device.size g.D.Device.failures g.D.Device.goes_on c.args.volume.now c.loop-step.volume c.above.new.volume _ c.loop-step.invariant.works c.in-Err.ensures.asked

pub loop-step-init : goal.loop-step-init
loop-step-init g c =
    let slots = c.stats-slots.result.slots in
    let all : slots ≡ slots - 0 = omega arith in
    record {
      works = still_works g.D.Device.honest g.D.Device.disk g.D.Device.size g.D.Device.failures g.D.Device.goes_on c.args.volume.now c.requires.works;
      here = c.requires.serial;
      same = λ h. ap (λ (k : ℕ). is_within k c.args.volume.now.tree c.args.top c.args.serial) all;
    }

pub returns-then-eq-clause-asked : goal.returns-then-eq-clause-asked
returns-then-eq-clause-asked g c = works_as g.D.Device.honest g.D.Device.disk g.D.Device.size g.D.Device.failures g.D.Device.goes_on c.args.volume.now c.args.volume.now (still_works g.D.Device.honest g.D.Device.disk g.D.Device.size g.D.Device.failures g.D.Device.goes_on c.args.volume.now c.requires.works)
