use Rattle.std.proofs.Common.{is_some, ◌≡◌, ◌∙◌, ◌+◌, ◌<◌, ℕ, suc, Option, None, length, take, sym, ap, subst, arith}
use Rattle.std.proofs.lemmas.List.{take_all}
use Rattle.std.proofs.lemmas.List.Sums.{count_by_more_yes, count_by_more_no}
use Rattle.vol_log.specs.Log.{view}
use Rattle.vol_dirs.specs.Names.{IsFree}
use Rattle.vol_tree.specs.Tree.{Entry}
use Rattle.vol_tree.specs.Clauses.{tree_in}
use Rattle.vol_tree.specs.Stats.{entries_of}
use Rattle.vol_tree.proofs.Finding.{length_tree}
use Rattle.vol_tree.proofs.Used.{used_there, free_there}
use Rattle.vol_tree.proofs.parts.Parts.entries.Goals as goal
use Rattle.vol_tree.proofs.parts.Parts.entries.Goals.{then-is_used, else-is_used}

pub loop-slot-preserved : goal.loop-slot-preserved
loop-slot-preserved g c =
    let p = c.args.self.now in
    let T = tree_in (view p.log) p.numbers in
    let slot = c.loop-slot.slot in
    let next : c.new.result ≡ suc slot = omega (arith, c.new.ensures) in
    let was = c.loop-slot.invariant in
    elim c.if-is_used.branch [
      | then-is_used w ↦ record {
        few = omega (arith, w.count-is, was.few);
        counted = λ h.
            let content = c.requires.content h in
            let lt : slot < length T = omega (arith, length_tree (view p.log) p.numbers, c.loop-slot-test.true) in
            let used = used_there (view p.log) p.numbers p.dirs content (c.requires.shows h) slot (λ free. c.is_used.ensures.used w.if-is_used.true (subst (λ (s : ℕ). IsFree p.dirs s) (sym next) free)) in
            w.count-is ∙ ap (λ (n : ℕ). n + 1) (was.counted h) ∙ sym (count_by_more_yes (λ (o : Option Entry). is_some o) T slot None lt used);
      }
      | else-is_used w ↦ record {
        few = omega (arith, w.count-is, was.few);
        counted = λ h.
            let content = c.requires.content h in
            let lt : slot < length T = omega (arith, length_tree (view p.log) p.numbers, c.loop-slot-test.true) in
            let free = free_there (view p.log) p.numbers p.dirs content (c.requires.shows h) slot (subst (λ (s : ℕ). IsFree p.dirs s) next (c.is_used.ensures.free w.if-is_used.false)) in
            w.count-is ∙ was.counted h ∙ sym (count_by_more_no (λ (o : Option Entry). is_some o) T slot None lt free);
      }
    ]

pub returns : goal.returns
returns g c h =
    let p = c.args.self.now in
    let T = tree_in (view p.log) p.numbers in
    let whole : take c.loop-slot.slot T ≡ T = take_all c.loop-slot.slot T (omega (arith, length_tree (view p.log) p.numbers, c.loop-slot-test.false)) in
    c.loop-slot.invariant.counted h ∙ ap entries_of whole
