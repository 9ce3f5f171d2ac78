use Rattle.std.proofs.Common.{is_some, ◌≡◌, ◌∙◌, ◌+◌, ◌-◌, ℕ, suc, Bool, false, true, length, sym, ap, subst, arith}
use Rattle.vol_log.specs.Log.{view, device_of}
use Rattle.vol_dirs.proofs.Lookups.{equal, different}
use Rattle.vol_tree.specs.declared.superblock.Superblock.{Superblock}
use Rattle.vol_tree.specs.Tree.{Tree, entry}
use Rattle.vol_tree.specs.Calls.{is_within}
use Rattle.vol_tree.specs.Clauses.{tree_in}
use Rattle.vol_tree.specs.internal.Moves.{IsAbove}
use Rattle.vol_tree.proofs.Climbing.{within_here, within_root, within_step, above_used}
use Rattle.vol_tree.proofs.Changing.{no_reads, reads_then}
use Rattle.vol_tree.proofs.Taking.{passed_io, passed_err}
use Rattle.vol_tree.specs.internal.Commits.{ReadsOnly}
use Rattle.vol_tree.proofs.Entries.{directory_used}
use Rattle.vol_tree.proofs.Finding.{length_tree}
use Rattle.vol_tree.proofs.parts.Parts.is_within.Goals as goal

pub loop-step-init : goal.loop-step-init
loop-step-init g c = record {
  reads = no_reads c.args.self.now c.requires.is_open c.requires.working;
  first = c.requires.first;
  last = c.requires.last;
  used = λ h. directory_used (tree_in (view c.args.self.now.log) c.args.self.now.numbers) c.args.directory (c.requires.used h);
  same = λ h. ap (λ (k : ℕ). is_within k (tree_in (view c.args.self.now.log) c.args.self.now.numbers) c.args.serial c.args.directory) (omega arith);
}

pub returns-then-eq-clause-reads : goal.returns-then-eq-clause-reads
returns-then-eq-clause-reads g c = c.loop-step.invariant.reads

pub returns-then-eq-clause-answer : goal.returns-then-eq-clause-answer
returns-then-eq-clause-answer g c h =
    let old = c.args.self.now in
    let T = tree_in (view old.log) old.numbers in
    let whole : is_within (length T) T c.args.serial c.args.directory ≡ is_within old.numbers.slots T c.args.serial c.args.directory = ap (λ (k : ℕ). is_within k T c.args.serial c.args.directory) (length_tree (view old.log) old.numbers) in
    sym (whole ∙ sym (c.loop-step.invariant.same h) ∙ within_here (old.numbers.slots - c.loop-step.step) T c.args.serial c.loop-step.at (equal c.loop-step.at c.args.serial (sym c.eq.ensures ∙ c.if-eq.true)))

pub returns-then-eq-2-clause-reads : goal.returns-then-eq-2-clause-reads
returns-then-eq-2-clause-reads g c = c.loop-step.invariant.reads

pub returns-then-eq-2-clause-answer : goal.returns-then-eq-2-clause-answer
returns-then-eq-2-clause-answer g c h =
    let old = c.args.self.now in
    let T = tree_in (view old.log) old.numbers in
    let whole : is_within (length T) T c.args.serial c.args.directory ≡ is_within old.numbers.slots T c.args.serial c.args.directory = ap (λ (k : ℕ). is_within k T c.args.serial c.args.directory) (length_tree (view old.log) old.numbers) in
    let k = old.numbers.slots - c.loop-step.step in
    sym (whole ∙ sym (c.loop-step.invariant.same h) ∙ ap (is_within k T c.args.serial) (equal c.loop-step.at 1 (sym c.eq-in-loop-step.ensures ∙ c.if-eq-2.true)) ∙ within_root k T c.args.serial (c.requires.is_open.content h).volume.tree c.requires.serial)

pub above-requires-clause-is_open : goal.above-requires-clause-is_open
above-requires-clause-is_open g c = c.loop-step.invariant.reads.commits.is_open

pub above-requires-clause-last : goal.above-requires-clause-last
above-requires-clause-last g c =
    let same : c.loop-step.self.numbers.slots ≡ c.args.self.now.numbers.slots = ap (λ (v : Superblock). v.slots) c.loop-step.invariant.reads.commits.kept.numbers in
    omega (arith, same, c.loop-step.invariant.last)

pub returns-in_err-at-clause-reads : goal.returns-in_err-at-clause-reads
returns-in_err-at-clause-reads g c =
    let io = passed_io ℕ c.from_residual.result c.in_err-at.field-0.0 c.from_residual.ensures.1 in
    subst (λ (b : Bool). ReadsOnly c.args.self.now c.above.new.self b) io (reads_then c.args.self.now c.loop-step.self c.above.new.self _ c.loop-step.invariant.reads c.in_err-at.ensures.reads)

pub returns-in_err-at-clause-answer : goal.returns-in_err-at-clause-answer
returns-in_err-at-clause-answer g c h =
    let start = c.args.self.now in
    let commits = c.loop-step.invariant.reads.commits in
    let h1 = commits.kept.honest.0 h in
    let at : is_some (entry (tree_in (view c.loop-step.self.log) c.loop-step.self.numbers) c.loop-step.at) ≡ true = ap (λ (T : Tree). is_some (entry T c.loop-step.at)) (commits.tree h) ∙ c.loop-step.invariant.used h in
    passed_err c.from_residual.result c.in_err-at.field-0.0 _ c.from_residual.ensures.1 (c.in_err-at.ensures.answer h1 (different c.loop-step.at 1 (sym c.eq-in-loop-step.ensures ∙ c.if-eq-2.false)) at)

pub loop-step-preserved : goal.loop-step-preserved
loop-step-preserved g c =
    let start = c.args.self.now in
    let was = c.loop-step.invariant in
    let done = c.in_ok-at.ensures in
    let same_slots : c.loop-step.self.numbers.slots ≡ start.numbers.slots = ap (λ (v : Superblock). v.slots) was.reads.commits.kept.numbers in
    let T = tree_in (view start.log) start.numbers in
    let above = λ (h : g.D.Device.honest (device_of start.log)).
    let h1 = was.reads.commits.kept.honest.0 h in
    let at : is_some (entry (tree_in (view c.loop-step.self.log) c.loop-step.self.numbers) c.loop-step.at) ≡ true = ap (λ (U : Tree). is_some (entry U c.loop-step.at)) (was.reads.commits.tree h) ∙ was.used h in
    let up : IsAbove T c.loop-step.at c.in_ok-at.at = subst (λ (U : Tree). IsAbove U c.loop-step.at c.in_ok-at.at) (was.reads.commits.tree h) (done.answer h1 (different c.loop-step.at 1 (sym c.eq-in-loop-step.ensures ∙ c.if-eq-2.false)) at) in
    up in
    record {
      reads = reads_then start c.loop-step.self c.above.new.self false was.reads done.reads;
      first = done.range.0;
      last = omega (arith, done.range.1, same_slots);
      used = λ h. above_used T (c.requires.is_open.content h).volume.tree c.loop-step.at c.in_ok-at.at (different c.loop-step.at 1 (sym c.eq-in-loop-step.ensures ∙ c.if-eq-2.false)) (above h);
      same = λ h.
          let k = start.numbers.slots - (c.loop-step.step + 1) in
          let more : start.numbers.slots - c.loop-step.step ≡ suc k = omega (arith, c.loop-step-test.true) in
          sym (within_step k T c.args.serial c.loop-step.at c.in_ok-at.at (different c.loop-step.at c.args.serial (sym c.eq.ensures ∙ c.if-eq.false)) (above h))
          ∙ sym (ap (λ (m : ℕ). is_within m T c.args.serial c.loop-step.at) more) ∙ was.same h;
    }

pub returns-clause-reads : goal.returns-clause-reads
returns-clause-reads g c = c.loop-step.invariant.reads

pub returns-clause-answer : goal.returns-clause-answer
returns-clause-answer g c h =
    let old = c.args.self.now in
    let T = tree_in (view old.log) old.numbers in
    let whole : is_within (length T) T c.args.serial c.args.directory ≡ is_within old.numbers.slots T c.args.serial c.args.directory = ap (λ (k : ℕ). is_within k T c.args.serial c.args.directory) (length_tree (view old.log) old.numbers) in
    let none : old.numbers.slots - c.loop-step.step ≡ 0 = omega (arith, c.loop-step-test.false) in
    c.eq-2.ensures ∙ sym (whole ∙ sym (c.loop-step.invariant.same h) ∙ ap (λ (k : ℕ). is_within k T c.args.serial c.loop-step.at) none)
