use Rattle.std.proofs.Common.{◌≡◌, ◌∙◌, ◌⊎◌, inl, inr, ⊎_elim, refl, sym}
use Rattle.std.proofs.lemmas.Result.{IfOk-from_err}
use Rattle.vol_log.specs.Log.{view}
use Rattle.vol_log.proofs.Readings.{reads_same}
use Rattle.vol_alloc.specs.Alloc.{taken_of}
use Rattle.vol_body.specs.Body.{number_in}
use Rattle.vol_body.specs.internal.Truncated.{IsAmong, IsFreedWithBlock}
use Rattle.vol_body.proofs.Freed.{frees_then, frees_these, frees_read}
use Rattle.vol_body.proofs.freeing.free_indirect_block.Goals as goal

pub returns-then-indirect_block-eq0-clause-range : goal.returns-then-indirect_block-eq0-clause-range
returns-then-indirect_block-eq0-clause-range g c = (refl, refl)

pub returns-then-indirect_block-eq0-clause-reads : goal.returns-then-indirect_block-eq0-clause-reads
returns-then-indirect_block-eq0-clause-reads g c = reads_same c.args.log.now

pub returns-then-indirect_block-eq0-clause-failed : goal.returns-then-indirect_block-eq0-clause-failed
returns-then-indirect_block-eq0-clause-failed g c = c.requires.working

pub returns-then-from-ge-NUMBERS-clause-range : goal.returns-then-from-ge-NUMBERS-clause-range
returns-then-from-ge-NUMBERS-clause-range g c = (refl, refl)

pub returns-then-from-ge-NUMBERS-clause-reads : goal.returns-then-from-ge-NUMBERS-clause-reads
returns-then-from-ge-NUMBERS-clause-reads g c = reads_same c.args.log.now

pub returns-then-from-ge-NUMBERS-clause-failed : goal.returns-then-from-ge-NUMBERS-clause-failed
returns-then-from-ge-NUMBERS-clause-failed g c = c.requires.working

pub read_unless_held-requires : goal.read_unless_held-requires
read_unless_held-requires g c = record { some = c.if-indirect_block-eq0.false; there = c.requires.there c.if-indirect_block-eq0.false; working = c.requires.working }

pub returns-in_err-image : goal.returns-in_err-image
returns-in_err-image g c =
    let r = c.from_residual.result in
    let is_err_now = c.from_residual.ensures.0 in
    let e = c.in_err-image.ensures in
    record {
      frees = λ h is_held. IfOk-from_err r _ is_err_now;
      range = (refl, refl);
      reads = e.reads;
      failed = e.failed ∙ sym is_err_now;
    }

pub returns-then-from-eq0 : goal.returns-then-from-eq0
returns-then-from-eq0 g c = record {
  frees = λ h is_held.
      let a = taken_of c.args.sectors.now in
      let b = taken_of c.free_listed.new.sectors in
      let d = taken_of c.free_taken.new.sectors in
      let content = view c.args.log.now in
      let of_list = c.args.indirect_block in
      let P = IsAmong (number_in content of_list) c.args.from 128 in
      frees_these a d (λ n. P n ⊎ (n ≡ of_list)) (IsFreedWithBlock content of_list c.args.from)
      (frees_then a b d P (λ n. n ≡ of_list) (frees_read a b content of_list c.args.from c.in_ok-image.image c.if-indirect_block-eq0.false (c.in_ok-image.ensures.bytes h is_held) c.free_listed.ensures.frees) c.free_taken.ensures.frees)
      (λ n either. ⊎_elim (λ s. inl s) (λ is. inr (c.if-from-eq0.true, sym is)) either)
      (λ n goes. ⊎_elim (λ s. inl s) (λ s. inr (sym s.1)) goes);
  range = (c.free_taken.ensures.range.0 ∙ c.free_listed.ensures.range.0, c.free_taken.ensures.range.1 ∙ c.free_listed.ensures.range.1);
  reads = c.in_ok-image.ensures.reads;
  failed = c.in_ok-image.ensures.failed;
}

pub returns-else-from-eq0 : goal.returns-else-from-eq0
returns-else-from-eq0 g c = record {
  frees = λ h is_held.
      let a = taken_of c.args.sectors.now in
      let b = taken_of c.free_listed.new.sectors in
      let content = view c.args.log.now in
      let of_list = c.args.indirect_block in
      frees_these a b (IsAmong (number_in content of_list) c.args.from 128) (IsFreedWithBlock content of_list c.args.from)
      (frees_read a b content of_list c.args.from c.in_ok-image.image c.if-indirect_block-eq0.false (c.in_ok-image.ensures.bytes h is_held) c.free_listed.ensures.frees)
      (λ n s. inl s)
      (λ n goes. ⊎_elim (λ s. s) (λ s. absurd (c.if-from-eq0.false s.0)) goes);
  range = c.free_listed.ensures.range;
  reads = c.in_ok-image.ensures.reads;
  failed = c.in_ok-image.ensures.failed;
}
