use Rattle.std.proofs.Common.{◌*◌, ◌∙◌, ◌≡◌, ◌≤◌, ℕ, drop, subst, arith}
use Rattle.byteorder.specs.Endian.{little_number}
use Rattle.vol_alloc.specs.Alloc.{taken_of}
use Rattle.vol_body.specs.internal.Truncated.{Frees}
use Rattle.vol_body.proofs.Freed.{frees_next}
use Rattle.vol_body.proofs.freeing.free_listed.Goals as goal

pub loop-i-preserved : goal.loop-i-preserved
loop-i-preserved c =
    let from : c.args.from ≤ c.loop-i.i = omega arith in
    record {
      frees = frees_next (taken_of c.args.sectors.now) (taken_of c.loop-i.sectors) (taken_of c.free_taken.new.sectors) (λ i. little_number 4 (drop (4 * i) c.args.image.now)) c.args.from c.loop-i.i from
          c.loop-i.invariant.frees (subst (λ (m : ℕ). Frees (taken_of c.loop-i.sectors) (taken_of c.free_taken.new.sectors) (λ k. k ≡ m)) c.number_at.ensures c.free_taken.ensures.frees);
      range = (c.free_taken.ensures.range.0 ∙ c.loop-i.invariant.range.0, c.free_taken.ensures.range.1 ∙ c.loop-i.invariant.range.1);
    }
