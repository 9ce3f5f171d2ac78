use Rattle.std.proofs.Common.{◌∙◌, ◌≤◌, slice_index, arith}
use Rattle.vol_alloc.specs.Alloc.{taken_of}
use Rattle.vol_body.proofs.Freed.{frees_next}
use Rattle.vol_body.proofs.freeing.free_direct.Goals as goal

pub loop-j-preserved : goal.loop-j-preserved
loop-j-preserved c =
    let from : c.args.from ≤ c.loop-j.j = omega arith in
    record {
      frees = frees_next (taken_of c.args.sectors.now) (taken_of c.loop-j.sectors) (taken_of c.free_taken.new.sectors) (slice_index c.args.entry.now.pointers) c.args.from c.loop-j.j from c.loop-j.invariant.frees c.free_taken.ensures.frees;
      range = (c.free_taken.ensures.range.0 ∙ c.loop-j.invariant.range.0, c.free_taken.ensures.range.1 ∙ c.loop-j.invariant.range.1);
    }
