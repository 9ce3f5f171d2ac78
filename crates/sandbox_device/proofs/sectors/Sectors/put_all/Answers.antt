use Rattle.std.proofs.Common.{◌∙◌, ap, arith, set, get_or, List, ℕ, []}
use Rattle.sandbox_device.proofs.Packing.{put_next}
use Rattle.sandbox_device.proofs.sectors.Sectors.put_all.Goals as goal

-- one more is put
pub loop-image-preserved : goal.loop-image-preserved
loop-image-preserved c = record {
  at = omega (arith, c.loop-image.invariant.at);
  so_far = c.put.ensures ∙ ap (λ (l : List (List ℕ)). set l c.loop-image.n (get_or c.args.images.now c.loop-image.image-index [])) c.loop-image.invariant.so_far
      ∙ put_next c.args.self.now c.args.images.now c.args.first c.loop-image.image-index c.loop-image.n [] c.loop-image.invariant.at c.loop-image-test.true c.requires.fit;
}
