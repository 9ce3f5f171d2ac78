use Rattle.sandbox_device.proofs.Packing.{made_of_zeros}
use Rattle.sandbox_device.proofs.part.SectorBlock.zeros.Goals as goal

pub returns : goal.returns
returns c = made_of_zeros _ _ c.args.count c.in_ok-written.ensures.items (c.in_ok-places.ensures.items_if_clones_equal (λ y is. is))
