use Rattle.std.proofs.Common.{refl, replicate}
use Rattle.sandbox_device.proofs.InParts.{zeros_counted, zeros_in_parts, zeros_joined}
use Rattle.sandbox_device.proofs.sectors.Sectors.zeros.Goals as goal

pub invariant_of-result : goal.invariant_of-result
invariant_of-result c = (
  zeros_in_parts c.in_ok-parts.parts.items c.push.new.self.items c.in_ok-zeros.field-0 131072 c.args.count (replicate 512 0) refl c.in_ok-parts.ensures c.in_ok-zeros.ensures c.in_ok-push.ensures.items,
  zeros_counted c.in_ok-parts.parts.items c.push.new.self.items c.in_ok-zeros.field-0 131072 c.args.count (replicate 512 0) refl c.in_ok-parts.ensures c.in_ok-zeros.ensures c.in_ok-push.ensures.items,
)

pub returns : goal.returns
returns c =
    zeros_joined c.in_ok-parts.parts.items c.push.new.self.items c.in_ok-zeros.field-0 131072 c.args.count (replicate 512 0) refl c.in_ok-parts.ensures c.in_ok-zeros.ensures c.in_ok-push.ensures.items
