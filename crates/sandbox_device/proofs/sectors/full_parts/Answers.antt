use Rattle.std.proofs.Common.{arith, replicate}
use Rattle.sandbox_device.proofs.InParts.{all_made, one_more}
use Rattle.sandbox_device.proofs.sectors.full_parts.Goals as goal

pub loop-preserved : goal.loop-preserved
loop-preserved c = one_more c.loop.parts.items c.push.new.self.items c.in_ok-zeros.field-0 (replicate 131072 (replicate 512 0)) c.loop.counter c.in_ok-push.ensures.items c.loop.invariant c.in_ok-zeros.ensures

pub returns : goal.returns
returns c = all_made c.loop.parts.items (replicate 131072 (replicate 512 0)) c.loop.counter c.args.many c.loop.invariant (omega (arith, c.loop-test.false, c.loop.auto.counter-end))
