use Rattle.std.proofs.Common.{refl}
use Rattle.wasm_interp.proofs.PlainSteps.First.{first_machine, starts}
use Rattle.wasm_interp.proofs.machine.Machine.new.Goals as goal

pub invariant_of-result : goal.invariant_of-result
invariant_of-result g c = first_machine (g.H.Host.links c.args.host.now) c.args.pages c.args.valid c.in-Ok.begun c.in-Ok.ensures.begun

pub returns-in-Ok-clause-starts : goal.returns-in-Ok-clause-starts
returns-in-Ok-clause-starts g c = starts (g.H.Host.links c.args.host.now) c.args.pages c.args.valid c.in-Ok.begun c.in-Ok.ensures.begun

pub returns-in-Err-clause-refused : goal.returns-in-Err-clause-refused
returns-in-Err-clause-refused g c = (refl, c.in-Err.ensures.refused)

pub returns-in-Ok-clause-most : goal.returns-in-Ok-clause-most
returns-in-Ok-clause-most g c = c.in-Ok.ensures.begun.first.most
