use Rattle.std.proofs.Common.{◌≡◌, take}
use Rattle.sandbox_args.specs.Request.{texts}
use Rattle.sandbox_telling.proofs.supplies.environment.Given as goal

-- the texts so far
abbrev pub invariant-loop-text : goal.invariant-loop-text
invariant-loop-text l = texts l.environment.items ≡ texts (take l.text-index l.run.env.items)
