-- The numbers of traps and of the ends of a run that began.
use Rattle.std.specs.Prelude.{ℕ}
use Rattle.wasm_num.specs.declared.trap.Trap.{Trap}
use Rattle.wasm_num.specs.declared.trap.Trap.TheVariants as trap
use Rattle.wasm_steps.specs.declared.pause.Outcome.{Outcome}
use Rattle.wasm_steps.specs.declared.pause.Outcome.TheVariants.{Exited, Trapped, OutOfFuel, OutOfMemory}

abbrev pub trap_number : Trap → ℕ
trap_number trap.Unreachable = 0
trap_number trap.DivideByZero = 1
trap_number trap.IntegerOverflow = 2
trap_number trap.OutOfBoundsMemory = 3
trap_number trap.UndefinedElement = 4
trap_number trap.UninitializedElement = 5
trap_number trap.IndirectCallMismatch = 6
trap_number trap.CallStackExhausted = 7
trap_number trap.InvalidConversion = 8

-- as the header numbers the ends of a run that began, and the register has a label for each
abbrev pub outcome_number : Outcome → ℕ
outcome_number (Exited status) = 0
outcome_number (Trapped trap) = 1
outcome_number OutOfFuel = 2
outcome_number OutOfMemory = 3
