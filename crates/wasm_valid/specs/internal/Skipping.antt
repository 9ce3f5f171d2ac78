-- What follows a number or an instruction, as the code finds it when it looks for an instruction's place.
use Rattle.std.specs.Prelude.{ℕ, zero, suc, List, [], ◌∷◌, length, drop, nat_lt, if◌then◌else◌}
use Rattle.wasm_syntax.specs.declared.instruction.FloatOperator.{FloatOperator}
use Rattle.wasm_syntax.specs.declared.instruction.FloatOperator.TheVariants as float_op
use Rattle.wasm_syntax.specs.declared.instruction.Instruction.{Instruction}
use Rattle.wasm_syntax.specs.declared.instruction.Instruction.TheVariants as op

-- the last byte of a number is the first below 128
abbrev pub after_number : List ℕ → List ℕ
after_number [] = []
after_number (b ∷ bs) = if nat_lt b 128 then bs else after_number bs

abbrev pub after_numbers : ℕ → List ℕ → List ℕ
after_numbers zero bytes = bytes
after_numbers (suc n) bytes = after_number (after_numbers n bytes)

-- behind the opcode of an operator on floats
abbrev pub after_float : FloatOperator → List ℕ → List ℕ
after_float (float_op.Saturate t f s) bytes = after_number bytes
after_float o bytes = bytes

-- behind the opcode
abbrev pub after_immediates : Instruction → List ℕ → List ℕ
after_immediates (op.Block t) bytes = after_number bytes
after_immediates (op.Loop t) bytes = after_number bytes
after_immediates (op.If t) bytes = after_number bytes
after_immediates (op.Br l) bytes = after_number bytes
after_immediates (op.BrIf l) bytes = after_number bytes
after_immediates (op.BrTable b) bytes = after_number (after_numbers (length b.0) (after_number bytes))
after_immediates (op.Call x) bytes = after_number bytes
after_immediates (op.CallIndirect x) bytes = after_numbers 2 bytes
after_immediates (op.LocalGet x) bytes = after_number bytes
after_immediates (op.LocalSet x) bytes = after_number bytes
after_immediates (op.LocalTee x) bytes = after_number bytes
after_immediates (op.GlobalGet x) bytes = after_number bytes
after_immediates (op.GlobalSet x) bytes = after_number bytes
after_immediates (op.Load o m) bytes = after_numbers 2 bytes
after_immediates (op.Store o m) bytes = after_numbers 2 bytes
after_immediates op.MemorySize bytes = after_number bytes
after_immediates op.MemoryGrow bytes = after_number bytes
after_immediates op.MemoryCopy bytes = after_numbers 3 bytes
after_immediates op.MemoryFill bytes = after_numbers 2 bytes
after_immediates (op.I32Const n) bytes = after_number bytes
after_immediates (op.I64Const n) bytes = after_number bytes
after_immediates (op.F32Const n) bytes = drop 4 bytes
after_immediates (op.F64Const n) bytes = drop 8 bytes
after_immediates (op.Float o) bytes = after_float o bytes
after_immediates i bytes = bytes

abbrev pub after_instruction : Instruction → List ℕ → List ℕ
after_instruction i [] = []
after_instruction i (b ∷ bs) = after_immediates i bs

abbrev pub after_instructions : List Instruction → List ℕ → List ℕ
after_instructions [] bytes = bytes
after_instructions (i ∷ is) bytes = after_instructions is (after_instruction i bytes)
