-- Instructions as they nest (section 5.4). The decoder keeps a body as one flat list, while typing and steps are stated over nested
-- instructions; `Nests` ties the two.
use Rattle.std.specs.Prelude.{◌≡◌, ℕ, List, [], ◌∷◌, ◌++◌}
use Rattle.wasm_syntax.specs.declared.instruction.BlockType.{BlockType}
use Rattle.wasm_syntax.specs.declared.instruction.Instruction.{Instruction}
use Rattle.wasm_syntax.specs.declared.instruction.Instruction.TheVariants as op

-- A list of instructions: each constructor but done is an instruction before the rest of its list.
pub data Instructions : Type 0 where
  done : Instructions
  plain : Instruction → Instructions → Instructions
  block : BlockType → Instructions → Instructions → Instructions
  loop : BlockType → Instructions → Instructions → Instructions
  if_then : BlockType → Instructions → Instructions → Instructions
  if_else : BlockType → Instructions → Instructions → Instructions → Instructions
  -- a function that is to be entered: no bytes spell it, a call is rewritten to it
  invoke : ℕ → Instructions → Instructions

-- one list of instructions after another
abbrev pub append : Instructions → Instructions → Instructions
append done more = more
append (plain i rest) more = plain i (append rest more)
append (block t body rest) more = block t body (append rest more)
append (loop t body rest) more = loop t body (append rest more)
append (if_then t body rest) more = if_then t body (append rest more)
append (if_else t body other rest) more = if_else t body other (append rest more)
append (invoke x rest) more = invoke x (append rest more)

-- an instruction that is no part of a block
abbrev pub IsPlain : Instruction → Type 0
IsPlain (op.Block t) = ⊥
IsPlain (op.Loop t) = ⊥
IsPlain (op.If t) = ⊥
IsPlain op.Else = ⊥
IsPlain op.End = ⊥
IsPlain i = Unit {0}

-- the instructions one after the other; last is the one that ends them
abbrev pub flatten : Instruction → Instructions → List Instruction
flatten last done = last ∷ []
flatten last (plain i rest) = i ∷ flatten last rest
flatten last (block t body rest) = op.Block t ∷ flatten op.End body ++ flatten last rest
flatten last (loop t body rest) = op.Loop t ∷ flatten op.End body ++ flatten last rest
flatten last (if_then t body rest) = op.If t ∷ flatten op.End body ++ flatten last rest
flatten last (if_else t body other rest) = op.If t ∷ flatten op.Else body ++ flatten op.End other ++ flatten last rest
flatten last (invoke x rest) = flatten last rest

-- what bytes can spell: plain instructions are plain, and no function is to be entered
abbrev pub IsWritten : Instructions → Type 0
IsWritten done = Unit {0}
IsWritten (plain i rest) = IsPlain i × IsWritten rest
IsWritten (block t body rest) = IsWritten body × IsWritten rest
IsWritten (loop t body rest) = IsWritten body × IsWritten rest
IsWritten (if_then t body rest) = IsWritten body × IsWritten rest
IsWritten (if_else t body other rest) = IsWritten body × IsWritten other × IsWritten rest
IsWritten (invoke x rest) = ⊥

-- decoded instructions, as they nest
abbrev pub Nests : List Instruction → Instructions → Type 0
Nests flat code = IsWritten code × (flatten op.End code ≡ flat)
