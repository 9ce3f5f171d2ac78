-- The blocks that are open at an instruction, the innermost first, and what the instruction makes of them. `stepped` is
-- one step of the walk over a body: the blocks after the instruction, or nothing where it isn't typed. The `end` of the
-- outermost block is no such step: `is_finished` says whether it may come.
use Rattle.std.specs.Prelude.{List, [], ◌∷◌, Option, Some, None, Bool, true, false, ◌&&◌, map}
use Rattle.std.specs.Option.{option_map, option_and_then}
use Rattle.wasm_syntax.specs.declared.instruction.ValueType.{ValueType}
use Rattle.wasm_syntax.specs.declared.instruction.ValueType.TheVariants.{I32}
use Rattle.wasm_syntax.specs.declared.instruction.BlockType.{BlockType}
use Rattle.wasm_syntax.specs.declared.instruction.BlockType.TheVariants.{Empty, Value}
use Rattle.wasm_syntax.specs.declared.instruction.Instruction.{Instruction}
use Rattle.wasm_syntax.specs.declared.instruction.Instruction.TheVariants as op
use Rattle.wasm_valid.specs.declared.control_frames.BlockKind.{BlockKind}
use Rattle.wasm_valid.specs.declared.control_frames.BlockKind.TheVariants.{Block, Loop, If}
use Rattle.wasm_valid.specs.Arities.{results_of}
use Rattle.wasm_valid.specs.Typing.{Context, Labels}
use Rattle.wasm_valid.specs.internal.Stack.{Stack, nothing, if_true, pop, push, can_be}
use Rattle.wasm_valid.specs.internal.Effects.{after}

-- a block, what it leaves, and what its own instructions so far left on the stack
pub record OpenBlock : Type 0 where
  pub kind : BlockKind
  pub block_type : BlockType
  pub stack : Stack

-- what a branch to a block keeps
abbrev pub label_of : BlockKind → BlockType → List ValueType
label_of Block t = results_of t
label_of Loop t = []
label_of If t = results_of t

abbrev pub labels_of : List OpenBlock → Labels
labels_of bs = map (λ b. label_of b.kind b.block_type) bs

-- a block that begins
abbrev pub new_block : BlockKind → BlockType → OpenBlock
new_block k t = record { kind = k; block_type = t; stack = nothing }

abbrev pub with_stack : OpenBlock → Stack → OpenBlock
with_stack b s = record { kind = b.kind; block_type = b.block_type; stack = s }

-- an if without an else leaves nothing
abbrev pub may_end : BlockKind → BlockType → Bool
may_end If (Value t) = false
may_end If Empty = true
may_end Block t = true
may_end Loop t = true

abbrev pub ends : OpenBlock → Bool
ends b = may_end b.kind b.block_type && can_be (results_of b.block_type) b.stack

abbrev pub is_if : BlockKind → Bool
is_if If = true
is_if Block = false
is_if Loop = false

-- what this block left is on the stack of the one around it; the outermost block ends with the code
abbrev pub ended : OpenBlock → List OpenBlock → Option (List OpenBlock)
ended b [] = None
ended b (d ∷ bs) = if_true (ends b) (with_stack d (push (results_of b.block_type) d.stack) ∷ bs)

abbrev pub elsed : OpenBlock → List OpenBlock → Option (List OpenBlock)
elsed b bs = if_true (is_if b.kind && can_be (results_of b.block_type) b.stack) (new_block Block b.block_type ∷ bs)

abbrev pub on_stack : OpenBlock → List OpenBlock → Option Stack → Option (List OpenBlock)
on_stack b bs o = option_map (λ s. with_stack b s ∷ bs) o

-- ---- the same, where a block is open

abbrev pub opened_in : BlockKind → BlockType → List OpenBlock → Option (List OpenBlock)
opened_in k t [] = None
opened_in k t (b ∷ bs) = Some (new_block k t ∷ b ∷ bs)

abbrev pub popped_in : ValueType → List OpenBlock → Option (List OpenBlock)
popped_in t [] = None
popped_in t (b ∷ bs) = on_stack b bs (pop t b.stack)

abbrev pub begun_in : BlockType → List OpenBlock → Option (List OpenBlock)
begun_in t bs = option_and_then (opened_in If t) (popped_in I32 bs)

abbrev pub ended_in : List OpenBlock → Option (List OpenBlock)
ended_in [] = None
ended_in (b ∷ bs) = ended b bs

abbrev pub elsed_in : List OpenBlock → Option (List OpenBlock)
elsed_in [] = None
elsed_in (b ∷ bs) = elsed b bs

abbrev pub plain_in : Context → Instruction → List OpenBlock → Option (List OpenBlock)
plain_in c i [] = None
plain_in c i (b ∷ bs) = on_stack b bs (after c (labels_of (b ∷ bs)) i b.stack)

unfoldable pub stepped : Context → Instruction → List OpenBlock → Option (List OpenBlock)
stepped c (op.Block t) bs = opened_in Block t bs
stepped c (op.Loop t) bs = opened_in Loop t bs
stepped c (op.If t) bs = begun_in t bs
stepped c op.Else bs = elsed_in bs
stepped c op.End bs = ended_in bs
stepped c i bs = plain_in c i bs

-- whether an end may close the one block that is open
abbrev pub is_finished : List OpenBlock → Bool
is_finished [] = false
is_finished (b ∷ []) = ends b
is_finished (b ∷ d ∷ bs) = false
