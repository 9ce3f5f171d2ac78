-- What it means that the rest of a body is typed, with the blocks that are open before it. The code is flat, so `Going`
-- says that it can be cut into the rests of these blocks, each of which nests and is typed (`Part`).
use Rattle.std.specs.Prelude.{◌≡◌, ℕ, ◌⊎◌, List, [], ◌∷◌, ◌++◌, Some, slice_get}
use Rattle.wasm_syntax.specs.declared.instruction.ValueType.{ValueType}
use Rattle.wasm_syntax.specs.declared.instruction.BlockType.{BlockType}
use Rattle.wasm_syntax.specs.declared.instruction.BlockType.TheVariants.{Empty}
use Rattle.wasm_syntax.specs.declared.instruction.Instruction.{Instruction}
use Rattle.wasm_syntax.specs.declared.instruction.Instruction.TheVariants as op
use Rattle.wasm_syntax.specs.declared.module.FuncType.{FuncType}
use Rattle.wasm_syntax.specs.declared.module.Body.{Body}
use Rattle.wasm_syntax.specs.Nested.{Instructions, IsWritten, flatten}
use Rattle.wasm_valid.specs.declared.control_frames.BlockKind.{BlockKind}
use Rattle.wasm_valid.specs.declared.control_frames.BlockKind.TheVariants.{Block, Loop, If}
use Rattle.wasm_valid.specs.Arities.{results_of}
use Rattle.wasm_valid.specs.Typing.{Context, Labels, Typed}
use Rattle.wasm_valid.specs.Validity.{FunctionTyped}
use Rattle.wasm_valid.specs.internal.Stack.{Stack, nothing, push}
use Rattle.wasm_valid.specs.internal.Blocks.{OpenBlock, labels_of}
use Rattle.wasm_valid.specs.internal.Fits.{FitsTypes}

-- ---- code in two parts

pub record Split (A B : List Instruction → Type 0) (flat : List Instruction) : Type 0 where
  pub front : List Instruction
  pub back : List Instruction
  pub is : flat ≡ front ++ back
  pub first : A front
  pub second : B back

abbrev pub IsNone : List Instruction → Type 0
IsNone flat = flat ≡ []

-- ---- code up to the end of a block

-- Code up to this last instruction is typed from some stack that fits, and leaves these types.
pub record Run (last : Instruction) (c : Context) (ls : Labels) (s : Stack) (rs : List ValueType) (flat : List Instruction) : Type 0 where
  pub code : Instructions
  pub written : IsWritten code
  pub is : flatten last code ≡ flat
  pub from : List ValueType
  pub fits : FitsTypes s from
  pub typed : Typed c ls code from rs

-- code up to the end of an open block; that of an if may have an else
abbrev pub Part : Context → Labels → BlockKind → BlockType → Stack → List Instruction → Type 0
Part c ls Block t s flat = Run op.End c ls s (results_of t) flat
Part c ls Loop t s flat = Run op.End c ls s (results_of t) flat
Part c ls If t s flat = ((t ≡ Empty) × Run op.End c ls s (results_of t) flat) ⊎ Split (Run op.Else c ls s (results_of t)) (Run op.End c ls nothing (results_of t)) flat

-- Code up to the end of all open blocks, with these types on the stack of the innermost.
abbrev pub Ending : Context → List OpenBlock → List ValueType → List Instruction → Type 0
Ending c [] rs flat = IsNone flat
Ending c (b ∷ bs) rs flat = Split (Part c (labels_of (b ∷ bs)) b.kind b.block_type (push rs b.stack)) (Ending c bs (results_of b.block_type)) flat

abbrev pub Going : Context → List OpenBlock → List Instruction → Type 0
Going c bs flat = Ending c bs [] flat

-- a body that has the type of this index
abbrev pub BodyTyped : Context → List FuncType → ℕ → Body → Type 0
BodyTyped c types x b = (f : FuncType) × (slice_get types x ≡ Some f) × FunctionTyped c f b
