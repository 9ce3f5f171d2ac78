-- The operands of a body while it is walked, of all open blocks, and how they are kept. The code has one list of types
-- and a mark for each block; `blocks_of` reads these as the open blocks of `Blocks`.
use Rattle.std.specs.Prelude.{◌≡◌, ℕ, ◌≤◌, List, [], ◌∷◌, Option, Some, None, Bool, true, false, map, take, drop, reverse, length}
use Rattle.wasm_syntax.specs.declared.instruction.ValueType.{ValueType}
use Rattle.wasm_valid.specs.declared.control_frames.ControlFrame.{ControlFrame}
use Rattle.wasm_valid.specs.internal.Stack.{Stack}
use Rattle.wasm_valid.specs.Typing.{Labels}
use Rattle.wasm_valid.specs.internal.Blocks.{OpenBlock, label_of}

-- the stack of the innermost block, and what lies below it, the lowest first
pub record Operands : Type 0 where
  pub below : List (Option ValueType)
  pub stack : Stack

abbrev pub operands : List (Option ValueType) → Stack → Operands
operands b s = record { below = b; stack = s }

-- a stack whose types are kept with the top last
abbrev pub stack_of : List (Option ValueType) → Bool → Stack
stack_of types u = record { known = reverse types; unreachable = u }

-- this many of them lie below
abbrev pub split_at : ℕ → Bool → List (Option ValueType) → Operands
split_at height u types = operands (take height types) (stack_of (drop height types) u)

-- the blocks, by what each keeps of those around it
abbrev pub blocks_of : Operands → List ControlFrame → List OpenBlock
blocks_of o [] = []
blocks_of o (f ∷ fs) = record { kind = f.kind; block_type = f.block_type; stack = o.stack } ∷ blocks_of (split_at f.around.height f.around.unreachable o.below) fs

abbrev pub control_frame_labels : List ControlFrame → Labels
control_frame_labels fs = map (λ f. label_of f.kind f.block_type) fs

-- each block lies above those around it
abbrev pub AreNested : List (Option ValueType) → List ControlFrame → Type 0
AreNested below [] = Unit {0}
AreNested below (f ∷ fs) = (f.around.height ≤ length below) × AreNested (take f.around.height below) fs

-- what a step answers: whether there is what it leaves, and this is it
abbrev pub StepsTo : {T : Type 0} → Bool → Option T → T → Type 0
StepsTo true o new = o ≡ Some new
StepsTo false o new = o ≡ None
