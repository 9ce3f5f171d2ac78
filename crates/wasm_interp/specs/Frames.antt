-- The frames of a configuration (section 4.2.12), as a backtrace tells them: which function each is of, and which of its
-- instructions it goes on with. A configuration has the instructions that are left and no index, so a frame stands at a
-- position where what is left is the rest of the function's flat list from there on.
use Rattle.std.specs.Prelude.{◌≡◌, ◌≤◌, ◌⊎◌, ℕ, suc, ◌+◌, List, [], ◌∷◌, ◌++◌, Option, None, Some, Bool, true, false, if◌then◌else◌, length, slice_get, drop, map}
use Rattle.wasm_syntax.specs.declared.instruction.Instruction.{Instruction}
use Rattle.wasm_syntax.specs.declared.instruction.Instruction.TheVariants as op
use Rattle.wasm_syntax.specs.declared.module.FuncType.{FuncType}
use Rattle.wasm_syntax.specs.declared.module.Module.{Module}
use Rattle.wasm_syntax.specs.Nested.{Instructions, done, plain, block, loop, if_then, if_else, invoke, flatten}
use Rattle.wasm_steps.specs.declared.pause.Outcome.{Outcome}
use Rattle.wasm_steps.specs.declared.pause.Outcome.TheVariants.{Exited, Trapped, OutOfFuel, OutOfMemory}
use Rattle.wasm_steps.specs.Configuration.{Val, types, Function, own, Instance, Code, code, label, frame, stopped, Configuration, code_of, used_by, NextIsPlain}
use Rattle.wasm_steps.specs.Steps.{Reach}
use Rattle.wasm_operands.specs.declared.activation.Activation.{Activation}
use Rattle.wasm_operands.specs.declared.phase.Phase.{Phase}
use Rattle.wasm_operands.specs.declared.phase.Phase.TheVariants.{Within, Between, Refused, Over, Asking}
pub use Rattle.wasm_interp.specs.declared.frames.Frame.{Frame}
use Rattle.wasm_operands.specs.internal.Driving.{NoCalls}
use Rattle.wasm_interp.specs.Machine.{Snapshot}

-- ---- what is left of a function

-- the instructions one after the other, with no end after the last
abbrev pub flat : Instructions → List Instruction
flat done = []
flat (plain i rest) = i ∷ flat rest
flat (block t body rest) = op.Block t ∷ (flat body ++ (op.End ∷ flat rest))
flat (loop t body rest) = op.Loop t ∷ (flat body ++ (op.End ∷ flat rest))
flat (if_then t body rest) = op.If t ∷ (flat body ++ (op.End ∷ flat rest))
flat (if_else t body other rest) = op.If t ∷ (flat body ++ (op.Else ∷ (flat other ++ (op.End ∷ flat rest))))
flat (invoke x rest) = flat rest

-- what stands behind the instructions of a label: its end, or an else with the part that is skipped
pub data EndsLabel : List Instruction → Type 0 where
  by_end : EndsLabel (op.End ∷ [])
  by_else : (skipped : List Instruction) → EndsLabel (op.Else ∷ skipped)

-- IsLeft c after all: where `after` stands behind these instructions, `all` is what is left of the frame's flat list; of a
-- frame that has called another one, what stands behind the call
abbrev pub IsLeft : Code → List Instruction → List Instruction → Type 0
IsLeft (code vs is) after all = all ≡ flat is ++ after
IsLeft (label vs n k inner rest) after all = (end : List Instruction) × EndsLabel end × IsLeft inner (end ++ (flat rest ++ after)) all
IsLeft (frame vs n g inner rest) after all = all ≡ flat rest ++ after
IsLeft (stopped w) after all = ⊥

-- ---- a frame, and all of them

-- A frame of this arity with these locals and instructions is one of the module's own function, which goes on with this
-- instruction.
pub record IsFrameOf (m : Module) (i : Instance) (f : Frame) (n : ℕ) (g : List Val) (inner : Code) : Type 0 where
  pub signature : FuncType
  pub body : Function
  pub callee : slice_get i.callees (length m.imports + f.own) ≡ Some (own signature body)
  pub arity : n ≡ length signature.results
  pub locals : types g ≡ signature.params ++ body.locals
  pub left : IsLeft inner [] (drop f.next (flatten op.End body.code))

-- AreFrames m i c outer all: the frames of c, the innermost first, and then those around it are these
abbrev pub AreFrames : Module → Instance → Code → List Frame → List Frame → Type 0
AreFrames m i (code vs is) outer all = all ≡ outer
AreFrames m i (label vs n k inner rest) outer all = AreFrames m i inner outer all
AreFrames m i (frame vs n g inner rest) outer all = (f : Frame) × IsFrameOf m i f n g inner × AreFrames m i inner (f ∷ outer) all
AreFrames m i (stopped w) outer all = all ≡ outer

-- ---- calls

-- Outside a function at work another one goes on behind a call of it: by its index, or by the table.
pub record HasCalled (m : Module) (i : Instance) (caller f : Frame) : Type 0 where
  pub signature : FuncType
  pub body : Function
  pub callee : slice_get i.callees (length m.imports + caller.own) ≡ Some (own signature body)
  pub call : ℕ
  pub behind : caller.next ≡ call + 1
  pub instruction : Instruction
  pub stands : slice_get (flatten op.End body.code) call ≡ Some instruction
  pub calls : (instruction ≡ op.Call (length m.imports + f.own)) ⊎ ((y : ℕ) × (instruction ≡ op.CallIndirect y))

-- each function but the innermost has called the one inside it
abbrev pub AreCalls : Module → Instance → List Frame → Type 0
AreCalls m i [] = Unit {0}
AreCalls m i (f ∷ []) = Unit {0}
AreCalls m i (f ∷ (caller ∷ fs)) = HasCalled m i caller f × AreCalls m i (caller ∷ fs)

-- the frames of a configuration, the innermost first
pub record AreFramesOf (m : Module) (i : Instance) (c : Configuration) (fs : List Frame) : Type 0 where
  pub frames : AreFrames m i (code_of c) [] fs
  pub calls : AreCalls m i fs

-- ---- what a machine tells

abbrev pub frame_of : Activation → Frame
frame_of a = record { own = a.function; next = a.pc }

abbrev pub frames_within : Snapshot → List Frame
frames_within s = frame_of s.state.current ∷ map frame_of s.state.suspended

-- Functions are at work; or they were when the run trapped, or when memory was refused.
abbrev pub is_inside_at : Phase → Bool
is_inside_at Within = true
is_inside_at Between = false
is_inside_at Refused = false
is_inside_at (Over (Trapped t)) = true
is_inside_at (Over (Exited n)) = false
is_inside_at (Over OutOfFuel) = false
is_inside_at (Over OutOfMemory) = true
is_inside_at (Asking a) = true

abbrev pub frames_at : Phase → Snapshot → List Frame
frames_at f s = if is_inside_at f then frames_within s else []

-- The functions at work, the innermost first; of a run that trapped or was out of memory, those that were at work then.
abbrev pub frames_of : Snapshot → List Frame
frames_of s = frames_at s.state.phase s

-- These were the frames of a configuration from which steps that ask no host lead to this one, and that had used this
-- many units.
pub record WereFrames (m : Module) (i : Instance) (c : Configuration) (used : ℕ) (fs : List Frame) : Type 0 where
  pub before : Configuration
  pub frames : AreFramesOf m i before fs
  pub reach : Reach (Unit {0}) NoCalls i tt before [] tt c
  pub used_then : used_by before ≡ used

-- What the frames that a machine tells are. While the run goes on, and out of fuel, those of the configuration. A trapped
-- configuration has none: those of the one whose next step takes the last unit. Out of memory, those of one at most a unit
-- before; or there are none, where no function was at work.
abbrev pub Tells : Option Outcome → Module → Instance → Configuration → List Frame → Type 0
Tells None m i c fs = AreFramesOf m i c fs
Tells (Some (Trapped t)) m i c fs = (used : ℕ) × (used_by c ≡ suc used) × (w : WereFrames m i c used fs) × NextIsPlain (code_of w.before)
Tells (Some OutOfMemory) m i c fs = ((fs ≡ []) × AreFramesOf m i c []) ⊎ ((used : ℕ) × (used_by c ≤ suc used) × WereFrames m i c used fs)
Tells (Some OutOfFuel) m i c fs = fs ≡ []
Tells (Some (Exited n)) m i c fs = fs ≡ []
