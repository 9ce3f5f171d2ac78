-- What a host is told of a function at work, and what a function is called. Which functions are at work, and which
-- instruction each goes on with, is said by `frames_of`, and the law `frames_are_the_configurations` says that they are the
-- frames of the rules' configuration.
use Rattle.std.specs.Prelude.{◌≡◌, ◌+◌, ◌-◌, ◌^◌, ◌==◌, ℕ, List, ◌++◌, length, min, Option, Some, None, IfSome, if◌then◌else◌, slice_get, codes, decimal}
use Rattle.wasm_syntax.specs.declared.module.Body.{Body}
use Rattle.wasm_syntax.specs.declared.module.Module.{Module}
use Rattle.wasm_syntax.specs.declared.profile.Profile.{Profile}
use Rattle.wasm_syntax.specs.Module.{SpellsWith}
use Rattle.wasm_interp.specs.declared.frames.Frame.{Frame}
use Rattle.wasm_interp.specs.Machine.{Snapshot}
use Rattle.sandbox_inspect.specs.Places.{IsInstructionAt, called}
use Rattle.sandbox_host.specs.declared.frames.FunctionFrame.{FunctionFrame}
use Rattle.sandbox_host.specs.declared.held.HandleContent.{HandleContent}
use Rattle.sandbox_host.specs.declared.held.HandleContent.TheVariants.{Loaded, Running, Finished, Plugin, Instance, SessionLeft, Nothing}
use Rattle.sandbox_host.specs.Kinds.{machine_at}
use Rattle.sandbox_host.specs.Sessions.{state_of}

-- the machine of a session or an instance that isn't finished
abbrev pub machine_in : HandleContent → Option Snapshot
machine_in (Loaded m bytes) = None
machine_in (Running r) = Some (state_of r.session).machine
machine_in (Finished e) = None
machine_in (Plugin p bytes) = None
machine_in (Instance l) = Some (machine_at l.instance)
machine_in (SessionLeft e) = None
machine_in Nothing = None

abbrev pub machine_of : Option HandleContent → Option Snapshot
machine_of None = None
machine_of (Some held) = machine_in held

-- the instruction at which a function stands that has so many inside it: the one that comes next, of a caller its call
abbrev pub instruction_of : ℕ → ℕ → ℕ
instruction_of number next = if number == 0 then next else next - 1

-- where an instruction of this body begins, of the module's own function, as four bytes hold it
abbrev pub IsOffset : List ℕ → ℕ → ℕ → ℕ → Body → Type 0
IsOffset bytes own index told body = (offset : ℕ) × IsInstructionAt bytes own body index offset × (told ≡ min offset (2 ^ 32 - 1))

-- The function of this frame, as the standard counts them, the imported ones first; and where it stands in the bytes, which spell the
-- module.
pub record TellsFrame (bytes : List ℕ) (m : Module) (number : ℕ) (frame : Frame) (told : FunctionFrame) : Type 0 where
  pub function : told.function ≡ min (length m.imports + frame.own) (2 ^ 32 - 1)
  pub offset : (p : Profile) → SpellsWith p bytes m → IfSome (slice_get m.bodies frame.own) (IsOffset bytes frame.own (instruction_of number frame.next) told.offset)

abbrev pub number_name : ℕ → List ℕ
number_name function = codes "function[" ++ decimal function ++ codes "]"

abbrev pub name_or_number : Option (List ℕ) → ℕ → List ℕ
name_or_number (Some name) function = name
name_or_number None function = number_name function

-- its name in the section `name`, else that of its first export, else one made of its index
abbrev pub name_of : List ℕ → ℕ → List ℕ
name_of bytes function = name_or_number (called bytes function) function
