-- What a handle has, and what opening, resuming and finishing make of it. The first part reads a `HandleContent` (a loaded
-- module, a session that runs, one that is finished, a module for instances, an instance that isn't finished, one that is, or
-- nothing) by its cases; in the second `Begins`, `Paused` and
-- `Finishes` tie these calls to the session of `sandbox_core`.
use Rattle.std.specs.Prelude.{◌≡◌, ◌==◌, ℕ, Bool, true, false, List, [], length, take, drop, ◌++◌, min, Option, Some, None, if◌then◌else◌}
use Rattle.wasm_syntax.specs.declared.module.Module.{Module}
use Rattle.wasm_syntax.specs.declared.profile.Profile.{Profile}
use Rattle.wasm_syntax.specs.declared.profile.Profile.TheVariants.{Integers}
use Rattle.wasm_syntax.specs.Module.{SpellsWith}
use Rattle.wasm_valid.specs.Validity.{IsValid}
use Rattle.wasm_interp.specs.Machine.{Represents}
use Rattle.sandbox_host.specs.declared.numbers.Told.{Told}
use Rattle.sandbox_host.specs.declared.supplies.Supplies.{Supplies}
use Rattle.sandbox_host.specs.declared.volumes.Origin.{Origin}
use Rattle.sandbox_host.specs.declared.held.HandleContent.{HandleContent}
use Rattle.sandbox_host.specs.declared.held.HandleContent.TheVariants.{Loaded, Running, Finished, Plugin, Instance, SessionLeft, Nothing}
use Rattle.sandbox_host.specs.declared.held.Ended.{Ended}
use Rattle.sandbox_host.specs.declared.modules.LoadedModule.{LoadedModule}
use Rattle.sandbox_host.specs.declared.modules.LoadedModule.TheVariants.{Plain, Prepared}
use Rattle.sandbox_host.specs.declared.session.HostSession.{HostSession}
use Rattle.sandbox_host.specs.declared.session.HostSession.TheVariants.{Own, Shared}
use Rattle.wasm_interp.specs.Shared.{Ready}
use Rattle.sandbox_host.specs.Host.{Bytes, State}
use Rattle.sandbox_host.specs.Kinds.{err_at, out_at}
pub use Rattle.sandbox_host.specs.Finishing.{module_of, returned_device, commit_number, Finishes}
use Rattle.sandbox_host.specs.Begun.{BeginsBy, PausedBy, ResumedBy}

-- ---- modules and sessions, of which some share what was made once

-- what a module was prepared as, if it was
abbrev pub ready_of : LoadedModule → Option Ready
ready_of (Plain m) = None
ready_of (Prepared ready) = Some ready

-- what callers see of a session, and what its module was prepared as, if it was
abbrev pub state_of : HostSession → State
state_of (Own s) = s
state_of (Shared s) = s.session

abbrev pub ready_with : HostSession → Option Ready
ready_with (Own s) = None
ready_with (Shared s) = Some s.ready

-- ---- what a handle has

abbrev pub is_session : HandleContent → Bool
is_session (Loaded m bytes) = false
is_session (Running r) = true
is_session (Finished e) = true
is_session (Plugin p bytes) = false
is_session (Instance l) = true
is_session (SessionLeft e) = true
is_session Nothing = false

abbrev pub is_loaded : HandleContent → Bool
is_loaded (Loaded m bytes) = true
is_loaded (Running r) = false
is_loaded (Finished e) = false
is_loaded (Plugin p bytes) = false
is_loaded (Instance l) = false
is_loaded (SessionLeft e) = false
is_loaded Nothing = false

abbrev pub is_plugin : HandleContent → Bool
is_plugin (Loaded m bytes) = false
is_plugin (Running r) = false
is_plugin (Finished e) = false
is_plugin (Plugin p bytes) = true
is_plugin (Instance l) = false
is_plugin (SessionLeft e) = false
is_plugin Nothing = false

abbrev pub has_session : Option HandleContent → Bool
has_session None = false
has_session (Some held) = is_session held

abbrev pub has_module : Option HandleContent → Bool
has_module None = false
has_module (Some held) = is_loaded held

abbrev pub has_plugin : Option HandleContent → Bool
has_plugin None = false
has_plugin (Some held) = is_plugin held

-- the session that isn't finished, what a finished one left, and the module that no session has
abbrev pub running_in : HandleContent → Option State
running_in (Loaded m bytes) = None
running_in (Running r) = Some (state_of r.session)
running_in (Finished e) = None
running_in (Plugin p bytes) = None
running_in (Instance l) = None
running_in (SessionLeft e) = None
running_in Nothing = None

abbrev pub finished_in : HandleContent → Option Ended
finished_in (Loaded m bytes) = None
finished_in (Running r) = None
finished_in (Finished e) = Some e
finished_in (Plugin p bytes) = None
finished_in (Instance l) = None
finished_in (SessionLeft e) = None
finished_in Nothing = None

abbrev pub loaded_in : HandleContent → Option Module
loaded_in (Loaded m bytes) = Some (module_of m)
loaded_in (Running r) = None
loaded_in (Finished e) = None
loaded_in (Plugin p bytes) = None
loaded_in (Instance l) = None
loaded_in (SessionLeft e) = None
loaded_in Nothing = None

-- what its module was prepared as, loaded or in a session, if it was
abbrev pub prepared_in : HandleContent → Option Ready
prepared_in (Loaded m bytes) = ready_of m
prepared_in (Running r) = ready_with r.session
prepared_in (Finished e) = ready_of e.loaded
prepared_in (Plugin p bytes) = None
prepared_in (Instance l) = None
prepared_in (SessionLeft e) = None
prepared_in Nothing = None

-- the bytes of its module
abbrev pub bytes_in : HandleContent → List ℕ
bytes_in (Loaded m bytes) = bytes
bytes_in (Running r) = r.bytes
bytes_in (Finished e) = e.bytes
bytes_in (Plugin p bytes) = bytes
bytes_in (Instance l) = l.bytes
bytes_in (SessionLeft e) = e.bytes
bytes_in Nothing = []

abbrev pub bytes_of : Option HandleContent → List ℕ
bytes_of None = []
bytes_of (Some held) = bytes_in held

abbrev pub running : Option HandleContent → Option State
running None = None
running (Some held) = running_in held

abbrev pub finished : Option HandleContent → Option Ended
finished None = None
finished (Some held) = finished_in held

abbrev pub loaded : Option HandleContent → Option Module
loaded None = None
loaded (Some held) = loaded_in held

abbrev pub prepared : Option HandleContent → Option Ready
prepared None = None
prepared (Some held) = prepared_in held

-- what the guest has written so far to a descriptor
abbrev pub stream : Bytes → Bytes → ℕ → List ℕ
stream out err descriptor = if descriptor == 1 then out.bytes.items else (if descriptor == 2 then err.bytes.items else [])

abbrev pub output_of : HandleContent → ℕ → List ℕ
output_of (Loaded m bytes) descriptor = []
output_of (Running r) descriptor = stream (state_of r.session).host.out.writer (state_of r.session).host.err.writer descriptor
output_of (Finished e) descriptor = stream e.out e.err descriptor
output_of (Plugin p bytes) descriptor = []
output_of (Instance l) descriptor = stream (out_at l.instance) (err_at l.instance) descriptor
output_of (SessionLeft e) descriptor = stream e.out e.err descriptor
output_of Nothing descriptor = []

abbrev pub output : Option HandleContent → ℕ → List ℕ
output None descriptor = []
output (Some held) descriptor = output_of held descriptor

-- how much it may write there, and whether a write was refused since it had
abbrev pub bound : Bytes → Bytes → ℕ → ℕ
bound out err descriptor = if descriptor == 1 then out.most else (if descriptor == 2 then err.most else 0)

abbrev pub is_filled : Bytes → Bytes → ℕ → Bool
is_filled out err descriptor = if descriptor == 1 then out.full else (if descriptor == 2 then err.full else false)

abbrev pub bound_of : HandleContent → ℕ → ℕ
bound_of (Loaded m bytes) descriptor = 0
bound_of (Running r) descriptor = bound (state_of r.session).host.out.writer (state_of r.session).host.err.writer descriptor
bound_of (Finished e) descriptor = bound e.out e.err descriptor
bound_of (Plugin p bytes) descriptor = 0
bound_of (Instance l) descriptor = bound (out_at l.instance) (err_at l.instance) descriptor
bound_of (SessionLeft e) descriptor = bound e.out e.err descriptor
bound_of Nothing descriptor = 0

abbrev pub is_filled_of : HandleContent → ℕ → Bool
is_filled_of (Loaded m bytes) descriptor = false
is_filled_of (Running r) descriptor = is_filled (state_of r.session).host.out.writer (state_of r.session).host.err.writer descriptor
is_filled_of (Finished e) descriptor = is_filled e.out e.err descriptor
is_filled_of (Plugin p bytes) descriptor = false
is_filled_of (Instance l) descriptor = is_filled (out_at l.instance) (err_at l.instance) descriptor
is_filled_of (SessionLeft e) descriptor = is_filled e.out e.err descriptor
is_filled_of Nothing descriptor = false

abbrev pub most_of : Option HandleContent → ℕ → ℕ
most_of None descriptor = 0
most_of (Some held) descriptor = bound_of held descriptor

abbrev pub was_filled : Option HandleContent → ℕ → Bool
was_filled None descriptor = false
was_filled (Some held) descriptor = is_filled_of held descriptor

-- the sectors of a finished session's volume
abbrev pub sectors_of : HandleContent → List (List ℕ)
sectors_of (Loaded m bytes) = []
sectors_of (Running r) = []
sectors_of (Finished e) = e.device.sectors
sectors_of (Plugin p bytes) = []
sectors_of (Instance l) = []
sectors_of (SessionLeft e) = e.device.sectors
sectors_of Nothing = []

abbrev pub sectors : Option HandleContent → List (List ℕ)
sectors None = []
sectors (Some held) = sectors_of held

-- ---- what calls make of it

-- the room begins with the items, as many as it has places for, and the rest of it is as it was
abbrev pub IsShown : {X : Type 0} → List X → List X → List X → Type 0
IsShown items before after = let count = min (length before) (length items) in after ≡ take count items ++ drop count before

-- by the relation that the machine has
abbrev pub Begins : Module → Supplies → Origin → State → Type 0
Begins = BeginsBy Represents

-- the module that the bytes spell, with what the profile takes, which is valid
pub record IsLoadedWith (p : Profile) (bytes : List ℕ) (m : Module) : Type 0 where
  pub spells : SpellsWith p bytes m
  pub valid : IsValid m

-- the same without floats
abbrev pub IsLoaded : List ℕ → Module → Type 0
IsLoaded bytes = IsLoadedWith Integers bytes

-- a session that begins, of the module that the bytes spell
pub record BeginsFrom (bytes : List ℕ) (supplies : Supplies) (origin : Origin) (s : State) : Type 0 where
  pub m : Module
  pub is_loaded : IsLoaded bytes m
  pub begins : Begins m supplies origin s

abbrev pub Paused : ℕ → State → State → Told → Type 0
Paused = PausedBy Represents

-- one call of `resume` after another: what each told, and the session after it
abbrev pub Resumed : State → List (Told × State) → State → Type 0
Resumed = ResumedBy Represents
