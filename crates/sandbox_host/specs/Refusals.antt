-- Why a module isn't loaded and a session doesn't begin, and with which number it is told. `NotLoaded` is for a module
-- alone, `NotBegun` for a session of a loaded one, and `NotOpened` for both in one call; `NotPrepared` is for a module that is
-- loaded for limits.
use Rattle.std.specs.Prelude.{◌≡◌, ◌≢◌, ◌⊎◌, ◌<◌, ℕ, List, false, Option, Some}
use Rattle.vol_sector.specs.declared.fault.VolumeFault.{VolumeFault}
use Rattle.wasm_syntax.specs.declared.module.Module.{Module}
use Rattle.wasm_syntax.specs.declared.fault.LoadFault.{LoadFault}
use Rattle.wasm_syntax.specs.declared.fault.LoadFault.TheVariants.{Memory}
use Rattle.wasm_syntax.specs.declared.profile.Profile.{Profile}
use Rattle.wasm_syntax.specs.declared.profile.Profile.TheVariants.{Integers}
use Rattle.wasm_syntax.specs.Module.{SpellsWith}
use Rattle.wasm_valid.specs.Validity.{IsValid}
use Rattle.wasm_valid.specs.Refusal.{IsRefusal}
use Rattle.wasm_store.specs.declared.fault.InstanceFault.{InstanceFault}
use Rattle.wasm_store.specs.NotStarting.{RefusedFor}
use Rattle.wasm_interp.specs.Shared.{Ready}
use Rattle.wasi_calls.specs.host.Links.{link}
use Rattle.sandbox_core.specs.declared.fault.SessionFault.{SessionFault}
use Rattle.sandbox_core.specs.declared.fault.SessionFault.TheVariants.{Device}
use Rattle.sandbox_core.specs.Session.{given, IsRefused}
use Rattle.sandbox_host.specs.declared.numbers.Why.{Why}
use Rattle.sandbox_host.specs.declared.supplies.SessionLimits.{SessionLimits}
use Rattle.sandbox_host.specs.declared.supplies.Supplies.{Supplies}
use Rattle.sandbox_host.specs.declared.volumes.Origin.{Origin}
use Rattle.sandbox_host.specs.Numbers.{why_of, instance_number, session_number, volume_number}
use Rattle.sandbox_host.specs.Supplies.{most_pages, is_known, settings_of}
use Rattle.sandbox_host.specs.Host.{Bytes, HostVolume, IsHonest}
use Rattle.sandbox_host.specs.Volumes.{IsVolume, RefusesVolume}
use Rattle.sandbox_host.specs.Sessions.{IsLoaded, IsLoadedWith}

-- The bytes spell no valid module, but where memory was refused; and no module at all, but where what they spell isn't valid.
pub record RefusesModule (p : Profile) (bytes : List ℕ) (why : LoadFault) : Type 0 where
  pub no : why ≢ Memory → (m : Module) → SpellsWith p bytes m → IsValid m → ⊥
  pub none : ¬ IsRefusal why → (m : Module) → SpellsWith p bytes m → ⊥

-- the module isn't loaded, for this reason
pub record NotLoadedWith (p : Profile) (bytes : List ℕ) (told : Why) : Type 0 where
  pub fault : LoadFault
  pub refuses : RefusesModule p bytes fault
  pub tells : told ≡ why_of fault

-- the same without floats
abbrev pub NotLoaded : List ℕ → Why → Type 0
NotLoaded bytes = NotLoadedWith Integers bytes

-- the volume isn't opened, for a reason with this number
pub record NoVolume (origin : Origin) (number : ℕ) : Type 0 where
  pub fault : VolumeFault
  pub refuses : RefusesVolume origin fault
  pub tells : number ≡ volume_number fault

-- the session isn't made over the volume, for a reason with this number; a device in memory is none
pub record NoSession (m : Module) (supplies : Supplies) (origin : Origin) (number : ℕ) : Type 0 where
  pub volume : HostVolume
  pub is_volume : IsVolume origin volume
  pub out : Bytes
  pub err : Bytes
  pub fault : SessionFault
  pub refuses : IsRefused IsHonest fault m (given (settings_of supplies) volume supplies.input out err)
  pub no_device : fault ≢ Device
  pub tells : number ≡ session_number fault

-- a limit is named that isn't known yet
pub record NoLimit (supplies : Supplies) (number : ℕ) : Type 0 where
  pub unknown : is_known supplies.limits ≡ false
  pub tells : number ≡ 15

-- A session of the module doesn't begin: a limit is refused, then the volume, then the session.
abbrev pub NotBegun : Module → Supplies → Origin → ℕ → Type 0
NotBegun m supplies origin number = NoLimit supplies number ⊎ (NoVolume origin number ⊎ NoSession m supplies origin number)

-- the module was prepared for another number of pages than the session's limits have
pub record OtherPages (prepared : Option Ready) (supplies : Supplies) (number : ℕ) : Type 0 where
  pub ready : Ready
  pub was_prepared : prepared ≡ Some ready
  pub other : ready.pages ≢ most_pages supplies.limits
  pub tells : number ≡ 15

-- A session of a module that was or wasn't prepared doesn't begin: as any, or for its pages.
abbrev pub NotBegunOf : Option Ready → Module → Supplies → Origin → ℕ → Type 0
NotBegunOf prepared m supplies origin number = NotBegun m supplies origin number ⊎ OtherPages prepared supplies number

-- The module isn't prepared for these limits: one isn't known, or there are more pages than a memory can have; or it can't be
-- instantiated; or memory was refused.
pub record NoInstance (m : Module) (limits : SessionLimits) (number : ℕ) : Type 0 where
  pub fault : InstanceFault
  pub refuses : RefusedFor link (most_pages limits) m fault
  pub tells : number ≡ instance_number fault

abbrev pub NotReady : Module → SessionLimits → ℕ → Type 0
NotReady m limits number = (((is_known limits ≡ false) ⊎ (65536 < most_pages limits)) × (number ≡ 15)) ⊎ (NoInstance m limits number ⊎ (number ≡ 40))

-- the module was loaded, and isn't prepared for these limits
pub record NotReadyFrom (p : Profile) (bytes : List ℕ) (limits : SessionLimits) (number : ℕ) : Type 0 where
  pub m : Module
  pub is_loaded : IsLoadedWith p bytes m
  pub why : NotReady m limits number

-- A module isn't loaded and prepared: it is refused, which is told, or its limits are.
abbrev pub NotPreparedWith : Profile → List ℕ → SessionLimits → ℕ → Why → Why → Type 0
NotPreparedWith p bytes limits number before after =
    ((number ≡ after.fault) × NotLoadedWith p bytes after) ⊎ (NotReadyFrom p bytes limits number × (after ≡ before))

-- the same without floats
abbrev pub NotPrepared : List ℕ → SessionLimits → ℕ → Why → Why → Type 0
NotPrepared bytes = NotPreparedWith Integers bytes

-- the module was loaded, and no session of it begins, or memory for it was refused
pub record NotBegunFrom (bytes : List ℕ) (supplies : Supplies) (origin : Origin) (number : ℕ) : Type 0 where
  pub m : Module
  pub is_loaded : IsLoaded bytes m
  pub why : NotBegun m supplies origin number ⊎ (number ≡ 40)

-- A session isn't opened: the module is refused, which is told, or what it was to be made of.
abbrev pub NotOpened : List ℕ → Supplies → Origin → ℕ → Why → Why → Type 0
NotOpened bytes supplies origin number before after =
    ((number ≡ after.fault) × NotLoaded bytes after) ⊎ (NotBegunFrom bytes supplies origin number × (after ≡ before))
