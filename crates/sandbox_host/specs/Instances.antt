-- Instances whose exported functions a host in C calls: what a handle has of a module for them, of one that isn't finished, and of one
-- that is; and what each call makes of it. What the calls of an instance do is said by `plugin_session`, and by `fed_session` of one
-- whose input may go on.
use Rattle.std.specs.Prelude.{◌≡◌, ◌≢◌, ◌⊎◌, ◌-◌, ◌^◌, ◌<◌, ◌≤◌, ◌+◌, ℕ, Bool, false, true, List, [], length, reverse, take, drop, min, max, slice_get, Option, Some, None, Result, IfSome, IsUtf8, option_map, ◌==◌, if◌then◌else◌}
use Rattle.std.specs.Option.{option_to_list}
use Rattle.vol_sector.specs.declared.fault.Refused.{Refused}
use Rattle.wasm_syntax.specs.declared.module.FuncType.{FuncType}
use Rattle.wasm_syntax.specs.declared.module.Module.{Module}
use Rattle.wasm_syntax.specs.declared.profile.Profile.{Profile}
use Rattle.wasm_store.specs.declared.fault.InstanceFault.{InstanceFault}
use Rattle.wasm_store.specs.Allocating.{NotAllocated}
use Rattle.wasm_interp.specs.Invoking.{IsAskedFor, IsAsking, results_of}
use Rattle.wasm_interp.specs.Machine.{Snapshot}
use Rattle.wasm_interp.specs.Shared.{Ready}
use Rattle.sandbox_core.specs.Session.{given}
use Rattle.sandbox_core.specs.Session.{Shares as SharesBy}
use Rattle.sandbox_core.specs.declared.fault.SessionFault.{SessionFault}
use Rattle.sandbox_core.specs.declared.fault.SessionFault.TheVariants.{Device}
use Rattle.sandbox_device.specs.declared.recorded_device.RecordedDevice.{RecordedDevice}
use Rattle.plugin_core.specs.Handling.{Act}
use Rattle.plugin_session.specs.declared.handling.Misuse.{Misuse}
use Rattle.plugin_session.specs.declared.handling.Misuse.TheVariants.{NoFunction}
use Rattle.plugin_session.specs.Refusals.{RefusesAnswer, RefusesCall, RefusesWrite, not_gone_on_at, not_let_go_at}
use Rattle.plugin_session.specs.Instance as instance
use Rattle.plugin_session.specs.Instance.{links, session_of}
use Rattle.fed_input.specs.Feeding.{Fed, IsNotFed}
use Rattle.fed_input.specs.declared.fed.NotFed.{NotFed}
use Rattle.fed_input.specs.declared.fed.NotFed.TheVariants.{Ended}
use Rattle.fed_session.specs.declared.feeding.FedEvent.{FedEvent}
use Rattle.fed_session.specs.declared.feeding.FedEvent.TheVariants as events
use Rattle.fed_session.specs.Feeding as fed
use Rattle.fed_session.specs.Waiting.{FedReady, NotReady}
use Rattle.sandbox_host.specs.declared.numbers.Told.{Told}
use Rattle.sandbox_host.specs.declared.numbers.Why.{Why}
use Rattle.sandbox_host.specs.declared.supplies.SessionLimits.{SessionLimits}
use Rattle.sandbox_host.specs.declared.supplies.Supplies.{Supplies}
use Rattle.sandbox_host.specs.declared.volumes.Origin.{Origin}
use Rattle.sandbox_host.specs.declared.instance.HostInstance.TheVariants as instances
use Rattle.sandbox_host.specs.declared.instance.SessionLeft.{SessionLeft as LeftOver}
use Rattle.sandbox_host.specs.declared.host_plugin.HostPlugin.{HostPlugin}
use Rattle.sandbox_host.specs.declared.host_plugin.HostPlugin.TheVariants as plugins
use Rattle.sandbox_host.specs.declared.held.HandleContent.{HandleContent}
use Rattle.sandbox_host.specs.declared.held.HandleContent.TheVariants.{Loaded, Running, Finished, Plugin, Instance, SessionLeft, Nothing}
use Rattle.sandbox_host.specs.Numbers.{instance_number, misuse_number, not_fed_number, session_number, told_fed_event}
use Rattle.sandbox_host.specs.Supplies.{is_known, most_output, most_pages, most_values, settings_of}
use Rattle.sandbox_host.specs.Host.{Bytes, Commits, HostVolume, IsHonest, Shares, known}
use Rattle.sandbox_host.specs.Kinds.{FedLiving, PlainLiving, err_at, fed_known, machine_at, out_at, stage_at, used_at, volume_at}
pub use Rattle.sandbox_host.specs.Kinds.{Living}
use Rattle.sandbox_host.specs.Volumes.{IsVolume}
use Rattle.sandbox_host.specs.Refusals.{NoLimit, NoVolume, NotLoadedWith, OtherPages}
use Rattle.sandbox_host.specs.Sessions.{IsLoadedWith, IsShown, commit_number, returned_device}

-- ---- what a handle has

-- the module for instances, an instance that isn't finished, and what a finished one left
abbrev pub plugin_in : HandleContent → Option HostPlugin
plugin_in (Loaded m bytes) = None
plugin_in (Running r) = None
plugin_in (Finished e) = None
plugin_in (Plugin p bytes) = Some p
plugin_in (Instance l) = None
plugin_in (SessionLeft e) = None
plugin_in Nothing = None

abbrev pub living_in : HandleContent → Option Living
living_in (Loaded m bytes) = None
living_in (Running r) = None
living_in (Finished e) = None
living_in (Plugin p bytes) = None
living_in (Instance l) = Some l.instance
living_in (SessionLeft e) = None
living_in Nothing = None

abbrev pub left_in : HandleContent → Option LeftOver
left_in (Loaded m bytes) = None
left_in (Running r) = None
left_in (Finished e) = None
left_in (Plugin p bytes) = None
left_in (Instance l) = None
left_in (SessionLeft e) = Some e
left_in Nothing = None

abbrev pub plugin_of : Option HandleContent → Option HostPlugin
plugin_of None = None
plugin_of (Some held) = plugin_in held

abbrev pub living : Option HandleContent → Option Living
living None = None
living (Some held) = living_in held

abbrev pub left : Option HandleContent → Option LeftOver
left None = None
left (Some held) = left_in held

-- all bytes of an instance's memory
abbrev pub memory_in : HandleContent → List ℕ
memory_in (Loaded m bytes) = []
memory_in (Running r) = []
memory_in (Finished e) = []
memory_in (Plugin p bytes) = []
memory_in (Instance l) = (machine_at l.instance).memory
memory_in (SessionLeft e) = []
memory_in Nothing = []

abbrev pub memory : Option HandleContent → List ℕ
memory None = []
memory (Some held) = memory_in held

-- ---- modules for instances

-- the module has no instance, whose input is there or may go on
abbrev pub HasNone : Bool → ℕ → Module → InstanceFault → Type 0
HasNone false pages m fault = NotAllocated links pages m fault
HasNone true pages m fault = NotReady true pages m fault

-- The module isn't made ready for instances with these limits: one isn't known, or there are more pages than a memory can have; or it
-- has no instance; or memory was refused.
pub record HasNoInstance (goes_on : Bool) (m : Module) (limits : SessionLimits) (number : ℕ) : Type 0 where
  pub fault : InstanceFault
  pub refuses : HasNone goes_on (most_pages limits) m fault
  pub tells : number ≡ instance_number fault

abbrev pub NotPlugged : Bool → Module → SessionLimits → ℕ → Type 0
NotPlugged goes_on m limits number = (((is_known limits ≡ false) ⊎ (65536 < most_pages limits)) × (number ≡ 15)) ⊎ (HasNoInstance goes_on m limits number ⊎ (number ≡ 40))

-- the module was loaded, and isn't made ready for these limits
pub record NotPluggedFrom (goes_on : Bool) (p : Profile) (bytes : List ℕ) (limits : SessionLimits) (number : ℕ) : Type 0 where
  pub m : Module
  pub is_loaded : IsLoadedWith p bytes m
  pub why : NotPlugged goes_on m limits number

-- A module isn't loaded for instances, whose input is there or may go on: it is refused, which is told, or its limits are.
abbrev pub NotPluggedWith : Bool → Profile → List ℕ → SessionLimits → ℕ → Why → Why → Type 0
NotPluggedWith goes_on p bytes limits number before after =
    ((number ≡ after.fault) × NotLoadedWith p bytes after) ⊎ (NotPluggedFrom goes_on p bytes limits number × (after ≡ before))

-- a name of a module: of an import that of its module (0) and its own (1), of an export its own (2)
abbrev pub name_in : Module → ℕ → ℕ → Option (List ℕ)
name_in m part index =
    if part == 0 then option_map (λ i. i.module_name) (slice_get m.imports index)
    else (if part == 1 then option_map (λ i. i.name) (slice_get m.imports index)
    else (if part == 2 then option_map (λ e. e.name) (slice_get m.exports index) else None))

-- it is in the room, as far as there is room for it; 2^64 - 1 is told past the last
pub record IsNamed (m : Module) (part index : ℕ) (before after : List ℕ) (count : ℕ) : Type 0 where
  pub named : IfSome (name_in m part index) (λ name. (count ≡ length name) × IsShown name before after)
  pub none : name_in m part index ≡ None → (count ≡ 2 ^ 64 - 1) × (after ≡ before)

-- ---- instances that begin

-- An instance of the module over the volume that was named, with what the guest was given, which has used and written nothing.
pub record BeginsPlain (m : Module) (supplies : Supplies) (origin : Origin) (s : PlainLiving) : Type 0 where
  pub known_limits : is_known supplies.limits ≡ true
  pub volume : HostVolume
  pub is_volume : IsVolume origin volume
  pub out : Bytes
  pub err : Bytes
  pub no_output : out.bytes.items ≡ []
  pub no_errors : err.bytes.items ≡ []
  pub output_bound : out.most ≡ most_output supplies.limits
  pub errors_bound : err.most ≡ most_output supplies.limits
  pub values : s.machine.most_values ≡ max (most_values supplies.limits) 4097
  pub opens : instance.Opens m (given (settings_of supplies) volume supplies.input out err) s
  pub shares : Shares (given (settings_of supplies) volume supplies.input out err) (session_of s)

-- what is there at the opening of one whose input may go on
abbrev pub first_input : Supplies → Fed
first_input supplies = record { bytes = supplies.input.now; ended = false }

-- The same of one whose input may go on, or not.
pub record BeginsFed (goes_on : Bool) (m : Module) (supplies : Supplies) (origin : Origin) (s : FedLiving) : Type 0 where
  pub known_limits : is_known supplies.limits ≡ true
  pub volume : HostVolume
  pub is_volume : IsVolume origin volume
  pub out : Bytes
  pub err : Bytes
  pub no_output : out.bytes.items ≡ []
  pub no_errors : err.bytes.items ≡ []
  pub output_bound : out.most ≡ most_output supplies.limits
  pub errors_bound : err.most ≡ most_output supplies.limits
  pub values : s.instance.machine.most_values ≡ max (most_values supplies.limits) 4097
  pub opens : fed.Opens goes_on m (given (settings_of supplies) volume (first_input supplies) out err) s.instance
  pub shares : SharesBy known.device (given (settings_of supplies) volume (first_input supplies) out err) (session_of s.instance)
  pub goes_on_is : s.goes_on ≡ goes_on

abbrev pub BeginsInstance : HostPlugin → Supplies → Origin → Living → Type 0
BeginsInstance (plugins.Plain ready) supplies origin (instances.Plain s) = BeginsPlain ready.valid supplies origin s
BeginsInstance (plugins.Fed p) supplies origin (instances.Fed s) = BeginsFed p.goes_on p.ready.valid supplies origin s
BeginsInstance (plugins.Plain ready) supplies origin (instances.Fed s) = ⊥
BeginsInstance (plugins.Fed p) supplies origin (instances.Plain s) = ⊥

-- the instance isn't made over the volume, for a reason with this number; a device in memory is none
pub record NoPlain (m : Module) (supplies : Supplies) (origin : Origin) (number : ℕ) : Type 0 where
  pub volume : HostVolume
  pub is_volume : IsVolume origin volume
  pub out : Bytes
  pub err : Bytes
  pub fault : SessionFault
  pub refuses : instance.IsRefused IsHonest fault m (given (settings_of supplies) volume supplies.input out err)
  pub no_device : fault ≢ Device
  pub tells : number ≡ session_number fault

-- the same of one whose input may go on
pub record NoFed (goes_on : Bool) (m : Module) (supplies : Supplies) (origin : Origin) (number : ℕ) : Type 0 where
  pub volume : HostVolume
  pub is_volume : IsVolume origin volume
  pub out : Bytes
  pub err : Bytes
  pub fault : SessionFault
  pub refuses : fed.IsRefused goes_on IsHonest fault m (given (settings_of supplies) volume (first_input supplies) out err)
  pub no_device : fault ≢ Device
  pub tells : number ≡ session_number fault

-- An instance doesn't begin: a limit is refused, then its pages where the module was made ready for others, then the volume, then the
-- instance; or memory was refused.
abbrev pub NotBegunBy : (ℕ → Type 0) → Ready → Supplies → Origin → ℕ → Type 0
NotBegunBy refused ready supplies origin number =
    (NoLimit supplies number ⊎ OtherPages (Some ready) supplies number) ⊎ ((NoVolume origin number ⊎ refused number) ⊎ (number ≡ 40))

abbrev pub NotBegunPlain : Ready → Supplies → Origin → ℕ → Type 0
NotBegunPlain ready supplies origin number = NotBegunBy (NoPlain ready.valid supplies origin) ready supplies origin number

abbrev pub NotBegunFed : FedReady → Supplies → Origin → ℕ → Type 0
NotBegunFed p supplies origin number = NotBegunBy (NoFed p.goes_on p.ready.valid supplies origin) p.ready supplies origin number

abbrev pub NotBegunInstance : HostPlugin → Supplies → Origin → ℕ → Type 0
NotBegunInstance (plugins.Plain ready) supplies origin number = NotBegunPlain ready supplies origin number
NotBegunInstance (plugins.Fed p) supplies origin number = NotBegunFed p supplies origin number

-- ---- what is done with one

-- the number of a mistake for which there is this reason
abbrev pub IsMistake : ℕ → (Misuse → Type 0) → Type 0
IsMistake number reason = (e : Misuse) × (number ≡ misuse_number e) × reason e

-- a call that answers this number: 0 where it did this; and else nothing has changed, and it is that of a mistake
abbrev pub Answered : {S : Type 0} → ℕ → S → S → Type 0 → (Misuse → Type 0) → Type 0
Answered number old new did reason = (number ≡ 0 → did) × (number ≢ 0 → (new ≡ old) × IsMistake number reason)

-- what it is told to call is refused
abbrev pub RefusesCallOf : Living → List ℕ → List ℕ → Misuse → Type 0
RefusesCallOf (instances.Plain s) name arguments e = RefusesCall s name arguments e
RefusesCallOf (instances.Fed s) name arguments e = RefusesCall s.instance name arguments e

-- Why a function isn't called: its name isn't UTF-8, as names of exports are; or the instance refuses it.
abbrev pub NoCall : Living → List ℕ → List ℕ → Misuse → Type 0
NoCall s name arguments e = ((e ≡ NoFunction) × (IsUtf8 name → ⊥)) ⊎ RefusesCallOf s name arguments e

-- why it doesn't go on, or lets nothing go: where it is
abbrev pub NoGoing : Living → Misuse → Type 0
NoGoing s e = not_gone_on_at (stage_at s) ≡ Some e

abbrev pub NoLettingGo : Living → Misuse → Type 0
NoLettingGo s e = not_let_go_at (stage_at s) ≡ Some e

-- why an answer isn't taken, and why bytes aren't written
abbrev pub NoAnswer : Living → List ℕ → Misuse → Type 0
NoAnswer (instances.Plain s) results e = RefusesAnswer s results e
NoAnswer (instances.Fed s) results e = fed.RefusesAnswerOf s results e

abbrev pub NoWrite : Living → ℕ → List ℕ → Misuse → Type 0
NoWrite (instances.Plain s) address bytes e = RefusesWrite s address (length bytes) e
NoWrite (instances.Fed s) address bytes e = RefusesWrite s.instance address (length bytes) e

-- what a call does: of one whose input may go on, what it does with the whole instance
abbrev pub Does : Living → Act → Living → Type 0
Does (instances.Plain s) k (instances.Plain t) = instance.Does known s k t
Does (instances.Fed s) k (instances.Fed t) = fed.Does fed_known s k t
Does (instances.Plain s) k (instances.Fed t) = ⊥
Does (instances.Fed s) k (instances.Plain t) = ⊥

abbrev pub Invokes : Living → Living → List ℕ → List ℕ → Type 0
Invokes (instances.Plain s) (instances.Plain t) name arguments = instance.Invokes known s t name arguments
Invokes (instances.Fed s) (instances.Fed t) name arguments = fed.Invokes fed_known s t name arguments
Invokes (instances.Plain s) (instances.Fed t) name arguments = ⊥
Invokes (instances.Fed s) (instances.Plain t) name arguments = ⊥

abbrev pub Answers : Living → Living → List ℕ → Type 0
Answers (instances.Plain s) (instances.Plain t) results = instance.Answers known s t results
Answers (instances.Fed s) (instances.Fed t) results = fed.Answers fed_known s t results
Answers (instances.Plain s) (instances.Fed t) results = ⊥
Answers (instances.Fed s) (instances.Plain t) results = ⊥

-- it went on for at most these units, until this event
abbrev pub Goes : Living → Living → ℕ → FedEvent → Type 0
Goes (instances.Plain s) (instances.Plain t) units (events.Event e) = instance.Goes known s t units e
Goes (instances.Fed s) (instances.Fed t) units e = fed.Goes fed_known s t units e
Goes (instances.Plain s) (instances.Plain t) units (events.Starved count) = ⊥
Goes (instances.Plain s) (instances.Fed t) units e = ⊥
Goes (instances.Fed s) (instances.Plain t) units e = ⊥

-- at most these units were used, and not past 2^64 - 1 in all, and this was told
pub record Went (units : ℕ) (old new : Living) (told : Told) : Type 0 where
  pub event : FedEvent
  pub goes : Goes old new (min units (2 ^ 64 - 1 - used_at old)) event
  pub tells : told ≡ told_fed_event event (used_at new)

-- Bytes of the input were handed over. They aren't to an instance whose input was there at its opening, nor behind the end, nor where
-- memory is refused.
abbrev pub Feeds : Living → Living → List ℕ → Type 0
Feeds (instances.Plain s) t bytes = ⊥
Feeds (instances.Fed s) (instances.Fed t) bytes = fed.Feeds s.instance t.instance bytes × (t.goes_on ≡ s.goes_on)
Feeds (instances.Fed s) (instances.Plain t) bytes = ⊥

abbrev pub NoFeeding : Living → NotFed → Type 0
NoFeeding (instances.Plain s) e = e ≡ Ended
NoFeeding (instances.Fed s) e = IsNotFed s.instance.host.input.reader e

abbrev pub IsFed : ℕ → Living → Living → List ℕ → Type 0
IsFed number old new bytes = (number ≡ 0 → Feeds old new bytes) × (number ≢ 0 → (new ≡ old) × (e : NotFed) × (number ≡ not_fed_number e) × NoFeeding old e)

-- it was said that no more come; nothing has changed where all was there
abbrev pub EndsInput : Living → Living → Type 0
EndsInput (instances.Plain s) t = t ≡ instances.Plain s
EndsInput (instances.Fed s) (instances.Fed t) = fed.Ends s.instance t.instance × (t.goes_on ≡ s.goes_on)
EndsInput (instances.Fed s) (instances.Plain t) = ⊥

-- What there is to hand over: the arguments of the call that waits for an answer, the host's or that of a read which starves; where none
-- does, the result of what has returned last.
abbrev pub HandsOver : Snapshot → List ℕ → Type 0
HandsOver s items = ((x : ℕ) × (f : FuncType) × IsAskedFor s x f (reverse items)) ⊎ ((IsAsking s → ⊥) × (items ≡ option_to_list (slice_get (results_of s) 0)))

-- it is in the room, as far as there is room for it
pub record IsHandedOver (s : Living) (before after : List ℕ) (count : ℕ) : Type 0 where
  pub items : List ℕ
  pub hands_over : HandsOver (machine_at s) items
  pub count_is : count ≡ length items
  pub shown : IsShown items before after

-- The bytes from an address on are in the room, or they would pass the end.
abbrev pub IsRead : List ℕ → ℕ → List ℕ → List ℕ → ℕ → Type 0
IsRead bytes address before after number =
    ((number ≡ 0) × (address + length before ≤ length bytes) × (after ≡ take (length before) (drop address bytes)))
    ⊎ ((number ≡ 110) × (length bytes < address + length before) × (after ≡ before))

-- The calls of WASI are committed, and what an instance leaves is the volume's device then, and what it has written.
pub record FinishesInstance (s : Living) (e : LeftOver) (number : ℕ) : Type 0 where
  pub volume : Result HostVolume (Refused RecordedDevice)
  pub commits : Commits (volume_at s) volume
  pub device : e.device ≡ returned_device volume
  pub number_told : number ≡ commit_number volume
  pub out : e.out ≡ out_at s
  pub err : e.err ≡ err_at s
