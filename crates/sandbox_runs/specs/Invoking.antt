-- What it means that an exported function is called in the place of `_start` (`docs/USING.md`, "Call one function of a module"). Either
-- it isn't called (`NotCalled`), or `Called` has an instance that was opened on the volume, whose function was called once with the
-- numbers that the words write, and what was printed of its result. `InstanceRan` is that by any relation by which machines stand for
-- configurations, as `GuestRan` (`Guest`) of a command's session: the headline of an instance holds of it (`CallUpholds`).
use Rattle.std.specs.Prelude.{◌≡◌, ◌⊎◌, ◌≤◌, ◌++◌, ℕ, Bool, true, List, [], ◌∷◌, Option, Some, None, Result, Ok, Err, codes, if◌then◌else◌, slice_get, take}
use Rattle.std.specs.Io.KnownBytes.{Appends, Keeps}
use Rattle.std.proofs.Common.{inl, inr}
use Rattle.vol_sector.specs.Disk.{Image, Disk, Leaves}
use Rattle.vol_sector.specs.declared.fault.Refused.{Refused}
use Rattle.vol_tree.specs.Opened.{Opened}
use Rattle.vol_tree.specs.Stands.{StandsAs}
use Rattle.stream_answers.specs.Printing.{AppendsPart}
use Rattle.wasm_syntax.specs.declared.instruction.ValueType.{ValueType}
use Rattle.wasm_syntax.specs.declared.module.FuncType.{FuncType}
use Rattle.wasm_syntax.specs.declared.module.Module.{Module}
use Rattle.wasm_store.specs.Allocating.{NotAllocated}
use Rattle.wasm_store.specs.declared.fault.InstanceFault.{InstanceFault}
use Rattle.wasm_store.specs.declared.fault.InstanceFault.TheVariants.{Import}
use Rattle.wasm_steps.specs.declared.pause.Outcome.{Outcome}
use Rattle.wasm_steps.specs.declared.pause.Outcome.TheVariants.{Exited}
use Rattle.wasm_interp.specs.declared.frames.Frame.{Frame}
use Rattle.wasm_interp.specs.Invocations.{TellsStores}
use Rattle.wasm_interp.specs.Machine.{Represents}
use Rattle.wasm_operands.specs.Snapshots.{StandsFor}
use Rattle.wasi_calls.specs.declared.host.wasi_host.HostParts.{HostParts}
use Rattle.wasi_bodies.specs.host.Worlds.{Hearing}
use Rattle.sandbox_core.specs.declared.fault.SessionFault.{SessionFault}
use Rattle.sandbox_core.specs.declared.fault.SessionFault.TheVariants.{Setting, Memory, Instance as NoInstance}
use Rattle.sandbox_core.specs.Devices.{Devices, IsHonest, disk_of, numbers_of, tree_of}
use Rattle.sandbox_core.specs.Finishing.{Commits}
use Rattle.sandbox_core.specs.Session.{Shares, KeepsVolume}
use Rattle.plugin_core.specs.Moments.{StandsPassed}
use Rattle.plugin_session.specs.Headline.{History, FollowBy, Upholds}
use Rattle.plugin_session.specs.Instance as opening
use Rattle.plugin_session.specs.Instance.{InstanceState, OpensBy, links, session_of, used_by}
use Rattle.invoked_run.specs.declared.calling.CallEnd.{CallEnd}
use Rattle.invoked_run.specs.declared.calling.CallEnd.TheVariants.{Returned, Ended, Unanswered, Refused as NotCalledFor}
use Rattle.invoked_run.specs.declared.calling.CalledOnce.{CalledOnce}
use Rattle.invoked_run.specs.Calling.{CallsOnceAndEnds}
use Rattle.invoked_run.specs.Exports.{IsExportOf}
use Rattle.value_words.specs.declared.reading.NoNumbers.{NoNumbers}
use Rattle.value_words.specs.declared.reading.NoNumbers.TheVariants as wanting
use Rattle.value_words.specs.Numbers.{AreNumbersOf, HasNone, value_text}
use Rattle.sandbox_report.specs.declared.counted.Counted.{Counted}
use Rattle.sandbox_report.specs.declared.fault.Fault.{Fault}
use Rattle.sandbox_report.specs.declared.fault.Fault.TheVariants as reason
use Rattle.sandbox_args.specs.declared.request.Run.{Run}
use Rattle.sandbox_args.specs.Request.{Text, texts}
use Rattle.vol_commands.specs.Volumes.{IsOpenFor, LeftByOpening}
use Rattle.sandbox_runs.specs.declared.program.Executed.{Executed}
use Rattle.sandbox_telling.specs.declared.stopping.Stopped.{Stopped}
use Rattle.sandbox_telling.specs.Reporting.{kept_where_not_begun, not_run, session_reason, volume_of}
use Rattle.sandbox_telling.specs.RunHost.{counted_devices, counting, returned_device}
use Rattle.sandbox_runs.specs.Status.{EndsWith, session_status}
use Rattle.sandbox_runs.specs.Silent.{IsSilent}
use Rattle.sandbox_telling.specs.Supplies.{AreSettings, terminals_of}

-- ---- what it is called with

-- the words write these numbers for the function of this name, whose result is of this type, if it has one
abbrev pub AreArguments : Module → (name : Text) → (words : List Text) → List ℕ → Option ValueType → Type 0
AreArguments m name words numbers value_type = (f : FuncType) × IsExportOf m name f × AreNumbersOf f.params words numbers × (value_type ≡ slice_get f.results 0)

-- the fault where words write no numbers
abbrev pub fault_of : NoNumbers → SessionFault
fault_of wanting.Memory = Memory
fault_of wanting.Count = Setting
fault_of (wanting.Word k) = Setting

-- No function of the module's own is exported by this name, or the words write no numbers of its types; or memory was refused.
abbrev pub HasNoArguments : Module → (name : Text) → (words : List Text) → SessionFault → Type 0
HasNoArguments m name words fault =
    ((fault ≡ Setting) × (((f : FuncType) → IsExportOf m name f → ⊥) ⊎ ((f : FuncType) × (why : NoNumbers) × IsExportOf m name f × HasNone f.params words why)))
    ⊎ (fault ≡ Memory)

-- ---- what is told of its end

-- A line was printed, or a part of it, and then the output is to blame.
abbrev pub PrintsLine : (line : List ℕ) → (before after : Option (List ℕ)) → Option Fault → Type 0
PrintsLine line before after None = Appends before after line
PrintsLine line before after (Some fault) = (fault ≡ reason.File) × AppendsPart before after line

-- that of a value
abbrev pub PrintsValue : ValueType → ℕ → (before after : Option (List ℕ)) → Option Fault → Type 0
PrintsValue value_type value before after fault = PrintsLine (value_text value_type value ++ codes "\n") before after fault

-- that of a function's result, if it has one
abbrev pub PrintsResult : (value : Option ℕ) → Option ValueType → (before after : Option (List ℕ)) → Option Fault → Type 0
PrintsResult (Some value) (Some value_type) before after fault = PrintsValue value_type value before after fault
PrintsResult (Some value) None before after fault = Keeps before after × (fault ≡ None)
PrintsResult None value_type before after fault = Keeps before after × (fault ≡ None)

-- nothing was printed
abbrev pub PrintsNothing : (before after : Option (List ℕ)) → (outcome is : Outcome) → (fault why : Option Fault) → Type 0
PrintsNothing before after outcome is fault why = Keeps before after × (outcome ≡ is) × (fault ≡ why)

-- By which outcome and which fault a run ends whose call ended so, and what is printed: where it has returned, the result, if the
-- function has one.
abbrev pub TellsCall : CallEnd → Option ValueType → (before after : Option (List ℕ)) → Outcome → Option Fault → Type 0
TellsCall (Returned value) value_type before after outcome fault = (outcome ≡ Exited 0) × PrintsResult value value_type before after fault
TellsCall (Ended o) value_type before after outcome fault = PrintsNothing before after outcome o fault None
TellsCall Unanswered value_type before after outcome fault = PrintsNothing before after outcome (Exited 0) fault (Some (reason.Instance Import))
TellsCall (NotCalledFor e) value_type before after outcome fault = PrintsNothing before after outcome (Exited 0) fault (Some reason.Setting)

-- the status: by a fault 124, or 123 where its calls couldn't be committed; else that of a run
abbrev pub CallEndsWith : {V R : Type 0} → Option Fault → Outcome → Result V R → (flushed : Bool) → ℕ → Type 0
CallEndsWith None outcome volume flushed status = EndsWith outcome volume flushed status
CallEndsWith (Some fault) outcome (Ok volume) flushed status = status ≡ 124
CallEndsWith (Some fault) outcome (Err refused) flushed status = status ≡ 123

-- what is left of a run that ended by a fault
abbrev pub BlamesCall : {D R W1 W2 : Type 0} → Option Fault → (failed : Bool) → Executed D R W1 W2 → Executed D R W1 W2 → Type 0
BlamesCall None failed left after = after ≡ left
BlamesCall (Some fault) failed left after = after ≡ record left { status = if failed then 123 else 124; summary = after.summary }

module _ {D R W1 W2 : Type 0} (is_honest : D → Type 0) (disk : D → Disk) (sectors_on failures : D → ℕ) (goes_on : ℕ → D → D → Type 0)
    (remaining : R → Option (List ℕ)) (out_contents : W1 → Option (List ℕ)) (err_contents : W2 → Option (List ℕ)) (ear : Hearing R W1 W2) where
  abbrev pub on : Devices D (Counted R) (Counted W1) (Counted W2)
  on = counted_devices is_honest disk sectors_on failures goes_on remaining out_contents err_contents ear

  abbrev pub Instance : Type 0
  Instance = InstanceState D (Counted R) (Counted W1) (Counted W2)

  -- What is told of a call that left this, and whose result is of this type, if it has one: its line stands behind what the guest wrote
  -- on the output, and nothing else.
  pub record IsToldOfCall (value_type : Option ValueType) (called : CalledOnce D (Counted R) (Counted W1) (Counted W2)) (room : List Frame) (left : Executed D R W1 W2) : Type 0 where
    pub outcome : Outcome
    pub fault : Option Fault
    pub printed : W1
    pub tells : TellsCall called.end value_type (out_contents called.out.stream) (out_contents printed) outcome fault
    pub out : Keeps (out_contents printed) (out_contents left.out)
    pub err : Keeps (err_contents called.err.stream) (err_contents left.err)
    pub input : left.input ≡ called.input.stream
    pub device : left.device ≡ returned_device called.volume
    pub ends : CallEndsWith fault outcome called.volume left.flushed left.status
    -- the functions that were at work where it stopped
    pub stopped : Stopped
    pub is_stopped : left.stopped ≡ Some stopped
    pub depth : stopped.depth ≡ called.depth
    pub innermost : stopped.innermost.items ≡ take called.depth room

  -- ---- the call

  -- Why nothing is called: the words don't write its arguments; or the module has no instance, or none can be opened.
  abbrev pub IsNotCalled : SessionFault → (name : Text) → Module → Run → HostParts D R W1 W2 → Type 0
  IsNotCalled fault name m run parts = HasNoArguments m name (texts run.words.items) fault
      ⊎ (((f : InstanceFault) × (fault ≡ NoInstance f) × NotAllocated links run.limits.pages m f)
      ⊎ opening.IsRefused is_honest fault m (counting run parts))

  -- Nothing but reads was done with the volume.
  pub record NotCalled (name : Text) (m : Module) (run : Run) (parts : HostParts D R W1 W2) (left : Executed D R W1 W2) : Type 0 where
    pub fault : SessionFault
    pub why : IsNotCalled fault name m run parts
    pub volume : Opened D
    pub kept : KeepsVolume on.device fault parts.volume volume
    pub device : left.device ≡ volume.device
    pub ends : left.status ≡ session_status fault
    pub flushed : left.flushed ≡ true
    pub summary : left.summary ≡ Some (not_run run (session_reason fault) (kept_where_not_begun run.volume fault) left.status)
    pub streams : IsSilent out_contents err_contents Keeps parts.input parts.out parts.err left

  -- An instance was opened, its function was called once, within the fuel, and then the instance's calls of WASI were committed.
  pub record Called (name : Text) (m : Module) (run : Run) (parts : HostParts D R W1 W2) (left : Executed D R W1 W2) : Type 0 where
    pub numbers : List ℕ
    pub value_type : Option ValueType
    pub arguments : AreArguments m name (texts run.words.items) numbers value_type
    pub instance : Instance
    pub opens : OpensBy Represents run.seed (terminals_of run) m (counting run parts) instance
    pub shares : Shares on.device (counting run parts) (session_of instance)
    pub called : CalledOnce D (Counted R) (Counted W1) (Counted W2)
    pub room : List Frame
    pub calls : CallsOnceAndEnds on instance name numbers run.limits.fuel room called
    pub told : IsToldOfCall value_type called room left
    -- Where a crash at its beginning leaves the volume's tree, what the instance did is its life, and a crash at any moment leaves the tree
    -- at first or that after one of its answers.
    pub crash : is_honest parts.volume.device → ((c : Image) → (disk parts.volume.device).may_leave c → StandsAs c parts.volume.numbers parts.volume.tree)
        → (life : Upholds on m parts.settings.pages (parts.volume.tree ∷ []) 0 instance calls.acts calls.last)
        × Leaves (disk parts.volume.device) (disk left.device) (StandsPassed (disk_of on) numbers_of tree_of (IsHonest on) instance.host life.kept.turns)
    pub honest : is_honest parts.volume.device → ((c : Image) → (disk parts.volume.device).may_leave c → StandsAs c parts.volume.numbers parts.volume.tree) → is_honest left.device

  abbrev pub LaunchesCall : (name : Text) → Module → Run → HostParts D R W1 W2 → Executed D R W1 W2 → Type 0
  LaunchesCall name m run parts left = NotCalled name m run parts left ⊎ Called name m run parts left

  -- what a stop after the volume was opened may leave: a tree of the life of its instance
  abbrev pub LeftByCall : (name : Text) (m : Module) (run : Run) (parts : HostParts D R W1 W2) (left : Executed D R W1 W2) → LaunchesCall name m run parts left → Image → Type 0
  LeftByCall name m run parts left (inl none) image = ⊥
  LeftByCall name m run parts left (inr c) image =
      (life : Upholds on m parts.settings.pages (parts.volume.tree ∷ []) 0 c.instance c.calls.acts c.calls.last)
      × StandsPassed (disk_of on) numbers_of tree_of (IsHonest on) c.instance.host life.kept.turns image

  -- The volume was opened, and the function called with it and with the settings that were asked for.
  pub record CallsOnVolume (name : Text) (run : Run) (m : Module) (random : Text) (device : D) (input : R) (out : W1) (err : W2) (left : Executed D R W1 W2) : Type 0 where
    pub volume : Opened D
    pub opened : IsOpenFor is_honest disk sectors_on failures (volume_of run) device volume
    pub parts : HostParts D R W1 W2
    pub are_settings : AreSettings run random parts.settings
    pub given : (parts.volume ≡ volume) × (parts.input ≡ input) × (parts.out ≡ out) × (parts.err ≡ err)
    pub launched : LaunchesCall name m run parts left
    -- At any moment a crash leaves what it could leave before, what opening leaves, or a tree of the instance's life.
    pub crash : is_honest device → Leaves (disk device) (disk left.device)
        (λ c. LeftByOpening is_honest disk sectors_on failures (volume_of run) volume c ⊎ LeftByCall name m run parts left launched c)
    pub honest : is_honest device → is_honest left.device

-- ---- by any relation

module _ {D R W1 W2 : Type 0} (Stands : StandsFor) (is_honest : D → Type 0) (disk : D → Disk) (sectors_on failures : D → ℕ)
    (goes_on : ℕ → D → D → Type 0) (remaining : R → Option (List ℕ)) (out_contents : W1 → Option (List ℕ))
    (err_contents : W2 → Option (List ℕ)) (ear : Hearing R W1 W2) where
  -- An instance began with what the words gave it, and acts led to its last state, within the fuel; then its calls were committed.
  pub record InstanceRan (m : Module) (words : Run) (parts : HostParts D R W1 W2) (left : Executed D R W1 W2) : Type 0 where
    pub instance : InstanceState D (Counted R) (Counted W1) (Counted W2)
    pub opens : OpensBy Stands words.seed (terminals_of words) m (counting words parts) instance
    pub shares : Shares (counted_devices is_honest disk sectors_on failures goes_on remaining out_contents err_contents ear).device (counting words parts) (session_of instance)
    pub last : InstanceState D (Counted R) (Counted W1) (Counted W2)
    pub acts : History (InstanceState D (Counted R) (Counted W1) (Counted W2))
    pub follow : FollowBy Stands (counted_devices is_honest disk sectors_on failures goes_on remaining out_contents err_contents ear) instance acts last
    pub within : used_by last ≤ words.limits.fuel
    -- the volume once its calls are committed, or the device
    pub volume : Result (Opened D) (Refused D)
    pub commits : Commits (counted_devices is_honest disk sectors_on failures goes_on remaining out_contents err_contents ear).device last.host.volume volume
    pub device : left.device ≡ returned_device volume

  -- On a device that keeps its model, from a volume of which a crash leaves its tree alone: what the instance did is its life.
  abbrev pub CallUpholds : Type 0
  CallUpholds = TellsStores Stands → (m : Module) (words : Run) (parts : HostParts D R W1 W2) (left : Executed D R W1 W2) → (ran : InstanceRan m words parts left)
      → is_honest parts.volume.device
      → ((c : Image) → (disk parts.volume.device).may_leave c → StandsAs c parts.volume.numbers parts.volume.tree)
      → Upholds (counted_devices is_honest disk sectors_on failures goes_on remaining out_contents err_contents ear) m parts.settings.pages
      (parts.volume.tree ∷ []) 0 ran.instance ran.acts ran.last

module _ {D R W1 W2 : Type 0} (is_honest : D → Type 0) (disk : D → Disk) (sectors_on failures : D → ℕ) (goes_on : ℕ → D → D → Type 0)
    (remaining : R → Option (List ℕ)) (out_contents : W1 → Option (List ℕ)) (err_contents : W2 → Option (List ℕ)) (ear : Hearing R W1 W2) where
  -- in a run whose function was called an instance ran, by the machine's own relation
  abbrev pub CallsAreInstances : Type 0
  CallsAreInstances = (name : Text) (m : Module) (run : Run) (parts : HostParts D R W1 W2) (left : Executed D R W1 W2)
      → Called is_honest disk sectors_on failures goes_on remaining out_contents err_contents ear name m run parts left
      → InstanceRan Represents is_honest disk sectors_on failures goes_on remaining out_contents err_contents ear m run parts left
