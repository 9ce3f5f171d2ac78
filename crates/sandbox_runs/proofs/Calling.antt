-- A run whose function is called is what is said of it: one that gets no instance, or whose function was called.
use Rattle.std.proofs.Common.{◌≡◌, ◌≤◌, ℕ, Bool, true, List, [], ◌∷◌, Option, Some, None, Result, Ok, Err, inl, inr, refl, sym, ◌∙◌, ap, subst, if◌then◌else◌}
use Rattle.std.specs.Prelude.{IsSome, is_err, take}
use Rattle.std.specs.Io.KnownBytes.{Keeps}
use Rattle.vol_sector.specs.Disk.{Disk, Image, Leaves}
use Rattle.vol_sector.specs.declared.device.Device.{Ghosts}
use Rattle.vol_sector.specs.declared.fault.Refused.{Refused}
use Rattle.vol_tree.specs.Opened.{Opened}
use Rattle.vol_tree.specs.Stands.{StandsAs}
use Rattle.observed_run.specs.Stacks.{Stacks}
use Rattle.wasm_syntax.specs.declared.instruction.ValueType.{ValueType}
use Rattle.wasm_syntax.specs.declared.module.Module.{Module}
use Rattle.wasm_store.specs.Allocating.{NotAllocated}
use Rattle.wasm_store.specs.declared.fault.InstanceFault.{InstanceFault}
use Rattle.wasm_store.specs.declared.fault.InstanceFault.TheVariants as of
use Rattle.wasm_steps.specs.declared.pause.Outcome.{Outcome}
use Rattle.wasm_interp.specs.declared.frames.Frame.{Frame}
use Rattle.wasm_operands.specs.Snapshots.{StandsFor}
use Rattle.wasm_interp.specs.Invocations.{TellsStores}
use Rattle.wasi_calls.specs.declared.host.wasi_host.HostParts.{HostParts}
use Rattle.wasi_bodies.specs.declared.streams.Terminals.{Terminals}
use Rattle.wasi_bodies.specs.host.Worlds.{Hearing}
use Rattle.sandbox_core.specs.declared.fault.SessionFault.{SessionFault}
use Rattle.sandbox_core.specs.declared.fault.SessionFault.TheVariants.{Memory}
use Rattle.sandbox_core.specs.declared.session.RefusedSession.{RefusedSession}
use Rattle.sandbox_core.specs.Devices.{Devices, IsHonest, disk_of, numbers_of, tree_of}
use Rattle.plugin_core.specs.Moments.{StandsPassed}
use Rattle.wasm_interp.specs.Machine.{Represents}
use Rattle.sandbox_core.specs.Safety.{TurnsAreSafe}
use Rattle.sandbox_core.specs.Session.{HandsBack, KeepsVolume, Shares, given}
use Rattle.sandbox_core.specs.internal.Faults.{of_instance}
use Rattle.plugin_session.specs.Headline.{FollowBy, History, InstanceHeadline, Upholds}
use Rattle.plugin_session.specs.Instance as opening
use Rattle.plugin_session.specs.Instance.{InstanceState, Opens, OpensBy, OpensWith, links, seeded_by, interactive_with, session_of}
use Rattle.plugin_session.proofs.Limiting.{opens_limited}
use Rattle.invoked_run.specs.declared.calling.CalledOnce.{CalledOnce}
use Rattle.sandbox_report.specs.declared.counted.Counted.{Counted}
use Rattle.sandbox_report.specs.declared.fault.Fault.{Fault}
use Rattle.sandbox_report.specs.declared.fault.Fault.TheVariants as reason
use Rattle.sandbox_args.specs.declared.request.Run.{Run}
use Rattle.sandbox_args.specs.Request.{Text, texts}
use Rattle.vol_commands.specs.Volumes.{IsOpenFor, IsRefusedFor}
use Rattle.sandbox_telling.specs.declared.profiling.FuelUse.{FuelUse}
use Rattle.sandbox_runs.specs.declared.program.Executed.{Executed}
use Rattle.sandbox_telling.specs.declared.stopping.Stopped.{Stopped}
use Rattle.sandbox_runs.specs.Execution.{InvokesOn}
use Rattle.sandbox_runs.specs.Invoking.{AreArguments, BlamesCall, CallEndsWith, HasNoArguments, IsNotCalled, IsToldOfCall, LaunchesCall, TellsCall}
use Rattle.sandbox_telling.specs.Profiling.{IsThere, IsUseWith, TellsUse}
use Rattle.sandbox_telling.specs.Reporting.{counting, kept_where_not_begun, kept_where_refused, not_run, session_reason, volume_of}
use Rattle.sandbox_telling.specs.RunHost.{counted_devices, returned_device}
use Rattle.sandbox_runs.specs.Status.{EndsWith, session_status, volume_status}
use Rattle.sandbox_telling.specs.Supplies.{AreSettings, terminals_of}
use Rattle.sandbox_runs.specs.internal.Invoking.{CallsInstance, readied_by, with_seed, with_terminals}
use Rattle.sandbox_runs.proofs.Charged.{tells_use, told_use}
use Rattle.sandbox_runs.proofs.CallCrash.{call_crash, call_honest, call_leaves, call_lives, whole_honest}
use Rattle.sandbox_runs.proofs.Launching.{kept_streams}

-- ---- before it is called

module _ {D R W1 W2 : Type 0} where
  pub seeds : (seed : Option ℕ) (old new : InstanceState D R W1 W2) (n : ℕ) → seed ≡ Some n → new ≡ seeded_by n old → new ≡ with_seed seed old
  seeds seed old new n is made = subst (λ (o : Option ℕ). new ≡ with_seed o old) (sym is) made

  pub no_seed : (seed : Option ℕ) (old : InstanceState D R W1 W2) → seed ≡ None → old.host.generator ≡ None → old ≡ with_seed seed old
  no_seed seed old is none = subst (λ (o : Option ℕ). old ≡ with_seed o old) (sym is) (ap (λ g. record old { host = record old.host { generator = g } }) none)

  pub interacts : (terminals : Option Terminals) (old new : InstanceState D R W1 W2) (t : Terminals) → terminals ≡ Some t → new ≡ interactive_with t old → new ≡ with_terminals terminals old
  interacts terminals old new t is made = subst (λ (o : Option Terminals). new ≡ with_terminals o old) (sym is) made

  pub no_terminals : (terminals : Option Terminals) (old : InstanceState D R W1 W2) → terminals ≡ None → old.host.interactive ≡ None → old ≡ with_terminals terminals old
  no_terminals terminals old is none = subst (λ (o : Option Terminals). old ≡ with_terminals o old) (sym is) (ap (λ t. record old { host = record old.host { interactive = t } }) none)

  opens_readied : (m : Module) (parts : HostParts D R W1 W2) (s : InstanceState D R W1 W2) (run : Run) → Opens m parts s → OpensWith run.seed (terminals_of run) m parts (readied_by run s)
  opens_readied m parts s run o = let limited = opens_limited None None m parts s run.limits.values o in record {
    fits = limited.fits;
    opens = limited.opens;
    input = limited.input;
    out = limited.out;
    err = limited.err;
    settings = limited.settings;
    supply = refl;
    interactive = refl;
    stage = limited.stage;
  }

  shares_readied : (device : Ghosts D) (parts : HostParts D R W1 W2) (s : InstanceState D R W1 W2) (run : Run)
      → Shares device parts (session_of s) → Shares device parts (session_of (readied_by run s))
  shares_readied device parts s run h = record { is_tree = h.is_tree; reads = h.reads; preopens = h.preopens }

-- ---- why it isn't called

module _ {D : Type 0} (device : Ghosts D) (v : Opened D) where
  -- nothing was done with the volume where the words write no arguments
  pub unasked : (m : Module) (name : Text) (words : List Text) (fault : SessionFault) → HasNoArguments m name words fault → KeepsVolume device fault v v
  unasked m name words fault (inl (is, why)) = subst (λ (f : SessionFault). KeepsVolume device f v v) (sym is) refl
  unasked m name words fault (inr is) = subst (λ (f : SessionFault). KeepsVolume device f v v) (sym is) refl

  -- or where the module has no instance
  pub unmade : (f : InstanceFault) → KeepsVolume device (of_instance f) v v
  unmade of.Import = refl
  unmade of.NoStart = refl
  unmade of.DataOutOfBounds = refl
  unmade of.ElementOutOfBounds = refl
  unmade of.PageLimit = refl
  unmade of.Memory = refl

module _ {D R W1 W2 : Type 0} (honest : D → Type 0) (disk : D → Disk) (sectors_on failures : D → ℕ) (goes_on : ℕ → D → D → Type 0)
    (remaining : R → Option (List ℕ)) (outs : W1 → Option (List ℕ)) (errs : W2 → Option (List ℕ)) (ear : Hearing R W1 W2) (run : Run) (name : Text) (m : Module) (parts : HostParts D R W1 W2) where
  pub no_instance : (f : InstanceFault) → NotAllocated links run.limits.pages m f
      → IsNotCalled honest disk sectors_on failures goes_on remaining outs errs ear (of_instance f) name m run parts
  no_instance of.Import is = inr (inl (of.Import, refl, is))
  no_instance of.NoStart is = inr (inl (of.NoStart, refl, is))
  no_instance of.DataOutOfBounds is = inr (inl (of.DataOutOfBounds, refl, is))
  no_instance of.ElementOutOfBounds is = inr (inl (of.ElementOutOfBounds, refl, is))
  no_instance of.PageLimit is = inr (inl (of.PageLimit, refl, is))
  no_instance of.Memory is = inl (inr refl)

-- ---- how it ends

-- where a fault is told, the status is that of the fault or of what couldn't be committed
pub blamed_so : {V R : Type 0} (fault : Option Fault) (outcome : Outcome) (volume : Result V R) (failed flushed : Bool) (before status : ℕ)
    → (fault ≡ None → status ≡ before) → (IsSome fault → status ≡ (if failed then 123 else 124)) → failed ≡ is_err volume
    → EndsWith outcome volume flushed before → CallEndsWith fault outcome volume flushed status
blamed_so None outcome volume failed flushed before status same other is ends = subst (λ (n : ℕ). EndsWith outcome volume flushed n) (sym (same refl)) ends
blamed_so (Some fault) outcome (Ok v) failed flushed before status same other is ends = other refl ∙ ap (λ (b : Bool). if b then 123 else 124) is
blamed_so (Some fault) outcome (Err r) failed flushed before status same other is ends = other refl ∙ ap (λ (b : Bool). if b then 123 else 124) is

-- where its fuel went is told, as it is of a command
pub call_tells : (stacks : Option Stacks) (imported : ℕ) (usage : Option FuelUse) (end : Option Stopped) (stopped : Stopped) → end ≡ Some stopped → stopped.fuel_use ≡ usage
    → IsUseWith stacks imported usage → TellsUse stacks end
call_tells stacks imported usage end stopped is same usage_is =
    tells_use stacks end stopped is (λ some. subst IsThere (sym same) (told_use stacks stacks imported usage (λ x. x) usage_is some))

module _ {D R W1 W2 : Type 0} (device : Ghosts D) (remaining : R → Option (List ℕ)) (outs : W1 → Option (List ℕ)) (errs : W2 → Option (List ℕ)) (ear : Hearing R W1 W2) (run : Run) (name : Text) (m : Module) where
  abbrev on : Devices D (Counted R) (Counted W1) (Counted W2)
  on = counted_devices device.honest device.disk device.size device.failures device.goes_on remaining outs errs ear

  abbrev Launched : HostParts D R W1 W2 → Executed D R W1 W2 → Type 0
  Launched parts left = LaunchesCall device.honest device.disk device.size device.failures device.goes_on remaining outs errs ear name m run parts left

  module _ (parts : HostParts D R W1 W2) (taken : HostParts D (Counted R) (Counted W1) (Counted W2)) (same : taken ≡ counting run parts) where
    abbrev handed : HostParts D (Counted R) (Counted W1) (Counted W2) → HostParts D (Counted R) (Counted W1) (Counted W2)
    handed p = p

    -- an instance was opened, and its function called
    pub called : InstanceHeadline Represents on → TurnsAreSafe on → TellsStores Represents
        → (begun : InstanceState D (Counted R) (Counted W1) (Counted W2)) → Opens m (handed taken) begun → Shares device (handed taken) (session_of begun)
        → (numbers : List ℕ) (value_type : Option ValueType) → AreArguments m name (texts run.words.items) numbers value_type → (left : Executed D R W1 W2)
        → CallsInstance device.honest device.disk device.size device.failures device.goes_on remaining outs errs ear run name numbers value_type begun left → Launched parts left
    called headline safe tells begun begins sharing numbers value_type are left it =
        let instance = readied_by run begun in
        let opens = opens_readied m (counting run parts) begun run (subst (λ (p : HostParts D (Counted R) (Counted W1) (Counted W2)). Opens m (handed p) begun) same begins) in
        let shares = shares_readied device (counting run parts) begun run (subst (λ (p : HostParts D (Counted R) (Counted W1) (Counted W2)). Shares device (handed p) (session_of begun)) same sharing) in
        inr (record {
          numbers = numbers;
          value_type = value_type;
          arguments = are;
          instance = instance;
          opens = opens;
          shares = shares;
          called = it.called;
          room = it.room;
          calls = it.calls;
          told = it.told;
          crash = λ h lasts. (
            call_lives on headline safe tells m run.seed (terminals_of run) (counting run parts) instance opens shares name numbers run.limits.fuel it.room it.called it.calls h lasts,
            subst (λ (d : D). Leaves (device.disk parts.volume.device) (device.disk d) (StandsPassed (disk_of on) numbers_of tree_of (IsHonest on) instance.host
                (call_lives on headline safe tells m run.seed (terminals_of run) (counting run parts) instance opens shares name numbers run.limits.fuel it.room it.called it.calls h lasts).kept.turns)) (sym it.told.device)
                (call_leaves on headline safe tells m run.seed (terminals_of run) (counting run parts) instance opens shares name numbers run.limits.fuel it.room it.called it.calls h lasts),
          );
          honest = λ h lasts. subst device.honest (sym it.told.device)
              (call_honest on headline safe tells m run.seed (terminals_of run) (counting run parts) instance opens shares name numbers run.limits.fuel it.room it.called it.calls h lasts);
        })

    -- no instance could be opened
    pub not_opened : (r : RefusedSession D (Counted R) (Counted W1) (Counted W2)) → HandsBack device m (handed taken) r → opening.IsRefused device.honest r.fault m (handed taken)
        → (left : Executed D R W1 W2) → left.status ≡ session_status r.fault → left.flushed ≡ true → left.summary ≡ Some (not_run run (session_reason r.fault) (kept_where_not_begun run.volume r.fault) left.status)
        → left.device ≡ r.parts.volume.device → left.input ≡ r.parts.input.stream → left.out ≡ r.parts.out.stream → left.err ≡ r.parts.err.stream
        → Launched parts left
    not_opened r back refused left ends flushed summary is from out_from err_from =
        let hands = subst (λ (p : HostParts D (Counted R) (Counted W1) (Counted W2)). HandsBack device m (handed p) r) same back in
        inl (record {
          fault = r.fault;
          why = inr (inr (subst (λ (p : HostParts D (Counted R) (Counted W1) (Counted W2)). opening.IsRefused device.honest r.fault m (handed p)) same refused));
          volume = r.parts.volume;
          kept = hands.volume;
          device = is;
          ends = ends;
          flushed = flushed;
          summary = summary;
          streams = kept_streams outs errs parts.input parts.out parts.err left
              (from ∙ ap (λ (r : Counted R). r.stream) hands.input)
              (out_from ∙ ap (λ (w : Counted W1). w.stream) hands.out)
              (err_from ∙ ap (λ (w : Counted W2). w.stream) hands.err);
        })

    -- or it isn't called at all, and nothing was done with the volume
    pub not_called : (fault : SessionFault) → IsNotCalled device.honest device.disk device.size device.failures device.goes_on remaining outs errs ear fault name m run parts
        → KeepsVolume device fault parts.volume parts.volume
        → (left : Executed D R W1 W2) → left.status ≡ session_status fault → left.flushed ≡ true → left.summary ≡ Some (not_run run (session_reason fault) (kept_where_not_begun run.volume fault) left.status)
        → left.device ≡ taken.volume.device → left.input ≡ taken.input.stream → left.out ≡ taken.out.stream → left.err ≡ taken.err.stream
        → Launched parts left
    not_called fault why kept left ends flushed summary is from out_from err_from = inl (record {
      fault = fault;
      why = why;
      volume = parts.volume;
      kept = kept;
      device = is ∙ ap (λ (p : HostParts D (Counted R) (Counted W1) (Counted W2)). p.volume.device) same;
      ends = ends;
      flushed = flushed;
      summary = summary;
      streams = kept_streams outs errs parts.input parts.out parts.err left
          (from ∙ ap (λ (p : HostParts D (Counted R) (Counted W1) (Counted W2)). p.input.stream) same)
          (out_from ∙ ap (λ (p : HostParts D (Counted R) (Counted W1) (Counted W2)). p.out.stream) same)
          (err_from ∙ ap (λ (p : HostParts D (Counted R) (Counted W1) (Counted W2)). p.err.stream) same);
    })

  -- ---- its volume

  pub call_on_volume : (random : Text) (d : D) (input : R) (out : W1) (err : W2) (v : Opened D) (parts : HostParts D R W1 W2) (left : Executed D R W1 W2)
      → IsOpenFor device.honest device.disk device.size device.failures (volume_of run) d v → AreSettings run random parts.settings → parts ≡ given parts.settings v input out err
      → Launched parts left
      → InvokesOn device.honest device.disk device.size device.failures device.goes_on remaining outs errs ear name run m random d input out err left
  call_on_volume random d input out err v parts left opened are same launched =
      let its = given parts.settings v input out err in
      let launches = subst (λ (p : HostParts D R W1 W2). Launched p left) same launched in
      inr (record {
        volume = v;
        opened = opened;
        parts = its;
        are_settings = are;
        given = (refl, refl, refl, refl);
        launched = launches;
        crash = call_crash device remaining outs errs ear run name m its left (volume_of run) d opened launches;
        honest = whole_honest device remaining outs errs ear run name m its left (volume_of run) d opened launches;
      })

  pub call_no_volume : (random : Text) (d : D) (input : R) (out : W1) (err : W2) (refused : Refused D) (left : Executed D R W1 W2)
      → IsRefusedFor device.honest device.disk device.size device.failures (volume_of run) d refused
      → left.status ≡ volume_status refused.fault → left.flushed ≡ true
      → left.summary ≡ Some (not_run run (reason.Volume refused.fault) (kept_where_refused refused.fault) left.status)
      → left.device ≡ refused.device → left.input ≡ input → left.out ≡ out → left.err ≡ err
      → InvokesOn device.honest device.disk device.size device.failures device.goes_on remaining outs errs ear name run m random d input out err left
  call_no_volume random d input out err refused left why ends flushed summary is in_is out_is err_is = inl (record {
    refused = refused;
    why = why;
    device_is = is;
    ends = ends;
    flushed = flushed;
    summary = summary;
    streams = kept_streams outs errs input out err left in_is out_is err_is;
  })

-- ---- the headline of its instance

module _ {D R W1 W2 : Type 0} (Stands : StandsFor) (on : Devices D R W1 W2) where
  pub call_upheld : InstanceHeadline Stands on → TurnsAreSafe on → TellsStores Stands
      → (m : Module) (parts : HostParts D R W1 W2) (s s' : InstanceState D R W1 W2) (rs : History (InstanceState D R W1 W2)) (seed : Option ℕ) (terminals : Option Terminals)
      → OpensBy Stands seed terminals m parts s → Shares on.device parts (session_of s) → on.device.honest parts.volume.device
      → ((c : Image) → (on.device.disk parts.volume.device).may_leave c → StandsAs c parts.volume.numbers parts.volume.tree)
      → FollowBy Stands on s rs s' → Upholds on m parts.settings.pages (parts.volume.tree ∷ []) 0 s rs s'
  call_upheld holds safe tells m parts s s' rs seed terminals opens shares is lasts follow =
      holds tells seed terminals m parts (parts.volume.tree ∷ []) 0 s s' rs opens shares is (safe.opened parts.volume is lasts) follow

-- ---- what is told of its end

-- only the status and the summary change by a fault
module _ {D R W1 W2 : Type 0} (failed : Bool) (left after : Executed D R W1 W2) where
  pub blamed_left : (why : Option Fault) → BlamesCall why failed left after
      → (after.input ≡ left.input) × (after.out ≡ left.out) × (after.err ≡ left.err) × (after.device ≡ left.device) × (after.stopped ≡ left.stopped) × (after.flushed ≡ left.flushed)
  blamed_left None same = (ap (λ (e : Executed D R W1 W2). e.input) same, ap (λ (e : Executed D R W1 W2). e.out) same, ap (λ (e : Executed D R W1 W2). e.err) same, ap (λ (e : Executed D R W1 W2). e.device) same, ap (λ (e : Executed D R W1 W2). e.stopped) same, ap (λ (e : Executed D R W1 W2). e.flushed) same)
  blamed_left (Some why) same = (ap (λ (e : Executed D R W1 W2). e.input) same, ap (λ (e : Executed D R W1 W2). e.out) same, ap (λ (e : Executed D R W1 W2). e.err) same, ap (λ (e : Executed D R W1 W2). e.device) same, ap (λ (e : Executed D R W1 W2). e.stopped) same, ap (λ (e : Executed D R W1 W2). e.flushed) same)

  -- so what was answered stays said
  pub blamed_answers : (Answers : Bool → W1 → W2 → Type 0) (why : Option Fault) → BlamesCall why failed left after → Answers left.flushed left.out left.err → Answers after.flushed after.out after.err
  blamed_answers Answers None same said = subst (λ (e : Executed D R W1 W2). Answers e.flushed e.out e.err) (sym same) said
  blamed_answers Answers (Some why) same said = subst (λ (e : Executed D R W1 W2). Answers e.flushed e.out e.err) (sym same) said

module _ {D R W1 W2 : Type 0} (honest : D → Type 0) (disk : D → Disk) (sectors_on failures : D → ℕ) (goes_on : ℕ → D → D → Type 0)
    (remaining : R → Option (List ℕ)) (outs : W1 → Option (List ℕ)) (errs : W2 → Option (List ℕ)) (ear : Hearing R W1 W2)
    (value_type : Option ValueType) (called : CalledOnce D (Counted R) (Counted W1) (Counted W2)) (room : List Frame) (outcome : Outcome) (fault : Option Fault) (printed : W1)
    (left after : Executed D R W1 W2) (failed : Bool) (stopped : Stopped) where
  blamed_ends : (why : Option Fault) → BlamesCall why failed left after → failed ≡ is_err called.volume → EndsWith outcome called.volume left.flushed left.status
      → CallEndsWith why outcome called.volume after.flushed after.status
  blamed_ends why same is ends =
      subst (λ (b : Bool). CallEndsWith why outcome called.volume b after.status) (sym (blamed_left failed left after why same).5)
      (by_fault why same (blamed_so why outcome called.volume failed left.flushed left.status after.status)) where
        by_fault : (why : Option Fault) → BlamesCall why failed left after
            → ((why ≡ None → after.status ≡ left.status) → (IsSome why → after.status ≡ (if failed then 123 else 124)) → failed ≡ is_err called.volume
            → EndsWith outcome called.volume left.flushed left.status → CallEndsWith why outcome called.volume left.flushed after.status)
            → CallEndsWith why outcome called.volume left.flushed after.status
        by_fault None same so = so (λ none. ap (λ (e : Executed D R W1 W2). e.status) same) (λ never. cc) is ends
        by_fault (Some f) same so = so (λ never. cc) (λ some. ap (λ (e : Executed D R W1 W2). e.status) same) is ends

  pub told_of_call : TellsCall called.end value_type (outs called.out.stream) (outs printed) outcome fault → failed ≡ is_err called.volume
      → EndsWith outcome called.volume left.flushed left.status → left.device ≡ returned_device called.volume → left.input ≡ called.input.stream
      → Keeps (outs printed) (outs left.out) → Keeps (errs called.err.stream) (errs left.err)
      → left.stopped ≡ Some stopped → stopped.depth ≡ called.depth → stopped.innermost.items ≡ take called.depth room → BlamesCall fault failed left after
      → IsToldOfCall honest disk sectors_on failures goes_on remaining outs errs ear value_type called room after
  told_of_call tells is ends device input out err stops depth innermost same =
      let stays = blamed_left failed left after fault same in
      record {
        outcome = outcome;
        fault = fault;
        printed = printed;
        tells = tells;
        out = subst (λ (w : W1). Keeps (outs printed) (outs w)) (sym stays.1) out;
        err = subst (λ (w : W2). Keeps (errs called.err.stream) (errs w)) (sym stays.2) err;
        input = stays.0 ∙ input;
        device = stays.3 ∙ device;
        ends = blamed_ends fault same is ends;
        stopped = stopped;
        is_stopped = stays.4 ∙ stops;
        depth = depth;
        innermost = innermost;
      }
