-- A run is what is said of it: one that gets no volume, or no session, or whose guest ran.
use Rattle.std.proofs.Common.{◌≡◌, ℕ, true, List, length, Option, Some, inl, inr, sym, ◌∙◌, ap, subst}
use Rattle.std.specs.Io.KnownBytes.{Keeps}
use Rattle.std.proofs.KnownBytes.{Keeps-refl}
use Rattle.vol_sector.specs.Disk.{Leaves}
use Rattle.vol_sector.specs.declared.device.Device.{Ghosts}
use Rattle.vol_sector.specs.declared.fault.Refused.{Refused}
use Rattle.vol_tree.specs.Opened.{Opened}
use Rattle.wasm_syntax.specs.declared.module.Module.{Module}
use Rattle.wasm_steps.specs.Configuration.{first_configuration}
use Rattle.wasi_calls.specs.declared.host.wasi_host.HostParts.{HostParts}
use Rattle.sandbox_core.specs.declared.session.RefusedSession.{RefusedSession}
use Rattle.sandbox_core.specs.Devices.{Calls, Devices, disk_of, numbers_of, tree_of}
use Rattle.vol_tree.proofs.GoingOn.{goes_then}
use Rattle.sandbox_core.specs.Runs.{StandsInRun}
use Rattle.sandbox_core.specs.Session.{HandsBack, IsRefused, Opens, SessionState, Shares, given, limited_to}
use Rattle.sandbox_core.proofs.Headline.{reach_moves}
use Rattle.sandbox_core.proofs.Limiting.{opens_limited, shares_limited}
use Rattle.sandbox_report.specs.declared.counted.Counted.{Counted}
use Rattle.sandbox_report.specs.declared.fault.Fault.TheVariants as reason
use Rattle.vol_commands.specs.Volumes.{IsOpenFor, IsRefusedFor}
use Rattle.sandbox_args.specs.declared.request.Run.{Run}
use Rattle.sandbox_args.specs.Request.{Text}
use Rattle.wasi_bodies.specs.host.Worlds.{Hearing}
use Rattle.sandbox_runs.specs.declared.program.Executed.{Executed}
use Rattle.sandbox_runs.proofs.Charged.{use_of}
use Rattle.sandbox_telling.specs.Profiling.{IsUseWith, slice_of}
use Rattle.sandbox_runs.specs.internal.Seeds.{prepared_by}
use Rattle.sandbox_runs.specs.internal.Sessions.{RunsSession}
use Rattle.sandbox_runs.specs.Execution.{RunsOn}
use Rattle.sandbox_telling.specs.Reporting.{counting, kept_where_not_begun, kept_where_refused, not_run, session_reason, volume_of}
use Rattle.sandbox_runs.specs.Running.{Launches, counted_devices}
use Rattle.sandbox_runs.specs.Status.{session_status, volume_status}
use Rattle.sandbox_runs.specs.Silent.{IsSilent}
use Rattle.sandbox_telling.specs.Supplies.{AreSettings}
use Rattle.sandbox_runs.proofs.Began.{began, device_back, launch_honest, opened_honest, whole_crash}
use Rattle.sandbox_runs.proofs.Seeding.{opens_prepared, shares_prepared}

-- the streams that came in
pub kept_streams : {D R W1 W2 : Type 0} (outs : W1 → Option (List ℕ)) (errs : W2 → Option (List ℕ)) (input : R) (out : W1) (err : W2) (left : Executed D R W1 W2)
    → left.input ≡ input → left.out ≡ out → left.err ≡ err → IsSilent outs errs Keeps input out err left
kept_streams {W1 = W1} {W2 = W2} outs errs input out err left in_is out_is err_is = record {
  input_is = in_is;
  out_keeps = subst (λ (w : W1). Keeps (outs out) (outs w)) (sym out_is) (Keeps-refl (outs out));
  err_follows = subst (λ (w : W2). Keeps (errs err) (errs w)) (sym err_is) (Keeps-refl (errs err));
}

module _ {D R W1 W2 : Type 0} (device : Ghosts D) (remaining : R → Option (List ℕ)) (outs : W1 → Option (List ℕ)) (errs : W2 → Option (List ℕ)) (ear : Hearing R W1 W2) (run : Run) (m : Module) where
  -- ---- its volume

  pub on_volume : (random : Text) (d : D) (input : R) (out : W1) (err : W2) (v : Opened D) (parts : HostParts D R W1 W2) (left : Executed D R W1 W2)
      → IsOpenFor device.honest device.disk device.size device.failures (volume_of run) d v → AreSettings run random parts.settings → parts ≡ given parts.settings v input out err
      → Launches device.honest device.disk device.size device.failures device.goes_on remaining outs errs ear m run parts left
      → RunsOn device.honest device.disk device.size device.failures device.goes_on remaining outs errs ear run m random d input out err left
  on_volume random d input out err v parts left opened are same launches =
      let launched = subst (λ (p : HostParts D R W1 W2). Launches device.honest device.disk device.size device.failures device.goes_on remaining outs errs ear m run p left) same launches in
      inr (record {
        volume = v;
        opened = opened;
        settings = parts.settings;
        are_settings = are;
        launched = launched;
        crash = whole_crash device.honest device.disk device.size device.failures device.goes_on remaining outs errs ear m run (given parts.settings v input out err) left (volume_of run) d opened launched;
        honest = λ h. launch_honest device.honest device.disk device.size device.failures device.goes_on remaining outs errs ear m run (given parts.settings v input out err) left
            launched (opened_honest device.honest device.disk device.size device.failures device.goes_on (volume_of run) d v opened h);
      })

  pub no_volume : (random : Text) (d : D) (input : R) (out : W1) (err : W2) (refused : Refused D) (left : Executed D R W1 W2)
      → IsRefusedFor device.honest device.disk device.size device.failures (volume_of run) d refused
      → left.status ≡ volume_status refused.fault → left.flushed ≡ true
      → left.summary ≡ Some (not_run run (reason.Volume refused.fault) (kept_where_refused refused.fault) left.status)
      → left.device ≡ refused.device → left.input ≡ input → left.out ≡ out → left.err ≡ err
      → RunsOn device.honest device.disk device.size device.failures device.goes_on remaining outs errs ear run m random d input out err left
  no_volume random d input out err refused left why ends flushed summary is in_is out_is err_is = inl (record {
    refused = refused;
    why = why;
    device_is = is;
    ends = ends;
    flushed = flushed;
    summary = summary;
    streams = kept_streams outs errs input out err left in_is out_is err_is;
  })

  -- ---- its session, whose streams are counted from its beginning on

  abbrev Launched : HostParts D R W1 W2 → Executed D R W1 W2 → Type 0
  Launched parts left = Launches device.honest device.disk device.size device.failures device.goes_on remaining outs errs ear m run parts left

  module _ (parts : HostParts D R W1 W2) (taken : HostParts D (Counted R) (Counted W1) (Counted W2)) (same : taken ≡ counting run parts) where
    abbrev on : Devices D (Counted R) (Counted W1) (Counted W2)
    on = counted_devices device.honest device.disk device.size device.failures device.goes_on remaining outs errs ear

    abbrev handed : HostParts D (Counted R) (Counted W1) (Counted W2) → HostParts D (Counted R) (Counted W1) (Counted W2)
    handed p = p

    pub ran : (begun : SessionState D (Counted R) (Counted W1) (Counted W2)) → Opens m (handed taken) begun → Shares device (handed taken) begun
        → (imported : ℕ) → imported ≡ length m.imports → (left : Executed D R W1 W2)
        → RunsSession device.honest device.disk device.size device.failures device.goes_on remaining outs errs ear run imported begun left → Launched parts left
    ran begun opening sharing imported counts left it =
        let counted = it.reported.told.counted in
        let limited = limited_to run.limits.values begun in
        let s = prepared_by run limited in
        let opens = opens_prepared m (counting run parts) limited run
        (opens_limited m (counting run parts) begun run.limits.values (subst (λ (p : HostParts D (Counted R) (Counted W1) (Counted W2)). Opens m (handed p) begun) same opening)) in
        let shares = shares_prepared device (counting run parts) limited run
        (shares_limited device (counting run parts) begun run.limits.values (subst (λ (p : HostParts D (Counted R) (Counted W1) (Counted W2)). Shares device (handed p) begun) same sharing)) in
        let i = opens.starts.instance in
        let slice = slice_of run in
        let first = first_configuration opens.starts.entered opens.starts.store in
        let reports = counted.reports in
        let last = reports.last.host in
        let run = reports.run i first opens.starts.stands in
        let back = it.device ∙ device_back reports.volume.new it.report.volume reports.volume.handed_back in
        inr (record {
          session = s;
          opens = opens;
          shares = shares;
          report = it.report;
          tally = it.tally;
          counted = counted;
          stopped = it.stopped;
          is_stopped = it.is_stopped;
          frames = it.frames;
          answers = it.answers;
          fuel_use = use_of slice s reports.resumes it.report.used m it.stacks it.stopped.fuel_use
              (subst (λ (n : ℕ). IsUseWith it.stacks n it.stopped.fuel_use) counts it.fuel_use) it.reported.charged;
          goes = λ end le earlier before. subst (λ (d : D). device.goes_on end earlier d) (sym back)
              (goes_then device.goes_on parts.volume s.host.volume reports.volume.new shares.reads.kept.numbers shares.reads.goes reports.goes end le earlier before);
          ends = it.ends;
          summary = it.summary;
          device = it.device;
          input = it.input ∙ ap (λ (r : Counted R). r.stream) reports.input;
          out = subst (λ (w : Counted W1). Keeps (outs w.stream) (outs left.out)) reports.out it.out;
          err = subst (λ (w : Counted W2). Keeps (errs w.stream) (errs left.err)) reports.err it.err;
          over_paths = λ h. reach_moves on i s.host last first run.last run.answers run.reach (shares.reads.kept.honest.0 h);
          crash = λ h lasts.
              subst (λ (d : D). Leaves (device.disk parts.volume.device) (device.disk d) (StandsInRun (Calls on) numbers_of tree_of run))
              (sym back)
              (began _ (Calls on) (disk_of on) numbers_of tree_of
              i s.host last first run.last run.answers (device.disk parts.volume.device) (device.disk reports.volume.new.device) parts.volume.numbers parts.volume.tree run.reach (sym {b = parts.volume.numbers} shares.reads.kept.numbers) (sym {b = parts.volume.tree} (shares.reads.tree h))
              lasts (shares.reads.crash h) (reports.crash (shares.reads.kept.honest.0 h) i first opens.starts.stands));
        })

    pub no_session : (r : RefusedSession D (Counted R) (Counted W1) (Counted W2)) → HandsBack device m (handed taken) r → IsRefused device.honest r.fault m (handed taken)
        → (left : Executed D R W1 W2) → left.status ≡ session_status r.fault → left.flushed ≡ true → left.summary ≡ Some (not_run run (session_reason r.fault) (kept_where_not_begun run.volume r.fault) left.status)
        → left.device ≡ r.parts.volume.device → left.input ≡ r.parts.input.stream → left.out ≡ r.parts.out.stream → left.err ≡ r.parts.err.stream
        → Launched parts left
    no_session r back refused left ends flushed summary is from out_from err_from =
        let hands = subst (λ (p : HostParts D (Counted R) (Counted W1) (Counted W2)). HandsBack device m (handed p) r) same back in
        inl (record {
          fault = r.fault;
          refused = subst (λ (p : HostParts D (Counted R) (Counted W1) (Counted W2)). IsRefused device.honest r.fault m (handed p)) same refused;
          volume = r.parts.volume;
          kept = hands.volume;
          device = is;
          ends = ends;
          flushed = flushed;
          summary = summary;
          streams = kept_streams outs errs parts.input parts.out parts.err left
              (from ∙ ap (λ (r : Counted R). r.stream) hands.input)
              (out_from ∙ ap (λ (w : Counted W1). w.stream) hands.out)
              (err_from ∙ ap (λ (w : Counted W2). w.stream) hands.err);
        })
