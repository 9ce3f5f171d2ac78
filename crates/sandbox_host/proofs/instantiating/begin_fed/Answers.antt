use Rattle.std.proofs.Common.{ℕ, max, ap, ◌∙◌, sym, subst, inl, inr}
use Rattle.wasi_bodies.specs.declared.settings.Settings.{Settings}
use Rattle.wasi_calls.specs.declared.host.wasi_host.HostParts.{HostParts}
use Rattle.sandbox_core.specs.Session.{Shares, given}
use Rattle.sandbox_core.proofs.Limiting.{shares_limited}
use Rattle.plugin_session.specs.Instance.{session_of}
use Rattle.sandbox_device.specs.declared.recorded_device.RecordedDevice.{RecordedDevice}
use Rattle.fed_input.specs.Feeding.{Fed}
use Rattle.fed_session.specs.Feeding.{IsRefused, Opens}
use Rattle.sandbox_host.specs.Host.{Bytes, IsHonest, known}
use Rattle.sandbox_host.specs.Instances.{first_input}
use Rattle.sandbox_host.specs.Kinds.{FedLiving}
use Rattle.sandbox_host.specs.Supplies.{settings_of}
use Rattle.sandbox_host.proofs.FedLimiting.{fed_opens_limited}
use Rattle.sandbox_host.proofs.Working.{no_device}
use Rattle.sandbox_host.proofs.instantiating.begin_fed.Goals as goal

-- the settings are those of the supplies, and the input is what is there at first
pub returns-in-Ok-new-clause-begins : goal.returns-in-Ok-new-clause-begins
returns-in-Ok-new-clause-begins c =
    let made = c.in-Ok-new.ensures in
    let new : FedLiving = c.in-Ok-new.instance in
    let goes_on = c.args.plugin.now.goes_on in
    let valid = c.args.plugin.now.ready.valid in
    let parts : Settings → Fed → HostParts RecordedDevice Fed Bytes Bytes = (λ s f. given s c.in-Ok.volume f c.new-out.result c.new-err.result) in
    let last = parts (settings_of c.args.supplies.now) (first_input c.args.supplies.now) in
    record {
      known_limits = sym c.is_known.ensures ∙ c.if-not-is_known.false;
      volume = c.in-Ok.volume;
      is_volume = c.in-Ok.ensures.opens;
      out = c.new-out.result;
      err = c.new-err.result;
      no_output = c.new-out.ensures.none;
      no_errors = c.new-err.ensures.none;
      output_bound = c.new-out.ensures.most ∙ c.most_output-most.ensures;
      errors_bound = c.new-err.ensures.most ∙ c.most_output-most.ensures;
      values = ap (λ (t : FedLiving). t.instance.machine.most_values) c.limit_values.ensures
          ∙ (ap (λ (n : ℕ). max c.most_values.result n) made.opens.0.opens.room ∙ ap (λ (n : ℕ). max n 4097) c.most_values.ensures);
      opens = subst (λ (t : FedLiving). Opens goes_on valid last t.instance) (sym c.limit_values.ensures)
          (fed_opens_limited goes_on valid last new.instance _
          (subst (λ (f : Fed). Opens goes_on valid (parts (settings_of c.args.supplies.now) f) new.instance) c.in-Ok-first_input.ensures.first
          (subst (λ (s : Settings). Opens goes_on valid (parts s c.in-Ok-first_input.input) new.instance) c.settings-settings.ensures made.opens.0)));
      shares = subst (λ (t : FedLiving). Shares known.device last (session_of t.instance)) (sym c.limit_values.ensures)
          (shares_limited known.device last (session_of new.instance) _
          (subst (λ (f : Fed). Shares known.device (parts (settings_of c.args.supplies.now) f) (session_of new.instance)) c.in-Ok-first_input.ensures.first
          (subst (λ (s : Settings). Shares known.device (parts s c.in-Ok-first_input.input) (session_of new.instance)) c.settings-settings.ensures made.shares)));
      goes_on_is = ap (λ (t : FedLiving). t.goes_on) c.limit_values.ensures ∙ made.opens.1;
    }

pub returns-in-Err-new-clause-refused : goal.returns-in-Err-new-clause-refused
returns-in-Err-new-clause-refused c =
    let goes_on = c.args.plugin.now.goes_on in
    let valid = c.args.plugin.now.ready.valid in
    let fault = c.in-Err-new.field-0.fault in
    let parts : Settings → Fed → HostParts RecordedDevice Fed Bytes Bytes = (λ s f. given s c.in-Ok.volume f c.new-out.result c.new-err.result) in
    inr (inl (inr (record {
      volume = c.in-Ok.volume;
      is_volume = c.in-Ok.ensures.opens;
      out = c.new-out.result;
      err = c.new-err.result;
      fault = c.in-Err-new.field-0.fault;
      refuses = subst (λ (f : Fed). IsRefused goes_on IsHonest fault valid (parts (settings_of c.args.supplies.now) f)) c.in-Ok-first_input.ensures.first
          (subst (λ (s : Settings). IsRefused goes_on IsHonest fault valid (parts s c.in-Ok-first_input.input)) c.settings-settings.ensures c.in-Err-new.ensures.refused);
      no_device = no_device c.args.origin c.in-Ok.volume c.in-Err-new.field-0.parts.volume c.in-Err-new.field-0.fault c.in-Ok.ensures.opens c.in-Err-new.ensures.hands_back.volume;
      tells = c.session_number.ensures.number;
    })))
