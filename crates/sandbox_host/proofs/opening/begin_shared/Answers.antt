use Rattle.std.proofs.Common.{ℕ, max, ap, ◌∙◌, sym, subst, inl, inr}
use Rattle.wasi_bodies.specs.declared.settings.Settings.{Settings}
use Rattle.sandbox_core.specs.Session.{given, IsRefused}
use Rattle.sandbox_core.proofs.Limiting.{opens_limited, shares_limited}
use Rattle.sandbox_host.specs.Host.{State, Opens, Shares, IsHonest, known}
use Rattle.sandbox_host.specs.Supplies.{settings_of}
use Rattle.sandbox_host.proofs.Working.{no_device}
use Rattle.sandbox_host.proofs.opening.begin_shared.Goals as goal

-- the settings are those of the supplies
pub returns-in-Ok-new-clause-begins : goal.returns-in-Ok-new-clause-begins
returns-in-Ok-new-clause-begins c =
    let made = c.in-Ok-new.ensures in
    let session : State = c.in-Ok-new.session in
    let input = c.args.supplies.now.input in
    record {
      known = sym c.is_known.ensures ∙ c.if-not-is_known.false;
      volume = c.in-Ok.volume;
      is_volume = c.in-Ok.ensures.opens;
      out = c.new-out.result;
      err = c.new-err.result;
      no_output = c.new-out.ensures.none;
      no_errors = c.new-err.ensures.none;
      output_bound = c.new-out.ensures.most ∙ c.most_output-most.ensures;
      errors_bound = c.new-err.ensures.most ∙ c.most_output-most.ensures;
      output_open = c.new-out.ensures.begins;
      errors_open = c.new-err.ensures.begins;
      values = ap (λ (t : State). t.machine.most_values) c.limit_values.ensures
          ∙ (ap (λ (n : ℕ). max c.most_values.result n) made.opens.starts.room ∙ ap (λ (n : ℕ). max n 4097) c.most_values.ensures);
      opens = subst (λ (t : State). Opens c.args.ready.now.valid (given (settings_of c.args.supplies.now) c.in-Ok.volume input c.new-out.result c.new-err.result) t) (sym c.limit_values.ensures)
          (opens_limited c.args.ready.now.valid (given (settings_of c.args.supplies.now) c.in-Ok.volume input c.new-out.result c.new-err.result) session _
          (subst (λ (s : Settings). Opens c.args.ready.now.valid (given s c.in-Ok.volume input c.new-out.result c.new-err.result) session) c.settings-settings.ensures made.opens));
      shares = subst (λ (t : State). Shares (given (settings_of c.args.supplies.now) c.in-Ok.volume input c.new-out.result c.new-err.result) t) (sym c.limit_values.ensures)
          (shares_limited known.device (given (settings_of c.args.supplies.now) c.in-Ok.volume input c.new-out.result c.new-err.result) session _
          (subst (λ (s : Settings). Shares (given s c.in-Ok.volume input c.new-out.result c.new-err.result) session) c.settings-settings.ensures made.shares));
    }

pub returns-in-Err-new-clause-refused : goal.returns-in-Err-new-clause-refused
returns-in-Err-new-clause-refused c =
    inl (inr (inr (record {
      volume = c.in-Ok.volume;
      is_volume = c.in-Ok.ensures.opens;
      out = c.new-out.result;
      err = c.new-err.result;
      fault = c.in-Err-new.field-0.fault;
      refuses = subst (λ (s : Settings). IsRefused IsHonest c.in-Err-new.field-0.fault c.args.ready.now.valid (given s c.in-Ok.volume c.args.supplies.now.input c.new-out.result c.new-err.result)) c.settings-settings.ensures c.in-Err-new.ensures.refused;
      no_device = no_device c.args.origin c.in-Ok.volume c.in-Err-new.field-0.parts.volume c.in-Err-new.field-0.fault c.in-Ok.ensures.opens c.in-Err-new.ensures.hands_back.volume;
      tells = c.session_number.ensures.number;
    })))
