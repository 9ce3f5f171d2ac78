use Rattle.std.proofs.Common.{ℕ, None, max, ap, ◌∙◌, sym, subst, inl, inr}
use Rattle.wasi_bodies.specs.declared.settings.Settings.{Settings}
use Rattle.sandbox_core.specs.Session.{given}
use Rattle.sandbox_core.proofs.Limiting.{shares_limited}
use Rattle.plugin_session.specs.Instance.{IsRefused, Opens, session_of}
use Rattle.plugin_session.proofs.Limiting.{opens_limited}
use Rattle.sandbox_host.specs.Host.{IsHonest, HandleParts, Shares, known}
use Rattle.sandbox_host.specs.Kinds.{PlainLiving}
use Rattle.sandbox_host.specs.Supplies.{settings_of}
use Rattle.sandbox_host.proofs.Working.{no_device}
use Rattle.sandbox_host.proofs.instantiating.begin_plain.Goals as goal

-- the settings are those of the supplies
pub returns-in-Ok-new-clause-begins : goal.returns-in-Ok-new-clause-begins
returns-in-Ok-new-clause-begins c =
    let made = c.in-Ok-new.ensures in
    let new : PlainLiving = c.in-Ok-new.instance in
    let parts : HandleParts = given (settings_of c.args.supplies.now) c.in-Ok.volume c.args.supplies.now.input c.new-out.result c.new-err.result in
    record {
      known_limits = sym c.is_known.ensures ∙ c.if-not-is_known.false;
      volume = c.in-Ok.volume;
      is_volume = c.in-Ok.ensures.opens;
      out = c.new-out.result;
      err = c.new-err.result;
      no_output = c.new-out.ensures.none;
      no_errors = c.new-err.ensures.none;
      output_bound = c.new-out.ensures.most ∙ c.most_output-most.ensures;
      errors_bound = c.new-err.ensures.most ∙ c.most_output-most.ensures;
      values = ap (λ (t : PlainLiving). t.machine.most_values) c.limit_values.ensures
          ∙ (ap (λ (n : ℕ). max c.most_values.result n) made.opens.opens.room ∙ ap (λ (n : ℕ). max n 4097) c.most_values.ensures);
      opens = subst (λ (t : PlainLiving). Opens c.args.plugin.now.valid parts t) (sym c.limit_values.ensures)
          (opens_limited None None c.args.plugin.now.valid parts new _
          (subst (λ (s : Settings). Opens c.args.plugin.now.valid (given s c.in-Ok.volume c.args.supplies.now.input c.new-out.result c.new-err.result) new) c.settings-settings.ensures made.opens));
      shares = subst (λ (t : PlainLiving). Shares parts (session_of t)) (sym c.limit_values.ensures)
          (shares_limited known.device parts (session_of new) _
          (subst (λ (s : Settings). Shares (given s c.in-Ok.volume c.args.supplies.now.input c.new-out.result c.new-err.result) (session_of new)) c.settings-settings.ensures made.shares));
    }

pub returns-in-Err-new-clause-refused : goal.returns-in-Err-new-clause-refused
returns-in-Err-new-clause-refused c =
    inr (inl (inr (record {
      volume = c.in-Ok.volume;
      is_volume = c.in-Ok.ensures.opens;
      out = c.new-out.result;
      err = c.new-err.result;
      fault = c.in-Err-new.field-0.fault;
      refuses = subst (λ (s : Settings). IsRefused IsHonest c.in-Err-new.field-0.fault c.args.plugin.now.valid (given s c.in-Ok.volume c.args.supplies.now.input c.new-out.result c.new-err.result)) c.settings-settings.ensures c.in-Err-new.ensures.refused;
      no_device = no_device c.args.origin c.in-Ok.volume c.in-Err-new.field-0.parts.volume c.in-Err-new.field-0.fault c.in-Ok.ensures.opens c.in-Err-new.ensures.hands_back.volume;
      tells = c.session_number.ensures.number;
    })))
