use Rattle.std.proofs.Common.{sym, ◌∙◌, subst}
use Rattle.wasm_syntax.specs.declared.module.Module.{Module}
use Rattle.sandbox_core.specs.Session.{HandsBack, IsRefused}
use Rattle.sandbox_core.specs.declared.fault.SessionFault.{SessionFault}
use Rattle.sandbox_core.proofs.Refusing.{by_instance, by_preopen, hands_back}
use Rattle.sandbox_core.proofs.session.Session.of_parts.Goals as goal

pub returns-in-Ok-preopen-clause-opens : goal.returns-in-Ok-preopen-clause-opens
returns-in-Ok-preopen-clause-opens g c =
    let made = c.in-Ok.ensures.made in
    let kept = c.preopen.ensures.streams in
    record {
      fits = made.fits;
      starts = c.in-Ok-new.ensures.starts;
      input = kept.input ∙ made.input;
      out = kept.out ∙ made.out;
      err = kept.err ∙ made.err;
      settings = kept.settings ∙ made.settings;
      supply = kept.generator ∙ made.generator;
      interactive = kept.interactive ∙ made.interactive;
    }

pub returns-in-Err-new-clause-refused : goal.returns-in-Err-new-clause-refused
returns-in-Err-new-clause-refused g c =
    let parts = c.args.parts in
    subst (λ (f : SessionFault). IsRefused g.D.Device.honest f c.args.valid parts) (sym c.of_instance.ensures)
    (by_instance g.D.Device.honest c.args.valid parts c.in-Ok.ensures.made.fits c.in-Err-new.field-0.fault c.in-Err-new.ensures.refused.1)

pub returns-in-Err-preopen-clause-refused : goal.returns-in-Err-preopen-clause-refused
returns-in-Err-preopen-clause-refused g c =
    let parts = c.args.parts in
    let made = c.in-Ok.ensures.made in
    subst (λ (f : SessionFault). IsRefused g.D.Device.honest f c.args.valid parts) (sym c.of_host-in-Err-preopen.ensures)
    (by_preopen g.D.Device.honest c.args.valid parts made.fits c.in-Ok.host c.preopen.new.self made.volume made.settings
    (c.in-Ok-new.machine, c.in-Ok-new.ensures.starts) c.in-Err-preopen.fault c.in-Err-preopen.ensures.refused)

pub returns-in-Err-preopen-clause-hands_back : goal.returns-in-Err-preopen-clause-hands_back
returns-in-Err-preopen-clause-hands_back g c =
    let parts = c.args.parts in
    let no = c.in-Err-preopen in
    let back = c.into_parts-in-Err-preopen.result in
    let fault = c.of_host-in-Err-preopen.result in
    subst (λ (m : Module). HandsBack g.D.Device c.args.valid parts (record { valid = m; parts = back; fault = fault }))
    (sym (c.into_valid.ensures ∙ c.in-Ok-new.ensures.starts.module_is))
    (hands_back (Unit {0}) g.D.Device c.args.valid parts c.in-Ok.host c.preopen.new.self c.in-Ok.ensures.made no.ensures.streams
    no.fault no.ensures.reads no.ensures.refused back c.into_parts-in-Err-preopen.ensures fault c.of_host-in-Err-preopen.ensures)
