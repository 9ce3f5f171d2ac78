use Rattle.std.proofs.Common.{ℕ, refl, sym, ◌∙◌, subst}
use Rattle.wasm_interp.specs.Invoking.{Opens}
use Rattle.wasm_interp.specs.Shared.{Ready}
use Rattle.wasm_store.specs.Allocating.{NotAllocated}
use Rattle.sandbox_core.specs.declared.fault.SessionFault.{SessionFault}
use Rattle.sandbox_core.proofs.Refusing.{hands_back}
use Rattle.plugin_session.specs.Instance.{IsRefused, links}
use Rattle.plugin_session.proofs.Refusing.{by_instance, by_preopen}
use Rattle.plugin_session.proofs.instance.Instance.of_parts.Goals as goal

pub returns-in-Ok-preopen-clause-opens : goal.returns-in-Ok-preopen-clause-opens
returns-in-Ok-preopen-clause-opens g c =
    let made = c.in-Ok.ensures.made in
    let kept = c.preopen.ensures.streams in
    record {
      fits = made.fits;
      opens = subst (λ (pages : ℕ). Opens links pages c.args.plugin.now.valid c.in-Ok-open.machine) (sym c.requires)
          (subst (λ (r : Ready). Opens links r.pages r.valid c.in-Ok-open.machine) c.plugin.view_is c.in-Ok-open.ensures.opens);
      input = kept.input ∙ made.input;
      out = kept.out ∙ made.out;
      err = kept.err ∙ made.err;
      settings = kept.settings ∙ made.settings;
      supply = kept.generator ∙ made.generator;
      interactive = kept.interactive ∙ made.interactive;
      stage = refl;
    }

pub returns-in-Err-open-clause-refused : goal.returns-in-Err-open-clause-refused
returns-in-Err-open-clause-refused g c =
    let parts = c.args.parts in
    let fault = c.in-Err-open.fault in
    let refused = subst (λ (pages : ℕ). NotAllocated links pages c.args.plugin.now.valid fault) (sym c.requires)
    (subst (λ (r : Ready). NotAllocated links r.pages r.valid fault) c.plugin.view_is c.in-Err-open.ensures.refused) in
    subst (λ (f : SessionFault). IsRefused g.D.Device.honest f c.args.plugin.now.valid parts) (sym c.of_instance.ensures)
    (by_instance g.D.Device.honest c.args.plugin.now.valid parts c.in-Ok.ensures.made.fits fault refused)

pub returns-clause-hands_back : goal.returns-clause-hands_back
returns-clause-hands_back g c =
    let parts = c.args.parts in
    let no = c.in-Err-preopen in
    hands_back (Unit {0}) g.D.Device c.args.plugin.now.valid parts c.in-Ok.host c.preopen.new.self c.in-Ok.ensures.made no.ensures.streams
    no.fault no.ensures.reads no.ensures.refused c.into_parts-in-Err-preopen.result c.into_parts-in-Err-preopen.ensures
    c.of_host-in-Err-preopen.result c.of_host-in-Err-preopen.ensures

pub returns-clause-refused : goal.returns-clause-refused
returns-clause-refused g c =
    let parts = c.args.parts in
    let made = c.in-Ok.ensures.made in
    let opens = subst (λ (pages : ℕ). Opens links pages c.args.plugin.now.valid c.in-Ok-open.machine) (sym c.requires)
    (subst (λ (r : Ready). Opens links r.pages r.valid c.in-Ok-open.machine) c.plugin.view_is c.in-Ok-open.ensures.opens) in
    subst (λ (f : SessionFault). IsRefused g.D.Device.honest f c.args.plugin.now.valid parts) (sym c.of_host-in-Err-preopen.ensures)
    (by_preopen g.D.Device.honest c.args.plugin.now.valid parts made.fits c.in-Ok.host c.preopen.new.self made.volume made.settings
    (c.in-Ok-open.machine, opens) c.in-Err-preopen.fault c.in-Err-preopen.ensures.refused)
