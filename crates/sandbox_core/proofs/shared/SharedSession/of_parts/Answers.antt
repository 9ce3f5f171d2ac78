use Rattle.std.proofs.Common.{ℕ, sym, ◌∙◌, subst}
use Rattle.wasm_interp.specs.Promise.{Starts}
use Rattle.wasm_interp.specs.Shared.{Ready}
use Rattle.wasm_store.specs.NotStarting.{RefusedFor}
use Rattle.wasi_calls.specs.host.Links.{link}
use Rattle.sandbox_core.specs.Session.{IsRefused}
use Rattle.sandbox_core.specs.declared.fault.SessionFault.{SessionFault}
use Rattle.sandbox_core.proofs.Refusing.{by_instance, by_preopen, hands_back}
use Rattle.sandbox_core.proofs.shared.SharedSession.of_parts.Goals as goal

pub returns-in-Ok-preopen-clause-opens : goal.returns-in-Ok-preopen-clause-opens
returns-in-Ok-preopen-clause-opens g c =
    let made = c.in-Ok.ensures.made in
    let kept = c.preopen.ensures.streams in
    record {
      fits = made.fits;
      starts = subst (λ (pages : ℕ). Starts link pages c.args.shared.now.valid c.in-Ok-new.machine) (sym c.requires)
          (subst (λ (r : Ready). Starts link r.pages r.valid c.in-Ok-new.machine) c.shared.view_is c.in-Ok-new.ensures.starts);
      input = kept.input ∙ made.input;
      out = kept.out ∙ made.out;
      err = kept.err ∙ made.err;
      settings = kept.settings ∙ made.settings;
      supply = kept.generator ∙ made.generator;
      interactive = kept.interactive ∙ made.interactive;
    }

pub returns-in-Err-new-clause-refused : goal.returns-in-Err-new-clause-refused
returns-in-Err-new-clause-refused g c =
    let parts = c.args.parts in
    let fault = c.in-Err-new.fault in
    let refused = subst (λ (pages : ℕ). RefusedFor link pages c.args.shared.now.valid fault) (sym c.requires)
    (subst (λ (r : Ready). RefusedFor link r.pages r.valid fault) c.shared.view_is c.in-Err-new.ensures.refused) in
    subst (λ (f : SessionFault). IsRefused g.D.Device.honest f c.args.shared.now.valid parts) (sym c.of_instance.ensures)
    (by_instance g.D.Device.honest c.args.shared.now.valid parts c.in-Ok.ensures.made.fits fault refused)

pub returns-clause-hands_back : goal.returns-clause-hands_back
returns-clause-hands_back g c =
    let parts = c.args.parts in
    let no = c.in-Err-preopen in
    hands_back (Unit {0}) g.D.Device c.args.shared.now.valid parts c.in-Ok.host c.preopen.new.self c.in-Ok.ensures.made no.ensures.streams
    no.fault no.ensures.reads no.ensures.refused c.into_parts-in-Err-preopen.result c.into_parts-in-Err-preopen.ensures
    c.of_host-in-Err-preopen.result c.of_host-in-Err-preopen.ensures

pub returns-clause-refused : goal.returns-clause-refused
returns-clause-refused g c =
    let parts = c.args.parts in
    let made = c.in-Ok.ensures.made in
    let starts = subst (λ (pages : ℕ). Starts link pages c.args.shared.now.valid c.in-Ok-new.machine) (sym c.requires)
    (subst (λ (r : Ready). Starts link r.pages r.valid c.in-Ok-new.machine) c.shared.view_is c.in-Ok-new.ensures.starts) in
    subst (λ (f : SessionFault). IsRefused g.D.Device.honest f c.args.shared.now.valid parts) (sym c.of_host-in-Err-preopen.ensures)
    (by_preopen g.D.Device.honest c.args.shared.now.valid parts made.fits c.in-Ok.host c.preopen.new.self made.volume made.settings
    (c.in-Ok-new.machine, starts) c.in-Err-preopen.fault c.in-Err-preopen.ensures.refused)
