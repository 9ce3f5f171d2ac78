use Rattle.std.proofs.Common.{ℕ, refl, sym, ap, subst, ◌∙◌}
use Rattle.wasm_interp.specs.Invocations.{OpensBy}
use Rattle.wasm_store.specs.Allocating.{NotAllocated}
use Rattle.sandbox_core.specs.declared.fault.SessionFault.{SessionFault}
use Rattle.sandbox_core.proofs.Refusing.{hands_back}
use Rattle.plugin_session.specs.States.{links}
use Rattle.fed_session.specs.Waiting.{FedReady, parts_at}
use Rattle.fed_session.specs.Feeding.{IsRefused, RepresentsWhole}
use Rattle.fed_session.proofs.Opening.{same_opened}
use Rattle.fed_session.proofs.Refusing.{by_instance, by_preopen}
use Rattle.fed_session.proofs.feeding.FedInstance.of_parts.Goals as goal

pub returns-in-Ok-preopen-clause-opens : goal.returns-in-Ok-preopen-clause-opens
returns-in-Ok-preopen-clause-opens g c =
    let p = c.args.plugin.now in
    let made = c.in-Ok.ensures.made in
    let kept = c.preopen.ensures.streams in (
      same_opened p.goes_on p.ready.valid c.args.parts _ _ c.of.ensures (record {
        fits = made.fits;
        opens = subst (λ (pages : ℕ). OpensBy (RepresentsWhole p.goes_on) links pages p.ready.valid c.in-Ok-open.machine) (sym c.requires) c.in-Ok-open.ensures.opens;
        input = kept.input ∙ made.input;
        out = kept.out ∙ made.out;
        err = kept.err ∙ made.err;
        settings = kept.settings ∙ made.settings;
        supply = kept.generator ∙ made.generator;
        interactive = kept.interactive ∙ made.interactive;
        stage = refl;
      }),
      ap (λ (r : FedReady). r.goes_on) c.plugin.view_is,
    )

pub returns-in-Err-open-clause-refused : goal.returns-in-Err-open-clause-refused
returns-in-Err-open-clause-refused g c =
    let p = c.args.plugin.now in
    let parts = c.args.parts in
    let fault = c.in-Err-open.fault in
    let refused = subst (λ (pages : ℕ). NotAllocated (parts_at p.goes_on) pages p.ready.valid fault) (sym c.requires) c.in-Err-open.ensures.refused in
    subst (λ (f : SessionFault). IsRefused p.goes_on g.D.Device.honest f p.ready.valid parts) (sym c.of_instance.ensures)
    (by_instance p.goes_on g.D.Device.honest p.ready.valid parts c.in-Ok.ensures.made.fits fault refused)

pub returns-clause-hands_back : goal.returns-clause-hands_back
returns-clause-hands_back g c =
    let parts = c.args.parts in
    let no = c.in-Err-preopen in
    hands_back (Unit {0}) g.D.Device c.args.plugin.now.ready.valid parts c.in-Ok.host c.preopen.new.self c.in-Ok.ensures.made no.ensures.streams
    no.fault no.ensures.reads no.ensures.refused c.into_parts-in-Err-preopen.result c.into_parts-in-Err-preopen.ensures
    c.of_host-in-Err-preopen.result c.of_host-in-Err-preopen.ensures

pub returns-clause-refused : goal.returns-clause-refused
returns-clause-refused g c =
    let p = c.args.plugin.now in
    let parts = c.args.parts in
    let made = c.in-Ok.ensures.made in
    let opens = subst (λ (pages : ℕ). OpensBy (RepresentsWhole p.goes_on) links pages p.ready.valid c.in-Ok-open.machine) (sym c.requires) c.in-Ok-open.ensures.opens in
    subst (λ (f : SessionFault). IsRefused p.goes_on g.D.Device.honest f p.ready.valid parts) (sym c.of_host-in-Err-preopen.ensures)
    (by_preopen p.goes_on g.D.Device.honest p.ready.valid parts made.fits c.in-Ok.host c.preopen.new.self made.volume made.settings
    (c.in-Ok-open.machine, opens) c.in-Err-preopen.fault c.in-Err-preopen.ensures.refused)
