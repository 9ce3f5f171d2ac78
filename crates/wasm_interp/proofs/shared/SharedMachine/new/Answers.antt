use Rattle.std.proofs.Common.{◌∙◌, sym, subst}
use Rattle.std.specs.Arc.{arc_value}
use Rattle.wasm_places.specs.declared.tables.Prepared.{Prepared}
use Rattle.wasm_store.specs.NotStarting.{RefusedFor}
use Rattle.wasm_interp.specs.Promise.{Starts}
use Rattle.wasm_interp.specs.internal.Running.{IsMachine, snapshot_of}
use Rattle.wasm_interp.proofs.PlainSteps.First.{first_machine, starts}
use Rattle.wasm_interp.proofs.shared.SharedMachine.new.Goals as goal

-- what is said of the module that is lent is said of the shared one
pub invariant_of-result : goal.invariant_of-result
invariant_of-result g c =
    subst (λ (r : Prepared). IsMachine r c.in-Ok.state) (c.deref.ensures ∙ sym c.in_ok-prepared.ensures)
    (first_machine (g.H.Host.links c.args.host.now) c.ready.inside.pages c.deref.result.now.valid (record { tables = c.deref.result.now.tables; state = c.in-Ok.state }) c.in-Ok.ensures.begun)

pub returns-clause-starts : goal.returns-clause-starts
returns-clause-starts g c =
    let links = g.H.Host.links c.args.host.now in
    let pages = c.ready.inside.pages in
    let state = c.in-Ok.state in
    let lent = c.deref.result.now in
    let ready = arc_value c.ready.inside.prepared in
    rw (← c.ready.view_is) (subst (λ (r : Prepared). Starts links pages ready.valid (snapshot_of r state)) (sym c.in_ok-prepared.ensures)
    (subst (λ (r : Prepared). Starts links pages r.valid (snapshot_of r state)) c.deref.ensures
    (starts links pages lent.valid (record { tables = lent.tables; state = state }) c.in-Ok.ensures.begun)))

pub returns-in-Err-clause-refused : goal.returns-in-Err-clause-refused
returns-in-Err-clause-refused g c =
    rw (← c.ready.view_is) (subst (λ (r : Prepared). RefusedFor (g.H.Host.links c.args.host.now) c.ready.inside.pages r.valid c.in-Err.fault) c.deref.ensures c.in-Err.ensures.refused)

pub returns-clause-most : goal.returns-clause-most
returns-clause-most g c = c.in-Ok.ensures.begun.first.most
