use Rattle.std.proofs.Common.{length, sym, ap, subst, ◌∙◌, arith}
use Rattle.wasm_interp.specs.declared.state.State.{State}
use Rattle.wasm_interp.proofs.PlainSteps.Opening.{first_of}
use Rattle.wasm_interp.proofs.Linking.{calls_again, limit_again}
use Rattle.wasm_interp.proofs.begin.begin_again.Goals as goal

pub returns-clause-begun : goal.returns-clause-begun
returns-clause-begun g c =
    let links = g.H.Host.links c.args.host.now in
    let r = c.args.prepared.now in
    let made = c.in_ok-memory.field-0 in
    let instantiated = c.in_ok-memory.ensures.instantiated in
    let k = c.requires.ready.begun in
    let stacks = c.in_ok-stacks.ensures in
    let first = c.first_state.ensures in
    record {
      tables = k.tables;
      first = first_of _ _ stacks (ap (λ (s : State). s.values) first) (ap (λ (s : State). s.suspended) first) (ap (λ (s : State). s.phase) first) (ap (λ (s : State). s.used) first) (ap (λ (s : State). s.most_values) first);
      made = made;
      instantiated = instantiated;
      calls = calls_again links c.args.pages r made c.requires.linked instantiated;
      limit = limit_again links c.args.pages r made c.requires.ready instantiated;
      memory = ap (λ (s : State). s.memory) first;
      table = ap (λ (s : State). s.table) first;
      globals = ap (λ (s : State). s.globals) first;
      pending = ap (λ (s : State). s.pending) first ∙ c.new.ensures;
    }
