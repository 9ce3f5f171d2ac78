use Rattle.std.proofs.Common.{length, sym, ap, subst, ◌∙◌, arith}
use Rattle.wasm_store.specs.Allocation.{with_embedder}
use Rattle.wasm_interp.specs.declared.state.State.{State}
use Rattle.wasm_interp.proofs.PlainSteps.Opening.{first_of}
use Rattle.wasm_interp.proofs.Linking.{links_again, limit_opened}
use Rattle.wasm_interp.proofs.begin.open_again.Goals as goal

pub returns-clause-opened : goal.returns-clause-opened
returns-clause-opened g c =
    let links = with_embedder (g.H.Host.links c.args.host.now) c.args.reserved.now in
    let r = c.args.prepared.now in
    let made = c.in_ok-memory.field-0 in
    let allocated = c.in_ok-memory.ensures.allocated in
    let k = c.requires.ready.opened in
    let stacks = c.in_ok-stacks.ensures in
    let first = c.first_state.ensures in
    record {
      tables = k.tables;
      first = first_of _ _ stacks (ap (λ (s : State). s.values) first) (ap (λ (s : State). s.suspended) first) (ap (λ (s : State). s.phase) first) (ap (λ (s : State). s.used) first) (ap (λ (s : State). s.most_values) first);
      made = made;
      allocated = allocated;
      calls = links_again links c.args.pages r made c.requires.linked allocated;
      limit = limit_opened links c.args.pages r made c.requires.ready allocated;
      memory = ap (λ (s : State). s.memory) first;
      table = ap (λ (s : State). s.table) first;
      globals = ap (λ (s : State). s.globals) first;
      pending = ap (λ (s : State). s.pending) first ∙ c.new-pending.ensures;
    }
