use Rattle.std.proofs.Common.{sym, subst}
use Rattle.wasm_store.specs.Allocation.{with_embedder}
use Rattle.wasm_places.specs.declared.tables.Prepared.{Prepared}
use Rattle.wasm_interp.specs.internal.Begun.{IsReadyToOpen}
use Rattle.wasm_interp.proofs.Making.{open_made, opened_has}
use Rattle.wasm_interp.proofs.plugin.PreparedPlugin.new.Goals as goal

pub make_all_entries-requires : goal.make_all_entries-requires
make_all_entries-requires g c = opened_has (with_embedder (g.H.Host.links c.args.host.now) c.args.reserved.now) c.args.pages (record { valid = c.args.valid; tables = c.in-Ok.begun.tables }) c.in-Ok.begun.state c.in-Ok.ensures.opened

-- the tables are those that were made for an instance, with all entries
pub invariant_of-result : goal.invariant_of-result
invariant_of-result g c =
    subst (λ (r : Prepared). IsReadyToOpen r c.args.pages) (sym c.in-Ok-new.ensures.ok)
    (open_made (with_embedder (g.H.Host.links c.args.host.now) c.args.reserved.now) c.args.pages (record { valid = c.args.valid; tables = c.in-Ok.begun.tables }) c.make_all_entries.new.guest c.in-Ok.begun.state c.make_all_entries.ensures c.in-Ok.ensures.opened)
