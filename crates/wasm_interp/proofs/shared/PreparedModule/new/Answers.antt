use Rattle.std.proofs.Common.{sym, subst}
use Rattle.wasm_places.specs.declared.tables.Prepared.{Prepared}
use Rattle.wasm_interp.specs.internal.Begun.{IsReady}
use Rattle.wasm_interp.proofs.Making.{begun_has, ready_made}
use Rattle.wasm_interp.proofs.shared.PreparedModule.new.Goals as goal

pub make_all_entries-requires : goal.make_all_entries-requires
make_all_entries-requires g c = begun_has (g.H.Host.links c.args.host.now) c.args.pages (record { valid = c.args.valid; tables = c.in-Ok.begun.tables }) c.in-Ok.begun.state c.in-Ok.ensures.begun

-- the tables are those that were made for a machine, with all entries
pub invariant_of-result : goal.invariant_of-result
invariant_of-result g c =
    subst (λ (r : Prepared). IsReady r c.args.pages) (sym c.in-Ok-new.ensures.ok)
    (ready_made (g.H.Host.links c.args.host.now) c.args.pages (record { valid = c.args.valid; tables = c.in-Ok.begun.tables }) c.make_all_entries.new.guest c.in-Ok.begun.state c.make_all_entries.ensures c.in-Ok.ensures.begun)
