use Rattle.std.proofs.Common.{◌≡◌, ◌<◌, ◌^◌, sym, subst, ℕ}
use Rattle.wasm_interp.specs.Invoking.{IsAsking}
use Rattle.plugin_session.specs.States.{InstanceState}
use Rattle.plugin_session.specs.Deferring.{GivesErrno}
use Rattle.plugin_session.proofs.Granting.{taken}
use Rattle.plugin_session.proofs.instance.Instance.grant.Goals as goal

-- an i32 is an answer
pub unreachable-requires-in-Err : goal.unreachable-requires-in-Err
unreachable-requires-in-Err g c =
    let offered = c.in-Some.ensures.offered in
    let small : c.from.result < 2 ^ 32 = subst (λ (n : ℕ). n < 2 ^ 32) (sym c.from.ensures) c.from-number.type_inv in
    let asking : IsAsking c.self.inside.machine = subst (λ (s : InstanceState g.row.D.Denot g.row.R.Denot g.row.W1.Denot g.row.W2.Denot). IsAsking s.machine) (sym c.self.view_is) c.requires.asked in
    let typed : GivesErrno c.self.inside.machine = subst (λ (s : InstanceState g.row.D.Denot g.row.R.Denot g.row.W1.Denot g.row.W2.Denot). GivesErrno s.machine) (sym c.self.view_is) c.requires.typed in
    taken c.self.inside.machine c.offer.new.self offered.memory c.from.result c.in-Err.field-0 offered.left.is small asking typed c.in-Err.ensures.refused.1
