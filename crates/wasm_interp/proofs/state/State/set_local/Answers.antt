use Rattle.std.proofs.Common.{refl, sym, ap, subst}
use Rattle.wasm_interp.specs.declared.state.State.{State}
use Rattle.wasm_interp.specs.internal.Running.{Stays}
use Rattle.wasm_interp.proofs.state.State.set_local.Goals as goal

pub returns-clause-stays : goal.returns-clause-stays
returns-clause-stays c = subst (λ (s : State). Stays c.args.self.now s) (sym c.go_on.ensures) refl

pub returns-clause-used : goal.returns-clause-used
returns-clause-used c = ap (λ (s : State). s.used) c.go_on.ensures
