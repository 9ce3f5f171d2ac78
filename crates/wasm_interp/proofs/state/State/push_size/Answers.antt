use Rattle.std.proofs.Common.{Ok, refl, sym, subst}
use Rattle.wasm_interp.specs.declared.state.State.{State}
use Rattle.wasm_interp.specs.internal.Running.{Pushes}
use Rattle.wasm_interp.proofs.state.State.push_size.Goals as goal

pub returns-clause-pushes : goal.returns-clause-pushes
returns-clause-pushes c = subst (λ (s : State). Pushes c.args.self.now s (Ok tt)) (sym c.go_on.ensures) (record { stays = refl; used = refl; full = tt; spare = c.push.ensures.spare; room = c.push.ensures.room; bound = c.push.ensures.bound })
