use Rattle.std.proofs.Common.{sym, ap, subst, arith}
use Rattle.std.specs.Arc.{arc_value}
use Rattle.wasm_interp.specs.declared.state.State.{State}
use Rattle.wasm_interp.specs.internal.Running.{CanBeAnswered, IsLive, snapshot_of}
use Rattle.wasm_interp.proofs.invoking.InvokedMachine.limit_values.Goals as goal

pub limit_values-requires : goal.limit_values-requires
limit_values-requires c = omega (arith, c.self.invariant.live.room.values)

-- nothing else that the invariant speaks of has changed
pub invariant_of-self : goal.invariant_of-self
invariant_of-self c =
    let live = c.self.invariant.live in
    record {
      tables = c.self.invariant.tables;
      live = subst (λ (s : State). IsLive (arc_value c.self.inside.prepared) s) (sym c.limit_values.ensures) (record {
        program = live.program;
        is_program = live.is_program;
        configuration = live.configuration;
        stands = live.stands;
        room = record { values = live.room.values; spare = live.room.spare; frames = live.room.frames; few = live.room.few; bound = omega (arith, live.room.values) };
      });
      answers = subst CanBeAnswered (sym c.limit_values.ensures) c.self.invariant.answers;
    }

pub returns : goal.returns
returns c = rw (← c.self.view_is) (ap (snapshot_of (arc_value c.self.inside.prepared)) c.limit_values.ensures)
