use Rattle.std.proofs.Common.{◌≡◌, ℕ, ◌+◌, suc, refl, ap, arith}
use Rattle.std.proofs.lemmas.Grind.{common_steps}
use Rattle.wasm_store.specs.declared.call.Answer.TheVariants.{Value, Exit}
use Rattle.wasm_interp.specs.declared.state.State.{State}
use Rattle.wasm_interp.proofs.state.State.call_import.Goals as goal

pub returns-in-Value : goal.returns-in-Value
returns-in-Value g c =
    let mid : State = record c.args.self.now { values = c.remove.new.values; used = c.args.self.now.used + 1 } in
    let one : c.args.self.now.used + 1 ≡ suc c.args.self.now.used = omega arith in
    record {
      before = mid;
      after = c.ask.new.self;
      answer = Value c.in-Value.errno;
      before_is = ap (λ (u : ℕ). record mid { used = u }) one;
      removed = c.remove.ensures.removed;
      room = c.remove.ensures.room;
      asked = c.in-Value.ensures;
      leads = (refl, refl);
    }

pub returns-in-Exit : goal.returns-in-Exit
returns-in-Exit g c =
    let mid : State = record c.args.self.now { values = c.remove.new.values; used = c.args.self.now.used + 1 } in
    let one : c.args.self.now.used + 1 ≡ suc c.args.self.now.used = omega arith in
    record {
      before = mid;
      after = c.ask.new.self;
      answer = Exit c.in-Exit.status;
      before_is = ap (λ (u : ℕ). record mid { used = u }) one;
      removed = c.remove.ensures.removed;
      room = c.remove.ensures.room;
      asked = c.in-Exit.ensures;
      leads = (c.exit.ensures.is, c.exit.ensures.pause);
    }

pub ask-requires-clause-arguments : goal.ask-requires-clause-arguments
ask-requires-clause-arguments c = grind (arith, common_steps)

pub ask-requires-clause-room : goal.ask-requires-clause-room
ask-requires-clause-room c = grind (arith, common_steps)
