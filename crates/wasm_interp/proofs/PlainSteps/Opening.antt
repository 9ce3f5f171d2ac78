-- The state of an instance before its first step.
use Rattle.std.proofs.Common.{◌≡◌, ℕ, ◌∙◌, [], length, ap, arith}
use Rattle.std.specs.Global.{Vec}
use Rattle.std.specs.Prelude.{vec_len, vec_capacity}
use Rattle.wasm_operands.specs.declared.activation.Activation.{Activation}
use Rattle.wasm_places.specs.declared.lookups.Stacks.{Stacks}
use Rattle.wasm_operands.specs.declared.phase.Phase.TheVariants.{Between}
use Rattle.wasm_interp.specs.declared.state.State.{State}
use Rattle.wasm_places.specs.internal.Lookups.{AreEmpty}
use Rattle.wasm_interp.specs.internal.Begun.{IsFirst}

-- over empty stacks
pub first_of : (stacks : Stacks) (s : State) → AreEmpty stacks → s.values ≡ stacks.values → s.suspended ≡ stacks.suspended → s.phase ≡ Between → s.used ≡ 0 → s.most_values ≡ 134217728 → IsFirst s
first_of stacks s empty values suspended phase used most =
    let room : vec_capacity s.values ≡ 4098 = ap (λ (v : Vec ℕ). vec_capacity v) values ∙ empty.room in
    let frames : vec_capacity s.suspended ≡ vec_capacity stacks.suspended = ap (λ (v : Vec Activation). vec_capacity v) suspended in
    let no_values : s.values.items ≡ [] = ap (λ (v : Vec ℕ). v.items) values ∙ empty.values in
    let no_frames : s.suspended.items ≡ [] = ap (λ (v : Vec Activation). v.items) suspended ∙ empty.suspended in
    record {
      values = no_values;
      suspended = no_frames;
      phase = phase;
      used = used;
      room = record {
        values = omega (arith, room);
        spare = omega (arith, room, ap length no_values, s.values.ok.0);
        frames = omega (arith, frames, empty.frames);
        few = omega (arith, ap length no_frames, s.suspended.ok.0);
        bound = omega (arith, room, most);
      };
      reserved = room;
      most = most;
    }
