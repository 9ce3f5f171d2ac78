use Rattle.std.proofs.Common.{◌≡◌, ℕ, ◌+◌, ◌≤◌, suc, refl, arith, ap, ◌∙◌, length, reverse, inl, inr, vec_len}
use Rattle.std.specs.Prelude.{◌⊎◌}
use Rattle.std.proofs.lemmas.Grind.{common_steps}
use Rattle.wasm_num.specs.declared.trap.Trap.TheVariants as traps
use Rattle.wasm_steps.specs.declared.pause.Outcome.TheVariants as ends
use Rattle.wasm_operands.specs.declared.phase.Phase.TheVariants.{Over as over}
use Rattle.wasm_interp.specs.declared.state.State.{State}
use Rattle.wasm_interp.specs.internal.Running.{flat_of, stopped, refused, entered, HasRoom}
use Rattle.wasm_interp.proofs.PlainSteps.Between.{room_phase, room_widened}
use Rattle.wasm_interp.proofs.PlainSteps.Frames.{called_into, machine_is}
use Rattle.wasm_interp.proofs.state.State.call_own.Goals as goal

-- one unit later there is as much room
one_later : (s : State) → HasRoom s → HasRoom (record s { used = s.used + 1 })
one_later s r = record { values = r.values; spare = r.spare; frames = r.frames; few = r.few; bound = r.bound }

-- too little room, beside as many values and frames
as_little : (values values' frames frames' locals room frame_room : ℕ) → values ≡ values' → frames ≡ frames' → (room ≤ values + locals) ⊎ (frame_room ≤ frames) → (room ≤ values' + locals) ⊎ (frame_room ≤ frames')
as_little values values' frames frames' locals room frame_room e f (inl h) = inl (omega (arith, e, h))
as_little values values' frames frames' locals room frame_room e f (inr h) = inr (omega (arith, f, h))

pub returns-then-len-eq-MOST_FRAMES : goal.returns-then-len-eq-MOST_FRAMES
returns-then-len-eq-MOST_FRAMES c =
    let s = c.args.self.now in
    let r = c.requires.room in
    let one : s.used + 1 ≡ suc s.used = omega arith in
    record {
      calls = stopped (omega (arith, c.if-len-eq-MOST_FRAMES.true, c.len.ensures)) (ap (λ (u : ℕ). record s { phase = over (ends.Trapped traps.CallStackExhausted); used = u }) one);
      room = record { values = r.values; spare = r.spare; frames = r.frames; few = r.few; bound = r.bound };
      most = refl;
    }

pub returns-then-not-make_room : goal.returns-then-not-make_room
returns-then-not-make_room c =
    let s = c.args.self.now in
    let wide = c.make_room.new.self in
    let w = c.make_room.ensures.kept in
    let new : State = record wide { phase = over ends.OutOfMemory } in
    let one : s.used + 1 ≡ suc s.used = omega arith in
    let values : vec_len wide.values ≡ vec_len s.values = omega (arith, ap length w.values, wide.values.ok.0, s.values.ok.0) in
    let frames : vec_len wide.suspended ≡ vec_len s.suspended = omega (arith, ap length w.suspended, wide.suspended.ok.0, s.suspended.ok.0) in
    record {
      calls = refused (λ e. c.if-len-eq-MOST_FRAMES.false (omega (arith, e, c.len.ensures))) (as_little _ _ _ _ _ _ _ values frames c.if-not-make_room.ensures.refused)
          (machine_is new (record (flat_of s) { used = suc s.used }) s.pending (over ends.OutOfMemory) (ap (λ (y : State). y.current) w.is) (ap reverse w.suspended) (ap reverse w.values) (ap (λ (y : State). y.memory) w.is) (ap (λ (y : State). y.table) w.is) (ap (λ (y : State). y.globals) w.is)
          (ap (λ (y : State). y.used) w.is ∙ one) (ap (λ (y : State). y.pending) w.is) refl);
      room = room_phase wide new refl (room_widened (record s { used = s.used + 1 }) wide w (one_later s c.requires.room));
      most = ap (λ (y : State). y.most_values) w.is;
    }

pub returns-clause-calls : goal.returns-clause-calls
returns-clause-calls c =
    let wide = c.make_room.new.self in
    let mid : State = record wide { values = c.remove.new.values; current = record wide.current { pc = wide.current.pc + 1 }; suspended = c.push_reserved.new.self } in
    let frames : vec_len c.begin.new.self.suspended ≡ vec_len c.push_reserved.new.self = ap (λ (s : State). vec_len s.suspended) c.begin.ensures.is in
    entered (λ e. c.if-len-eq-MOST_FRAMES.false (omega (arith, e, c.len.ensures)))
    (called_into c.args.self.now wide mid c.begin.new.self c.args.function c.args.signature c.args.above c.make_room.ensures.kept refl c.remove.ensures.removed c.push_reserved.ensures.items c.begin.ensures)
    (omega (arith, frames, c.push_reserved.ensures.len, ap length c.make_room.ensures.kept.suspended, wide.suspended.ok.0, c.args.self.now.suspended.ok.0))

pub begin-requires-clause-arguments : goal.begin-requires-clause-arguments
begin-requires-clause-arguments c = grind (arith, common_steps)

pub begin-requires-clause-room : goal.begin-requires-clause-room
begin-requires-clause-room c = grind (arith, common_steps)

pub remove-requires : goal.remove-requires
remove-requires c = grind (arith, common_steps)

pub returns-clause-room : goal.returns-clause-room
returns-clause-room c = grind (arith, common_steps)

pub returns-clause-most : goal.returns-clause-most
returns-clause-most c = ap (λ (y : State). y.most_values) c.begin.ensures.is ∙ ap (λ (y : State). y.most_values) c.make_room.ensures.kept.is
