-- Whatever step an instance that defers calls makes, the whole one makes it, too: the rules of calls alone look at a callee.
use Rattle.std.proofs.Common.{◌≡◌, ◌≢◌, ℕ, suc, List, map, slice_get, Option, Some, None, refl, sym, subst, ap, ◌∙◌}
use Rattle.std.proofs.lemmas.Option.{slice_get-map}
use Rattle.std.specs.Option.{option_map}
use Rattle.wasm_syntax.specs.declared.module.FuncType.{FuncType}
use Rattle.wasm_store.specs.declared.call.HostCall.{HostCall}
use Rattle.wasm_store.specs.declared.call.Errno.{Errno}
use Rattle.wasm_steps.specs.Configuration.{Val, Function, Callee, imported, own, signature_of, Instance, Store, Code, Configuration, at}
use Rattle.wasm_store.specs.Instances.{outside}
use Rattle.wasm_steps.specs.Steps.{CallsOf, Event, Reduces, AdminStep, Step, Reach, plain_step, free_step, host_answers, host_exits, in_label, in_frame, stays, goes}
use Rattle.wasm_steps.specs.Steps as steps
use Rattle.deferred_calls.specs.Whole.{answered_by, whole_callee, whole}
use Rattle.deferred_calls.specs.Deferring.{StepsOfTheWhole}

module _ (deferred : ℕ → Option HostCall) (i : Instance) where
  -- a callee of the whole instance
  pub callee_at : (x : ℕ) (c : Callee) → slice_get i.callees x ≡ Some c → slice_get (whole deferred i).callees x ≡ Some (whole_callee deferred c)
  callee_at x c is = slice_get-map (whole_callee deferred) i.callees x ∙ ap (λ o. option_map (whole_callee deferred) o) is

  by_answer : (o : Option HostCall) (f : FuncType) (k : ℕ) → signature_of (answered_by o f k) ≡ f
  by_answer None f k = refl
  by_answer (Some call) f k = refl

  -- its type is the same
  pub same_type : (c : Callee) → signature_of (whole_callee deferred c) ≡ signature_of c
  same_type (imported f call) = refl
  same_type (own f b) = refl
  same_type (outside f k) = by_answer (deferred k) f k

  -- what is called by the table has the same type
  pub typed : (y : ℕ) (c : Callee) → slice_get i.func_types y ≡ Some (signature_of c) → slice_get i.func_types y ≡ Some (signature_of (whole_callee deferred c))
  typed y c is = subst (λ g. slice_get i.func_types y ≡ Some g) (sym (same_type c)) is

  mistyped : (y : ℕ) (c : Callee) → slice_get i.func_types y ≢ Some (signature_of c) → slice_get i.func_types y ≢ Some (signature_of (whole_callee deferred c))
  mistyped y c is = subst (λ g. slice_get i.func_types y ≢ Some g) (sym (same_type c)) is

  reduces : (s s' : Store) (f f' : List Val) (c c' : Code) → Reduces i s f c s' f' c' → Reduces (whole deferred i) s f c s' f' c'
  reduces s _ f _ _ _ steps.unreachable_traps = steps.unreachable_traps
  reduces s _ f _ _ _ steps.nop_step = steps.nop_step
  reduces s _ f _ _ _ steps.block_step = steps.block_step
  reduces s _ f _ _ _ steps.loop_step = steps.loop_step
  reduces s _ f _ _ _ (steps.if_then_set a) = steps.if_then_set a
  reduces s _ f _ _ _ steps.if_then_zero = steps.if_then_zero
  reduces s _ f _ _ _ (steps.if_else_set a) = steps.if_else_set a
  reduces s _ f _ _ _ steps.if_else_zero = steps.if_else_zero
  reduces s _ f _ _ _ steps.br_if_stays = steps.br_if_stays
  reduces s _ f _ _ _ (steps.branches a) = steps.branches a
  reduces s _ f _ _ _ (steps.returns a) = steps.returns a
  reduces s _ f _ _ _ steps.call_step = steps.call_step
  reduces s _ f _ _ _ (steps.call_indirect_step {x = y} {a = x} {c = c} element callee type) = steps.call_indirect_step element (callee_at x c callee) (typed y c type)
  reduces s _ f _ _ _ (steps.call_undefined a) = steps.call_undefined a
  reduces s _ f _ _ _ (steps.call_uninitialized a) = steps.call_uninitialized a
  reduces s _ f _ _ _ (steps.call_mistyped {x = y} {a = x} {c = c} element callee type) = steps.call_mistyped element (callee_at x c callee) (mistyped y c type)
  reduces s _ f _ _ _ steps.drop_step = steps.drop_step
  reduces s _ f _ _ _ (steps.select_first a) = steps.select_first a
  reduces s _ f _ _ _ steps.select_second = steps.select_second
  reduces s _ f _ _ _ (steps.local_get_step a) = steps.local_get_step a
  reduces s _ f _ _ _ (steps.local_set_step a) = steps.local_set_step a
  reduces s _ f _ _ _ (steps.local_tee_step a) = steps.local_tee_step a
  reduces s _ f _ _ _ (steps.global_get_step a) = steps.global_get_step a
  reduces s _ f _ _ _ (steps.global_set_step a) = steps.global_set_step a
  reduces s _ f _ _ _ (steps.load_step a b) = steps.load_step a b
  reduces s _ f _ _ _ (steps.load_traps a b) = steps.load_traps a b
  reduces s _ f _ _ _ (steps.store_step a b) = steps.store_step a b
  reduces s _ f _ _ _ (steps.store_traps a b) = steps.store_traps a b
  reduces s _ f _ _ _ steps.size_step = steps.size_step
  reduces s _ f _ _ _ (steps.grows a) = steps.grows a
  reduces s _ f _ _ _ (steps.grows_not a) = steps.grows_not a
  reduces s _ f _ _ _ (steps.copy_step a b) = steps.copy_step a b
  reduces s _ f _ _ _ (steps.copy_traps a) = steps.copy_traps a
  reduces s _ f _ _ _ (steps.fill_step a) = steps.fill_step a
  reduces s _ f _ _ _ (steps.fill_traps a) = steps.fill_traps a
  reduces s _ f _ _ _ steps.i32_const_step = steps.i32_const_step
  reduces s _ f _ _ _ steps.i64_const_step = steps.i64_const_step
  reduces s _ f _ _ _ steps.eqz_step = steps.eqz_step
  reduces s _ f _ _ _ steps.compare_step = steps.compare_step
  reduces s _ f _ _ _ steps.unary_step = steps.unary_step
  reduces s _ f _ _ _ (steps.binary_step a) = steps.binary_step a
  reduces s _ f _ _ _ (steps.binary_traps a) = steps.binary_traps a
  reduces s _ f _ _ _ steps.wrap_step = steps.wrap_step
  reduces s _ f _ _ _ steps.extend_signed = steps.extend_signed
  reduces s _ f _ _ _ steps.extend_unsigned = steps.extend_unsigned
  reduces s _ f _ _ _ steps.f32_const_step = steps.f32_const_step
  reduces s _ f _ _ _ steps.f64_const_step = steps.f64_const_step
  reduces s _ f _ _ _ (steps.float_step args a b c) = steps.float_step args a b c
  reduces s _ f _ _ _ (steps.float_traps args vs a b c) = steps.float_traps args vs a b c

  enters : (n : ℕ) (c c' : Code) → AdminStep i n c c' → AdminStep (whole deferred i) n c c'
  enters n _ _ (steps.invokes {x = x} {sg = sg} {b = b} args callee room all count) = steps.invokes args (callee_at x (own sg b) callee) room all count
  enters n _ _ (steps.exhausted {x = x} {sg = sg} {b = b} callee full) = steps.exhausted (callee_at x (own sg b) callee) full
  enters n _ _ steps.leaves_label = steps.leaves_label
  enters n _ _ steps.leaves_frame = steps.leaves_frame
  enters n _ _ steps.stops_label = steps.stops_label
  enters n _ _ steps.stops_frame = steps.stops_frame

  module _ (H : Type 0) (Calls : CallsOf H) where
    pub step : (n : ℕ) (h h' : H) (c d : Configuration) (ev : Event) → Step H Calls i n h c ev h' d → Step H Calls (whole deferred i) n h c ev h' d
    step n h h' _ _ _ (plain_step {s = s} {s' = s'} {f = f} {f' = f'} {c = c} {c' = c'} r) = plain_step (reduces s s' f f' c c' r)
    step n h h' _ _ _ (free_step {c = c} {c' = c'} e) = free_step (enters n c c' e)
    step n h h' _ _ _ (host_answers {x = x} {call = call} {sg = sg} args vs callee all count calls) = host_answers args vs (callee_at x (imported sg call) callee) all count calls
    step n h h' _ _ _ (host_exits {x = x} {call = call} {sg = sg} args vs callee all count calls) = host_exits args vs (callee_at x (imported sg call) callee) all count calls
    step n h h' _ _ _ (in_label {s = s} {s' = s'} {f = f} {f' = f'} {c = c} {c' = c'} {ev = ev} inner) = in_label (step n h h' (at s f c) (at s' f' c') ev inner)
    step n h h' _ _ _ (in_frame {s = s} {s' = s'} {g = g} {g' = g'} {c = c} {c' = c'} {ev = ev} inner) = in_frame (step (suc n) h h' (at s g c) (at s' g' c') ev inner)

    pub reach : (h h' : H) (c d : Configuration) (es : List (HostCall × Errno)) → Reach H Calls i h c es h' d → Reach H Calls (whole deferred i) h c es h' d
    reach h h' c d _ stays = stays
    reach h h' c d _ (goes {h' = g} {c' = b} ev es s rest) = goes ev es (step 0 h g c b ev s) (reach g h' b d es rest)

pub steps_of_the_whole : (H : Type 0) (Calls : CallsOf H) → StepsOfTheWhole H Calls
steps_of_the_whole H Calls deferred i h h' c d es run = reach deferred i H Calls h h' c d es run
