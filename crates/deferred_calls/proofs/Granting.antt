-- A deferred call that the host answers is that of the whole instance.
use Rattle.std.proofs.Common.{◌≡◌, ℕ, suc, List, [], ◌++◌, reverse, slice_get, Option, Some, None, refl, sym, subst, ap, ◌∙◌}
use Rattle.wasm_syntax.specs.declared.module.FuncType.{FuncType}
use Rattle.wasm_syntax.specs.Nested.{Instructions, invoke}
use Rattle.wasm_store.specs.declared.call.HostCall.{HostCall}
use Rattle.wasm_store.specs.declared.call.Errno.{Errno}
use Rattle.wasm_store.specs.declared.call.Answer.TheVariants.{Value as value}
use Rattle.wasm_store.specs.Instances.{outside}
use Rattle.wasm_steps.specs.Configuration.{Val, numbers, Callee, imported, signature_of, Instance, Store, Code, code, Configuration, at}
use Rattle.wasm_steps.specs.Steps.{CallsOf, answers, silent, given, tick, Step, plain_step, call_step, call_indirect_step, host_answers, stays, goes}
use Rattle.wasm_steps.specs.Steps as steps
use Rattle.plugin_steps.specs.Serving.{Exchange, ServeStep}
use Rattle.plugin_steps.specs.Serving as serving
use Rattle.plugin_steps.specs.Asking.{Asks}
use Rattle.plugin_steps.specs.Asking as asking
use Rattle.deferred_calls.specs.Whole.{answered_by, whole_callee, whole}
use Rattle.deferred_calls.specs.Deferring.{AsksInTheWhole, GrantIsTheCall, ServesTheWhole}
use Rattle.deferred_calls.proofs.Whole.{callee_at, typed}

module _ (deferred : ℕ → Option HostCall) (i : Instance) where
  pub asks_whole : (x : ℕ) (s : Store) (c asked : Code) → Asks i x s c asked → Asks (whole deferred i) x s c asked
  asks_whole x s _ _ asking.by_call = asking.by_call
  asks_whole x s _ _ (asking.by_table {y = y} {c = c} element callee type) = asking.by_table element (callee_at deferred i x c callee) (typed deferred i y c type)
  asks_whole x s _ _ (asking.in_label {c = c} {c' = c'} inner) = asking.in_label (asks_whole x s c c' inner)
  asks_whole x s _ _ (asking.in_frame {c = c} {c' = c'} inner) = asking.in_frame (asks_whole x s c c' inner)

  pub serves_whole : (c d : Configuration) (e : Exchange) → deferred e.function ≡ None → ServeStep i c e d → ServeStep (whole deferred i) c e d
  serves_whole _ _ _ other (serving.serves {x = x} {k = k} {sg = sg} args vs results callee all count types longer) =
      serving.serves args vs results (subst (λ o. slice_get (whole deferred i).callees x ≡ Some (answered_by o sg k)) other (callee_at deferred i x (outside sg k) callee)) all count types longer
  serves_whole _ _ _ other (serving.in_label {s = s} {s' = s'} {f = f} {f' = f'} {c = c} {c' = c'} {e = e} inner) = serving.in_label (serves_whole (at s f c) (at s' f' c') e other inner)
  serves_whole _ _ _ other (serving.in_frame {s = s} {s' = s'} {g = g} {g' = g'} {c = c} {c' = c'} {e = e} inner) = serving.in_frame (serves_whole (at s g c) (at s' g' c') e other inner)

  module _ (H : Type 0) (Calls : CallsOf H) where
    -- the call takes its unit
    asks_steps : (x : ℕ) (h : H) (s : Store) (n : ℕ) (f : List Val) (c asked : Code) → Asks i x s c asked → Step H Calls (whole deferred i) n h (at s f c) silent h (at (tick s) f asked)
    asks_steps x h s n f _ _ asking.by_call = plain_step call_step
    asks_steps x h s n f _ _ (asking.by_table {y = y} {c = c} element callee type) = plain_step (call_indirect_step element (callee_at deferred i x c callee) (typed deferred i y c type))
    asks_steps x h s n f _ _ (asking.in_label {c = c} {c' = c'} inner) = steps.in_label (asks_steps x h s n f c c' inner)
    asks_steps x h s n f _ _ (asking.in_frame {g = g} {c = c} {c' = c'} inner) = steps.in_frame (asks_steps x h s (suc n) g c c' inner)

    module _ (call : HostCall) (e : Errno) (h h' : H) (x : ℕ) (sg : FuncType) where
      -- the type of a callee, or this one
      type_or : Option Callee → FuncType
      type_or None = sg
      type_or (Some c) = signature_of c

      type_is : (g : FuncType) (k l : ℕ) → slice_get i.callees x ≡ Some (outside sg k) → slice_get i.callees x ≡ Some (outside g l) → sg ≡ g
      unfolding type_or
      type_is g k l one other = ap (λ o. type_or o) (sym one ∙ other)

      -- here, whatever memory was left
      here : (n : ℕ) (s : Store) (m : List ℕ) (f all : List Val) (rest : Instructions) (y : Exchange) (d : Configuration)
          → slice_get i.callees x ≡ Some (outside sg y.function) → deferred y.function ≡ Some call → Calls h s.memory s.used call (numbers (reverse y.arguments)) h' y.left (value e) → y.results ≡ given sg.results e
          → ServeStep i (at (record s { memory = m }) f (code all (invoke x rest))) y d → Step H Calls (whole deferred i) n h (at s f (code all (invoke x rest))) (answers call e) h' d
      here n s m f all rest _ _ is deferring calls given_is (serving.serves {k = k} {memory = left} {sg = g} args vs results callee parts count types longer) =
          let same : sg ≡ g = type_is g k k is callee in
          let now = subst (λ o. slice_get (whole deferred i).callees x ≡ Some (answered_by o g k)) deferring (callee_at deferred i x (outside g k) callee) in
          let gives : given g.results e ≡ results = ap (λ t. given t.results e) (sym same) ∙ sym given_is in
          subst (λ zs. Step H Calls (whole deferred i) n h (at s f (code all (invoke x rest))) (answers call e) h' (at (record s { memory = left }) f (code (zs ++ vs) rest))) gives
          (host_answers args vs now parts count calls)

      inside : (s t : Store) (m : List ℕ) (n : ℕ) (f : List Val) (c asked : Code) (y : Exchange) (d : Configuration) → Asks i x t c asked
          → slice_get i.callees x ≡ Some (outside sg y.function) → deferred y.function ≡ Some call → Calls h s.memory s.used call (numbers (reverse y.arguments)) h' y.left (value e) → y.results ≡ given sg.results e
          → ServeStep i (at (record s { memory = m }) f asked) y d → Step H Calls (whole deferred i) n h (at s f asked) (answers call e) h' d
      inside s t m n f _ _ y d (asking.by_call {vs = vs} {rest = rest}) is deferring calls given_is served = here n s m f vs rest y d is deferring calls given_is served
      inside s t m n f _ _ y d (asking.by_table {vs = vs} {rest = rest} element callee type) is deferring calls given_is served = here n s m f vs rest y d is deferring calls given_is served
      inside s t m n f _ _ _ _ (asking.in_label {c = c} {c' = c'} asks) is deferring calls given_is (serving.in_label {s' = s'} {f' = f'} {c' = b} {e = y} inner) =
          steps.in_label (inside s t m n f c c' y (at s' f' b) asks is deferring calls given_is inner)
      inside s t m n f _ _ _ _ (asking.in_frame {c = c} {c' = c'} asks) is deferring calls given_is (serving.in_frame {s' = s'} {g = g} {g' = g'} {c' = b} {e = y} inner) =
          steps.in_frame (inside s t m (suc n) g c c' y (at s' g' b) asks is deferring calls given_is inner)

pub asks_in_the_whole : AsksInTheWhole
asks_in_the_whole = asks_whole

pub serves_the_whole : ServesTheWhole
serves_the_whole = serves_whole

pub grant_is_the_call : (H : Type 0) (Calls : CallsOf H) → GrantIsTheCall H Calls
grant_is_the_call H Calls deferred i h h' s f c call e d g = (
  at (tick s) f g.asked,
  goes silent [] (asks_steps deferred i H Calls g.function h s 0 f c g.asked g.asks) stays,
  inside deferred i H Calls call e h h' g.function g.func_type (tick s) s g.exchange.left 0 f c g.asked g.exchange d g.asks g.is_callee g.is_deferred g.answered g.results_are g.serves,
)
