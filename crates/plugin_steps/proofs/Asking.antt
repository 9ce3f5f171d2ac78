-- A call of an embedder's function is a step over any memory.
use Rattle.std.proofs.Common.{ℕ, suc, List, []}
use Rattle.wasm_steps.specs.Configuration.{Val, Instance, Store, Code, at}
use Rattle.wasm_steps.specs.Steps.{CallsOf, tick, silent, Step, plain_step, call_step, call_indirect_step, stays, goes}
use Rattle.wasm_steps.specs.Steps as steps
use Rattle.plugin_steps.specs.Embedding as embedding
use Rattle.plugin_steps.specs.Asking.{Asks}
use Rattle.plugin_steps.specs.Embedding.{AnswersWhereAsked}
use Rattle.plugin_steps.specs.Asking as asking

module _ (H : Type 0) (Calls : CallsOf H) where
  asks_steps : (i : Instance) (x : ℕ) (h : H) (s : Store) (n : ℕ) (f : List Val) (c c' : Code) → Asks i x s c c' → Step H Calls i n h (at s f c) silent h (at (tick s) f c')
  asks_steps i x h s n f _ _ asking.by_call = plain_step call_step
  asks_steps i x h s n f _ _ (asking.by_table element callee same) = plain_step (call_indirect_step element callee same)
  asks_steps i x h s n f _ _ (asking.in_label {c = c} {c' = c'} a) = steps.in_label (asks_steps i x h s n f c c' a)
  asks_steps i x h s n f _ _ (asking.in_frame {g = g} {c = c} {c' = c'} a) = steps.in_frame (asks_steps i x h s (suc n) g c c' a)

  pub answers_where_asked : AnswersWhereAsked H Calls
  answers_where_asked i x h s f c c' m e d a longer left served =
      embedding.resumes (goes silent [] (asks_steps i x h s 0 f c c' a) stays) (embedding.answers m e longer left served embedding.stops)
