-- What the embedder wrote since it was asked is part of the step that its answer makes.
use Rattle.std.proofs.Common.{ℕ, ◌≤◌, List, length, refl, arith}
use Rattle.wasm_steps.specs.Configuration.{Val, Instance, Store, Code, Configuration, at}
use Rattle.wasm_steps.specs.Steps.{CallsOf}
use Rattle.plugin_steps.specs.Serving.{Exchange, ServeStep, with_memory, ServingTakesNoUnit}
use Rattle.plugin_steps.specs.Serving as serving
use Rattle.plugin_steps.specs.Talks.{Talk}
use Rattle.plugin_steps.specs.Talks as talks
use Rattle.plugin_steps.specs.Lives.{invocation, rests, invokes}
use Rattle.plugin_steps.specs.Embedding.{Does, OneLife, OneTalk}
use Rattle.plugin_steps.specs.Embedding as embedding

pub free : ServingTakesNoUnit
free i _ _ _ (serving.serves args vs results callee is count typed longer) = refl
free i _ _ _ (serving.in_label {s = s} {s' = s'} {f = f} {f' = f'} {c = c} {c' = c'} {e = e} inner) = free i (at s f c) (at s' f' c') e inner
free i _ _ _ (serving.in_frame {s = s} {s' = s'} {g = g} {g' = g'} {c = c} {c' = c'} {e = e} inner) = free i (at s g c) (at s' g' c') e inner

pub absorbs : (i : Instance) (s : Store) (f : List Val) (c : Code) (m : List ℕ) (x : Exchange) (d : Configuration)
    → length s.memory ≤ length m → ServeStep i (at (record s { memory = m }) f c) x d
    → ServeStep i (at s f c) (record x { memory = s.memory }) d
absorbs i s f _ m _ _ longer (serving.serves args vs results callee is count typed more) =
    serving.serves args vs results callee is count typed (omega (arith, longer, more))
absorbs i s f _ m _ _ longer (serving.in_label {s' = s'} {f' = f'} {c = c} {c' = c'} {e = e} inner) =
    serving.in_label (absorbs i s f c m e (at s' f' c') longer inner)
absorbs i s f _ m _ _ longer (serving.in_frame {s' = s'} {g = g} {g' = g'} {c = c} {c' = c'} {e = e} inner) =
    serving.in_frame (absorbs i s g c m e (at s' g' c') longer inner)

module _ (H : Type 0) (Calls : CallsOf H) where
  pub one_talk : OneTalk H Calls
  one_talk i h h' c d _ _ embedding.stops = talks.ends
  one_talk i h h' c d _ _ (embedding.resumes {h' = g} {d = b} {es = es} {fs = fs} {xs = xs} run rest) = talks.runs run (one_talk i g h' b d fs xs rest)
  one_talk i h h' (at s f c) d _ _ (embedding.answers {d = b} {es = es} {xs = xs} m x longer left step rest) =
      talks.serves (record x { memory = s.memory }) (absorbs i s f c m x b longer step) (one_talk i h h' b d es xs rest)

  pub one_life : OneLife H Calls
  one_life m i h h' s s' _ rests = rests
  one_life m i h h' s s' _ (invokes {h' = g} {s' = w} {d = d} {vs = vs} v writes exported typed run ends rest) =
      invokes v writes exported typed (one_talk i h g (invocation w v.arguments v.function) d v.calls v.exchanges run) ends (one_life m i g h' _ s' vs rest)
