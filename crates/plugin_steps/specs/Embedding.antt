-- What an embedder does inside one invocation, and the one run that it is.
use Rattle.std.specs.Prelude.{◌≡◌, ℕ, ◌≤◌, List, [], ◌∷◌, ◌++◌, length}
use Rattle.wasm_syntax.specs.declared.module.Module.{Module}
use Rattle.wasm_store.specs.declared.call.HostCall.{HostCall}
use Rattle.wasm_store.specs.declared.call.Errno.{Errno}
use Rattle.wasm_steps.specs.Configuration.{Val, Instance, Store, Code, Configuration, at, store_of}
use Rattle.wasm_steps.specs.Steps.{CallsOf, Reach, tick}
use Rattle.plugin_steps.specs.Serving.{Exchange, ServeStep, with_memory}
use Rattle.plugin_steps.specs.Talks.{Talk}
use Rattle.plugin_steps.specs.Asking.{Asks}
use Rattle.plugin_steps.specs.Lives.{Invocation, LivesBy}

module _ (H : Type 0) (Calls : CallsOf H) (i : Instance) where
  -- What the embedder does: it resumes; and where it is asked, it leaves memory as it likes and answers: the answer itself
  -- changes no memory.
  pub data Does : H → Configuration → List (HostCall × Errno) → List Exchange → H → Configuration → Type 0 where
    stops : {h : H} {c : Configuration} → Does h c [] [] h c
    resumes : {h h' h'' : H} {c d e : Configuration} {es fs : List (HostCall × Errno)} {xs : List Exchange} → Reach H Calls i h c es h' d → Does h' d fs xs h'' e → Does h c (es ++ fs) xs h'' e
    answers : {h h' : H} {c d e : Configuration} {es : List (HostCall × Errno)} {xs : List Exchange} (m : List ℕ) (x : Exchange)
        → length (store_of c).memory ≤ length m → x.left ≡ m → ServeStep i (with_memory m c) x d → Does h d es xs h' e
        → Does h c es (record x { memory = (store_of c).memory } ∷ xs) h' e

abbrev pub OneTalk : (H : Type 0) → CallsOf H → Type 0
OneTalk H Calls = (i : Instance) (h h' : H) (c d : Configuration) (es : List (HostCall × Errno)) (xs : List Exchange)
    → Does H Calls i h c es xs h' d → Talk H Calls i h c es xs h' d

-- stopped before the call, the embedder leaves memory m, and then its function gives this: it did so where it was asked, and the call
-- took its unit
abbrev pub AnswersWhereAsked : (H : Type 0) → CallsOf H → Type 0
AnswersWhereAsked H Calls = (i : Instance) (x : ℕ) (h : H) (s : Store) (f : List Val) (c c' : Code) (m : List ℕ) (e : Exchange) (d : Configuration)
    → Asks i x s c c' → length s.memory ≤ length m → e.left ≡ m → ServeStep i (at (tick (record s { memory = m })) f c') e d
    → Does H Calls i h (at s f c) [] (record e { memory = s.memory } ∷ []) h d

-- whatever an embedder does in an instance's life is one run of the rules after another
abbrev pub OneLife : (H : Type 0) → CallsOf H → Type 0
OneLife H Calls = (m : Module) (i : Instance) (h h' : H) (s s' : Store) (vs : List Invocation)
    → LivesBy H Calls m i (Does H Calls i) h s vs h' s' → LivesBy H Calls m i (Talk H Calls i) h s vs h' s'
