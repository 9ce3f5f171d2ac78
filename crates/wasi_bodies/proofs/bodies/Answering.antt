-- What bodies of calls answer.
use Rattle.std.proofs.Common.{◌≡◌, ◌∙◌, ℕ, List, Result, Ok, Err, IsErr, IsErrAnd, MatchResult, OnOk, true≢false, refl, ap, subst, sym}
use Rattle.wasm_store.specs.declared.call.Errno.{Errno}
use Rattle.wasi_bodies.specs.World.{World}
use Rattle.wasi_bodies.specs.Checks.{Checked, Done, put}
use Rattle.wasi_bodies.specs.Calls.{Answers}
use Rattle.wasi_bodies.specs.internal.Entries.{errno_of}

-- a call that went through all of its row
pub answers_done : (r : Checked Done) (w : World) (m : List ℕ) (w' : World) (m' : List ℕ) (d : Done) → r ≡ Ok d → w' ≡ d.world → m' ≡ put (put m d.fills) d.results
    → Answers r w m w' m' 0
answers_done r w m w' m' d is world bytes = subst (λ (r : Checked Done). Answers r w m w' m' 0) (sym is) (refl, world, bytes)

-- a call that one of its checks refused
pub answers_refused : (r : Checked Done) (w : World) (m : List ℕ) (w' : World) (m' : List ℕ) (e : ℕ) → r ≡ Err e → w' ≡ w → m' ≡ m → Answers r w m w' m' e
answers_refused r w m w' m' e is world bytes = subst (λ (r : Checked Done). Answers r w m w' m' e) (sym is) (refl, world, bytes)

-- ---- where a check's refusal is handed on

-- the call answers it
pub refusal_answers : (r : Result (Unit {0}) Errno) (x : Errno) (row : Checked Done) (w : World) (m : List ℕ) → IsErrAnd r (λ y. y ≡ x) → row ≡ Err x.0 → Answers row w m w m (errno_of r)
refusal_answers (Ok u) x row w m is refused = absurd is
refusal_answers (Err y) x row w m is refused = answers_refused row w m w m y.0 (refused ∙ ap (λ (e : Errno). Err e.0) (sym is)) refl refl

-- a part of the call answers it
pub refusal_told : {X Y : Type 0} (r : Result X Errno) (x : Errno) (P : X → Type 0) (row : Checked Y) → IsErrAnd r (λ y. y ≡ x) → row ≡ Err x.0 → MatchResult r P (λ e. row ≡ Err e.0)
refusal_told (Ok a) x P row is refused = absurd is
refusal_told (Err y) x P row is refused = refused ∙ ap (λ (e : Errno). Err e.0) (sym is)

-- the last part's answer is that of the whole
pub last_told : {X : Type 0} (r : Result X Errno) (part row : Checked X) → row ≡ part → MatchResult r (λ x. part ≡ Ok x) (λ e. part ≡ Err e.0) → MatchResult r (λ x. row ≡ Ok x) (λ e. row ≡ Err e.0)
last_told {X = X} r part row same told = subst (λ (c : Checked X). MatchResult r (λ x. c ≡ Ok x) (λ e. c ≡ Err e.0)) (sym same) told

-- what holds anyway holds of each answer
pub ok_anyway : {X P : Type 0} (r : Result X Errno) → P → OnOk r P
ok_anyway (Ok x) holds = holds
ok_anyway (Err e) holds = tt

-- nothing is said of a refusal's answer
pub no_ok : {X : Type 0} (P : Type 0) (r : Result X Errno) → IsErr r → OnOk r P
no_ok P (Ok x) is = absurd (true≢false (sym is))
no_ok P (Err e) is = tt
