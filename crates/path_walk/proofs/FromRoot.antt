-- What a path reaches from the root.
use Rattle.std.proofs.Common.{◌≡◌, ◌≢◌, ◌⊎◌, ℕ, List, [], ◌∷◌, length, IsErrAnd, Result, Ok, Err, inl, inr, ⊎_elim, refl, sym, ◌∙◌, ap}
use Rattle.vol_tree.specs.declared.errno.Errno.{Errno}
use Rattle.vol_tree.specs.declared.errno.Errno.TheVariants as errno
use Rattle.vol_tree.specs.Tree.{Tree, Name}
use Rattle.path_walk.specs.declared.walking.Reached.{Reached as ReachedValue}
use Rattle.path_walk.specs.Paths.{Reached, components_of, path_read, resolved, wants_directory, ◌>>=◌}
use Rattle.path_walk.specs.Rooted.{reached_from_root}
use Rattle.path_walk.specs.Walk.{GivesBoth}
use Rattle.std.specs.Prelude.{Bool}

-- a walk that was refused
pub root_refused : (T : Tree) (rest path : List ℕ) (e : Errno) (r : Result (ReachedValue × Bool) Errno) → length rest ≢ 0 → path ≡ rest → path_read rest ≡ Ok (components_of rest)
    → (resolved T 1 (wants_directory path) (components_of path) ≡ Err e) ⊎ (e ≡ errno.Io) → IsErrAnd r (λ x. x ≡ e) → GivesBoth (reached_from_root T rest) r
root_refused T [] path e r some same read why is = absurd (some refl)
root_refused T (c ∷ rest) path e (Ok x) some same read why is = absurd is
root_refused T (c ∷ rest) path e (Err x) some same read why is = ⊎_elim (λ refused. inl (walk_refused refused)) (λ io. inr (is ∙ io)) why
  where
    Answer : Type 0
    Answer = Result (Reached × Bool) Errno

    walk_refused : resolved T 1 (wants_directory path) (components_of path) ≡ Err e → reached_from_root T (c ∷ rest) ≡ Err x
    walk_refused refused =
        let here : resolved T 1 (wants_directory (c ∷ rest)) (components_of (c ∷ rest)) ≡ Err x =
        ap (λ (p : List ℕ). resolved T 1 (wants_directory p) (components_of p)) (sym same) ∙ (refused ∙ ap Err (sym is)) in
        ap (λ (names : Result (List Name) Errno). names >>= λ names. resolved T 1 (wants_directory (c ∷ rest)) names >>= λ found. let answer : Answer = Ok (found, wants_directory (c ∷ rest)) in answer) read
        ∙ ap (λ (found : Result Reached Errno). found >>= λ found. let answer : Answer = Ok (found, wants_directory (c ∷ rest)) in answer) here
