-- Elements of a table that are set one after the other.
use Rattle.std.proofs.Common.{◌≡◌, ℕ, ◌+◌, ◌<◌, ◌≤◌, List, [], ◌∷◌, ◌++◌, length, take, map, Option, Some, get_or, sym, ap, ◌∙◌, add-one}
use Rattle.std.specs.Prelude.{slice_set}
use Rattle.std.proofs.Math.Seq.{take-suc, take-suc-set}
use Rattle.std.proofs.lemmas.List.{map-append, take_all}

-- one element more
pub one_set : (es : List (Option ℕ)) (fs : List ℕ) (i f : ℕ) → i < length es → i < length fs → f ≡ get_or fs i 0 → take i es ≡ map Some (take i fs) → take (i + 1) (slice_set es i (Some f)) ≡ map Some (take (i + 1) fs)
one_set es fs i f l m r e =
    ap (λ n. take n (slice_set es i (Some f))) (add-one i)
    ∙ take-suc-set es i (Some f) l
    ∙ ap (λ xs. xs ++ Some f ∷ []) e
    ∙ ap (λ x. map Some (take i fs) ++ Some x ∷ []) r
    ∙ sym (map-append Some (take i fs) (get_or fs i 0 ∷ []))
    ∙ ap (map Some) (sym (take-suc fs i 0 m))
    ∙ ap (λ n. map Some (take n fs)) (sym (add-one i))

-- all of them
pub all_set : (es : List (Option ℕ)) (fs : List ℕ) (i : ℕ) → length es ≤ i → length fs ≤ i → take i es ≡ map Some (take i fs) → es ≡ map Some fs
all_set es fs i l m e = sym (take_all i es l) ∙ e ∙ ap (map Some) (take_all i fs m)
