-- The lines that tell how the calls of a run were answered.
use Rattle.std.proofs.Common.{◌≡◌, ◌<◌, ◌≤◌, ◌+◌, ◌∷◌, ◌++◌, ℕ, zero, suc, List, [], length, drop, get_or, append_assoc, append-nil, refl, sym, ◌∙◌, ap, arith}
use Rattle.std.proofs.lemmas.List.{drop_more}
use Rattle.sandbox_args.specs.Request.{Text}
use Rattle.sandbox_telling.specs.Stopping.{answer_line, answers_from}

none_left : (counts : List ℕ) (errno : ℕ) → length counts ≤ errno → drop errno counts ≡ []
none_left [] zero past = refl
none_left [] (suc errno) past = refl
none_left (count ∷ counts) zero past = absurd (omega (arith, past))
none_left (count ∷ counts) (suc errno) past = none_left counts errno (omega (arith, past))

-- one errno more
pub one_errno_more : (counts : List ℕ) (errno d : ℕ) (whole before after : Text) → errno < length counts → before ++ answers_from errno (drop errno counts) ≡ whole
    → after ≡ before ++ answer_line errno (get_or counts errno d) → after ++ answers_from (errno + 1) (drop (errno + 1) counts) ≡ whole
one_errno_more counts errno d whole before after within so_far adds =
    ap (λ (t : Text). t ++ answers_from (errno + 1) (drop (errno + 1) counts)) adds
    ∙ (append_assoc before (answer_line errno (get_or counts errno d)) (answers_from (errno + 1) (drop (errno + 1) counts))
    ∙ (ap (λ (rest : List ℕ). before ++ answers_from errno rest) (sym (drop_more counts errno d within)) ∙ so_far))

-- of all of them
pub all_told : (counts : List ℕ) (errno : ℕ) (whole text : Text) → length counts ≤ errno → text ++ answers_from errno (drop errno counts) ≡ whole → text ≡ whole
all_told counts errno whole text past so_far =
    sym (append-nil text) ∙ (ap (λ (rest : List ℕ). text ++ answers_from errno rest) (sym (none_left counts errno past)) ∙ so_far)
