-- Long runs are long parts.
use Rattle.std.proofs.Common.{◌≡◌, ℕ, ◌+◌, Bool, true, false, ◌||◌, nat_lt, ◌==◌, List, [], ◌∷◌, length, refl, sym, ◌∙◌, ap, inl, inr, arith, add-zero, zero-add}
use Rattle.std.specs.List.{list_any, onto_first}
use Rattle.std.proofs.lemmas.Bool.{cases_Bool, cond-true, cond-false}
use Rattle.vol_tree.specs.Tree.{Name}
use Rattle.path_walk.specs.Paths.{parts_of, slash}
use Rattle.path_walk.specs.internal.Runs.{is_long}

abbrev long : Name → Bool
long part = nat_lt 255 (length part)

-- a part is too long, where `run` bytes stand before the first
abbrev over : ℕ → List Name → Bool
over run [] = nat_lt 255 run
over run (p ∷ ps) = nat_lt 255 (run + length p) || list_any long ps

or_false : (b : Bool) → b ≡ (b || false)
or_false true = refl
or_false false = refl

over_none : (ps : List Name) → over 0 ps ≡ list_any long ps
over_none [] = refl
over_none (p ∷ ps) = ap (λ (n : ℕ). nat_lt 255 n || list_any long ps) (zero-add (length p))

over_byte : (c run : ℕ) (ps : List Name) → over (run + 1) ps ≡ over run (onto_first c ps)
over_byte c run [] = or_false _
over_byte c run (p ∷ ps) = let e : run + 1 + length p ≡ run + length (c ∷ p) = omega arith in ap (λ (n : ℕ). nat_lt 255 n || list_any long ps) e

runs : (cs : List ℕ) (run : ℕ) → is_long run cs ≡ over run (parts_of cs)
runs [] run = ap (λ (n : ℕ). nat_lt 255 n) (sym (add-zero run)) ∙ or_false _
runs (c ∷ cs) run = elim (cases_Bool (c == slash)) [
  | inl at_slash ↦ cond-true _ _ _ at_slash
      ∙ (ap (λ (b : Bool). nat_lt 255 run || b) (runs cs 0 ∙ over_none (parts_of cs))
      ∙ (ap (λ (n : ℕ). nat_lt 255 n || list_any long (parts_of cs)) (sym (add-zero run))
      ∙ ap (over run) (sym (cond-true _ ([] ∷ parts_of cs) (onto_first c (parts_of cs)) at_slash))))
  | inr within ↦ cond-false _ _ _ within
      ∙ (runs cs (run + 1) ∙ (over_byte c run (parts_of cs)
      ∙ ap (over run) (sym (cond-false _ ([] ∷ parts_of cs) (onto_first c (parts_of cs)) within))))
]

pub long_parts : (text : List ℕ) → is_long 0 text ≡ list_any (λ part. nat_lt 255 (length part)) (parts_of text)
long_parts text = runs text 0 ∙ over_none (parts_of text)
