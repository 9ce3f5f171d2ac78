-- Texts that grow by one item after the other.
use Rattle.std.proofs.Common.{◌≡◌, ℕ, ◌+◌, ◌<◌, ◌≤◌, List, ◌++◌, length, get_or, drop, sym, ◌∙◌, ap, append-nil, append_assoc}
use Rattle.std.proofs.lemmas.List.{at_drop_more, at_drop_all}
use Rattle.std.specs.List.{flat_map}

module _ {X : Type 0} (f : X → List ℕ) (xs : List X) (i : ℕ) (front all : List ℕ) where
  -- one item more
  pub item_more : (d : X) (after : List ℕ) → i < length xs → after ≡ front ++ f (get_or xs i d)
      → front ++ flat_map f (drop i xs) ≡ all → after ++ flat_map f (drop (i + 1) xs) ≡ all
  item_more d after within is so_far =
      let rest : List ℕ = flat_map f (drop (i + 1) xs) in
      let item : List ℕ = f (get_or xs i d) in
      let next : flat_map f (drop i xs) ≡ item ++ rest = at_drop_more (flat_map f) xs i d within in
      ap (λ (t : List ℕ). t ++ rest) is ∙ append_assoc front item rest ∙ ap (λ (t : List ℕ). front ++ t) (sym next) ∙ so_far

  -- all items
  pub items_all : length xs ≤ i → front ++ flat_map f (drop i xs) ≡ all → front ≡ all
  items_all past so_far = sym (append-nil front) ∙ ap (λ (t : List ℕ). front ++ t) (sym (at_drop_all (flat_map f) xs i past)) ∙ so_far

-- three texts, one after the other
pub joined : (a b c d lines name end : List ℕ) → b ≡ a ++ lines → c ≡ b ++ name → d ≡ c ++ end → d ≡ a ++ (lines ++ (name ++ end))
joined a b c d lines name end first second third =
    third ∙ ap (λ (t : List ℕ). t ++ end) (second ∙ ap (λ (t : List ℕ). t ++ name) first)
    ∙ append_assoc (a ++ lines) name end ∙ append_assoc a lines (name ++ end)
