-- One node's line more.
use Rattle.std.proofs.Common.{◌≡◌, ◌<◌, ◌+◌, ℕ, suc, List, [], ◌∷◌, ◌++◌, length, slice_index, drop, append_assoc, append-nil, refl, sym, ap, subst, ◌∙◌, arith}
use Rattle.observed_run.specs.declared.stacks.Call.{Call}
use Rattle.observed_run.specs.Stacks.{IsStack}
use Rattle.observed_run.specs.Folded.{Text, line_text, IsFolded, nothing, none, some}
use Rattle.observed_run.proofs.Trees.{split}

module _ (calls : List Call) (name : ℕ → Text) (units : List ℕ) where
  -- with the text of the nodes from here on it is the text of all
  abbrev pub Printed : ℕ → Text → Type 0
  Printed node so_far = (text : Text) → IsFolded calls name node (drop node units) text → IsFolded calls name 0 units (so_far ++ text)

  pub printed_first : Printed 0 []
  printed_first text all = all

  from_next : (node : ℕ) (text : Text) → IsFolded calls name (node + 1) (drop (node + 1) units) text → IsFolded calls name (suc node) (drop (suc node) units) text
  from_next node text rest = let next : node + 1 ≡ suc node = omega arith in subst (λ (n : ℕ). IsFolded calls name n (drop n units) text) next rest

  pub printed_none : (node : ℕ) (so_far : Text) → node < length units → slice_index units node ≡ 0 → Printed node so_far → Printed (node + 1) so_far
  printed_none node so_far small is so text rest =
      so text (subst (λ (xs : List ℕ). IsFolded calls name node xs text) (sym (split units node small ∙ ap (λ (u : ℕ). u ∷ drop (suc node) units) is)) (none node (drop (suc node) units) text (from_next node text rest)))

  pub printed_some : (node : ℕ) (so_far : Text) (functions : List ℕ) → node < length units → 0 < slice_index units node → IsStack calls node functions → Printed node so_far
      → Printed (node + 1) (so_far ++ line_text name functions (slice_index units node))
  printed_some node so_far functions small positive stack so text rest =
      let line = line_text name functions (slice_index units node) in
      subst (IsFolded calls name 0 units) (sym (append_assoc so_far line text))
      (so (line ++ text) (subst (λ (xs : List ℕ). IsFolded calls name node xs (line ++ text)) (sym (split units node small)) (some node (slice_index units node) (drop (suc node) units) functions text positive stack (from_next node text rest))))

  pub printed_all : (node : ℕ) (so_far : Text) → node ≡ length units → Printed node so_far → IsFolded calls name 0 units so_far
  printed_all node so_far is so =
      subst (IsFolded calls name 0 units) (append-nil so_far) (so [] (subst (λ (xs : List ℕ). IsFolded calls name node xs []) (sym (ap (λ (n : ℕ). drop n units) is ∙ all_dropped units)) (nothing node)))
    where
      all_dropped : (xs : List ℕ) → drop (length xs) xs ≡ []
      all_dropped [] = refl
      all_dropped (x ∷ xs) = all_dropped xs
