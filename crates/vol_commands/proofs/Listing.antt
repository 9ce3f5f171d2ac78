-- The entries of a directory, one after another.
use Rattle.std.proofs.Common.{◌≡◌, ◌<◌, ◌+◌, ℕ, suc, List, [], ◌∷◌, ◌++◌, get_or, drop, drop-drop, Option, Some, None, inl, inr, refl, sym, ◌∙◌, ap, arith}
use Rattle.std.specs.List.{flat_map}
use Rattle.std.proofs.lemmas.List.{get_or-drop}
use Rattle.std.proofs.lemmas.Option.{same_Some, none-some}
use Rattle.std.proofs.lemmas.Bool.{cases_Bool, cond-true, cond-false}
use Rattle.vol_tree.specs.Tree.{Tree, Entry, entry, least_from, is_in}
use Rattle.vol_tree.specs.Calls.{next_child}
use Rattle.sandbox_args.specs.declared.request.ListForm.{ListForm}
use Rattle.vol_commands.specs.Listing.{line_in, line_of}

abbrev lines : ListForm → ℕ → Tree → List ℕ
lines form directory T = flat_map (line_in form directory) T

-- no entry is left, and no line
none_left : (form : ListForm) (n directory : ℕ) (T : Tree) → least_from n (is_in directory) T ≡ None → lines form directory T ≡ []
none_left form n directory [] h = refl
none_left form n directory (None ∷ T) h = none_left form (suc n) directory T h
none_left form n directory (Some e ∷ T) h = elim (cases_Bool (is_in directory (Some e))) [
  | inl hit ↦ absurd (none-some n (sym h ∙ cond-true _ _ _ hit))
  | inr miss ↦
      let here : line_in form directory (Some e) ≡ [] = cond-false _ _ _ miss in
      let rest = none_left form (suc n) directory T (sym (cond-false _ _ _ miss) ∙ h) in
      ap (λ (xs : List ℕ). xs ++ lines form directory T) here ∙ rest
]

-- the next entry, and the lines from it on
record Next (form : ListForm) (n directory : ℕ) (T : Tree) (serial : ℕ) : Type 0 where
  pub place : ℕ
  pub is : serial ≡ n + place
  pub entry : Entry
  pub there : get_or T place None ≡ Some entry
  pub lines_are : lines form directory T ≡ line_of form entry ++ lines form directory (drop (suc place) T)

one_later : (form : ListForm) (n directory : ℕ) (o : Option Entry) (T : Tree) (serial : ℕ) → line_in form directory o ≡ [] → Next form (suc n) directory T serial → Next form n directory (o ∷ T) serial
one_later form n directory o T serial empty next = record {
  place = suc next.place;
  is = omega (arith, next.is);
  entry = next.entry;
  there = next.there;
  lines_are = ap (λ (xs : List ℕ). xs ++ lines form directory T) empty ∙ next.lines_are;
}

next_of : (form : ListForm) (n directory : ℕ) (T : Tree) (serial : ℕ) → least_from n (is_in directory) T ≡ Some serial → Next form n directory T serial
next_of form n directory [] serial h = absurd (none-some serial h)
next_of form n directory (None ∷ T) serial h = one_later form n directory None T serial refl (next_of form (suc n) directory T serial h)
next_of form n directory (Some e ∷ T) serial h = elim (cases_Bool (is_in directory (Some e))) [
  | inl hit ↦ record {
    place = 0;
    is = let same : n ≡ serial = same_Some n serial (sym (cond-true _ _ _ hit) ∙ h) in omega arith;
    entry = e;
    there = refl;
    lines_are = ap (λ (xs : List ℕ). xs ++ lines form directory T) (cond-true _ _ _ hit);
  }
  | inr miss ↦ one_later form n directory (Some e) T serial (cond-false _ _ _ miss) (next_of form (suc n) directory T serial (sym (cond-false _ _ _ miss) ∙ h))
]

pub record NextChild (form : ListForm) (T : Tree) (directory last serial : ℕ) : Type 0 where
  pub later : last < serial
  pub entry_is : Entry
  pub there : entry T serial ≡ Some entry_is
  pub lines_are : flat_map (line_in form directory) (drop last T) ≡ line_of form entry_is ++ flat_map (line_in form directory) (drop serial T)

pub next_child_is : (form : ListForm) (T : Tree) (directory last serial : ℕ) → next_child T directory last ≡ Some serial → NextChild form T directory last serial
next_child_is form T directory last serial h =
    let n = next_of form (suc last) directory (drop last T) serial h in
    let same : serial ≡ suc (last + n.place) = omega (arith, n.is) in
    record {
      later = omega (arith, n.is);
      entry_is = n.entry;
      there = ap (λ (s : ℕ). entry T s) same ∙ (sym (get_or-drop last T n.place None) ∙ n.there);
      lines_are = n.lines_are ∙ ap (λ (t : Tree). line_of form n.entry ++ lines form directory t) (drop-drop (suc n.place) last T ∙ ap (λ (k : ℕ). drop k T) (let k : last + suc n.place ≡ serial = omega (arith, n.is) in k));
    }

pub no_child_left : (form : ListForm) (T : Tree) (directory last : ℕ) → next_child T directory last ≡ None → flat_map (line_in form directory) (drop last T) ≡ []
no_child_left form T directory last h = none_left form (suc last) directory (drop last T) h
