-- What a search of the slots finds.
use Rattle.std.proofs.Common.{is_some, ◌≡◌, ℕ, zero, suc, ◌+◌, ◌<◌, Bool, true, false, [], ◌∷◌, length, get_or, Option, Some, None, Result, Ok, Err, refl, sym, ◌∙◌, ap, inl, inr, arith, eqb}
use Rattle.std.specs.Option.{option_map_or}
use Rattle.std.proofs.lemmas.Option.{same_Some, none-some}
use Rattle.std.proofs.lemmas.Bool.{cases_Bool, cond-true, cond-false, and_parts, eqb-true, false≢true}
use Rattle.std.proofs.lemmas.Bool.Decides.{Decides-eqb}
use Rattle.std.proofs.lemmas.Slice.Eq.{slice_eq-Decides}
use Rattle.vol_tree.specs.Tree.{Tree, Name, Entry, entry, lookup, least_from, is_child, is_unused, same_name}
use Rattle.vol_tree.specs.declared.errno.Errno.{Errno}

pub names_equal : (m n : Name) → same_name m n ≡ true → m ≡ n
names_equal m n h = (slice_eq-Decides Decides-eqb m n (same_name m n) refl).0 h

-- the search found place k, and nothing before it
pub record FoundAt (n : ℕ) (test : Option Entry → Bool) (T : Tree) (serial : ℕ) : Type 0 where
  pub place : ℕ
  pub is : serial ≡ n + place
  pub within : place < length T
  pub passes : test (get_or T place None) ≡ true
  pub before : (j : ℕ) → j < place → test (get_or T j None) ≡ false

one_on : (n : ℕ) (test : Option Entry → Bool) (e : Option Entry) (T : Tree) (serial : ℕ) → test e ≡ false → FoundAt (suc n) test T serial → FoundAt n test (e ∷ T) serial
one_on n test e T serial fails f = record {
  place = suc f.place;
  is = omega (arith, f.is);
  within = omega (arith, f.within);
  passes = f.passes;
  before = λ j l. elim j as (λ j. j < suc f.place → test (get_or (e ∷ T) j None) ≡ false) [
    | zero ↦ λ l. fails
    | suc i ↦ λ l. f.before i (omega arith)
  ] l;
}

pub found : (n : ℕ) (test : Option Entry → Bool) (T : Tree) (serial : ℕ) → least_from n test T ≡ Some serial → FoundAt n test T serial
found n test [] serial h = absurd (none-some serial h)
found n test (e ∷ T) serial h = elim (cases_Bool (test e)) [
  | inl hit ↦ record {
    place = 0;
    is = let same : n ≡ serial = same_Some n serial (sym (cond-true _ _ _ hit) ∙ h) in omega arith;
    within = omega arith;
    passes = hit;
    before = λ j l. absurd (omega arith);
  }
  | inr miss ↦ one_on n test e T serial miss (found (suc n) test T serial (sym (cond-false _ _ _ miss) ∙ h))
]

is_child_parts : (directory : ℕ) (name : Name) (o : Option Entry) → is_child directory name o ≡ true → (e : Entry) × (o ≡ Some e) × (e.parent ≡ directory) × (e.name ≡ name)
is_child_parts directory name None h = absurd (false≢true h)
is_child_parts directory name (Some e) h =
    let parts = and_parts (eqb e.parent directory) (same_name e.name name) h in
    (e, refl, eqb-true e.parent directory parts.0, names_equal e.name name parts.1)

at_place : (T : Tree) (serial place : ℕ) → serial ≡ 1 + place → entry T serial ≡ get_or T place None
at_place T serial place h = let same : serial ≡ suc place = omega arith in ap (λ (s : ℕ). entry T s) same

-- what a look-up finds stands in the directory, by that name
pub looked_up : (T : Tree) (directory child : ℕ) (name : Name) → lookup T directory name ≡ Some child → (e : Entry) × (entry T child ≡ Some e) × (e.parent ≡ directory) × (e.name ≡ name)
looked_up T directory child name h =
    let f = found 1 (is_child directory name) T child h in
    let p = is_child_parts directory name (get_or T f.place None) f.passes in
    (p.0, at_place T child f.place f.is ∙ p.1, p.2, p.3)

pub unused_none : (o : Option Entry) → is_unused o ≡ true → o ≡ None
unused_none None h = refl
unused_none (Some e) h = absurd (false≢true h)

pub used_some : (o : Option Entry) → is_unused o ≡ false → is_some o ≡ true
used_some None h = absurd (false≢true (sym h))
used_some (Some e) h = refl

pub not_refused : {A X : Type 0} (o : Option A) (errno : Errno) (rest : Result X Errno) (x : X) → option_map_or (λ a. Err errno) o rest ≡ Ok x → rest ≡ Ok x
not_refused None errno rest x h = h
not_refused (Some a) errno rest x h = cc

pub taken : {A X : Type 0} (o : Option A) (f : A → X) (errno : Errno) (x : X) → option_map_or (λ a. Ok (f a)) o (Err errno) ≡ Ok x → (a : A) × (o ≡ Some a) × (f a ≡ x)
taken None f errno x h = cc
taken (Some a) f errno x h = (a, refl, cc)
