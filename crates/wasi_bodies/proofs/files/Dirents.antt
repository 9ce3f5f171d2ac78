-- The entries that a list of a directory tells, one after another.
use Rattle.std.proofs.Common.{◌≡◌, ℕ, zero, suc, ◌+◌, ◌-◌, ◌<◌, ◌≤◌, ◌==◌, ◌&&◌, Bool, true, false, cond, List, [], ◌∷◌, ◌++◌, drop, get_or, get_or-drop, Option, Some, None, refl, sym, ◌∙◌, ap, subst, inl, inr, arith}
use Rattle.std.specs.Prelude.{nat_lt}
use Rattle.std.specs.List.{flat_map, enumerate_from}
use Rattle.std.specs.Option.{option_map_or}
use Rattle.std.proofs.Math.Numerals.{add-one}
use Rattle.std.proofs.lemmas.Bool.{cases_Bool, cond-true, cond-false, and_left, and_right, lt-ltb, le-ltb, false≢true}
use Rattle.std.proofs.lemmas.Option.{none-some, same_Some}
use Rattle.vol_tree.specs.Tree.{Tree, Entry, entry, is_in, least_from}
use Rattle.vol_tree.specs.Calls.{next_child}
use Rattle.wasi_bodies.specs.files.Rows.{dirent, dirents}

-- what is told of one slot, and of those from a serial on
abbrev pub slot_told : ℕ → ℕ → ℕ × Option Entry → List ℕ
slot_told directory cookie s = option_map_or (λ (e : Entry). cond (nat_lt cookie s.0 && (e.parent == directory)) (dirent s.0 e) []) s.1 []

abbrev pub told_from : ℕ → Tree → ℕ → ℕ → List ℕ
told_from n T directory cookie = flat_map (slot_told directory cookie) (enumerate_from n T)

not_there : (directory cookie n : ℕ) (o : Option Entry) → is_in directory o ≡ false → slot_told directory cookie (n, o) ≡ []
not_there directory cookie n None h = refl
not_there directory cookie n (Some e) h = cond-false (nat_lt cookie n && (e.parent == directory)) (dirent n e) [] (and_right (nat_lt cookie n) (e.parent == directory) h)

before : (directory cookie n : ℕ) (o : Option Entry) → n ≤ cookie → slot_told directory cookie (n, o) ≡ []
before directory cookie n None h = refl
before directory cookie n (Some e) h =
    cond-false (nat_lt cookie n && (e.parent == directory)) (dirent n e) [] (and_left (nat_lt cookie n) (e.parent == directory) (le-ltb cookie n h))

after : (directory cookie n : ℕ) (o : Option Entry) → cookie < n → slot_told directory cookie (n, o) ≡ option_map_or (λ (e : Entry). cond (e.parent == directory) (dirent n e) []) o []
after directory cookie n None h = refl
after directory cookie n (Some e) h = ap (λ (b : Bool). cond (b && (e.parent == directory)) (dirent n e) []) (lt-ltb cookie n h)

-- over its cookie a list doesn't depend on it
same_over : (T : Tree) (n directory a b : ℕ) → a < n → b < n → told_from n T directory a ≡ told_from n T directory b
same_over [] n directory a b low high = refl
same_over (o ∷ T) n directory a b low high =
    λ i. (after directory a n o low ∙ sym (after directory b n o high)) i ++ same_over T (n + 1) directory a b (omega arith) (omega arith) i

ends_there : (T : Tree) (n directory cookie : ℕ) → cookie < n → least_from n (is_in directory) T ≡ None → told_from n T directory cookie ≡ []
ends_there [] n directory cookie low h = refl
ends_there (o ∷ T) n directory cookie low h = elim (cases_Bool (is_in directory o)) [
  | inl here ↦ absurd (none-some n (sym h ∙ cond-true (is_in directory o) (Some n) (least_from (suc n) (is_in directory) T) here))
  | inr not_here ↦
      let rest : least_from (n + 1) (is_in directory) T ≡ None = ap (λ (k : ℕ). least_from k (is_in directory) T) (add-one n) ∙ (sym (cond-false (is_in directory o) (Some n) (least_from (suc n) (is_in directory) T) not_here) ∙ h) in
      λ i. not_there directory cookie n o not_here i ++ ends_there T (n + 1) directory cookie (omega arith) rest i
]

-- the entry that is next, and what is told of it
pub record IsNext (T : Tree) (n directory cookie serial : ℕ) : Type 0 where
  pub least : n ≤ serial
  pub e : Entry
  pub there : get_or T (serial - n) None ≡ Some e
  pub told : told_from n T directory cookie ≡ dirent serial e ++ told_from n T directory serial

next_here : (o : Option Entry) (T : Tree) (n directory cookie serial : ℕ) → cookie < n → is_in directory o ≡ true → n ≡ serial → IsNext (o ∷ T) n directory cookie serial
next_here None T n directory cookie serial low here same = absurd (false≢true here)
next_here (Some e) T n directory cookie serial low here same =
    let told : slot_told directory cookie (n, Some e) ≡ dirent n e = after directory cookie n (Some e) low ∙ cond-true (e.parent == directory) (dirent n e) [] here in
    let none : slot_told directory n (n, Some e) ≡ [] = before directory n n (Some e) (omega arith) in
    let all : told_from n (Some e ∷ T) directory cookie ≡ dirent n e ++ told_from n (Some e ∷ T) directory n =
    λ i. told i ++ (same_over T (n + 1) directory cookie n (omega arith) (omega arith) ∙ λ j. sym none j ++ told_from (n + 1) T directory n) i in
    record {
      least = omega (arith, same);
      e = e;
      there = ap (λ (k : ℕ). get_or (Some e ∷ T) k None) (let zero_is : serial - n ≡ 0 = omega (arith, same) in zero_is);
      told = subst (λ (s : ℕ). told_from n (Some e ∷ T) directory cookie ≡ dirent s e ++ told_from n (Some e ∷ T) directory s) same all;
    }

next_over : (o : Option Entry) (T : Tree) (n directory cookie serial : ℕ) → is_in directory o ≡ false → IsNext T (n + 1) directory cookie serial → IsNext (o ∷ T) n directory cookie serial
next_over o T n directory cookie serial not_here r =
    let low : n + 1 ≤ serial = r.least in
    let place : serial - n ≡ suc (serial - (n + 1)) = omega arith in
    record {
      least = omega arith;
      e = r.e;
      there = ap (λ (k : ℕ). get_or (o ∷ T) k None) place ∙ r.there;
      told = (λ i. not_there directory cookie n o not_here i ++ r.told i) ∙ λ i. dirent serial r.e ++ (sym (not_there directory serial n o not_here) i ++ told_from (n + 1) T directory serial);
    }

next_from : (T : Tree) (n directory cookie serial : ℕ) → cookie < n → least_from n (is_in directory) T ≡ Some serial → IsNext T n directory cookie serial
next_from [] n directory cookie serial low h = absurd (none-some serial h)
next_from (o ∷ T) n directory cookie serial low h = elim (cases_Bool (is_in directory o)) [
  | inl here ↦ next_here o T n directory cookie serial low here (same_Some n serial (sym (cond-true (is_in directory o) (Some n) (least_from (suc n) (is_in directory) T) here) ∙ h))
  | inr not_here ↦
      let rest : least_from (n + 1) (is_in directory) T ≡ Some serial =
      ap (λ (k : ℕ). least_from k (is_in directory) T) (add-one n) ∙ (sym (cond-false (is_in directory o) (Some n) (least_from (suc n) (is_in directory) T) not_here) ∙ h) in
      next_over o T n directory cookie serial not_here (next_from T (n + 1) directory cookie serial (omega arith) rest)
]

-- the slots up to the cookie tell nothing
skipped : (T : Tree) (n k m directory cookie : ℕ) → n + k ≡ m + 1 → m ≤ cookie → told_from n T directory cookie ≡ told_from (m + 1) (drop k T) directory cookie
skipped T n zero m directory cookie h low = ap (λ (m : ℕ). told_from m T directory cookie) (let same : n ≡ m + 1 = omega (arith, h) in same)
skipped [] n (suc k) m directory cookie h low = refl
skipped (o ∷ T) n (suc k) m directory cookie h low =
    (λ i. before directory cookie n o (omega (arith, h)) i ++ told_from (n + 1) T directory cookie) ∙ skipped T (n + 1) k m directory cookie (omega (arith, h)) low

pub over : (T : Tree) (directory m cookie : ℕ) → m ≤ cookie → dirents T directory cookie ≡ told_from (m + 1) (drop m T) directory cookie
over T directory m cookie low = skipped T 1 m m directory cookie (omega arith) low

-- the list ends where no entry comes
pub list_ends : (T : Tree) (directory cookie : ℕ) → next_child T directory cookie ≡ None → dirents T directory cookie ≡ []
list_ends T directory cookie h =
    over T directory cookie cookie (omega arith) ∙ ends_there (drop cookie T) (cookie + 1) directory cookie (omega arith) (ap (λ (k : ℕ). least_from k (is_in directory) (drop cookie T)) (add-one cookie) ∙ h)

at_slot : (T : Tree) (cookie serial : ℕ) (o : Option Entry) → cookie + 1 ≤ serial → get_or (drop cookie T) (serial - (cookie + 1)) None ≡ o → entry T serial ≡ o
at_slot T cookie zero o low h = absurd (omega arith)
at_slot T cookie (suc slot) o low h =
    let there : get_or (drop cookie T) (suc slot - (cookie + 1)) None ≡ get_or T (cookie + (suc slot - (cookie + 1))) None = rw get_or-drop in
    let place : cookie + (suc slot - (cookie + 1)) ≡ slot = omega arith in
    ap (λ (k : ℕ). get_or T k None) (sym place) ∙ (sym there ∙ h)

-- the next entry, and what is told after it
pub record ListGoesOn (T : Tree) (directory cookie serial : ℕ) : Type 0 where
  pub e : Entry
  pub used : entry T serial ≡ Some e
  pub told : dirents T directory cookie ≡ dirent serial e ++ dirents T directory serial

pub list_goes_on : (T : Tree) (directory cookie serial : ℕ) → next_child T directory cookie ≡ Some serial → ListGoesOn T directory cookie serial
list_goes_on T directory cookie serial h =
    let r = next_from (drop cookie T) (cookie + 1) directory cookie serial (omega arith) (ap (λ (k : ℕ). least_from k (is_in directory) (drop cookie T)) (add-one cookie) ∙ h) in
    record {
      e = r.e;
      used = at_slot T cookie serial (Some r.e) r.least r.there;
      told = over T directory cookie cookie (omega arith)
          ∙ (r.told ∙ ap (λ (l : List ℕ). dirent serial r.e ++ l) (sym (over T directory cookie serial (let low : cookie ≤ serial = omega (arith, r.least) in low))));
    }
