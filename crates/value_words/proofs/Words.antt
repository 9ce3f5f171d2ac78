-- What a word writes is one number; and the numbers of several words.
use Rattle.std.proofs.Common.{◌≡◌, ◌<◌, ◌≤◌, ◌+◌, ℕ, zero, suc, List, [], ◌∷◌, ◌++◌, Option, Some, None, drop, length, map, inl, inr, refl, sym, ap, subst, ◌∙◌, unwrap_or, get_or, Bool, true, if◌then◌else◌, arith}
use Rattle.std.specs.Prelude.{MatchOption, slice_get, ◌⊎◌, codes}
use Rattle.std.specs.Borrow.{Bor}
use Rattle.std.specs.Option.{option_map}
use Rattle.std.specs.Str.Parse.{digits_value, without_leading_plus}
use Rattle.std.proofs.lemmas.Option.{slice_get-map, slice_get-get_or}
use Rattle.wasm_syntax.specs.declared.instruction.ValueType.{ValueType}
use Rattle.value_words.specs.Numbers.{Text, IsInteger, IsMagnitude, IsNegative, IsNumberOf, texts}

-- ---- one number

behind_two : (a b : ℕ) (word rest other : Text) → word ≡ a ∷ (b ∷ rest) → word ≡ a ∷ (b ∷ other) → rest ≡ other
behind_two a b word rest other is also = ap (λ (l : Text). drop 2 l) (sym is ∙ also)

behind_one : (a : ℕ) (word rest other : Text) → word ≡ a ∷ rest → word ≡ a ∷ other → rest ≡ other
behind_one a word rest other is also = ap (λ (l : Text). drop 1 l) (sym is ∙ also)

-- what digits write is determined by them
abbrev value_of : ℕ → Text → ℕ
value_of radix word = digits_value radix (without_leading_plus word)

one_magnitude : (word : Text) (n m : ℕ) → IsMagnitude word n → IsMagnitude word m → n ≡ m
one_magnitude word n m (inl (rest, is, write)) (inl (other, also, writes)) =
    write.1 ∙ ap (λ (r : Text). value_of 16 r) (behind_two 48 120 word rest other is also) ∙ sym writes.1
one_magnitude word n m (inl (rest, is, write)) (inr (not, writes)) = absurd (not (rest, is))
one_magnitude word n m (inr (not, write)) (inl (rest, is, writes)) = absurd (not (rest, is))
one_magnitude word n m (inr (not, write)) (inr (also, writes)) = write.1 ∙ sym writes.1

-- a number that fits, or doesn't, is that of its word
pub fits : (word : Text) (half number : ℕ) (r : Option ℕ) → IsMagnitude word number → MatchOption r (half + half ≤ number) (λ n. (n ≡ number) × (n < half + half))
    → MatchOption r ((n : ℕ) → IsMagnitude word n × (n < half + half) → ⊥) (λ n. IsMagnitude word n × (n < half + half))
fits word half number None is large = λ n it. let same = one_magnitude word number n is it.0 in omega (arith, same, large, it.1)
fits word half number (Some n) is (same, small) = (subst (λ (k : ℕ). IsMagnitude word k) (sym same) is, small)

pub none_fits : (word : Text) (half : ℕ) → ((n : ℕ) → IsMagnitude word n → ⊥) → (n : ℕ) → IsMagnitude word n × (n < half + half) → ⊥
none_fits word half none n it = none n it.0

-- without a sign
pub signless : (word : Text) (half : ℕ) (r : Option ℕ) → ((rest : Text) → word ≡ codes "-" ++ rest → ⊥) → MatchOption r ((n : ℕ) → IsMagnitude word n × (n < half + half) → ⊥) (λ n. IsMagnitude word n × (n < half + half))
    → MatchOption r ((n : ℕ) → IsInteger half word n → ⊥) (IsInteger half word)
signless word half None bare none = λ n is. elim is [
  | inl (rest, m, begins, mag, le, neg) ↦ bare rest begins
  | inr (not, mag, small) ↦ none n (mag, small)
]
signless word half (Some n) bare (mag, small) = inr ((λ b. bare b.0 b.1), mag, small)

-- behind a sign
pub signed : (word rest : Text) (half number : ℕ) (r : Option ℕ) → word ≡ codes "-" ++ rest → IsMagnitude rest number → MatchOption r (half < number) (λ n. (number ≤ half) × IsNegative half number n)
    → MatchOption r ((n : ℕ) → IsInteger half word n → ⊥) (IsInteger half word)
signed word rest half number None is mag large = λ n it. elim it [
  | inl (other, m, begins, mags, le, neg) ↦
      let same = one_magnitude rest number m mag (subst (λ (t : Text). IsMagnitude t m) (behind_one 45 word other rest begins is) mags) in
      omega (arith, same, large, le)
  | inr (not, mags, small) ↦ not (rest, is)
]
signed word rest half number (Some n) is mag (le, neg) = inl (rest, number, is, mag, le, neg)

pub unwritten : (word rest : Text) (half : ℕ) → word ≡ codes "-" ++ rest → ((m : ℕ) → IsMagnitude rest m → ⊥) → (n : ℕ) → IsInteger half word n → ⊥
unwritten word rest half is none n (inl (other, m, begins, mags, le, neg)) = none m (subst (λ (t : Text). IsMagnitude t m) (behind_one 45 word other rest begins is) mags)
unwritten word rest half is none n (inr (not, mags, small)) = not (rest, is)

-- ---- several

-- the numbers of the words before this index
pub record SoFar (types : List ValueType) (words : List Text) (numbers : List ℕ) (index : ℕ) : Type 0 where
  pub count : length numbers ≡ index
  pub each : (k : ℕ) (t : ValueType) (w : Text) (n : ℕ) → slice_get types k ≡ Some t → slice_get words k ≡ Some w → slice_get numbers k ≡ Some n → IsNumberOf t w n

pub none_yet : (types : List ValueType) (words : List Text) → SoFar types words [] 0
none_yet types words = record { count = refl; each = λ k t w n ts ws ns. cc }

get_last : (xs : List ℕ) (y k n : ℕ) → slice_get (xs ++ y ∷ []) k ≡ Some n → (slice_get xs k ≡ Some n) ⊎ ((k ≡ length xs) × (n ≡ y))
get_last [] y zero n is = inr (refl, ap (λ (o : Option ℕ). unwrap_or o n) (sym is))
get_last [] y (suc k) n is = cc
get_last (x ∷ xs) y zero n is = inl is
get_last (x ∷ xs) y (suc k) n is = elim (get_last xs y k n is) [
  | inl old ↦ inl old
  | inr (k_is, n_is) ↦ inr (ap suc k_is, n_is)
]

pub one_more : (types : List ValueType) (words : List Text) (numbers after : List ℕ) (index : ℕ) (t : ValueType) (w : Text) (n : ℕ) → SoFar types words numbers index
    → slice_get types index ≡ Some t → slice_get words index ≡ Some w → IsNumberOf t w n → after ≡ numbers ++ n ∷ [] → SoFar types words after (index + 1)
one_more types words numbers after index t w n so at_t at_w is pushed = subst (λ (ns : List ℕ). SoFar types words ns (index + 1)) (sym pushed) (record {
  count = longer numbers n ∙ ap (λ (k : ℕ). k + 1) so.count;
  each = λ k t' w' n' ts ws ns. elim (get_last numbers n k n' ns) [
    | inl old ↦ so.each k t' w' n' ts ws old
    | inr (k_is, n_is) ↦
        let here : k ≡ index = k_is ∙ so.count in
        let types_are : t ≡ t' = ap (λ (o : Option ValueType). unwrap_or o t) (sym at_t ∙ subst (λ (j : ℕ). slice_get types j ≡ Some t') here ts) in
        let words_are : w ≡ w' = ap (λ (o : Option Text). unwrap_or o w) (sym at_w ∙ subst (λ (j : ℕ). slice_get words j ≡ Some w') here ws) in
        subst (λ (x : ValueType). IsNumberOf x w' n') types_are (subst (λ (x : Text). IsNumberOf t x n') words_are (subst (λ (x : ℕ). IsNumberOf t w x) (sym n_is) is))
  ];
}) where
  longer : (xs : List ℕ) (y : ℕ) → length (xs ++ y ∷ []) ≡ length xs + 1
  longer [] y = refl
  longer (x ∷ xs) y = omega (arith, longer xs y)

-- the word at an index
pub word_at : (words : List (Bor Text)) (k : ℕ) (w : Bor Text) → slice_get words k ≡ Some w → slice_get (texts words) k ≡ Some w.now
word_at words k w is = slice_get-map (λ (t : Bor Text). t.now) words k ∙ ap (λ (o : Option (Bor Text)). option_map (λ t. t.now) o) is

-- where a word writes no number
pub not_written : (types : List ValueType) (words : List (Bor Text)) (i : ℕ) (dt : ValueType) (dw : Bor Text) → i < length types → length types ≡ length words
    → ((n : ℕ) → IsNumberOf (get_or types i dt) (get_or words i dw).now n → ⊥)
    → (t : ValueType) × (w : Text) × (slice_get types i ≡ Some t) × (slice_get (texts words) i ≡ Some w) × ((n : ℕ) → IsNumberOf t w n → ⊥)
not_written types words i dt dw small same none =
    (get_or types i dt, (get_or words i dw).now, slice_get-get_or types i dt small, word_at words i (get_or words i dw) (slice_get-get_or words i dw (omega (arith, small, same))), none)

-- and where it does
pub written_more : (types : List ValueType) (words : List (Bor Text)) (i : ℕ) (dt : ValueType) (dw : Bor Text) (numbers after : List ℕ) (n : ℕ) (pushed : Bool) → i < length types → length types ≡ length words
    → SoFar types (texts words) numbers i → IsNumberOf (get_or types i dt) (get_or words i dw).now n → after ≡ (if pushed then numbers ++ n ∷ [] else numbers) → pushed ≡ true
    → SoFar types (texts words) after (i + 1)
written_more types words i dt dw numbers after n pushed small same so is items ok =
    one_more types (texts words) numbers after i (get_or types i dt) (get_or words i dw).now n so (slice_get-get_or types i dt small)
    (word_at words i (get_or words i dw) (slice_get-get_or words i dw (omega (arith, small, same)))) is
    (items ∙ ap (λ (b : Bool). if b then numbers ++ n ∷ [] else numbers) ok)
