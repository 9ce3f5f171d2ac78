-- How a line is cut at its blanks.
use Rattle.std.proofs.Common.{Option, None, MatchOption, ◌≡◌, ◌≢◌, ◌<◌, ◌++◌, ℕ, zero, suc, List, [], ◌∷◌, length, map, get_or, sym, ◌∙◌, ap, refl, arith, subst, length-append}
use Rattle.std.proofs.lemmas.List.{get_or_at}
use Rattle.std.specs.List.{All}
use Rattle.sandbox_args.specs.Request.{Text}
use Rattle.sandbox_command.specs.declared.list_of_tests.TestFiles.{TestFiles}
use Rattle.sandbox_command.specs.ListOfTests.{IsNoTest, IsTest, IsWord, line_of}
use Rattle.sandbox_command.specs.internal.Tests.{BeginsWithNoWord}

-- nowhere a blank
abbrev pub HasNoBlank : Text → Type 0
HasNoBlank w = (i : ℕ) → i < length w → get_or w i 0 ≢ 32

-- a text has one first blank
pub same_cut : (a b x y : Text) → HasNoBlank a → HasNoBlank b → a ++ (32 ∷ x) ≡ b ++ (32 ∷ y) → (a ≡ b) × (x ≡ y)
same_cut [] [] x y free too is = (refl, tails is)
  where
    tails : 32 ∷ x ≡ 32 ∷ y → x ≡ y
    tails is = cc
same_cut [] (d ∷ b) x y free too is = absurd (too 0 (omega arith) (sym (heads is)))
  where
    heads : 32 ∷ x ≡ d ∷ (b ++ (32 ∷ y)) → 32 ≡ d
    heads is = cc
same_cut (c ∷ a) [] x y free too is = absurd (free 0 (omega arith) (heads is))
  where
    heads : c ∷ (a ++ (32 ∷ x)) ≡ 32 ∷ y → c ≡ 32
    heads is = cc
same_cut (c ∷ a) (d ∷ b) x y free too is =
    let more = same_cut a b x y (λ i lt. free (suc i) (omega arith)) (λ i lt. too (suc i) (omega arith)) (tails is) in
    (both c d a b (heads is) more.0, more.1)
  where
    heads : c ∷ (a ++ (32 ∷ x)) ≡ d ∷ (b ++ (32 ∷ y)) → c ≡ d
    heads is = cc

    tails : c ∷ (a ++ (32 ∷ x)) ≡ d ∷ (b ++ (32 ∷ y)) → a ++ (32 ∷ x) ≡ b ++ (32 ∷ y)
    tails is = cc

    both : (c d : ℕ) (a b : Text) → c ≡ d → a ≡ b → c ∷ a ≡ d ∷ b
    both c d a b h t = cc

-- a text with no blank isn't cut at one
pub uncut : (text : Text) → HasNoBlank text → BeginsWithNoWord text
uncut text none word rest is its = none (length word) (omega (arith, ap length is, length-append word (32 ∷ rest))) (ap (λ l. get_or l (length word) 0) is ∙ get_or_at word 32 rest 0 (length word) refl)

-- nor one whose first part is no word
pub no_word : (text first more : Text) → text ≡ first ++ (32 ∷ more) → HasNoBlank first → (IsWord first → ⊥) → BeginsWithNoWord text
no_word text first more cut free never word rest is its = never (subst IsWord (same_cut word first rest more its.1 free (sym is ∙ cut)).0 its)

-- behind the first word
pub behind : (line word rest first more : Text) → line ≡ word ++ (32 ∷ rest) → IsWord word → first ++ (32 ∷ more) ≡ line → IsWord first → more ≡ rest
behind line word rest first more cut its is first_is = (same_cut first word more rest first_is.1 its.1 (is ∙ cut)).1

-- a line of the list is that of no test
pub no_test_at : (tests : List TestFiles) (k : ℕ) (line : Text) → k < length (map line_of tests) → line ≡ get_or (map line_of tests) k line → All IsTest tests → IsNoTest line → ⊥
no_test_at [] k line lt is all never = omega (arith, lt)
no_test_at (t ∷ tests) zero line lt is all never = never t (sym is) (all 0 t (omega arith))
no_test_at (t ∷ tests) (suc k) line lt is all never = no_test_at tests k line (omega (arith, lt)) is (λ j d below. all (suc j) d (omega arith)) never

pub no_test_among : (tests : List TestFiles) (k : ℕ) (line : Text) (all : List Text) → map line_of tests ≡ all → k < length all → line ≡ get_or all k line → All IsTest tests → IsNoTest line → ⊥
no_test_among tests k line all same lt is words never =
    no_test_at tests k line (subst (λ (l : List Text). k < length l) (sym same) lt) (is ∙ ap (λ (l : List Text). get_or l k line) (sym same)) words never

-- ---- a line that is no test

-- behind its first word no word follows
pub no_second : (line input rest : Text) → line ≡ input ++ (32 ∷ rest) → IsWord input → BeginsWithNoWord rest → IsNoTest line
no_second line input rest cut is never t its words = never t.output.now _ (sym (behind line input rest t.input.now _ cut is its words.0)) words.1

-- nor behind its second
pub no_third : (line input rest output more : Text) → line ≡ input ++ (32 ∷ rest) → IsWord input → rest ≡ output ++ (32 ∷ more) → IsWord output → BeginsWithNoWord more → IsNoTest line
no_third line input rest output more cut is next also never t its words =
    never t.errors.now _ (sym (behind rest output more t.output.now _ next also (behind line input rest t.input.now _ cut is its words.0) words.1)) words.2

-- what follows behind its third is none
pub no_fourth : (line input rest output more errors report : Text) → line ≡ input ++ (32 ∷ rest) → IsWord input → rest ≡ output ++ (32 ∷ more) → IsWord output
    → more ≡ errors ++ (32 ∷ report) → IsWord errors → (IsWord report → ⊥) → IsNoTest line
no_fourth line input rest output more errors report cut is next also then too never t its words =
    never (subst IsWord (behind more errors report t.errors.now _ then too (behind rest output more t.output.now _ next also (behind line input rest t.input.now _ cut is its words.0) words.1) words.2) words.3)

-- a call that gave none
pub of_none : {X : Type 0} (r : Option X) (P : Type 0) (Q : X → Type 0) → r ≡ None → P → MatchOption r P Q
of_none r P Q is holds = subst (λ (o : Option _). MatchOption o P Q) (sym is) holds
