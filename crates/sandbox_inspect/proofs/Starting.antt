-- The table of where the code section's entries begin, as a loop makes it, and what it has at an index.
use Rattle.std.proofs.Common.{◌≡◌, ℕ, zero, suc, ◌+◌, ◌-◌, ◌<◌, nat_lt, cond, Bool, true, false, List, [], ◌∷◌, ◌++◌, length, Option, Some, None, refl, sym, ap, ◌∙◌, arith, length-append}
use Rattle.std.specs.Prelude.{slice_get}
use Rattle.std.specs.Option.{option_map_or}
use Rattle.wasm_syntax.specs.Reading.{◌>>=◌, u32_at, sized_at, raw_of}
use Rattle.wasm_module.proofs.Laws.{bind_some, some_is}
use Rattle.sandbox_inspect.specs.declared.sections.Wanted.TheVariants.{Code}
use Rattle.sandbox_inspect.specs.Places.{Section, module_section, nth_entry, own_entry}
use Rattle.sandbox_inspect.specs.internal.Starts.{starts_from, AreStarts}

-- with the entry that the bytes begin with, and with none
module _ (end n : ℕ) (rest : List ℕ) where
  from_entry : (o : Option (List ℕ × List ℕ)) → sized_at raw_of rest ≡ o → starts_from end (suc n) rest ≡ option_map_or (λ e. (end - length e.1 - length e.0) ∷ starts_from end n e.1) o []
  from_entry o is = ap (λ (o : Option (List ℕ × List ℕ)). option_map_or (λ e. (end - length e.1 - length e.0) ∷ starts_from end n e.1) o []) is

-- of `most` turns the one after the first i
pub starts_on : (end most i : ℕ) (rest content after : List ℕ) → i < most → sized_at raw_of rest ≡ Some (content, after)
    → starts_from end (most - i) rest ≡ (end - length after - length content) ∷ starts_from end (most - (i + 1)) after
starts_on end most i rest content after h is =
    let one_less : most - i ≡ suc (most - (i + 1)) = omega (arith, h) in
    ap (λ n. starts_from end n rest) one_less ∙ from_entry end (most - (i + 1)) rest (Some (content, after)) is

pub starts_stop : (end n : ℕ) (rest : List ℕ) → sized_at raw_of rest ≡ None → starts_from end n rest ≡ []
starts_stop end zero rest is = refl
starts_stop end (suc n) rest is = from_entry end n rest None is

pub starts_done : (end most i : ℕ) (rest : List ℕ) → most - i ≡ 0 → starts_from end (most - i) rest ≡ []
starts_done end most i rest is = ap (λ n. starts_from end n rest) is

starts_at : (end n own start : ℕ) (entries content after : List ℕ) → slice_get (starts_from end n entries) own ≡ Some start → nth_entry own entries ≡ Some (content, after)
    → start ≡ end - length after - length content
starts_at end zero own start entries content after has e = cc
starts_at end (suc n) zero start entries content after has e =
    sym (some_is _ _ (sym (ap (λ xs. slice_get xs 0) (from_entry end n entries (Some (content, after)) e)) ∙ has))
starts_at end (suc n) (suc own) start entries content after has e =
    let k = bind_some (sized_at raw_of entries) (λ c. nth_entry own c.1) (content, after) e in
    starts_at end n own start k.0.1 content after (sym (ap (λ xs. slice_get xs (suc own)) (from_entry end n entries (Some k.0) k.1)) ∙ has) k.2

abbrev of_entries : ℕ → Section → ℕ × List ℕ → Option (List ℕ × List ℕ)
of_entries own s n = cond (nat_lt own n.0) (nth_entry own n.1 >>= λ x. Some (x.0, x.1 ++ s.rest)) None

module _ (bytes : List ℕ) (s : Section) (count n : ℕ) (entries : List ℕ) (own start : ℕ) (content behind : List ℕ) where
  by_count : slice_get (starts_from (length bytes - length s.rest) n entries) own ≡ Some start → (b : Bool)
      → cond b (◌>>=◌ {B = List ℕ × List ℕ} (nth_entry own entries) (λ x. Some (x.0, x.1 ++ s.rest))) None ≡ Some (content, behind)
      → start ≡ length bytes - length behind - length content
  by_count has true e =
      let x = bind_some {B = List ℕ × List ℕ} (nth_entry own entries) (λ x. Some (x.0, x.1 ++ s.rest)) (content, behind) e in
      let same : (x.0.0, x.0.1 ++ s.rest) ≡ (content, behind) = some_is _ _ x.2 in
      let front : length x.0.0 ≡ length content = ap (λ (z : List ℕ × List ℕ). length z.0) same in
      let back : length (x.0.1 ++ s.rest) ≡ length behind = ap (λ (z : List ℕ × List ℕ). length z.1) same in
      omega (arith, front, back, length-append x.0.1 s.rest, starts_at (length bytes - length s.rest) n own start entries x.0.0 x.0.1 has x.1)
  by_count has false e = cc

pub are_starts : (bytes : List ℕ) (s : Section) (count n : ℕ) (entries : List ℕ) → module_section Code bytes ≡ Some s → u32_at s.content ≡ Some (count, entries)
    → AreStarts bytes (starts_from (length bytes - length s.rest) n entries)
are_starts bytes s count n entries es ec own start content behind has e =
    let section : own_entry bytes own ≡ (u32_at s.content >>= of_entries own s) = ap (λ (o : Option Section). o >>= λ s. u32_at s.content >>= of_entries own s) es in
    let number : (u32_at s.content >>= of_entries own s) ≡ of_entries own s (count, entries) = ap (λ (o : Option (ℕ × List ℕ)). o >>= of_entries own s) ec in
    by_count bytes s count n entries own start content behind has (nat_lt own count) (sym number ∙ sym section ∙ e)

pub no_starts : (bytes : List ℕ) → AreStarts bytes []
no_starts bytes own start content behind has e = cc
