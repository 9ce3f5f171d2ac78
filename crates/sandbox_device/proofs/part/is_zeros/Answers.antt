use Rattle.std.proofs.Common.{◌≡◌, ◌<◌, ◌+◌, ℕ, List, length, max, get_or, replicate, inl, inr, ap, ◌∙◌, sym, arith, rules}
use Rattle.std.proofs.lemmas.Bool.{cases_eq}
use Rattle.std.proofs.lemmas.List.{ext_get_or, get_or-replicate, length-replicate}
use Rattle.sandbox_device.proofs.part.is_zeros.Goals as goal

-- one more
more : (bytes : List ℕ) (largest i : ℕ) → (largest ≡ 0 → (k : ℕ) → k < i → get_or bytes k 0 ≡ 0) → max largest (get_or bytes i 0) ≡ 0 → (k : ℕ) → k < i + 1 → get_or bytes k 0 ≡ 0
more bytes largest i so_far none k lt = elim (cases_eq k i) [
  | inl here ↦ ap (λ (m : ℕ). get_or bytes m 0) here ∙ omega (arith, none)
  | inr other ↦ so_far (omega (arith, none)) k (omega (arith, lt, other))
]

all_zeros : (bytes : List ℕ) (n : ℕ) → length bytes ≡ n → ((k : ℕ) → k < n → get_or bytes k 0 ≡ 0) → bytes ≡ replicate n 0
all_zeros bytes n long each = ext_get_or 0 bytes (replicate n 0) (long ∙ sym (length-replicate {A = ℕ} n 0))
    (λ i lt. each i (omega (arith, lt, long)) ∙ sym (get_or-replicate n i 0 0 (omega (arith, lt, long))))

pub loop-byte-preserved : goal.loop-byte-preserved
loop-byte-preserved c = λ none. more c.args.image.now c.loop-byte.largest c.loop-byte.byte-index c.loop-byte.invariant (sym c.max-largest.ensures ∙ none)

pub returns : goal.returns
returns c none = all_zeros c.args.image.now 512 c.told-image
    (λ k lt. c.loop-byte.invariant (search (rules, none)) k (omega (arith, lt, c.loop-byte-test.false)))
