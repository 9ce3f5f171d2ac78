-- What an exit of a reader gives.
use Rattle.std.proofs.Common.{◌≡◌, ◌∙◌, ℕ, List, Option, Some, None, Result, Ok, Err, refl}
use Rattle.std.specs.Result.{IsErrAnd}
use Rattle.wasm_syntax.specs.declared.fault.LoadFault.{LoadFault}
use Rattle.wasm_syntax.specs.declared.fault.LoadFault.TheVariants as faults
use Rattle.wasm_syntax.specs.Reading.{◌>>=◌, Gives, Reader, WholeReader, u32_at, then_at, piece_at, sized_at, raw_of}

-- a step's fault is handed on: where it is not that memory was refused, nothing is read
pub handed_on : {X Y : Type 0} (view : X → Y) (read : Option Y) (r : Result X LoadFault) (e : LoadFault) → IsErrAnd r (λ d. d ≡ e) → ((e ≡ faults.Memory → ⊥) → read ≡ None) → Gives view r read
handed_on view read (Ok x) e is none = absurd is
handed_on view read (Err d) e is none = λ other. none (λ refused. other (is ∙ refused))

-- memory was refused, which says nothing of what is read
pub without_memory : {X Y : Type 0} (view : X → Y) (read : Option Y) (r : Result X LoadFault) → IsErrAnd r (λ d. d ≡ faults.Memory) → Gives view r read
without_memory view read (Ok x) is = absurd is
without_memory view read (Err d) is = λ other. absurd (other is)

-- a value in the bytes that were taken by themselves
abbrev pub within : {X : Type 0} → WholeReader X → Option (List ℕ × List ℕ) → Option (X × List ℕ)
within w read = read >>= λ p. w p.0 >>= λ x. Some (x, p.1)

-- a value after its size is in the bytes that come after their count
pub sized_piece : {X : Type 0} (w : WholeReader X) (bytes : List ℕ) → sized_at w bytes ≡ within w (sized_at raw_of bytes)
unfolding sized_at raw_of
sized_piece {X} w bytes = by_size (u32_at bytes) where
  by_piece : (read : Option (List ℕ × List ℕ)) → within w read ≡ within w (within raw_of read)
  by_piece None = refl
  by_piece (Some p) = refl

  by_size : (read : Option (ℕ × List ℕ)) → (read >>= λ n. within w (piece_at n.0 n.1)) ≡ within w (read >>= λ n. within raw_of (piece_at n.0 n.1))
  by_size None = refl
  by_size (Some n) = by_piece (piece_at n.0 n.1)

-- what is made of the bytes that were taken by themselves is what is read
pub given_within : {X Y : Type 0} (view : X → Y) (w : WholeReader Y) (bytes piece rest : List ℕ) (r : Result X LoadFault) → sized_at raw_of bytes ≡ Some (piece, rest) → Gives view r (w piece) → Gives (λ x. (view x, rest)) r (sized_at w bytes)
given_within view w bytes piece rest (Ok x) is made = sized_piece w bytes ∙ rw (is, made) refl
given_within view w bytes piece rest (Err e) is made = λ other. sized_piece w bytes ∙ rw (is, made other) refl

-- where the bytes can't be taken, nothing can be read
pub none_within : {X : Type 0} (w : WholeReader X) (bytes : List ℕ) → sized_at raw_of bytes ≡ None → sized_at w bytes ≡ None
none_within w bytes is = sized_piece w bytes ∙ rw is refl

-- what was read before, and what is read after it
abbrev with_first : {X Y : Type 0} → X → Option (Y × List ℕ) → Option ((X × Y) × List ℕ)
with_first x read = read >>= λ y. Some ((x, y.0), y.1)

-- what is read after two
abbrev pub after_two : {X Y Z : Type 0} → Reader Z → Option ((X × Y) × List ℕ) → Option ((X × (Y × Z)) × List ℕ)
after_two c read = read >>= λ p. c p.1 >>= λ z. Some ((p.0.0, (p.0.1, z.0)), z.1)

-- three one after the other, of which two are read together
grouped : {X Y Z : Type 0} (a : Reader X) (b : Reader Y) (c : Reader Z) (bytes : List ℕ) → then_at a (then_at b c) bytes ≡ after_two c (then_at a b bytes)
grouped {X} {Y} {Z} a b c bytes = by_first (a bytes) where
  by_third : (x : X) (y : Y) (read : Option (Z × List ℕ)) → with_first x (with_first y read) ≡ (read >>= λ z. Some ((x, (y, z.0)), z.1))
  by_third x y None = refl
  by_third x y (Some z) = refl

  by_second : (x : X) (read : Option (Y × List ℕ)) → with_first x (read >>= λ y. with_first y.0 (c y.1)) ≡ after_two c (with_first x read)
  by_second x None = refl
  by_second x (Some y) = by_third x y.0 (c y.1)

  by_first : (read : Option (X × List ℕ)) → (read >>= λ x. with_first x.0 (then_at b c x.1)) ≡ after_two c (read >>= λ x. with_first x.0 (b x.1))
  by_first None = refl
  by_first (Some x) = by_second x.0 (b x.1)

-- two were read together, and then a third
pub grouped_some : {X Y Z : Type 0} (a : Reader X) (b : Reader Y) (c : Reader Z) (bytes rest : List ℕ) (x : X) (y : Y) → then_at a b bytes ≡ Some ((x, y), rest) → then_at a (then_at b c) bytes ≡ (c rest >>= λ z. Some ((x, (y, z.0)), z.1))
grouped_some a b c bytes rest x y is = grouped a b c bytes ∙ rw is refl

-- where two can't be read together, three can't
pub grouped_none : {X Y Z : Type 0} (a : Reader X) (b : Reader Y) (c : Reader Z) (bytes : List ℕ) → then_at a b bytes ≡ None → then_at a (then_at b c) bytes ≡ None
grouped_none a b c bytes is = grouped a b c bytes ∙ rw is refl
