-- One turn of a loop that reads.
use Rattle.std.proofs.Common.{Bool, true, false, ◌≡◌, ℕ, suc, ◌-◌, ◌+◌, ◌≤◌, ◌<◌, cond, eqb, List, [], ◌∷◌, ◌++◌, length, Option, Some, None, refl, sym, ap, ◌∙◌, append_assoc, arith}
use Rattle.std.proofs.lemmas.List.{append-nil}
use Rattle.wasm_syntax.specs.declared.profile.Profile.{Profile}
use Rattle.wasm_syntax.specs.declared.instruction.Instruction.{Instruction}
use Rattle.wasm_syntax.specs.declared.open_blocks.OpenBlock.{OpenBlock}
use Rattle.wasm_syntax.specs.Reading.{◌>>=◌, Reader, begins, next_at, sized_at, custom_of, customs_from, many_at}
use Rattle.wasm_syntax.specs.internal.CodeReading.{instruction_at, after_instruction, one_more_at, code_from}
use Rattle.wasm_module.proofs.Loop.{with_front}

-- one turn of the loop over custom sections
pub customs_more : (count i : ℕ) (bytes : List ℕ) → i < count → customs_from (count - i) bytes ≡ cond (begins 0 bytes) (next_at bytes >>= λ b. sized_at custom_of b.1 >>= λ x. customs_from (count - (i + 1)) x.1) (Some (tt, bytes))
unfolding customs_from
customs_more count i bytes lt = let k : count - i ≡ suc (count - (i + 1)) = omega arith in rw k refl

-- no more custom sections are looked for
pub customs_done : (count i : ℕ) (bytes : List ℕ) → count ≤ i → customs_from (count - i) bytes ≡ Some (tt, bytes)
unfolding customs_from
customs_done count i bytes le = let k : count - i ≡ 0 = omega arith in rw k refl

-- an item moves from what is read to what was read before
regroup : {X : Type 0} (front : List X) (n : X) (read : Option (List X × List ℕ)) → with_front front (read >>= λ x. Some (n ∷ x.0, x.1)) ≡ with_front (front ++ n ∷ []) read
regroup {X} front n (Some x) = ap (λ (ns : List X). Some (ns, x.1)) (simp append_assoc)
regroup front n None = refl

-- the code ends, or goes on
by_test : (front : List Instruction) (b : Bool) (o : Instruction) (rest : List ℕ) (read : Option (List Instruction × List ℕ)) → with_front front (cond b (Some (o ∷ [], rest)) (read >>= λ os. Some (o ∷ os.0, os.1))) ≡ cond b (Some (front ++ o ∷ [], rest)) (with_front (front ++ o ∷ []) read)
by_test front true o rest read = refl
by_test front false o rest read = regroup front o read

-- one item more
by_item : {X : Type 0} (a : Reader X) (front : List X) (count i : ℕ) (read : Option (X × List ℕ)) → with_front front (read >>= λ x. many_at a (count - (i + 1)) x.1 >>= λ xs. Some (x.0 ∷ xs.0, xs.1)) ≡ (read >>= λ x. with_front (front ++ x.0 ∷ []) (many_at a (count - (i + 1)) x.1))
by_item a front count i None = refl
by_item a front count i (Some x) = regroup front x.0 (many_at a (count - (i + 1)) x.1)

-- one turn of the loop over a list
pub many_more : {X : Type 0} (a : Reader X) (front : List X) (count i : ℕ) (bytes : List ℕ) → i < count → with_front front (many_at a (count - i) bytes) ≡ (a bytes >>= λ x. with_front (front ++ x.0 ∷ []) (many_at a (count - (i + 1)) x.1))
unfolding many_at
many_more a front count i bytes lt =
    let k : count - i ≡ suc (count - (i + 1)) = omega arith in
    rw k (by_item a front count i (a bytes))

-- the list is read
pub many_done : {X : Type 0} (a : Reader X) (front : List X) (count i : ℕ) (bytes : List ℕ) → count ≤ i → with_front front (many_at a (count - i) bytes) ≡ Some (front, bytes)
unfolding many_at
many_done {X} a front count i bytes le = let k : count - i ≡ 0 = omega arith in rw k (ap (λ (ns : List X). Some (ns, bytes)) (append-nil front))

-- nothing was read before
front_none : {X : Type 0} (read : Option (List X × List ℕ)) → with_front [] read ≡ read
front_none None = refl
front_none (Some x) = refl

-- a loop begins with nothing read, and all still to be read
pub begins_loop : {X : Type 0} (front : List X) (read : ℕ → Option (List X × List ℕ)) (count : ℕ) → front ≡ [] → with_front front (read (count - 0)) ≡ read count
begins_loop front read count none = let all : count - 0 ≡ count = omega arith in rw (none, all) (front_none (read count))

-- where no item can be read, no list can
pub many_no_item : {X : Type 0} (a : Reader X) (front : List X) (count i : ℕ) (bytes : List ℕ) (total : Option (List X × List ℕ)) → i < count → a bytes ≡ None → with_front front (many_at a (count - i) bytes) ≡ total → total ≡ None
many_no_item a front count i bytes total lt none so_far = sym so_far ∙ many_more a front count i bytes lt ∙ rw none refl

-- an item more is read
pub many_goes_on : {X : Type 0} (a : Reader X) (front more : List X) (count i : ℕ) (bytes : List ℕ) (x : X) (rest : List ℕ) (total : Option (List X × List ℕ)) → i < count → a bytes ≡ Some (x, rest) → more ≡ front ++ x ∷ [] → with_front front (many_at a (count - i) bytes) ≡ total → with_front more (many_at a (count - (i + 1)) rest) ≡ total
many_goes_on a front more count i bytes x rest total lt is pushed so_far =
    let turn : with_front front (many_at a (count - i) bytes) ≡ with_front (front ++ x ∷ []) (many_at a (count - (i + 1)) rest) = many_more a front count i bytes lt ∙ rw is refl in
    rw pushed (sym turn ∙ so_far)

-- ---- instructions up to the end of code

module _ (profile : Profile) where
  -- the code ends with the instruction that was read, or goes on
  abbrev after_one : ℕ → Option ((List Instruction × List OpenBlock) × List ℕ) → Option (List Instruction × List ℕ)
  after_one n read = read >>= λ s. cond (eqb (length s.0.1) 0) (Some (s.0.0, s.1)) (with_front s.0.0 (code_from profile n s.0.1 s.1))

  -- the code and the open blocks with an instruction more
  abbrev with_one : List Instruction → Instruction → List ℕ → Option (List OpenBlock) → Option ((List Instruction × List OpenBlock) × List ℕ)
  with_one front o rest fs = fs >>= λ gs. Some ((front ++ o ∷ [], gs), rest)

  -- what is read before, an instruction, and what is still to be read
  pub code_more : (front : List Instruction) (count i : ℕ) (fs : List OpenBlock) (bytes : List ℕ) → i < count → with_front front (code_from profile (count - i) fs bytes) ≡ after_one (count - (i + 1)) (one_more_at profile front fs bytes)
  unfolding code_from one_more_at
  code_more front count i fs bytes lt =
      let k : count - i ≡ suc (count - (i + 1)) = omega arith in
      rw k (by_op (instruction_at profile bytes)) where
        by_frames : (o : Instruction) (rest : List ℕ) (gs : Option (List OpenBlock)) → with_front front (gs >>= λ gs. cond (eqb (length gs) 0) (Some (o ∷ [], rest)) (code_from profile (count - (i + 1)) gs rest >>= λ os. Some (o ∷ os.0, os.1))) ≡ after_one (count - (i + 1)) (with_one front o rest gs)
        by_frames o rest None = refl
        by_frames o rest (Some gs) = by_test front (eqb (length gs) 0) o rest (code_from profile (count - (i + 1)) gs rest)

        by_op : (read : Option (Instruction × List ℕ)) → with_front front (read >>= λ o. after_instruction o.0 fs >>= λ gs. cond (eqb (length gs) 0) (Some (o.0 ∷ [], o.1)) (code_from profile (count - (i + 1)) gs o.1 >>= λ os. Some (o.0 ∷ os.0, os.1))) ≡ after_one (count - (i + 1)) (read >>= λ o. with_one front o.0 o.1 (after_instruction o.0 fs))
        by_op None = refl
        by_op (Some o) = by_frames o.0 o.1 (after_instruction o.0 fs)

  -- no more instructions are looked for
  pub code_done : (front : List Instruction) (count i : ℕ) (fs : List OpenBlock) (bytes : List ℕ) → count ≤ i → with_front front (code_from profile (count - i) fs bytes) ≡ None
  unfolding code_from
  code_done front count i fs bytes le = let k : count - i ≡ 0 = omega arith in rw k refl

  -- where no instruction can be read, or it closes what is not open, no code can
  pub code_no_more : (front : List Instruction) (count i : ℕ) (fs : List OpenBlock) (bytes : List ℕ) (total : Option (List Instruction × List ℕ)) → i < count → one_more_at profile front fs bytes ≡ None → with_front front (code_from profile (count - i) fs bytes) ≡ total → total ≡ None
  code_no_more front count i fs bytes total lt none so_far = sym so_far ∙ code_more front count i fs bytes lt ∙ rw none refl

  -- an instruction more is read, and blocks are still open
  pub code_goes_on : (front more : List Instruction) (count i : ℕ) (fs gs : List OpenBlock) (bytes rest : List ℕ) (total : Option (List Instruction × List ℕ)) → i < count → one_more_at profile front fs bytes ≡ Some ((more, gs), rest) → false ≡ eqb (length gs) 0
      → with_front front (code_from profile (count - i) fs bytes) ≡ total → with_front more (code_from profile (count - (i + 1)) gs rest) ≡ total
  code_goes_on front more count i fs gs bytes rest total lt is more_open so_far =
      let turn : with_front front (code_from profile (count - i) fs bytes) ≡ with_front more (code_from profile (count - (i + 1)) gs rest) = code_more front count i fs bytes lt ∙ rw (is, ← more_open) refl in
      sym turn ∙ so_far

  -- an instruction closes the last open block
  pub code_closes : (front more : List Instruction) (count i : ℕ) (fs gs : List OpenBlock) (bytes rest : List ℕ) (total : Option (List Instruction × List ℕ)) → i < count → one_more_at profile front fs bytes ≡ Some ((more, gs), rest) → true ≡ eqb (length gs) 0 → with_front front (code_from profile (count - i) fs bytes) ≡ total → total ≡ Some (more, rest)
  code_closes front more count i fs gs bytes rest total lt is closed so_far = sym so_far ∙ code_more front count i fs bytes lt ∙ rw (is, ← closed) refl

  -- the bytes end while blocks are open
  pub code_breaks_off : (front : List Instruction) (count i : ℕ) (fs : List OpenBlock) (bytes : List ℕ) (total : Option (List Instruction × List ℕ)) → count ≤ i → with_front front (code_from profile (count - i) fs bytes) ≡ total → total ≡ None
  code_breaks_off front count i fs bytes total le so_far = sym so_far ∙ code_done front count i fs bytes le
