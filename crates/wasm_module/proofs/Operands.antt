-- Opcodes whose operand is read before they are told apart.
use Rattle.std.proofs.Common.{Bool, true, false, ◌≡◌, ℕ, ◌<◌, ◌≤◌, cond, eqb, List, Option, Some, None, Result, Ok, Err, refl, sym, subst, ◌∙◌, arith}
use Rattle.std.proofs.lemmas.Bool.{eqb-true, eqb-false, ne_eqb}
use Rattle.wasm_syntax.specs.declared.profile.Profile.{Profile}
use Rattle.wasm_syntax.specs.declared.fault.LoadFault.{LoadFault}
use Rattle.wasm_syntax.specs.declared.instruction.BlockType.{BlockType}
use Rattle.wasm_syntax.specs.declared.instruction.Instruction.{Instruction}
use Rattle.wasm_syntax.specs.declared.instruction.Instruction.TheVariants as op
use Rattle.wasm_syntax.specs.internal.CodeReading.{saturated, bulk_after, control_after, block_with, branch_with, variable_after, variable_with}
use Rattle.wasm_syntax.specs.internal.TypesReading.{block_type_at}
use Rattle.wasm_syntax.specs.Reading.{◌>>=◌, Gives, Reader, map_at, u32_at}

-- an operand, and the instruction that is made of it
abbrev pub made_with : {X : Type 0} → Reader X → (X → Option Instruction) → Reader Instruction
made_with a made bytes = a bytes >>= λ x. made x.0 >>= λ i. Some (i, x.1)

-- one more opcode
more : {X : Type 0} (t : Bool) (a : Reader X) (f : X → Instruction) (g : Reader Instruction) (made : X → Option Instruction) (bytes : List ℕ) → g bytes ≡ made_with a made bytes → cond t (map_at f a) g bytes ≡ made_with a (λ x. cond t (Some (f x)) (made x)) bytes
more true a f g made bytes e = refl
more false a f g made bytes e = e

-- no opcode
none : {X : Type 0} (a : Reader X) (bytes : List ℕ) (o : Option (X × List ℕ)) → a bytes ≡ o → None ≡ made_with a (λ x. None) bytes
none a bytes (Some x) is = rw is refl
none a bytes None is = rw is refl

-- what is made of an operand that was read is what is read
given : {X : Type 0} (a : Reader X) (made : X → Option Instruction) (bytes rest : List ℕ) (x : X) (r : Result Instruction LoadFault) → a bytes ≡ Some (x, rest) → Gives (λ i. i) r (made x) → Gives (λ i. (i, rest)) r (made_with a made bytes)
given a made bytes rest x (Ok i) is made_is = rw (is, made_is) refl
given a made bytes rest x (Err e) is made_is = λ other. rw (is, made_is other) refl

-- a number that is greater is another
differs : (b code : ℕ) → code < b → eqb b code ≡ false
differs b code lt = by_test (eqb b code) refl where
  by_test : (t : Bool) → eqb b code ≡ t → t ≡ false
  by_test true is = let same : b ≡ code = eqb-true _ _ is in absurd (omega (arith, same))
  by_test false is = refl

-- the variables, whose opcodes are greater than the others'
variables : (b : ℕ) (bytes : List ℕ) → 0x20 ≤ b → variable_after b bytes ≡ made_with u32_at (variable_with b) bytes
unfolding variable_after variable_with
variables b bytes low =
    rw (differs b 0x1A (omega arith), differs b 0x1B (omega arith)) (
    more (eqb b 0x20) u32_at op.LocalGet _ _ bytes (
    more (eqb b 0x21) u32_at op.LocalSet _ _ bytes (
    more (eqb b 0x22) u32_at op.LocalTee _ _ bytes (
    more (eqb b 0x23) u32_at op.GlobalGet _ _ bytes (
    more (eqb b 0x24) u32_at op.GlobalSet _ _ bytes (
    none u32_at bytes _ refl))))))

-- what is made of the operand of an instruction on a variable is what is read
pub variables_given : (b : ℕ) (bytes rest : List ℕ) (x : ℕ) (r : Result Instruction LoadFault) → 0x20 ≤ b → u32_at bytes ≡ Some (x, rest) → Gives (λ i. i) r (variable_with b x) → Gives (λ i. (i, rest)) r (variable_after b bytes)
variables_given b bytes rest x r low is made_is = subst (λ (o : Option (Instruction × List ℕ)). Gives (λ i. (i, rest)) r o) (sym (variables b bytes low)) (given u32_at (variable_with b) bytes rest x r is made_is)

-- where the operand of an instruction on a variable can't be read, nothing can
pub variables_none : (b : ℕ) (bytes : List ℕ) → 0x20 ≤ b → u32_at bytes ≡ None → variable_after b bytes ≡ None
variables_none b bytes low none_is = variables b bytes low ∙ rw none_is refl

module _ (profile : Profile) where
  -- the beginnings of blocks
  blocks : (b : ℕ) (bytes : List ℕ) → 0x02 ≤ b → b ≤ 0x04 → control_after profile b bytes ≡ made_with (block_type_at profile) (block_with b) bytes
  unfolding control_after block_with
  blocks b bytes low high = by_code (eqb b 0x02) refl (eqb b 0x03) refl where
    by_code : (t : Bool) → eqb b 0x02 ≡ t → (u : Bool) → eqb b 0x03 ≡ u → control_after profile b bytes ≡ made_with (block_type_at profile) (block_with b) bytes
    by_code true is u other = rw (eqb-true b 0x02 is) refl
    by_code false is true other = rw (eqb-true b 0x03 other) refl
    by_code false is false other = let last : b ≡ 0x04 = omega (arith, eqb-false b 0x02 is, eqb-false b 0x03 other) in rw last refl

  -- what is made of the type of a block is what is read
  pub blocks_given : (b : ℕ) (bytes rest : List ℕ) (x : BlockType) (r : Result Instruction LoadFault) → 0x02 ≤ b → b ≤ 0x04 → block_type_at profile bytes ≡ Some (x, rest) → Gives (λ i. i) r (block_with b x) → Gives (λ i. (i, rest)) r (control_after profile b bytes)
  blocks_given b bytes rest x r low high is made_is = subst (λ (o : Option (Instruction × List ℕ)). Gives (λ i. (i, rest)) r o) (sym (blocks b bytes low high)) (given (block_type_at profile) (block_with b) bytes rest x r is made_is)

  -- where the type of a block can't be read, nothing can
  pub blocks_none : (b : ℕ) (bytes : List ℕ) → 0x02 ≤ b → b ≤ 0x04 → block_type_at profile bytes ≡ None → control_after profile b bytes ≡ None
  blocks_none b bytes low high none_is = blocks b bytes low high ∙ rw none_is refl

  -- the branches
  branches : (b : ℕ) (bytes : List ℕ) → 0x0C ≤ b → b ≤ 0x0D → control_after profile b bytes ≡ made_with u32_at (branch_with b) bytes
  unfolding control_after branch_with
  branches b bytes low high = by_code (eqb b 0x0C) refl where
    by_code : (t : Bool) → eqb b 0x0C ≡ t → control_after profile b bytes ≡ made_with u32_at (branch_with b) bytes
    by_code true is = rw (eqb-true b 0x0C is) refl
    by_code false is = let last : b ≡ 0x0D = omega (arith, eqb-false b 0x0C is) in rw last refl

  -- what is made of the label of a branch is what is read
  pub branches_given : (b : ℕ) (bytes rest : List ℕ) (x : ℕ) (r : Result Instruction LoadFault) → 0x0C ≤ b → b ≤ 0x0D → u32_at bytes ≡ Some (x, rest) → Gives (λ i. i) r (branch_with b x) → Gives (λ i. (i, rest)) r (control_after profile b bytes)
  branches_given b bytes rest x r low high is made_is = subst (λ (o : Option (Instruction × List ℕ)). Gives (λ i. (i, rest)) r o) (sym (branches b bytes low high)) (given u32_at (branch_with b) bytes rest x r is made_is)

  -- where the label of a branch can't be read, nothing can
  pub branches_none : (b : ℕ) (bytes : List ℕ) → 0x0C ≤ b → b ≤ 0x0D → u32_at bytes ≡ None → control_after profile b bytes ≡ None
  branches_none b bytes low high none_is = branches b bytes low high ∙ rw none_is refl

  -- the saturating conversions stand behind the other numbers
  pub saturations_given : (n : ℕ) (bytes : List ℕ) (r : Result Instruction LoadFault) → (n ≡ 10 → ⊥) → (n ≡ 11 → ⊥) → Gives (λ i. i) r (saturated profile n) → Gives (λ i. (i, bytes)) r (bulk_after profile n bytes)
  unfolding bulk_after
  saturations_given n bytes (Ok i) not_copy not_fill is = rw (ne_eqb n 10 not_copy, ne_eqb n 11 not_fill, is) refl
  saturations_given n bytes (Err e) not_copy not_fill is = λ other. rw (ne_eqb n 10 not_copy, ne_eqb n 11 not_fill, is other) refl
