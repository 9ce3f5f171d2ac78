-- Which instructions an opcode is of.
use Rattle.std.proofs.Common.{◌≡◌, ℕ, ◌<◌, ◌≤◌, List, refl, arith}
use Rattle.std.proofs.lemmas.Bool.{ne_eqb, lt-ltb, le-ltb}
use Rattle.wasm_syntax.specs.declared.profile.Profile.{Profile}
use Rattle.wasm_syntax.specs.internal.CodeReading.{control_after, variable_after, load_after, store_after, size_after, operator_after, instruction_after}

module _ (profile : Profile) where
  -- opcodes of control instructions
  pub control_read : (b : ℕ) (bytes : List ℕ) → b ≤ 0x11 → instruction_after profile b bytes ≡ control_after profile b bytes
  unfolding instruction_after
  control_read b bytes high = rw (ne_eqb b 0x41 (λ e. omega (arith, e)), ne_eqb b 0x42 (λ e. omega (arith, e)), ne_eqb b 0xFC (λ e. omega (arith, e)), lt-ltb b 0x12 (omega arith)) refl

  -- opcodes of parametric and variable instructions
  pub variable_read : (b : ℕ) (bytes : List ℕ) → 0x11 < b → b ≤ 0x27 → instruction_after profile b bytes ≡ variable_after b bytes
  unfolding instruction_after
  variable_read b bytes low high = rw (ne_eqb b 0x41 (λ e. omega (arith, e)), ne_eqb b 0x42 (λ e. omega (arith, e)), ne_eqb b 0xFC (λ e. omega (arith, e)), le-ltb b 0x12 (omega arith), lt-ltb b 0x28 (omega arith)) refl

  -- opcodes of loads
  pub load_read : (b : ℕ) (bytes : List ℕ) → 0x27 < b → b ≤ 0x35 → instruction_after profile b bytes ≡ load_after profile b bytes
  unfolding instruction_after
  load_read b bytes low high = rw (ne_eqb b 0x41 (λ e. omega (arith, e)), ne_eqb b 0x42 (λ e. omega (arith, e)), ne_eqb b 0xFC (λ e. omega (arith, e)), le-ltb b 0x12 (omega arith), le-ltb b 0x28 (omega arith), lt-ltb b 0x36 (omega arith)) refl

  -- opcodes of stores
  pub store_read : (b : ℕ) (bytes : List ℕ) → 0x35 < b → b ≤ 0x3E → instruction_after profile b bytes ≡ store_after profile b bytes
  unfolding instruction_after
  store_read b bytes low high = rw (ne_eqb b 0x41 (λ e. omega (arith, e)), ne_eqb b 0x42 (λ e. omega (arith, e)), ne_eqb b 0xFC (λ e. omega (arith, e)), le-ltb b 0x12 (omega arith), le-ltb b 0x28 (omega arith), le-ltb b 0x36 (omega arith), lt-ltb b 0x3F (omega arith)) refl

  -- opcodes of the size of memory and its growth
  pub size_read : (b : ℕ) (bytes : List ℕ) → 0x3E < b → b ≤ 0x40 → instruction_after profile b bytes ≡ size_after b bytes
  unfolding instruction_after
  size_read b bytes low high = rw (ne_eqb b 0x41 (λ e. omega (arith, e)), ne_eqb b 0x42 (λ e. omega (arith, e)), ne_eqb b 0xFC (λ e. omega (arith, e)), le-ltb b 0x12 (omega arith), le-ltb b 0x28 (omega arith), le-ltb b 0x36 (omega arith), le-ltb b 0x3F (omega arith), lt-ltb b 0x41 (omega arith)) refl

  -- opcodes of instructions on numbers
  pub operator_read : (b : ℕ) (bytes : List ℕ) → 0x40 < b → (b ≡ 0x41 → ⊥) → (b ≡ 0x42 → ⊥) → (b ≡ 0xFC → ⊥) → instruction_after profile b bytes ≡ operator_after profile b bytes
  unfolding instruction_after
  operator_read b bytes low not_32 not_64 not_bulk = rw (ne_eqb b 0x41 not_32, ne_eqb b 0x42 not_64, ne_eqb b 0xFC not_bulk, le-ltb b 0x12 (omega arith), le-ltb b 0x28 (omega arith), le-ltb b 0x36 (omega arith), le-ltb b 0x3F (omega arith), le-ltb b 0x41 (omega arith)) refl
