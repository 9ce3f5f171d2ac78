-- The laws of single instructions.
use Rattle.std.proofs.Common.{◌≡◌, ℕ, ◌+◌, ◌*◌, ◌^◌, Bool, true, false, cond, eqb, ltb, List, [], ◌∷◌, ◌++◌, Option, Some, None, refl, sym, ap, subst, ◌∙◌, append_assoc, arith}
use Rattle.std.proofs.lemmas.Bool.{eqb-true}
use Rattle.wasm_syntax.specs.declared.profile.Profile.{Profile}
use Rattle.wasm_syntax.specs.declared.profile.Profile.TheVariants.{Integers, Floats}
use Rattle.wasm_syntax.specs.declared.number.Sign.TheVariants.{Signed}
use Rattle.wasm_syntax.specs.declared.instruction.IntegerType.TheVariants.{I32, I64}
use Rattle.wasm_syntax.specs.declared.instruction.MemArg.{MemArg}
use Rattle.wasm_syntax.specs.declared.accesses.LoadOperator.{LoadOperator}
use Rattle.wasm_syntax.specs.declared.accesses.StoreOperator.{StoreOperator}
use Rattle.wasm_syntax.specs.declared.instruction.FloatOperator.{FloatOperator}
use Rattle.wasm_syntax.specs.declared.instruction.FloatOperator.TheVariants as float_op
use Rattle.wasm_syntax.specs.declared.instruction.Instruction.{Instruction}
use Rattle.wasm_syntax.specs.declared.instruction.Instruction.TheVariants as op
use Rattle.wasm_syntax.specs.Number.{SpellsNumber}
use Rattle.wasm_syntax.specs.Grammar.{Byte, Then, U32, Vector, FloatBits, little_endian}
use Rattle.wasm_syntax.specs.Instructions.{comparison_number, binary_operator_number, unary_opcode, load_opcode, store_opcode, float_opcode, saturation_number, SpellsMemArg, SpellsOnlyTable, SpellsFloatNumber, SpellsInstruction}
use Rattle.wasm_syntax.specs.internal.TypesReading.{takes_floats, with_floats}
use Rattle.wasm_syntax.specs.internal.CodeReading.{four_bytes_at, eight_bytes_at, only_table_at, is_float, float_operator_of, float_after, saturation_of, saturated, operator_after, s32_at, s64_at, mem_arg_at, numeric_of, numeric_after, control_after, variable_after, load_of, load_after, store_of, store_after, size_after, bulk_after, bulk_at, instruction_after, instruction_at}
use Rattle.wasm_syntax.specs.Reading.{◌>>=◌, Reader, next_at, byte_at, u32_at, then_at, map_at, vector_at}
use Rattle.wasm_module.proofs.Laws.{bind_some, guard_some, some_is, are_taken, Front, Reads, reads_number}
use Rattle.wasm_module.proofs.Combine.{reads_byte, reads_then, reads_as, reads_u32, reads_vector, choice, operand, alone_then, operand_then, reread}
use Rattle.wasm_module.proofs.TypeLaws.{reads_block_type}
use Rattle.wasm_module.proofs.OperatorLaws.{numeric_takes, load_has_opcode, store_has_opcode, compare32, compare64, operate32, operate64, load_again, store_again, unary32, unary64}
use Rattle.wasm_module.proofs.FloatLaws.{Coded, Numbered, operator_takes, saturation_takes, operator_again, saturation_again}

-- ---- operands

-- signed numbers of 32 bits
reads_s32 : Reads ℕ (SpellsNumber Signed 32) s32_at
unfolding s32_at
reads_s32 = reads_number Signed 32

-- signed numbers of 64 bits
reads_s64 : Reads ℕ (SpellsNumber Signed 64) s64_at
unfolding s64_at
reads_s64 = reads_number Signed 64

-- what loads and stores say of their address
reads_mem_arg : Reads MemArg SpellsMemArg mem_arg_at
unfolding mem_arg_at
reads_mem_arg = reads_as (reads_then reads_u32 reads_u32) (λ p. record { align = p.0; offset = p.1 }) (λ m. (m.align, m.offset)) (λ p. refl) (λ m. refl)

-- the labels of a branch table
reads_labels : Reads (List ℕ × ℕ) (Then (Vector U32) U32) (then_at (vector_at u32_at) u32_at)
reads_labels = reads_then (reads_vector reads_u32) reads_u32

-- a byte that is 0
reads_zero : Reads (Unit {0}) (Byte 0x00) (byte_at 0x00)
reads_zero = reads_byte 0x00

-- two bytes that are 0
reads_zeros : Reads (Unit {0} × Unit {0}) (Then (Byte 0x00) (Byte 0x00)) (then_at (byte_at 0x00) (byte_at 0x00))
reads_zeros = reads_then reads_zero reads_zero

-- ---- the bits of floats

-- a byte that was there
next_is : {Y : Type 0} (bytes : List ℕ) (f : ℕ × List ℕ → Option Y) (y : Y) → (next_at bytes >>= f) ≡ Some y → (b : ℕ) × (rest : List ℕ) × (bytes ≡ b ∷ rest) × (f (b, rest) ≡ Some y)
next_is [] f y e = absurd cc
next_is (b ∷ bs) f y e = (b, bs, refl, e)

-- four bytes that are read
four_take : (bytes : List ℕ) (n : ℕ) (rest : List ℕ) → four_bytes_at bytes ≡ Some (n, rest) → Front ℕ (FloatBits 4) bytes n rest
unfolding four_bytes_at
four_take bytes n rest e =
    let a = next_is bytes _ (n, rest) e in
    let b = next_is a.1 _ (n, rest) a.3 in
    let c = next_is b.1 _ (n, rest) b.3 in
    let d = next_is c.1 _ (n, rest) c.3 in
    let p = some_is (a.0 + 256 * (b.0 + 256 * (c.0 + 256 * d.0)), d.1) (n, rest) d.3 in
    let number : a.0 + 256 * (b.0 + 256 * (c.0 + 256 * d.0)) ≡ n = ap (λ (q : ℕ × List ℕ). q.0) p in
    let left : d.1 ≡ rest = ap (λ (q : ℕ × List ℕ). q.1) p in
    record { text = a.0 ∷ b.0 ∷ c.0 ∷ d.0 ∷ []; spells = (omega arith, omega (arith, number)); parts = a.2 ∙ ap (λ (r : List ℕ). a.0 ∷ r) (b.2 ∙ ap (λ (r : List ℕ). b.0 ∷ r) (c.2 ∙ ap (λ (r : List ℕ). c.0 ∷ r) (d.2 ∙ ap (λ (r : List ℕ). d.0 ∷ r) left))) }

-- four bytes are read
four_again : (text : List ℕ) (n : ℕ) (rest : List ℕ) → FloatBits 4 text n → four_bytes_at (text ++ rest) ≡ Some (n, rest)
unfolding four_bytes_at
four_again [] n rest h = absurd (omega (arith, h.0))
four_again (a ∷ []) n rest h = absurd (omega (arith, h.0))
four_again (a ∷ b ∷ []) n rest h = absurd (omega (arith, h.0))
four_again (a ∷ b ∷ c ∷ []) n rest h = absurd (omega (arith, h.0))
four_again (a ∷ b ∷ c ∷ d ∷ []) n rest h = let number : a + 256 * (b + 256 * (c + 256 * d)) ≡ n = omega (arith, h.1) in rw number refl
four_again (a ∷ b ∷ c ∷ d ∷ x ∷ more) n rest h = absurd (omega (arith, h.0))

-- the bits of an f32
reads_four : Reads ℕ (FloatBits 4) four_bytes_at
reads_four = record { takes = four_take; again = four_again }

-- four bytes and four more
joined : (first second : List ℕ) (low high : ℕ) → FloatBits 4 first low → FloatBits 4 second high → FloatBits 8 (first ++ second) (low + 2 ^ 32 * high)
joined [] second low high h k = absurd (omega (arith, h.0))
joined (a ∷ []) second low high h k = absurd (omega (arith, h.0))
joined (a ∷ b ∷ []) second low high h k = absurd (omega (arith, h.0))
joined (a ∷ b ∷ c ∷ []) second low high h k = absurd (omega (arith, h.0))
joined (a ∷ b ∷ c ∷ d ∷ []) second low high h k = (omega (arith, k.0), omega (arith, h.1, k.1))
joined (a ∷ b ∷ c ∷ d ∷ x ∷ more) second low high h k = absurd (omega (arith, h.0))

-- eight bytes are four and four
record Halves (text : List ℕ) (n : ℕ) : Type 0 where
  pub first : List ℕ
  pub second : List ℕ
  pub low : ℕ
  pub high : ℕ
  pub first_is : FloatBits 4 first low
  pub second_is : FloatBits 4 second high
  pub text_is : text ≡ first ++ second
  pub number : low + 2 ^ 32 * high ≡ n

halved : (text : List ℕ) (n : ℕ) → FloatBits 8 text n → Halves text n
halved [] n h = absurd (omega (arith, h.0))
halved (a ∷ []) n h = absurd (omega (arith, h.0))
halved (a ∷ b ∷ []) n h = absurd (omega (arith, h.0))
halved (a ∷ b ∷ c ∷ []) n h = absurd (omega (arith, h.0))
halved (a ∷ b ∷ c ∷ d ∷ more) n h = record {
  first = a ∷ b ∷ c ∷ d ∷ [];
  second = more;
  low = little_endian (a ∷ b ∷ c ∷ d ∷ []);
  high = little_endian more;
  first_is = (omega arith, refl);
  second_is = (omega (arith, h.0), refl);
  text_is = refl;
  number = omega (arith, h.1);
}

-- the bits of an f64
reads_eight : Reads ℕ (FloatBits 8) eight_bytes_at
unfolding eight_bytes_at
reads_eight = record {
  takes = λ bytes n rest e.
      let s = bind_some (then_at four_bytes_at four_bytes_at bytes) (λ u. Some (u.0.0 + 2 ^ 32 * u.0.1, u.1)) (n, rest) e in
      let f = (reads_then reads_four reads_four).takes bytes s.0.0 s.0.1 s.1 in
      let made : Front ℕ (FloatBits 8) bytes (s.0.0.0 + 2 ^ 32 * s.0.0.1) s.0.1 = record { text = f.text; spells = subst (λ (t : List ℕ). FloatBits 8 t (s.0.0.0 + 2 ^ 32 * s.0.0.1)) (sym f.spells.4) (joined f.spells.0 f.spells.1 s.0.0.0 s.0.0.1 f.spells.2 f.spells.3); parts = f.parts } in
      subst (λ (q : ℕ × List ℕ). Front ℕ (FloatBits 8) bytes q.0 q.1) (some_is (s.0.0.0 + 2 ^ 32 * s.0.0.1, s.0.1) (n, rest) s.2) made;
  again = λ text n rest h.
      let k = halved text n h in
      rw ((reads_then reads_four reads_four).again text (k.low, k.high) rest (k.first, k.second, k.first_is, k.second_is, k.text_is), k.number) refl;
}

-- ---- the only table

only_takes : (profile : Profile) (bytes : List ℕ) (x : Unit {0}) (rest : List ℕ) → only_table_at profile bytes ≡ Some (x, rest) → Front (Unit {0}) (SpellsOnlyTable profile) bytes x rest
unfolding only_table_at
only_takes Integers bytes x rest e = reads_zero.takes bytes x rest e
only_takes Floats bytes x rest e =
    let s = bind_some (u32_at bytes) (λ n. cond (eqb n.0 0) (Some (tt, n.1)) None) (x, rest) e in
    let g = guard_some (eqb s.0.0 0) (tt, s.0.1) (x, rest) s.2 in
    let f = reads_u32.takes bytes s.0.0 s.0.1 s.1 in
    record { text = f.text; spells = subst (U32 f.text) (eqb-true _ _ g.0) f.spells; parts = f.parts ∙ ap (λ (r : List ℕ). f.text ++ r) (ap (λ (q : Unit {0} × List ℕ). q.1) g.1) }

only_again : (profile : Profile) (text : List ℕ) (x : Unit {0}) (rest : List ℕ) → SpellsOnlyTable profile text x → only_table_at profile (text ++ rest) ≡ Some (x, rest)
unfolding only_table_at
only_again Integers text x rest h = reads_zero.again text x rest h
only_again Floats text x rest h = rw (reads_u32.again text 0 rest h) refl

-- ---- by what is taken

module _ (profile : Profile) where
  -- the only table of an indirect call
  reads_only_table : Reads (Unit {0}) (SpellsOnlyTable profile) (only_table_at profile)
  reads_only_table = record { takes = only_takes profile; again = only_again profile }

  -- the type of an indirect call, and its table
  reads_indirect : Reads (ℕ × Unit {0}) (Then U32 (SpellsOnlyTable profile)) (then_at u32_at (only_table_at profile))
  reads_indirect = reads_then reads_u32 reads_only_table

  -- ---- what is read is spelled so

  -- what an opcode and the rest say
  abbrev Said : ℕ → List ℕ → Instruction → List ℕ → Type 0
  Said b rest x after = Front Instruction (SpellsInstruction profile) (b ∷ rest) x after

  -- what is read in one of two ways
  either : (t : Bool) (f g : Reader Instruction) (b : ℕ) (rest : List ℕ) (x : Instruction) (after : List ℕ) → (f rest ≡ Some (x, after) → Said b rest x after) → (g rest ≡ Some (x, after) → Said b rest x after) → cond t f g rest ≡ Some (x, after) → Said b rest x after
  either true f g b rest x after yes_ no_ e = yes_ e
  either false f g b rest x after yes_ no_ e = no_ e

  -- the control instructions
  control_takes : (b : ℕ) (rest : List ℕ) (x : Instruction) (after : List ℕ) → control_after profile b rest ≡ Some (x, after) → Said b rest x after
  unfolding control_after
  control_takes b rest x after =
      alone_then op.Unreachable 0x00 _ ([], refl, refl) (
      alone_then op.Nop 0x01 _ ([], refl, refl) (
      operand_then op.Block 0x02 _ (reads_block_type profile) (λ text y h. (text, h, refl)) (
      operand_then op.Loop 0x03 _ (reads_block_type profile) (λ text y h. (text, h, refl)) (
      operand_then op.If 0x04 _ (reads_block_type profile) (λ text y h. (text, h, refl)) (
      alone_then op.Else 0x05 _ ([], refl, refl) (
      alone_then op.End 0x0B _ ([], refl, refl) (
      operand_then op.Br 0x0C _ reads_u32 (λ text y h. (text, h, refl)) (
      operand_then op.BrIf 0x0D _ reads_u32 (λ text y h. (text, h, refl)) (
      operand_then op.BrTable 0x0E _ reads_labels (λ text y h. (text, h, refl)) (
      alone_then op.Return 0x0F _ ([], refl, refl) (
      operand_then op.Call 0x10 _ reads_u32 (λ text y h. (text, h, refl)) (
      operand_then (λ p. op.CallIndirect p.0) 0x11 _ reads_indirect (λ text y h. (text, h, refl)) (
      λ e. absurd cc)))))))))))))

  -- the parametric and variable instructions
  variable_takes : (b : ℕ) (rest : List ℕ) (x : Instruction) (after : List ℕ) → variable_after b rest ≡ Some (x, after) → Said b rest x after
  unfolding variable_after
  variable_takes b rest x after =
      alone_then op.Drop 0x1A _ ([], refl, refl) (
      alone_then op.Select 0x1B _ ([], refl, refl) (
      operand_then op.LocalGet 0x20 _ reads_u32 (λ text y h. (text, h, refl)) (
      operand_then op.LocalSet 0x21 _ reads_u32 (λ text y h. (text, h, refl)) (
      operand_then op.LocalTee 0x22 _ reads_u32 (λ text y h. (text, h, refl)) (
      operand_then op.GlobalGet 0x23 _ reads_u32 (λ text y h. (text, h, refl)) (
      operand_then op.GlobalSet 0x24 _ reads_u32 (λ text y h. (text, h, refl)) (
      λ e. absurd cc)))))))

  -- an operator by its opcode, and what its address says
  accessed : (O : Type 0) (of : ℕ → Option O) (made : O → MemArg → Instruction) (b : ℕ) (rest : List ℕ) (x : Instruction) (after : List ℕ) → ((o : O) → of b ≡ Some o → (text : List ℕ) (m : MemArg) → SpellsMemArg text m → SpellsInstruction profile (b ∷ text) (made o m)) → (of b >>= λ o. map_at (made o) mem_arg_at rest) ≡ Some (x, after) → Said b rest x after
  accessed O of made b rest x after spells e =
      let s = bind_some (of b) (λ o. map_at (made o) mem_arg_at rest) (x, after) e in
      operand (made s.0) b reads_mem_arg (spells s.0 s.1) refl s.2

  -- the loads
  load_takes : (b : ℕ) (rest : List ℕ) (x : Instruction) (after : List ℕ) → load_after profile b rest ≡ Some (x, after) → Said b rest x after
  unfolding load_after
  load_takes b rest x after e = accessed LoadOperator (load_of profile) op.Load b rest x after (λ o is text m h. let k = load_has_opcode profile b o is in (text, (k.1, h), ap (λ (c : ℕ). c ∷ text) k.0)) e

  -- the stores
  store_takes : (b : ℕ) (rest : List ℕ) (x : Instruction) (after : List ℕ) → store_after profile b rest ≡ Some (x, after) → Said b rest x after
  unfolding store_after
  store_takes b rest x after e = accessed StoreOperator (store_of profile) op.Store b rest x after (λ o is text m h. let k = store_has_opcode profile b o is in (text, (k.1, h), ap (λ (c : ℕ). c ∷ text) k.0)) e

  -- the size of memory and its growth
  size_takes : (b : ℕ) (rest : List ℕ) (x : Instruction) (after : List ℕ) → size_after b rest ≡ Some (x, after) → Said b rest x after
  unfolding size_after
  size_takes b rest x after =
      operand_then (λ x. op.MemorySize) 0x3F _ reads_zero (λ text y h. (text, h, refl)) (
      operand_then (λ x. op.MemoryGrow) 0x40 _ reads_zero (λ text y h. (text, h, refl)) (
      λ e. absurd cc))

  -- the operators
  numerics_take : (b : ℕ) (rest : List ℕ) (x : Instruction) (after : List ℕ) → numeric_after b rest ≡ Some (x, after) → Said b rest x after
  unfolding numeric_after
  numerics_take b rest x after e =
      let s = bind_some (numeric_of b) (λ i. Some (i, rest)) (x, after) e in
      subst (λ (q : Instruction × List ℕ). Said b rest q.0 q.1) (some_is (s.0, rest) (x, after) s.2) (record { text = b ∷ []; spells = numeric_takes profile b s.0 s.1; parts = refl })

  -- an operator on floats is spelled by its opcode
  operator_spelled : (o : FloatOperator) (b : ℕ) → Coded b o → profile ≡ Floats → SpellsInstruction profile (b ∷ []) (op.Float o)
  operator_spelled (float_op.Saturate t f s) b is taken = absurd is
  operator_spelled o b is taken = ([], (taken, refl), ap (λ (c : ℕ). c ∷ []) is)

  -- the instructions of floats
  float_takes : (b : ℕ) (rest : List ℕ) (x : Instruction) (after : List ℕ) → profile ≡ Floats → float_after b rest ≡ Some (x, after) → Said b rest x after
  unfolding float_after
  float_takes b rest x after taken =
      operand_then op.F32Const 0x43 _ reads_four (λ text y h. (text, (taken, h), refl)) (
      operand_then op.F64Const 0x44 _ reads_eight (λ text y h. (text, (taken, h), refl)) (
      λ e.
      let s = bind_some (float_operator_of b) (λ o. Some (op.Float o, rest)) (x, after) e in
      let made : Said b rest (op.Float s.0) rest = record { text = b ∷ []; spells = operator_spelled s.0 b (operator_takes b s.0 s.1) taken; parts = refl } in
      subst (λ (q : Instruction × List ℕ). Said b rest q.0 q.1) (some_is (op.Float s.0, rest) (x, after) s.2) made))

  -- the instructions on numbers
  operators_take : (b : ℕ) (rest : List ℕ) (x : Instruction) (after : List ℕ) → operator_after profile b rest ≡ Some (x, after) → Said b rest x after
  unfolding operator_after
  operators_take b rest x after e = by_kind (is_float b) (takes_floats profile) refl e where
    by_kind : (t u : Bool) → takes_floats profile ≡ u → cond t (λ (bytes : List ℕ). cond u (float_after b bytes) None) (numeric_after b) rest ≡ Some (x, after) → Said b rest x after
    by_kind true true is e = float_takes b rest x after (are_taken profile is) e
    by_kind true false is e = absurd cc
    by_kind false u is e = numerics_take b rest x after e

  -- an instruction after FC and its number
  bulk_made : (Y : Type 0) (A : List ℕ → Y → Type 0) (a : Reader Y) (i : Instruction) (number : List ℕ) (rest : List ℕ) (x : Instruction) (after : List ℕ) → Reads Y A a → ((text : List ℕ) (y : Y) → A text y → SpellsInstruction profile (0xFC ∷ (number ++ text)) i) → map_at (λ (y : Y). i) a rest ≡ Some (x, after) → Said 0xFC (number ++ rest) x after
  bulk_made Y A a i number rest x after ra spells e =
      let s = bind_some (a rest) (λ u. Some (i, u.1)) (x, after) e in
      let f = ra.takes rest s.0.0 s.0.1 s.1 in
      let made : Said 0xFC (number ++ rest) i s.0.1 = record { text = 0xFC ∷ (number ++ f.text); spells = spells f.text s.0.0 f.spells; parts = ap (λ (r : List ℕ). 0xFC ∷ r) (ap (λ (r : List ℕ). number ++ r) f.parts ∙ sym (append_assoc number f.text s.0.1)) } in
      subst (λ (q : Instruction × List ℕ). Said 0xFC (number ++ rest) q.0 q.1) (some_is (i, s.0.1) (x, after) s.2) made

  -- a saturating conversion is spelled by its number
  saturation_spelled : (o : FloatOperator) (n : ℕ) (number : List ℕ) → Numbered n o → U32 number n → profile ≡ Floats → SpellsInstruction profile (0xFC ∷ number) (op.Float o)
  saturation_spelled (float_op.Saturate t f s) n number is spells taken = (number, (taken, subst (U32 number) is spells), refl)
  saturation_spelled o n number is spells taken = absurd is

  -- an instruction that nothing follows, and the bytes after it
  abbrev beside : List ℕ → Instruction → Option (Instruction × List ℕ)
  beside rest i = Some (i, rest)

  -- the saturating conversions
  saturating_said : (n : ℕ) (number : List ℕ) (rest : List ℕ) (x : Instruction) (after : List ℕ) → U32 number n → (saturated profile n >>= beside rest) ≡ Some (x, after) → Said 0xFC (number ++ rest) x after
  saturating_said n number rest x after spells e =
      let s = bind_some (saturated profile n) (beside rest) (x, after) e in
      let t = bind_some (saturation_of n) (λ o. with_floats profile (op.Float o)) s.0 s.1 in
      let g = guard_some (takes_floats profile) (op.Float t.0) s.0 t.2 in
      let made : Said 0xFC (number ++ rest) (op.Float t.0) rest = record { text = 0xFC ∷ number; spells = saturation_spelled t.0 n number (saturation_takes n t.0 t.1) spells (are_taken profile g.0); parts = refl } in
      subst (λ (q : Instruction × List ℕ). Said 0xFC (number ++ rest) q.0 q.1) (some_is (op.Float t.0, rest) (x, after) (ap (beside rest) g.1 ∙ s.2)) made

  -- the instructions after FC, after their number
  bulk_said : (n : ℕ) (number : List ℕ) (rest : List ℕ) (x : Instruction) (after : List ℕ) → U32 number n → bulk_after profile n rest ≡ Some (x, after) → Said 0xFC (number ++ rest) x after
  unfolding bulk_after
  bulk_said n number rest x after spells e = by_copy (eqb n 10) refl e where
    by_fill : (t : Bool) → eqb n 11 ≡ t → cond t (map_at (λ x. op.MemoryFill) (byte_at 0x00)) (λ (rest : List ℕ). saturated profile n >>= beside rest) rest ≡ Some (x, after) → Said 0xFC (number ++ rest) x after
    by_fill true is e = bulk_made (Unit {0}) (Byte 0x00) (byte_at 0x00) op.MemoryFill number rest x after reads_zero (λ text y h. (number ++ text, (number, text, subst (U32 number) (eqb-true _ _ is) spells, h, refl), refl)) e
    by_fill false is e = saturating_said n number rest x after spells e

    by_copy : (t : Bool) → eqb n 10 ≡ t → cond t (map_at (λ x. op.MemoryCopy) (then_at (byte_at 0x00) (byte_at 0x00))) (cond (eqb n 11) (map_at (λ x. op.MemoryFill) (byte_at 0x00)) (λ (rest : List ℕ). saturated profile n >>= beside rest)) rest ≡ Some (x, after) → Said 0xFC (number ++ rest) x after
    by_copy true is e = bulk_made (Unit {0} × Unit {0}) (Then (Byte 0x00) (Byte 0x00)) (then_at (byte_at 0x00) (byte_at 0x00)) op.MemoryCopy number rest x after reads_zeros (λ text y h. (number ++ text, (number, text, subst (U32 number) (eqb-true _ _ is) spells, h, refl), refl)) e
    by_copy false is e = by_fill (eqb n 11) refl e

  -- the instructions after FC
  bulk_takes : (rest : List ℕ) (x : Instruction) (after : List ℕ) → bulk_at profile rest ≡ Some (x, after) → Said 0xFC rest x after
  unfolding bulk_at
  bulk_takes rest x after e =
      let s = bind_some (u32_at rest) (λ n. bulk_after profile n.0 n.1) (x, after) e in
      let f = reads_u32.takes rest s.0.0 s.0.1 s.1 in
      subst (λ (r : List ℕ). Said 0xFC r x after) (sym f.parts) (bulk_said s.0.0 f.text s.0.1 x after f.spells s.2)

  -- any instruction, after its opcode
  after_takes : (b : ℕ) (rest : List ℕ) (x : Instruction) (after : List ℕ) → instruction_after profile b rest ≡ Some (x, after) → Said b rest x after
  unfolding instruction_after
  after_takes b rest x after =
      operand_then op.I32Const 0x41 _ reads_s32 (λ text y h. (text, h, refl)) (
      operand_then op.I64Const 0x42 _ reads_s64 (λ text y h. (text, h, refl)) (
      choice 0xFC _ _ (λ is e. subst (λ (c : ℕ). Said c rest x after) (sym is) (bulk_takes rest x after e)) (
      either (ltb b 0x12) _ _ b rest x after (control_takes b rest x after) (
      either (ltb b 0x28) _ _ b rest x after (variable_takes b rest x after) (
      either (ltb b 0x36) _ _ b rest x after (load_takes b rest x after) (
      either (ltb b 0x3F) _ _ b rest x after (store_takes b rest x after) (
      either (ltb b 0x41) _ _ b rest x after (size_takes b rest x after) (
      operators_take b rest x after))))))))

  -- an instruction that is read is spelled so
  takes : (bytes : List ℕ) (x : Instruction) (rest : List ℕ) → instruction_at profile bytes ≡ Some (x, rest) → Front Instruction (SpellsInstruction profile) bytes x rest
  unfolding instruction_at
  takes [] x rest e = absurd cc
  takes (b ∷ bs) x rest e = after_takes b bs x rest e

  -- ---- what is spelled so is read

  -- an instruction that has nothing after its opcode
  read_bare : (code : ℕ) (i : Instruction) (text immediates rest : List ℕ) → ((r : List ℕ) → instruction_at profile (code ∷ r) ≡ Some (i, r)) → immediates ≡ [] → text ≡ code ∷ immediates → instruction_at profile (text ++ rest) ≡ Some (i, rest)
  read_bare code i text immediates rest is none text-is =
      let whole : text ++ rest ≡ code ∷ rest = rw (text-is, none) refl in
      ap (instruction_at profile) whole ∙ is rest

  -- an operator on floats that is spelled so is read
  float_again : (o : FloatOperator) (text immediates rest : List ℕ) → profile ≡ Floats → SpellsFloatNumber immediates o → text ≡ float_opcode o ∷ immediates → instruction_at profile (text ++ rest) ≡ Some (op.Float o, rest)
  unfolding instruction_at instruction_after bulk_at
  float_again (float_op.Saturate t f s) text immediates rest taken number is =
      let whole : text ++ rest ≡ 0xFC ∷ (immediates ++ rest) = rw is refl in
      rw (taken, whole, reads_u32.again immediates (saturation_number t f s) rest number) (saturation_again t f s rest)
  float_again o text immediates rest taken none is =
      let whole : text ++ rest ≡ float_opcode o ∷ rest = rw (is, none) refl in
      rw (taken, whole) (operator_again o tt rest)

  -- an instruction that is spelled so is read
  again : (text : List ℕ) (x : Instruction) (rest : List ℕ) → SpellsInstruction profile text x → instruction_at profile (text ++ rest) ≡ Some (x, rest)
  unfolding instruction_at instruction_after operator_after float_after control_after variable_after load_after store_after size_after bulk_at bulk_after numeric_after numeric_of
  again text op.Unreachable rest h = read_bare 0x00 op.Unreachable text h.0 rest (λ s. refl) h.1 h.2
  again text op.Nop rest h = read_bare 0x01 op.Nop text h.0 rest (λ s. refl) h.1 h.2
  again text (op.Block x) rest h = reread op.Block (instruction_at profile) 0x02 x rest (reads_block_type profile) (λ s. refl) h.2 h.1
  again text (op.Loop x) rest h = reread op.Loop (instruction_at profile) 0x03 x rest (reads_block_type profile) (λ s. refl) h.2 h.1
  again text (op.If x) rest h = reread op.If (instruction_at profile) 0x04 x rest (reads_block_type profile) (λ s. refl) h.2 h.1
  again text op.Else rest h = read_bare 0x05 op.Else text h.0 rest (λ s. refl) h.1 h.2
  again text op.End rest h = read_bare 0x0B op.End text h.0 rest (λ s. refl) h.1 h.2
  again text (op.Br x) rest h = reread op.Br (instruction_at profile) 0x0C x rest reads_u32 (λ s. refl) h.2 h.1
  again text (op.BrIf x) rest h = reread op.BrIf (instruction_at profile) 0x0D x rest reads_u32 (λ s. refl) h.2 h.1
  again text (op.BrTable x) rest h = reread op.BrTable (instruction_at profile) 0x0E x rest reads_labels (λ s. refl) h.2 h.1
  again text op.Return rest h = read_bare 0x0F op.Return text h.0 rest (λ s. refl) h.1 h.2
  again text (op.Call x) rest h = reread op.Call (instruction_at profile) 0x10 x rest reads_u32 (λ s. refl) h.2 h.1
  again text (op.CallIndirect x) rest h = reread (λ p. op.CallIndirect p.0) (instruction_at profile) 0x11 (x, tt) rest reads_indirect (λ s. refl) h.2 h.1
  again text op.Drop rest h = read_bare 0x1A op.Drop text h.0 rest (λ s. refl) h.1 h.2
  again text op.Select rest h = read_bare 0x1B op.Select text h.0 rest (λ s. refl) h.1 h.2
  again text (op.LocalGet x) rest h = reread op.LocalGet (instruction_at profile) 0x20 x rest reads_u32 (λ s. refl) h.2 h.1
  again text (op.LocalSet x) rest h = reread op.LocalSet (instruction_at profile) 0x21 x rest reads_u32 (λ s. refl) h.2 h.1
  again text (op.LocalTee x) rest h = reread op.LocalTee (instruction_at profile) 0x22 x rest reads_u32 (λ s. refl) h.2 h.1
  again text (op.GlobalGet x) rest h = reread op.GlobalGet (instruction_at profile) 0x23 x rest reads_u32 (λ s. refl) h.2 h.1
  again text (op.GlobalSet x) rest h = reread op.GlobalSet (instruction_at profile) 0x24 x rest reads_u32 (λ s. refl) h.2 h.1
  again text (op.Load o x) rest h = reread (op.Load o) (instruction_at profile) (load_opcode o) x rest reads_mem_arg (load_again profile o h.1.0) h.2 h.1.1
  again text (op.Store o x) rest h = reread (op.Store o) (instruction_at profile) (store_opcode o) x rest reads_mem_arg (store_again profile o h.1.0) h.2 h.1.1
  again text op.MemorySize rest h = reread (λ x. op.MemorySize) (instruction_at profile) 0x3F tt rest reads_zero (λ s. refl) h.2 h.1
  again text op.MemoryGrow rest h = reread (λ x. op.MemoryGrow) (instruction_at profile) 0x40 tt rest reads_zero (λ s. refl) h.2 h.1
  again text (op.I32Const x) rest h = reread op.I32Const (instruction_at profile) 0x41 x rest reads_s32 (λ s. refl) h.2 h.1
  again text (op.I64Const x) rest h = reread op.I64Const (instruction_at profile) 0x42 x rest reads_s64 (λ s. refl) h.2 h.1
  again text (op.F32Const x) rest h = reread op.F32Const (instruction_at profile) 0x43 x rest reads_four (λ s. rw h.1.0 refl) h.2 h.1.1
  again text (op.F64Const x) rest h = reread op.F64Const (instruction_at profile) 0x44 x rest reads_eight (λ s. rw h.1.0 refl) h.2 h.1.1
  again text (op.Float o) rest h = float_again o text h.0 rest h.1.0 h.1.1 h.2
  again text op.MemoryCopy rest h =
      let p = h.1 in
      let whole : text ++ rest ≡ 0xFC ∷ (p.0 ++ (p.1 ++ rest)) = rw (h.2, p.4) (simp append_assoc) in
      rw (whole, reads_u32.again p.0 10 (p.1 ++ rest) p.2, reads_zeros.again p.1 (tt, tt) rest p.3) refl
  again text op.MemoryFill rest h =
      let p = h.1 in
      let whole : text ++ rest ≡ 0xFC ∷ (p.0 ++ (p.1 ++ rest)) = rw (h.2, p.4) (simp append_assoc) in
      rw (whole, reads_u32.again p.0 11 (p.1 ++ rest) p.2, reads_zero.again p.1 tt rest p.3) refl
  again text (op.Eqz I32) rest h = read_bare 0x45 (op.Eqz I32) text h.0 rest (λ s. refl) h.1 h.2
  again text (op.Eqz I64) rest h = read_bare 0x50 (op.Eqz I64) text h.0 rest (λ s. refl) h.1 h.2
  again text (op.Compare I32 o) rest h = read_bare (0x46 + comparison_number o) (op.Compare I32 o) text h.0 rest (compare32 profile o) h.1 h.2
  again text (op.Compare I64 o) rest h = read_bare (0x51 + comparison_number o) (op.Compare I64 o) text h.0 rest (compare64 profile o) h.1 h.2
  again text (op.Unary I32 o) rest h = let u = unary32 profile o h.0 h.1 in read_bare (unary_opcode I32 o) (op.Unary I32 o) text h.0 rest u.1 u.0 h.2
  again text (op.Unary I64 o) rest h = let u = unary64 profile o h.0 h.1 in read_bare (unary_opcode I64 o) (op.Unary I64 o) text h.0 rest u.1 u.0 h.2
  again text (op.Binary I32 o) rest h = read_bare (0x6A + binary_operator_number o) (op.Binary I32 o) text h.0 rest (operate32 profile o) h.1 h.2
  again text (op.Binary I64 o) rest h = read_bare (0x7C + binary_operator_number o) (op.Binary I64 o) text h.0 rest (operate64 profile o) h.1 h.2
  again text op.I32WrapI64 rest h = read_bare 0xA7 op.I32WrapI64 text h.0 rest (λ s. refl) h.1 h.2
  again text op.I64ExtendI32S rest h = read_bare 0xAC op.I64ExtendI32S text h.0 rest (λ s. refl) h.1 h.2
  again text op.I64ExtendI32U rest h = read_bare 0xAD op.I64ExtendI32U text h.0 rest (λ s. refl) h.1 h.2

  -- single instructions
  pub reads_instruction : Reads Instruction (SpellsInstruction profile) (instruction_at profile)
  reads_instruction = record { takes = takes; again = again }
