-- Bytes that spell a number, locals or instructions are skipped as a whole.
use Rattle.std.proofs.Common.{◌≡◌, ℕ, zero, suc, ◌-◌, ◌≤◌, List, [], ◌∷◌, ◌++◌, length, refl, sym, ap, ◌∙◌, append_assoc, length-append, arith}
use Rattle.std.specs.Prelude.{take, drop, nat_lt, false}
use Rattle.std.proofs.lemmas.Bool.{lt-ltb, le-ltb}
use Rattle.std.proofs.lemmas.List.{drop_at}
use Rattle.wasm_syntax.specs.declared.number.Sign.{Sign}
use Rattle.wasm_syntax.specs.declared.number.Sign.TheVariants.{Signed, Unsigned}
use Rattle.wasm_syntax.specs.declared.profile.Profile.{Profile}
use Rattle.wasm_syntax.specs.declared.profile.Profile.TheVariants.{Integers, Floats}
use Rattle.wasm_syntax.specs.declared.instruction.ValueType.{ValueType}
use Rattle.wasm_syntax.specs.declared.instruction.ValueType.TheVariants.{I32, I64, F32, F64}
use Rattle.wasm_syntax.specs.declared.instruction.IntegerType.TheVariants as int
use Rattle.wasm_syntax.specs.declared.instruction.UnaryOperator.TheVariants.{Extend32S}
use Rattle.wasm_syntax.specs.declared.instruction.BlockType.{BlockType}
use Rattle.wasm_syntax.specs.declared.instruction.BlockType.TheVariants.{Empty, Value}
use Rattle.wasm_syntax.specs.declared.instruction.FloatOperator.{FloatOperator}
use Rattle.wasm_syntax.specs.declared.instruction.FloatOperator.TheVariants as float_op
use Rattle.wasm_syntax.specs.declared.instruction.Instruction.{Instruction}
use Rattle.wasm_syntax.specs.declared.instruction.Instruction.TheVariants as op
use Rattle.wasm_syntax.specs.declared.module.Locals.{Locals}
use Rattle.wasm_syntax.specs.declared.module.Body.{Body}
use Rattle.wasm_syntax.specs.Number.{SpellsNumber}
use Rattle.wasm_syntax.specs.Grammar.{Byte, Then, Each, U32, Vector}
use Rattle.wasm_syntax.specs.Types.{SpellsValueType, SpellsBlockType}
use Rattle.wasm_syntax.specs.Instructions.{saturation_number, SpellsOnlyTable, SpellsFloatNumber, SpellsImmediates, SpellsInstruction}
use Rattle.wasm_syntax.specs.Sections.{SpellsLocals}
use Rattle.wasm_valid.specs.Offsets.{StandsBehind}
use Rattle.wasm_valid.specs.internal.Skipping.{after_number, after_numbers, after_float, after_immediates, after_instruction, after_instructions}

not_below : (b : ℕ) → 128 ≤ b → nat_lt b 128 ≡ false
not_below b l = le-ltb b 128 l

number_skipped : (sign : Sign) (bits n : ℕ) (text rest : List ℕ) → SpellsNumber sign bits text n → after_number (text ++ rest) ≡ rest
number_skipped sign bits n [] rest h = absurd h
number_skipped sign bits n (b ∷ []) rest h = rw (lt-ltb b 128 h.0) refl
number_skipped sign bits n (b ∷ c ∷ bs) rest h = rw (not_below b h.0) (number_skipped sign (bits - 7) h.2 (c ∷ bs) rest h.4)

u32_skipped : (text rest : List ℕ) (n : ℕ) → U32 text n → after_number (text ++ rest) ≡ rest
u32_skipped text rest n h = number_skipped Unsigned 32 n text rest h

zero_skipped : (text rest : List ℕ) (x : Unit {0}) → Byte 0 text x → after_number (text ++ rest) ≡ rest
zero_skipped text rest x h = ap (λ z. after_number (z ++ rest)) h

-- what is left of a body behind its locals and the first of its instructions
abbrev pub left_of : Body → ℕ → List ℕ
left_of b index = after_instructions (take index b.code) (after_numbers (length b.locals) (after_numbers (length b.locals) (after_number b.bytes)))

module _ (profile : Profile) where
  type_skipped : (t : ValueType) (text rest : List ℕ) → SpellsValueType profile text t → after_number (text ++ rest) ≡ rest
  type_skipped I32 text rest h = ap (λ z. after_number (z ++ rest)) h
  type_skipped I64 text rest h = ap (λ z. after_number (z ++ rest)) h
  type_skipped F32 text rest h = ap (λ z. after_number (z ++ rest)) h.1
  type_skipped F64 text rest h = ap (λ z. after_number (z ++ rest)) h.1

  block_type_skipped : (t : BlockType) (text rest : List ℕ) → SpellsBlockType profile text t → after_number (text ++ rest) ≡ rest
  block_type_skipped Empty text rest h = ap (λ z. after_number (z ++ rest)) h
  block_type_skipped (Value t) text rest h = type_skipped t text rest h

  -- one thing is skipped, and then another
  then_skipped : (f g : List ℕ → List ℕ) (front back text rest : List ℕ) → ((r : List ℕ) → f (front ++ r) ≡ r) → ((r : List ℕ) → g (back ++ r) ≡ r) → text ≡ front ++ back → g (f (text ++ rest)) ≡ rest
  then_skipped f g front back text rest a b e =
      ap (λ z. g (f (z ++ rest))) e ∙ ap (λ z. g (f z)) (append_assoc front back rest) ∙ ap g (a (back ++ rest)) ∙ b rest

  -- the first of several is skipped first, or last
  numbers_inside : (n : ℕ) (bytes : List ℕ) → after_numbers n (after_number bytes) ≡ after_number (after_numbers n bytes)
  numbers_inside zero bytes = refl
  numbers_inside (suc n) bytes = ap after_number (numbers_inside n bytes)

  numbers_skipped : (xs : List ℕ) (text rest : List ℕ) → Each U32 text xs → after_numbers (length xs) (text ++ rest) ≡ rest
  numbers_skipped [] text rest h = ap (λ z. z ++ rest) h
  numbers_skipped (x ∷ xs) text rest h =
      sym (numbers_inside (length xs) (text ++ rest))
      ∙ then_skipped after_number (after_numbers (length xs)) h.0 h.1 text rest (λ r. u32_skipped h.0 r x h.2) (λ r. numbers_skipped xs h.1 r h.3) h.4

  vector_skipped : (xs : List ℕ) (text rest : List ℕ) → Vector U32 text xs → after_numbers (length xs) (after_number (text ++ rest)) ≡ rest
  vector_skipped xs text rest h = then_skipped after_number (after_numbers (length xs)) h.0 h.1 text rest (λ r. u32_skipped h.0 r (length xs) h.2) (λ r. numbers_skipped xs h.1 r h.3) h.4

  -- locals are a number and a type each
  pairs_inside : (n : ℕ) (bytes : List ℕ) → after_numbers n (after_numbers n (after_number (after_number bytes))) ≡ after_number (after_numbers n (after_number (after_numbers n bytes)))
  pairs_inside n bytes =
      ap (after_numbers n) (numbers_inside n (after_number bytes)) ∙ ap (λ z. after_numbers n (after_number z)) (numbers_inside n bytes)
      ∙ numbers_inside n (after_number (after_numbers n bytes))

  locals_skipped : (ls : List Locals) (text rest : List ℕ) → Each (SpellsLocals profile) text ls → after_numbers (length ls) (after_numbers (length ls) (text ++ rest)) ≡ rest
  locals_skipped [] text rest h = ap (λ z. z ++ rest) h
  locals_skipped (l ∷ ls) text rest h =
      sym (pairs_inside (length ls) (text ++ rest))
      ∙ then_skipped (λ z. after_number (after_number z)) (λ z. after_numbers (length ls) (after_numbers (length ls) z)) h.0 h.1 text rest
      (λ r. then_skipped after_number after_number h.2.0 h.2.1 h.0 r (λ q. u32_skipped h.2.0 q l.count h.2.2) (λ q. type_skipped l.value_type h.2.1 q h.2.3) h.2.4)
      (λ r. locals_skipped ls h.1 r h.3) h.4

  two_skipped : (text rest : List ℕ) (m n : ℕ) → Then U32 U32 text (m, n) → after_numbers 2 (text ++ rest) ≡ rest
  two_skipped text rest m n h = then_skipped after_number after_number h.0 h.1 text rest (λ r. u32_skipped h.0 r m h.2) (λ r. u32_skipped h.1 r n h.3) h.4

  -- the only table is a number or the byte 00
  table_skipped : (q : Profile) (text rest : List ℕ) → SpellsOnlyTable q text tt → after_number (text ++ rest) ≡ rest
  table_skipped Integers text rest h = zero_skipped text rest tt h
  table_skipped Floats text rest h = u32_skipped text rest 0 h

  number_and_table : (text rest : List ℕ) (n : ℕ) → Then U32 (SpellsOnlyTable profile) text (n, tt) → after_numbers 2 (text ++ rest) ≡ rest
  number_and_table text rest n h = then_skipped after_number after_number h.0 h.1 text rest (λ r. u32_skipped h.0 r n h.2) (λ r. table_skipped profile h.1 r h.3) h.4

  -- bytes that are there are skipped by their count
  bytes_skipped : (n : ℕ) (text rest : List ℕ) → length text ≡ n → drop n (text ++ rest) ≡ rest
  bytes_skipped n text rest h = drop_at text rest n h

  float_skipped : (o : FloatOperator) (text rest : List ℕ) → SpellsFloatNumber text o → after_float o (text ++ rest) ≡ rest
  float_skipped (float_op.Saturate t f s) text rest h = u32_skipped text rest (saturation_number t f s) h
  float_skipped o text rest h = ap (λ z. z ++ rest) h

  number_and_zero : (text rest : List ℕ) (n : ℕ) → Then U32 (Byte 0) text (n, tt) → after_numbers 2 (text ++ rest) ≡ rest
  number_and_zero text rest n h = then_skipped after_number after_number h.0 h.1 text rest (λ r. u32_skipped h.0 r n h.2) (λ r. zero_skipped h.1 r tt h.3) h.4

  immediates_skipped : (i : Instruction) (text rest : List ℕ) → SpellsImmediates profile text i → after_immediates i (text ++ rest) ≡ rest
  immediates_skipped (op.Block t) text rest h = block_type_skipped t text rest h
  immediates_skipped (op.Loop t) text rest h = block_type_skipped t text rest h
  immediates_skipped (op.If t) text rest h = block_type_skipped t text rest h
  immediates_skipped (op.Br l) text rest h = u32_skipped text rest l h
  immediates_skipped (op.BrIf l) text rest h = u32_skipped text rest l h
  immediates_skipped (op.BrTable b) text rest h =
      then_skipped (λ z. after_numbers (length b.0) (after_number z)) after_number h.0 h.1 text rest (λ r. vector_skipped b.0 h.0 r h.2) (λ r. u32_skipped h.1 r b.1 h.3) h.4
  immediates_skipped (op.Call x) text rest h = u32_skipped text rest x h
  immediates_skipped (op.CallIndirect x) text rest h = number_and_table text rest x h
  immediates_skipped (op.LocalGet x) text rest h = u32_skipped text rest x h
  immediates_skipped (op.LocalSet x) text rest h = u32_skipped text rest x h
  immediates_skipped (op.LocalTee x) text rest h = u32_skipped text rest x h
  immediates_skipped (op.GlobalGet x) text rest h = u32_skipped text rest x h
  immediates_skipped (op.GlobalSet x) text rest h = u32_skipped text rest x h
  immediates_skipped (op.Load o m) text rest h = two_skipped text rest m.align m.offset h.1
  immediates_skipped (op.Store o m) text rest h = two_skipped text rest m.align m.offset h.1
  immediates_skipped op.MemorySize text rest h = zero_skipped text rest tt h
  immediates_skipped op.MemoryGrow text rest h = zero_skipped text rest tt h
  immediates_skipped op.MemoryCopy text rest h =
      then_skipped after_number (after_numbers 2) h.0 h.1 text rest (λ r. u32_skipped h.0 r 10 h.2)
      (λ r. then_skipped after_number after_number h.3.0 h.3.1 h.1 r (λ q. zero_skipped h.3.0 q tt h.3.2) (λ q. zero_skipped h.3.1 q tt h.3.3) h.3.4) h.4
  immediates_skipped op.MemoryFill text rest h = number_and_zero text rest 11 h
  immediates_skipped (op.I32Const n) text rest h = number_skipped Signed 32 n text rest h
  immediates_skipped (op.I64Const n) text rest h = number_skipped Signed 64 n text rest h
  immediates_skipped (op.F32Const n) text rest h = bytes_skipped 4 text rest h.1.0
  immediates_skipped (op.F64Const n) text rest h = bytes_skipped 8 text rest h.1.0
  immediates_skipped (op.Float o) text rest h = float_skipped o text rest h.1
  immediates_skipped (op.Unary int.I32 Extend32S) text rest h = absurd h
  immediates_skipped i text rest h = ap (λ z. z ++ rest) h

  instruction_skipped : (i : Instruction) (text rest : List ℕ) → SpellsInstruction profile text i → after_instruction i (text ++ rest) ≡ rest
  instruction_skipped i text rest h = ap (λ z. after_instruction i (z ++ rest)) h.2 ∙ immediates_skipped i h.0 rest h.1

  instructions_skipped : (is : List Instruction) (text rest : List ℕ) → Each (SpellsInstruction profile) text is → after_instructions is (text ++ rest) ≡ rest
  instructions_skipped [] text rest h = ap (λ z. z ++ rest) h
  instructions_skipped (i ∷ is) text rest h =
      then_skipped (after_instruction i) (after_instructions is) h.0 h.1 text rest (λ r. instruction_skipped i h.0 r h.2) (λ r. instructions_skipped is h.1 r h.3) h.4

  left_is : (b : Body) (index : ℕ) (before : List ℕ) (k : StandsBehind profile b index before) → left_of b index ≡ k.after
  left_is b index before k =
      ap (λ z. after_instructions (take index b.code) (after_numbers (length b.locals) (after_numbers (length b.locals) (after_number z)))) (k.bytes ∙ ap (λ z. z ++ k.after) k.before_is)
      ∙ then_skipped (λ z. after_numbers (length b.locals) (after_numbers (length b.locals) (after_number z))) (after_instructions (take index b.code)) k.locals k.instructions (k.locals ++ k.instructions) k.after
      (λ r. then_skipped after_number (λ z. after_numbers (length b.locals) (after_numbers (length b.locals) z)) k.spells_locals.0 k.spells_locals.1 k.locals r
      (λ q. u32_skipped k.spells_locals.0 q (length b.locals) k.spells_locals.2) (λ q. locals_skipped b.locals k.spells_locals.1 q k.spells_locals.3) k.spells_locals.4)
      (λ r. instructions_skipped (take index b.code) k.instructions r k.spells_instructions) refl

  pub place_is : (b : Body) (index place : ℕ) (left before : List ℕ) → left ≡ left_of b index → place ≡ length b.bytes - length left → StandsBehind profile b index before → place ≡ length before
  place_is b index place left before e p k =
      omega (arith, p, ap length e, ap length (left_is b index before k), ap length k.bytes, length-append before k.after)
