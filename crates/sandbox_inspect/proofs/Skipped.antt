-- Bytes that spell locals or instructions are skipped as a whole.
use Rattle.std.proofs.Common.{◌≡◌, ℕ, zero, suc, ◌-◌, List, [], ◌∷◌, ◌++◌, length, Option, refl, sym, ap, ◌∙◌, append_assoc, append-nil}
use Rattle.std.specs.Prelude.{drop}
use Rattle.std.specs.Option.{option_map_or}
use Rattle.std.proofs.lemmas.Bool.{lt-ltb, le-ltb}
use Rattle.std.proofs.lemmas.List.{drop_at}
use Rattle.wasm_syntax.specs.declared.number.Sign.{Sign}
use Rattle.wasm_syntax.specs.declared.number.Sign.TheVariants.{Signed, Unsigned}
use Rattle.wasm_syntax.specs.declared.profile.Profile.{Profile}
use Rattle.wasm_syntax.specs.declared.profile.Profile.TheVariants.{Integers, Floats}
use Rattle.wasm_syntax.specs.declared.instruction.ValueType.{ValueType}
use Rattle.wasm_syntax.specs.declared.instruction.ValueType.TheVariants.{I32, I64, F32, F64}
use Rattle.wasm_syntax.specs.declared.instruction.IntegerType.{IntegerType}
use Rattle.wasm_syntax.specs.declared.instruction.IntegerType.TheVariants as int
use Rattle.wasm_syntax.specs.declared.instruction.FloatType.{FloatType}
use Rattle.wasm_syntax.specs.declared.instruction.FloatType.TheVariants as float_type
use Rattle.wasm_syntax.specs.declared.instruction.FloatComparison.TheVariants as float_comparison
use Rattle.wasm_syntax.specs.declared.instruction.FloatUnaryOperator.TheVariants.{Abs}
use Rattle.wasm_syntax.specs.declared.instruction.FloatBinaryOperator.TheVariants as float_binary
use Rattle.wasm_syntax.specs.declared.instruction.FloatOperator.{FloatOperator}
use Rattle.wasm_syntax.specs.declared.instruction.FloatOperator.TheVariants as float_op
use Rattle.wasm_syntax.specs.declared.instruction.UnaryOperator.TheVariants.{Clz, Extend32S}
use Rattle.wasm_syntax.specs.declared.instruction.BinaryOperator.TheVariants.{Add}
use Rattle.wasm_syntax.specs.declared.instruction.Comparison.TheVariants.{Eq}
use Rattle.wasm_syntax.specs.declared.instruction.BlockType.{BlockType}
use Rattle.wasm_syntax.specs.declared.instruction.BlockType.TheVariants.{Empty, Value}
use Rattle.wasm_syntax.specs.declared.instruction.Instruction.{Instruction}
use Rattle.wasm_syntax.specs.declared.instruction.Instruction.TheVariants as op
use Rattle.wasm_syntax.specs.declared.accesses.LoadOperator.{LoadOperator}
use Rattle.wasm_syntax.specs.declared.accesses.LoadOperator.TheVariants as load
use Rattle.wasm_syntax.specs.declared.accesses.StoreOperator.{StoreOperator}
use Rattle.wasm_syntax.specs.declared.accesses.StoreOperator.TheVariants as store
use Rattle.wasm_syntax.specs.declared.module.Locals.{Locals}
use Rattle.wasm_syntax.specs.Number.{SpellsNumber}
use Rattle.wasm_syntax.specs.Grammar.{Byte, Then, Each, U32, Vector}
use Rattle.wasm_syntax.specs.Types.{SpellsValueType, SpellsBlockType}
use Rattle.wasm_syntax.specs.Instructions.{load_opcode, store_opcode, float_opcode, saturation_number, opcode, SpellsOnlyTable, SpellsFloatNumber, SpellsImmediates, SpellsInstruction}
use Rattle.wasm_syntax.specs.Sections.{SpellsLocals}
use Rattle.wasm_syntax.specs.Reading.{u32_at}
use Rattle.wasm_module.proofs.Combine.{reads_u32}
use Rattle.wasm_valid.specs.internal.Skipping.{after_number, after_numbers}
use Rattle.sandbox_inspect.specs.internal.Skipping.{after_labels, after_bulk_number, after_opcode, after_instruction, after_instructions, after_locals}

-- ---- numbers

number_skipped : (sign : Sign) (bits n : ℕ) (text rest : List ℕ) → SpellsNumber sign bits text n → after_number (text ++ rest) ≡ rest
number_skipped sign bits n [] rest h = absurd h
number_skipped sign bits n (b ∷ []) rest h = rw (lt-ltb b 128 h.0) refl
number_skipped sign bits n (b ∷ c ∷ bs) rest h = rw (le-ltb b 128 h.0) (number_skipped sign (bits - 7) h.2 (c ∷ bs) rest h.4)

u32_skipped : (text rest : List ℕ) (n : ℕ) → U32 text n → after_number (text ++ rest) ≡ rest
u32_skipped text rest n h = number_skipped Unsigned 32 n text rest h

zero_skipped : (text rest : List ℕ) (x : Unit {0}) → Byte 0 text x → after_number (text ++ rest) ≡ rest
zero_skipped text rest x h = ap (λ z. after_number (z ++ rest)) h

type_skipped : (p : Profile) (t : ValueType) (text rest : List ℕ) → SpellsValueType p text t → after_number (text ++ rest) ≡ rest
type_skipped p I32 text rest h = ap (λ z. after_number (z ++ rest)) h
type_skipped p I64 text rest h = ap (λ z. after_number (z ++ rest)) h
type_skipped p F32 text rest h = ap (λ z. after_number (z ++ rest)) h.1
type_skipped p F64 text rest h = ap (λ z. after_number (z ++ rest)) h.1

block_type_skipped : (p : Profile) (t : BlockType) (text rest : List ℕ) → SpellsBlockType p text t → after_number (text ++ rest) ≡ rest
block_type_skipped p Empty text rest h = ap (λ z. after_number (z ++ rest)) h
block_type_skipped p (Value t) text rest h = type_skipped p t text rest h

-- one thing is skipped, and then another
then_skipped : (f g : List ℕ → List ℕ) (front back text rest : List ℕ) → ((r : List ℕ) → f (front ++ r) ≡ r) → ((r : List ℕ) → g (back ++ r) ≡ r) → text ≡ front ++ back → g (f (text ++ rest)) ≡ rest
then_skipped f g front back text rest a b e =
    ap (λ z. g (f (z ++ rest))) e ∙ ap (λ z. g (f z)) (append_assoc front back rest) ∙ ap g (a (back ++ rest)) ∙ b rest

-- the first of several is skipped first, or last
numbers_inside : (n : ℕ) (bytes : List ℕ) → after_numbers n (after_number bytes) ≡ after_number (after_numbers n bytes)
numbers_inside zero bytes = refl
numbers_inside (suc n) bytes = ap after_number (numbers_inside n bytes)

numbers_skipped : (xs : List ℕ) (text rest : List ℕ) → Each U32 text xs → after_numbers (length xs) (text ++ rest) ≡ rest
numbers_skipped [] text rest h = ap (λ z. z ++ rest) h
numbers_skipped (x ∷ xs) text rest h =
    sym (numbers_inside (length xs) (text ++ rest))
    ∙ then_skipped after_number (after_numbers (length xs)) h.0 h.1 text rest (λ r. u32_skipped h.0 r x h.2) (λ r. numbers_skipped xs h.1 r h.3) h.4

two_skipped : (text rest : List ℕ) (m n : ℕ) → Then U32 U32 text (m, n) → after_numbers 2 (text ++ rest) ≡ rest
two_skipped text rest m n h = then_skipped after_number after_number h.0 h.1 text rest (λ r. u32_skipped h.0 r m h.2) (λ r. u32_skipped h.1 r n h.3) h.4

-- the only table is a number or the byte 00
table_skipped : (p : Profile) (text rest : List ℕ) → SpellsOnlyTable p text tt → after_number (text ++ rest) ≡ rest
table_skipped Integers text rest h = zero_skipped text rest tt h
table_skipped Floats text rest h = u32_skipped text rest 0 h

number_and_table : (p : Profile) (text rest : List ℕ) (n : ℕ) → Then U32 (SpellsOnlyTable p) text (n, tt) → after_numbers 2 (text ++ rest) ≡ rest
number_and_table p text rest n h = then_skipped after_number after_number h.0 h.1 text rest (λ r. u32_skipped h.0 r n h.2) (λ r. table_skipped p h.1 r h.3) h.4

-- a number is read, and what comes then depends on it
number_then : (f : ℕ × List ℕ → List ℕ) (n : ℕ) (front back text rest : List ℕ) → U32 front n → ((r : List ℕ) → f (n, back ++ r) ≡ r) → text ≡ front ++ back → option_map_or f (u32_at (text ++ rest)) (text ++ rest) ≡ rest
number_then f n front back text rest u skips e =
    ap (λ (o : Option (ℕ × List ℕ)). option_map_or f o (text ++ rest)) (ap u32_at (ap (λ z. z ++ rest) e ∙ append_assoc front back rest) ∙ reads_u32.again front n (back ++ rest) u)
    ∙ skips rest

-- ---- instructions

labels_skipped : (b : List ℕ × ℕ) (text rest : List ℕ) → Then (Vector U32) U32 text b → after_labels (text ++ rest) ≡ rest
labels_skipped b text rest (labels, last, (count, each, counted, spelled, parts), one, e) =
    number_then (λ n. after_number (after_numbers n.0 n.1)) (length b.0) count (each ++ last) text rest counted
    (λ r. then_skipped (after_numbers (length b.0)) after_number each last (each ++ last) r (λ q. numbers_skipped b.0 each q spelled) (λ q. u32_skipped last q b.1 one) refl)
    (e ∙ ap (λ z. z ++ last) parts ∙ append_assoc count each last)

-- loads and stores have two numbers behind them
load_behind : (o : LoadOperator) (bytes : List ℕ) → after_opcode (load_opcode o) bytes ≡ after_numbers 2 bytes
load_behind load.I32Load bytes = refl
load_behind o bytes = refl

store_behind : (o : StoreOperator) (bytes : List ℕ) → after_opcode (store_opcode o) bytes ≡ after_numbers 2 bytes
store_behind store.I32Store bytes = refl
store_behind o bytes = refl

-- operators on floats have nothing behind them, but for the number of a saturating conversion
saturated : (t : IntegerType) (f : FloatType) (s : Sign) (rest : List ℕ) → after_bulk_number (saturation_number t f s) rest ≡ rest
saturated int.I32 float_type.F32 Signed rest = refl
saturated int.I32 float_type.F32 Unsigned rest = refl
saturated int.I32 float_type.F64 Signed rest = refl
saturated int.I32 float_type.F64 Unsigned rest = refl
saturated int.I64 float_type.F32 Signed rest = refl
saturated int.I64 float_type.F32 Unsigned rest = refl
saturated int.I64 float_type.F64 Signed rest = refl
saturated int.I64 float_type.F64 Unsigned rest = refl

float_skipped : (o : FloatOperator) (text rest : List ℕ) → SpellsFloatNumber text o → after_opcode (float_opcode o) (text ++ rest) ≡ rest
float_skipped (float_op.Saturate t f s) text rest h =
    number_then (λ n. after_bulk_number n.0 n.1) (saturation_number t f s) text [] text rest h (λ r. saturated t f s r) (sym (append-nil text))
float_skipped (float_op.Compare float_type.F32 float_comparison.Eq) text rest h = ap (λ z. z ++ rest) h
float_skipped (float_op.Compare float_type.F64 float_comparison.Eq) text rest h = ap (λ z. z ++ rest) h
float_skipped (float_op.Unary float_type.F32 Abs) text rest h = ap (λ z. z ++ rest) h
float_skipped (float_op.Unary float_type.F64 Abs) text rest h = ap (λ z. z ++ rest) h
float_skipped (float_op.Binary float_type.F32 float_binary.Add) text rest h = ap (λ z. z ++ rest) h
float_skipped (float_op.Binary float_type.F64 float_binary.Add) text rest h = ap (λ z. z ++ rest) h
float_skipped (float_op.Truncate int.I32 float_type.F32 Signed) text rest h = ap (λ z. z ++ rest) h
float_skipped (float_op.Truncate int.I32 float_type.F64 Signed) text rest h = ap (λ z. z ++ rest) h
float_skipped (float_op.Truncate int.I64 float_type.F32 Signed) text rest h = ap (λ z. z ++ rest) h
float_skipped (float_op.Truncate int.I64 float_type.F64 Signed) text rest h = ap (λ z. z ++ rest) h
float_skipped (float_op.Convert float_type.F32 int.I32 Signed) text rest h = ap (λ z. z ++ rest) h
float_skipped (float_op.Convert float_type.F32 int.I64 Signed) text rest h = ap (λ z. z ++ rest) h
float_skipped (float_op.Convert float_type.F64 int.I32 Signed) text rest h = ap (λ z. z ++ rest) h
float_skipped (float_op.Convert float_type.F64 int.I64 Signed) text rest h = ap (λ z. z ++ rest) h
float_skipped (float_op.ToBits float_type.F32) text rest h = ap (λ z. z ++ rest) h
float_skipped (float_op.FromBits float_type.F32) text rest h = ap (λ z. z ++ rest) h
float_skipped o text rest h = ap (λ z. z ++ rest) h

opcode_skipped : (p : Profile) (i : Instruction) (text rest : List ℕ) → SpellsImmediates p text i → after_opcode (opcode i) (text ++ rest) ≡ rest
opcode_skipped p (op.Block t) text rest h = block_type_skipped p t text rest h
opcode_skipped p (op.Loop t) text rest h = block_type_skipped p t text rest h
opcode_skipped p (op.If t) text rest h = block_type_skipped p t text rest h
opcode_skipped p (op.Br l) text rest h = u32_skipped text rest l h
opcode_skipped p (op.BrIf l) text rest h = u32_skipped text rest l h
opcode_skipped p (op.BrTable b) text rest h = labels_skipped b text rest h
opcode_skipped p (op.Call x) text rest h = u32_skipped text rest x h
opcode_skipped p (op.CallIndirect x) text rest h = number_and_table p text rest x h
opcode_skipped p (op.LocalGet x) text rest h = u32_skipped text rest x h
opcode_skipped p (op.LocalSet x) text rest h = u32_skipped text rest x h
opcode_skipped p (op.LocalTee x) text rest h = u32_skipped text rest x h
opcode_skipped p (op.GlobalGet x) text rest h = u32_skipped text rest x h
opcode_skipped p (op.GlobalSet x) text rest h = u32_skipped text rest x h
opcode_skipped p (op.Load o m) text rest h = load_behind o (text ++ rest) ∙ two_skipped text rest m.align m.offset h.1
opcode_skipped p (op.Store o m) text rest h = store_behind o (text ++ rest) ∙ two_skipped text rest m.align m.offset h.1
opcode_skipped p op.MemorySize text rest h = zero_skipped text rest tt h
opcode_skipped p op.MemoryGrow text rest h = zero_skipped text rest tt h
opcode_skipped profile op.MemoryCopy text rest (front, back, u, (zero_, zeros, p, q, parts), e) =
    number_then (λ n. after_bulk_number n.0 n.1) 10 front back text rest u
    (λ r. then_skipped after_number after_number zero_ zeros back r (λ x. zero_skipped zero_ x tt p) (λ x. zero_skipped zeros x tt q) parts) e
opcode_skipped profile op.MemoryFill text rest (front, back, u, p, e) =
    number_then (λ n. after_bulk_number n.0 n.1) 11 front back text rest u (λ r. zero_skipped back r tt p) e
opcode_skipped p (op.I32Const n) text rest h = number_skipped Signed 32 n text rest h
opcode_skipped p (op.I64Const n) text rest h = number_skipped Signed 64 n text rest h
opcode_skipped p (op.F32Const n) text rest h = drop_at text rest 4 h.1.0
opcode_skipped p (op.F64Const n) text rest h = drop_at text rest 8 h.1.0
opcode_skipped p (op.Float o) text rest h = float_skipped o text rest h.1
opcode_skipped p (op.Eqz int.I32) text rest h = ap (λ z. z ++ rest) h
opcode_skipped p (op.Compare int.I32 Eq) text rest h = ap (λ z. z ++ rest) h
opcode_skipped p (op.Compare int.I64 Eq) text rest h = ap (λ z. z ++ rest) h
opcode_skipped p (op.Unary int.I32 Extend32S) text rest h = absurd h
opcode_skipped p (op.Unary int.I64 Clz) text rest h = ap (λ z. z ++ rest) h
opcode_skipped p (op.Binary int.I32 Add) text rest h = ap (λ z. z ++ rest) h
opcode_skipped p (op.Binary int.I64 Add) text rest h = ap (λ z. z ++ rest) h
opcode_skipped p i text rest h = ap (λ z. z ++ rest) h

instruction_skipped : (p : Profile) (i : Instruction) (text rest : List ℕ) → SpellsInstruction p text i → after_instruction (text ++ rest) ≡ rest
instruction_skipped p i text rest h = ap (λ z. after_instruction (z ++ rest)) h.2 ∙ opcode_skipped p i h.0 rest h.1

pub instructions_skipped : (p : Profile) (is : List Instruction) (text rest : List ℕ) → Each (SpellsInstruction p) text is → after_instructions (length is) (text ++ rest) ≡ rest
instructions_skipped p [] text rest h = ap (λ z. z ++ rest) h
instructions_skipped p (i ∷ is) text rest h =
    then_skipped after_instruction (after_instructions (length is)) h.0 h.1 text rest (λ r. instruction_skipped p i h.0 r h.2) (λ r. instructions_skipped p is h.1 r h.3) h.4

-- ---- locals

pairs_inside : (n : ℕ) (bytes : List ℕ) → after_numbers n (after_numbers n (after_number (after_number bytes))) ≡ after_number (after_numbers n (after_number (after_numbers n bytes)))
pairs_inside n bytes =
    ap (after_numbers n) (numbers_inside n (after_number bytes)) ∙ ap (λ z. after_numbers n (after_number z)) (numbers_inside n bytes)
    ∙ numbers_inside n (after_number (after_numbers n bytes))

each_skipped : (p : Profile) (ls : List Locals) (text rest : List ℕ) → Each (SpellsLocals p) text ls → after_numbers (length ls) (after_numbers (length ls) (text ++ rest)) ≡ rest
each_skipped p [] text rest h = ap (λ z. z ++ rest) h
each_skipped p (l ∷ ls) text rest h =
    sym (pairs_inside (length ls) (text ++ rest))
    ∙ then_skipped (λ z. after_number (after_number z)) (λ z. after_numbers (length ls) (after_numbers (length ls) z)) h.0 h.1 text rest
    (λ r. then_skipped after_number after_number h.2.0 h.2.1 h.0 r (λ q. u32_skipped h.2.0 q l.count h.2.2) (λ q. type_skipped p l.value_type h.2.1 q h.2.3) h.2.4)
    (λ r. each_skipped p ls h.1 r h.3) h.4

pub locals_skipped : (p : Profile) (ls : List Locals) (text rest : List ℕ) → Vector (SpellsLocals p) text ls → after_locals (text ++ rest) ≡ rest
locals_skipped p ls text rest (count, each, counted, spelled, parts) =
    number_then (λ n. after_numbers n.0 (after_numbers n.0 n.1)) (length ls) count each text rest counted (λ r. each_skipped p ls each r spelled) parts
