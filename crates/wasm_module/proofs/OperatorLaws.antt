-- The laws of operators, which have nothing after their opcode.
use Rattle.std.proofs.Common.{◌≡◌, ℕ, ◌+◌, ◌-◌, ◌≤◌, List, [], ◌∷◌, Some, refl, ap, subst, arith}
use Rattle.wasm_syntax.specs.declared.profile.Profile.{Profile}
use Rattle.wasm_syntax.specs.declared.instruction.IntegerType.{IntegerType}
use Rattle.wasm_syntax.specs.declared.instruction.IntegerType.TheVariants.{I32, I64}
use Rattle.wasm_syntax.specs.declared.accesses.LoadOperator.{LoadOperator}
use Rattle.wasm_syntax.specs.declared.accesses.LoadOperator.TheVariants as load
use Rattle.wasm_syntax.specs.declared.accesses.StoreOperator.{StoreOperator}
use Rattle.wasm_syntax.specs.declared.accesses.StoreOperator.TheVariants as store
use Rattle.wasm_syntax.specs.declared.instruction.Comparison.{Comparison}
use Rattle.wasm_syntax.specs.declared.instruction.Comparison.TheVariants as comparison
use Rattle.wasm_syntax.specs.declared.instruction.UnaryOperator.{UnaryOperator}
use Rattle.wasm_syntax.specs.declared.instruction.UnaryOperator.TheVariants as unary
use Rattle.wasm_syntax.specs.declared.instruction.BinaryOperator.{BinaryOperator}
use Rattle.wasm_syntax.specs.declared.instruction.BinaryOperator.TheVariants as binary
use Rattle.wasm_syntax.specs.declared.instruction.Instruction.{Instruction}
use Rattle.wasm_syntax.specs.declared.instruction.Instruction.TheVariants as op
use Rattle.wasm_syntax.specs.Profile.{TakesType}
use Rattle.wasm_syntax.specs.Accesses.{load_access, store_access}
use Rattle.wasm_syntax.specs.Instructions.{comparison_number, binary_operator_number, unary_opcode, load_opcode, store_opcode, SpellsImmediates, SpellsInstruction}
use Rattle.wasm_syntax.specs.internal.CodeReading.{comparison_of, binary_operator_of, unary_of, compared, operated, numeric_of, numeric_after, mem_arg_at, load_of, load_after, store_of, store_after, operator_after, instruction_after, instruction_at}
use Rattle.wasm_syntax.specs.Reading.{◌>>=◌, map_at}
use Rattle.wasm_module.proofs.Laws.{bind_some, some_is, picked, picked_with, ended, ranged}

-- ---- operators by their numbers

-- a comparison has its number
comparison_takes : (n : ℕ) (o : Comparison) → comparison_of n ≡ Some o → n ≡ comparison_number o
unfolding comparison_of
comparison_takes n o =
    picked (λ (o : Comparison). n ≡ comparison_number o) n 0 _ o _ (λ is. is) (
    picked (λ (o : Comparison). n ≡ comparison_number o) n 1 _ o _ (λ is. is) (
    picked (λ (o : Comparison). n ≡ comparison_number o) n 2 _ o _ (λ is. is) (
    picked (λ (o : Comparison). n ≡ comparison_number o) n 3 _ o _ (λ is. is) (
    picked (λ (o : Comparison). n ≡ comparison_number o) n 4 _ o _ (λ is. is) (
    picked (λ (o : Comparison). n ≡ comparison_number o) n 5 _ o _ (λ is. is) (
    picked (λ (o : Comparison). n ≡ comparison_number o) n 6 _ o _ (λ is. is) (
    picked (λ (o : Comparison). n ≡ comparison_number o) n 7 _ o _ (λ is. is) (
    picked (λ (o : Comparison). n ≡ comparison_number o) n 8 _ o _ (λ is. is) (
    picked (λ (o : Comparison). n ≡ comparison_number o) n 9 _ o _ (λ is. is) (
    ended))))))))))

-- an operator on two integers has its number
binary_takes : (n : ℕ) (o : BinaryOperator) → binary_operator_of n ≡ Some o → n ≡ binary_operator_number o
unfolding binary_operator_of
binary_takes n o =
    picked (λ (o : BinaryOperator). n ≡ binary_operator_number o) n 0 _ o _ (λ is. is) (
    picked (λ (o : BinaryOperator). n ≡ binary_operator_number o) n 1 _ o _ (λ is. is) (
    picked (λ (o : BinaryOperator). n ≡ binary_operator_number o) n 2 _ o _ (λ is. is) (
    picked (λ (o : BinaryOperator). n ≡ binary_operator_number o) n 3 _ o _ (λ is. is) (
    picked (λ (o : BinaryOperator). n ≡ binary_operator_number o) n 4 _ o _ (λ is. is) (
    picked (λ (o : BinaryOperator). n ≡ binary_operator_number o) n 5 _ o _ (λ is. is) (
    picked (λ (o : BinaryOperator). n ≡ binary_operator_number o) n 6 _ o _ (λ is. is) (
    picked (λ (o : BinaryOperator). n ≡ binary_operator_number o) n 7 _ o _ (λ is. is) (
    picked (λ (o : BinaryOperator). n ≡ binary_operator_number o) n 8 _ o _ (λ is. is) (
    picked (λ (o : BinaryOperator). n ≡ binary_operator_number o) n 9 _ o _ (λ is. is) (
    picked (λ (o : BinaryOperator). n ≡ binary_operator_number o) n 10 _ o _ (λ is. is) (
    picked (λ (o : BinaryOperator). n ≡ binary_operator_number o) n 11 _ o _ (λ is. is) (
    picked (λ (o : BinaryOperator). n ≡ binary_operator_number o) n 12 _ o _ (λ is. is) (
    picked (λ (o : BinaryOperator). n ≡ binary_operator_number o) n 13 _ o _ (λ is. is) (
    picked (λ (o : BinaryOperator). n ≡ binary_operator_number o) n 14 _ o _ (λ is. is) (
    ended)))))))))))))))

-- ---- by what is taken

module _ (profile : Profile) where
  -- what is known of a load that an opcode is of, and of a store
  abbrev TakesLoad : ℕ → LoadOperator → Type 0
  TakesLoad b o = (b ≡ load_opcode o) × TakesType profile (load_access o).value_type

  abbrev TakesStore : ℕ → StoreOperator → Type 0
  TakesStore b o = (b ≡ store_opcode o) × TakesType profile (store_access o).value_type

  -- a load that an opcode is of has that opcode
  pub load_has_opcode : (b : ℕ) (o : LoadOperator) → load_of profile b ≡ Some o → TakesLoad b o
  unfolding load_of
  load_has_opcode b o =
      picked (TakesLoad b) b 0x28 load.I32Load o _ (λ is. (is, tt)) (
      picked (TakesLoad b) b 0x29 load.I64Load o _ (λ is. (is, tt)) (
      picked_with (TakesLoad b) profile b 0x2A load.F32Load o _ (λ is taken. (is, taken)) (
      picked_with (TakesLoad b) profile b 0x2B load.F64Load o _ (λ is taken. (is, taken)) (
      picked (TakesLoad b) b 0x2C load.I32Load8S o _ (λ is. (is, tt)) (
      picked (TakesLoad b) b 0x2D load.I32Load8U o _ (λ is. (is, tt)) (
      picked (TakesLoad b) b 0x2E load.I32Load16S o _ (λ is. (is, tt)) (
      picked (TakesLoad b) b 0x2F load.I32Load16U o _ (λ is. (is, tt)) (
      picked (TakesLoad b) b 0x30 load.I64Load8S o _ (λ is. (is, tt)) (
      picked (TakesLoad b) b 0x31 load.I64Load8U o _ (λ is. (is, tt)) (
      picked (TakesLoad b) b 0x32 load.I64Load16S o _ (λ is. (is, tt)) (
      picked (TakesLoad b) b 0x33 load.I64Load16U o _ (λ is. (is, tt)) (
      picked (TakesLoad b) b 0x34 load.I64Load32S o _ (λ is. (is, tt)) (
      picked (TakesLoad b) b 0x35 load.I64Load32U o _ (λ is. (is, tt)) (
      ended))))))))))))))

  -- a store that an opcode is of has that opcode
  pub store_has_opcode : (b : ℕ) (o : StoreOperator) → store_of profile b ≡ Some o → TakesStore b o
  unfolding store_of
  store_has_opcode b o =
      picked (TakesStore b) b 0x36 store.I32Store o _ (λ is. (is, tt)) (
      picked (TakesStore b) b 0x37 store.I64Store o _ (λ is. (is, tt)) (
      picked_with (TakesStore b) profile b 0x38 store.F32Store o _ (λ is taken. (is, taken)) (
      picked_with (TakesStore b) profile b 0x39 store.F64Store o _ (λ is taken. (is, taken)) (
      picked (TakesStore b) b 0x3A store.I32Store8 o _ (λ is. (is, tt)) (
      picked (TakesStore b) b 0x3B store.I32Store16 o _ (λ is. (is, tt)) (
      picked (TakesStore b) b 0x3C store.I64Store8 o _ (λ is. (is, tt)) (
      picked (TakesStore b) b 0x3D store.I64Store16 o _ (λ is. (is, tt)) (
      picked (TakesStore b) b 0x3E store.I64Store32 o _ (λ is. (is, tt)) (
      ended)))))))))

  -- the operator on one integer that this byte spells
  abbrev IsUnary : ℕ → IntegerType × UnaryOperator → Type 0
  IsUnary b p = SpellsInstruction profile (b ∷ []) (op.Unary p.0 p.1)

  -- an operator on one integer has its opcode
  unary_takes : (b : ℕ) (p : IntegerType × UnaryOperator) → unary_of b ≡ Some p → IsUnary b p
  unfolding unary_of
  unary_takes b p =
      picked (IsUnary b) b 0x67 (I32, unary.Clz) p _ (λ is. ([], refl, ap (λ (c : ℕ). c ∷ []) is)) (
      picked (IsUnary b) b 0x68 (I32, unary.Ctz) p _ (λ is. ([], refl, ap (λ (c : ℕ). c ∷ []) is)) (
      picked (IsUnary b) b 0x69 (I32, unary.Popcnt) p _ (λ is. ([], refl, ap (λ (c : ℕ). c ∷ []) is)) (
      picked (IsUnary b) b 0x79 (I64, unary.Clz) p _ (λ is. ([], refl, ap (λ (c : ℕ). c ∷ []) is)) (
      picked (IsUnary b) b 0x7A (I64, unary.Ctz) p _ (λ is. ([], refl, ap (λ (c : ℕ). c ∷ []) is)) (
      picked (IsUnary b) b 0x7B (I64, unary.Popcnt) p _ (λ is. ([], refl, ap (λ (c : ℕ). c ∷ []) is)) (
      picked (IsUnary b) b 0xC0 (I32, unary.Extend8S) p _ (λ is. ([], refl, ap (λ (c : ℕ). c ∷ []) is)) (
      picked (IsUnary b) b 0xC1 (I32, unary.Extend16S) p _ (λ is. ([], refl, ap (λ (c : ℕ). c ∷ []) is)) (
      picked (IsUnary b) b 0xC2 (I64, unary.Extend8S) p _ (λ is. ([], refl, ap (λ (c : ℕ). c ∷ []) is)) (
      picked (IsUnary b) b 0xC3 (I64, unary.Extend16S) p _ (λ is. ([], refl, ap (λ (c : ℕ). c ∷ []) is)) (
      picked (IsUnary b) b 0xC4 (I64, unary.Extend32S) p _ (λ is. ([], refl, ap (λ (c : ℕ). c ∷ []) is)) (
      λ e. absurd cc)))))))))))

  -- ---- the instructions

  -- what one byte spells
  abbrev SpelledBy : ℕ → Instruction → Type 0
  SpelledBy b i = SpellsInstruction profile (b ∷ []) i

  -- the comparisons of one type
  compared_takes : (b base : ℕ) (t : IntegerType) (i : Instruction) → ((o : Comparison) → b ≡ base + comparison_number o → SpelledBy b (op.Compare t o)) → base ≤ b → compared t (b - base) ≡ Some i → SpelledBy b i
  compared_takes b base t i spells le e =
      let s = bind_some (comparison_of (b - base)) (λ o. Some (op.Compare t o)) i e in
      let n : b - base ≡ comparison_number s.0 = comparison_takes (b - base) s.0 s.1 in
      subst (SpelledBy b) (some_is (op.Compare t s.0) i s.2) (spells s.0 (omega arith))

  -- the operators on two integers of one type
  operated_takes : (b base : ℕ) (t : IntegerType) (i : Instruction) → ((o : BinaryOperator) → b ≡ base + binary_operator_number o → SpelledBy b (op.Binary t o)) → base ≤ b → operated t (b - base) ≡ Some i → SpelledBy b i
  operated_takes b base t i spells le e =
      let s = bind_some (binary_operator_of (b - base)) (λ o. Some (op.Binary t o)) i e in
      let n : b - base ≡ binary_operator_number s.0 = binary_takes (b - base) s.0 s.1 in
      subst (SpelledBy b) (some_is (op.Binary t s.0) i s.2) (spells s.0 (omega arith))

  -- the operators on one integer
  unaries_take : (b : ℕ) (i : Instruction) → (unary_of b >>= λ p. Some (op.Unary p.0 p.1)) ≡ Some i → SpelledBy b i
  unaries_take b i e =
      let s = bind_some (unary_of b) (λ p. Some (op.Unary p.0 p.1)) i e in
      subst (SpelledBy b) (some_is (op.Unary s.0.0 s.0.1) i s.2) (unary_takes b s.0 s.1)

  -- only a byte
  bare : (b : ℕ) (code : ℕ) → b ≡ code → b ∷ [] ≡ code ∷ []
  bare b code is = ap (λ (c : ℕ). c ∷ []) is

  -- an operator that is read is spelled by its byte
  pub numeric_takes : (b : ℕ) (i : Instruction) → numeric_of b ≡ Some i → SpelledBy b i
  unfolding numeric_of
  numeric_takes b i =
      picked (SpelledBy b) b 0x45 (op.Eqz I32) i _ (λ is. ([], refl, bare b 0x45 is)) (
      picked (SpelledBy b) b 0x50 (op.Eqz I64) i _ (λ is. ([], refl, bare b 0x50 is)) (
      picked (SpelledBy b) b 0xA7 op.I32WrapI64 i _ (λ is. ([], refl, bare b 0xA7 is)) (
      picked (SpelledBy b) b 0xAC op.I64ExtendI32S i _ (λ is. ([], refl, bare b 0xAC is)) (
      picked (SpelledBy b) b 0xAD op.I64ExtendI32U i _ (λ is. ([], refl, bare b 0xAD is)) (
      ranged (SpelledBy b) 0x46 0x4F b i _ _ (compared_takes b 0x46 I32 i (λ o is. ([], refl, bare b (0x46 + comparison_number o) is))) (
      ranged (SpelledBy b) 0x51 0x5A b i _ _ (compared_takes b 0x51 I64 i (λ o is. ([], refl, bare b (0x51 + comparison_number o) is))) (
      ranged (SpelledBy b) 0x6A 0x78 b i _ _ (operated_takes b 0x6A I32 i (λ o is. ([], refl, bare b (0x6A + binary_operator_number o) is))) (
      ranged (SpelledBy b) 0x7C 0x8A b i _ _ (operated_takes b 0x7C I64 i (λ o is. ([], refl, bare b (0x7C + binary_operator_number o) is))) (
      unaries_take b i)))))))))

  -- ---- they are read again

  -- an opcode is read as its instruction, whatever follows
  abbrev ReadsAgain : ℕ → Instruction → Type 0
  ReadsAgain code i = (rest : List ℕ) → instruction_at profile (code ∷ rest) ≡ Some (i, rest)

  -- the comparisons of i32
  pub compare32 : (o : Comparison) → ReadsAgain (0x46 + comparison_number o) (op.Compare I32 o)
  unfolding instruction_at instruction_after numeric_after numeric_of comparison_of operator_after
  compare32 comparison.Eq rest = refl
  compare32 o rest = refl

  -- the comparisons of i64
  pub compare64 : (o : Comparison) → ReadsAgain (0x51 + comparison_number o) (op.Compare I64 o)
  unfolding instruction_at instruction_after numeric_after numeric_of comparison_of operator_after
  compare64 comparison.Eq rest = refl
  compare64 o rest = refl

  -- the operators on two integers of i32
  pub operate32 : (o : BinaryOperator) → ReadsAgain (0x6A + binary_operator_number o) (op.Binary I32 o)
  unfolding instruction_at instruction_after numeric_after numeric_of binary_operator_of operator_after
  operate32 binary.Add rest = refl
  operate32 o rest = refl

  -- the operators on two integers of i64
  pub operate64 : (o : BinaryOperator) → ReadsAgain (0x7C + binary_operator_number o) (op.Binary I64 o)
  unfolding instruction_at instruction_after numeric_after numeric_of binary_operator_of operator_after
  operate64 binary.Add rest = refl
  operate64 o rest = refl

  -- the operators on one i32
  pub unary32 : (o : UnaryOperator) (immediates : List ℕ) → SpellsImmediates profile immediates (op.Unary I32 o) → (immediates ≡ []) × ReadsAgain (unary_opcode I32 o) (op.Unary I32 o)
  unfolding instruction_at instruction_after numeric_after numeric_of unary_of operator_after
  unary32 unary.Extend32S immediates h = absurd h
  unary32 o immediates h = (h, λ rest. refl)

  -- the operators on one i64
  pub unary64 : (o : UnaryOperator) (immediates : List ℕ) → SpellsImmediates profile immediates (op.Unary I64 o) → (immediates ≡ []) × ReadsAgain (unary_opcode I64 o) (op.Unary I64 o)
  unfolding instruction_at instruction_after numeric_after numeric_of unary_of operator_after
  unary64 unary.Clz immediates h = (h, λ rest. refl)
  unary64 o immediates h = (h, λ rest. refl)

  -- the loads
  pub load_again : (o : LoadOperator) → TakesType profile (load_access o).value_type → (rest : List ℕ) → instruction_at profile (load_opcode o ∷ rest) ≡ map_at (op.Load o) mem_arg_at rest
  unfolding instruction_at instruction_after load_after load_of
  load_again load.F32Load taken rest = rw taken refl
  load_again load.F64Load taken rest = rw taken refl
  load_again load.I32Load16S taken rest = refl
  load_again o taken rest = refl

  -- the stores
  pub store_again : (o : StoreOperator) → TakesType profile (store_access o).value_type → (rest : List ℕ) → instruction_at profile (store_opcode o ∷ rest) ≡ map_at (op.Store o) mem_arg_at rest
  unfolding instruction_at instruction_after store_after store_of
  store_again store.F32Store taken rest = rw taken refl
  store_again store.F64Store taken rest = rw taken refl
  store_again store.I32Store taken rest = refl
  store_again o taken rest = refl
