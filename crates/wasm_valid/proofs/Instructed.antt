-- What the walk makes of the stack at each instruction is what the typings of that instruction leave.
use Rattle.std.proofs.Common.{◌≡◌, ℕ, ◌^◌, ◌≤◌, List, [], ◌∷◌, Option, Some, None, Bool, true, false, ◌&&◌, nat_le, refl, sym, ap, ◌∙◌, subst, arith, reverse}
use Rattle.std.proofs.lemmas.Bool.{leb-true, leb-false, le-leb}
use Rattle.std.proofs.lemmas.Nat.{pow_below}
use Rattle.std.proofs.Math.Nat.{pow-le-pow_right}
use Rattle.std.specs.List.{AllByRecursion, slice_get}
use Rattle.std.specs.Option.{option_map, option_and_then}
use Rattle.wasm_syntax.specs.declared.instruction.ValueType.{ValueType}
use Rattle.wasm_syntax.specs.declared.instruction.ValueType.TheVariants.{I32, I64, F32, F64}
use Rattle.wasm_syntax.specs.declared.instruction.IntegerType.{IntegerType}
use Rattle.wasm_syntax.specs.declared.instruction.IntegerType.TheVariants as int
use Rattle.wasm_syntax.specs.declared.instruction.FloatOperator.{FloatOperator}
use Rattle.wasm_syntax.specs.declared.instruction.FloatOperator.TheVariants as float_op
use Rattle.wasm_syntax.specs.declared.instruction.BlockType.{BlockType}
use Rattle.wasm_syntax.specs.declared.instruction.BlockType.TheVariants.{Empty, Value}
use Rattle.wasm_syntax.specs.declared.instruction.MemArg.{MemArg}
use Rattle.wasm_syntax.specs.declared.instruction.UnaryOperator.{UnaryOperator}
use Rattle.wasm_syntax.specs.declared.instruction.UnaryOperator.TheVariants.{Extend32S}
use Rattle.wasm_syntax.specs.declared.accesses.Access.{Access}
use Rattle.wasm_syntax.specs.Accesses.{load_access, store_access}
use Rattle.wasm_syntax.specs.declared.instruction.Instruction.{Instruction}
use Rattle.wasm_syntax.specs.declared.instruction.Instruction.TheVariants as op
use Rattle.wasm_syntax.specs.declared.module.FuncType.{FuncType}
use Rattle.wasm_syntax.specs.declared.module.GlobalType.{GlobalType}
use Rattle.wasm_valid.specs.declared.effects.Takes.{Takes}
use Rattle.wasm_valid.specs.declared.effects.Takes.TheVariants.{Nothing, One, Two, Three}
use Rattle.wasm_valid.specs.declared.effects.MemoryEffect.{MemoryEffect}
use Rattle.wasm_syntax.specs.ValueTypes.{integer, float}
use Rattle.wasm_valid.specs.Arities.{as_wide, float_takes, float_gives, results_of}
use Rattle.wasm_valid.specs.Typing.{Context, Labels, Moves, Leaves, Loads, Stores, IsOperator, OpTyped}
use Rattle.wasm_valid.specs.internal.Stack.{Stack, if_true, when, is_same, pop, pops, push, moved, left}
use Rattle.wasm_valid.specs.internal.Effects.{taken, effect, access, load, store, access_of, is_operator, float_operands, numeric_effect, accessed, variable_effect, applied, are_same, keeps, all_keep, table_label, called, called_indirect, after}
use Rattle.wasm_valid.proofs.Fitting.{ComputesTyping, ComputesTyping-same, ComputesTyping-is, ComputesTyping-with, ComputesTyping-when, ComputesTyping-never, moved_walks, left_walks, unreachable_walks, dropped_walks, selected_walks, is_same_true, is_same_same, and_then_some, if_true_some}

-- ---- tests

pub and_true : (a b : Bool) → a && b ≡ true → (a ≡ true) × (b ≡ true)
and_true true b e = (refl, e)
and_true false b e = cc

pub true_and : (a b : Bool) → a ≡ true → b ≡ true → a && b ≡ true
true_and true b p q = q
true_and false b p q = cc

-- an exponent that isn't over another
width_le : (a k : ℕ) → 2 ^ a ≤ 2 ^ k → a ≤ k
width_le a k h = by_test (nat_le a k) refl where
  by_test : (t : Bool) → nat_le a k ≡ t → a ≤ k
  by_test true e = leb-true a k e
  by_test false e = absurd (let more = pow_below k a (leb-false a k e) in omega arith)

-- ---- instructions of fixed type

effect_walks : (t : Bool) (takes : Takes) (gives : BlockType) (s : Stack) → ComputesTyping (λ a b. (t ≡ true) × Moves (taken takes) (results_of gives) a b) s (applied (if_true t (effect takes gives)) s)
effect_walks true takes gives s = ComputesTyping-when (λ a b. Moves (taken takes) (results_of gives) a b) s (moved (taken takes) (results_of gives) s) true (moved_walks (taken takes) (results_of gives) s)
effect_walks false takes gives s = ComputesTyping-when (λ a b. Moves (taken takes) (results_of gives) a b) s (moved (taken takes) (results_of gives) s) false (moved_walks (taken takes) (results_of gives) s)

-- an effect by what was looked up
lookup_walks : {A : Type 0} (takes : A → Takes) (gives : A → BlockType) (s : Stack) (o : Option A)
    → ComputesTyping (λ a b. (x : A) × (o ≡ Some x) × Moves (taken (takes x)) (results_of (gives x)) a b) s (applied (option_map (λ x. effect (takes x) (gives x)) o) s)
lookup_walks {A} takes gives s None = ComputesTyping-with (λ (x : A) a b. Moves (taken (takes x)) (results_of (gives x)) a b) s (λ x. moved (taken (takes x)) (results_of (gives x)) s) None (λ x. moved_walks (taken (takes x)) (results_of (gives x)) s)
lookup_walks {A} takes gives s (Some y) = ComputesTyping-with (λ (x : A) a b. Moves (taken (takes x)) (results_of (gives x)) a b) s (λ x. moved (taken (takes x)) (results_of (gives x)) s) (Some y) (λ x. moved_walks (taken (takes x)) (results_of (gives x)) s)

set_walks : (s : Stack) (o : Option GlobalType)
    → ComputesTyping (λ a b. (g : GlobalType) × (o ≡ Some g) × (g.mutable ≡ true) × Moves (g.value_type ∷ []) [] a b) s (applied (option_and_then (λ g. if_true g.mutable (effect (One g.value_type) Empty)) o) s)
set_walks s o =
    ComputesTyping-same (λ a b. (g : GlobalType) × (o ≡ Some g) × ((g.mutable ≡ true) × Moves (g.value_type ∷ []) [] a b)) (λ a b. (g : GlobalType) × (o ≡ Some g) × (g.mutable ≡ true) × Moves (g.value_type ∷ []) [] a b) s (applied (option_and_then (λ g. if_true g.mutable (effect (One g.value_type) Empty)) o) s)
    (λ a b q. (q.0, q.1, q.2.0, q.2.1)) (λ a b q. (q.0, q.1, (q.2, q.3))) (by_entry o) where
      by_entry : (o : Option GlobalType) → ComputesTyping (λ a b. (g : GlobalType) × (o ≡ Some g) × ((g.mutable ≡ true) × Moves (g.value_type ∷ []) [] a b)) s (applied (option_and_then (λ g. if_true g.mutable (effect (One g.value_type) Empty)) o) s)
      by_entry None = ComputesTyping-with (λ (g : GlobalType) a b. (g.mutable ≡ true) × Moves (g.value_type ∷ []) [] a b) s (λ g. applied (if_true g.mutable (effect (One g.value_type) Empty)) s) None (λ g. effect_walks g.mutable (One g.value_type) Empty s)
      by_entry (Some h) = ComputesTyping-with (λ (g : GlobalType) a b. (g.mutable ≡ true) × Moves (g.value_type ∷ []) [] a b) s (λ g. applied (if_true g.mutable (effect (One g.value_type) Empty)) s) (Some h) (λ g. effect_walks g.mutable (One g.value_type) Empty s)

-- an instruction on memory
access_walks : (has_memory : Bool) (align most : ℕ) (takes : Takes) (gives : BlockType) (s : Stack)
    → ComputesTyping (λ a b. (has_memory ≡ true) × (2 ^ align ≤ 2 ^ most) × Moves (taken takes) (results_of gives) a b) s (applied (accessed has_memory (Some (access align most takes gives)) None) s)
access_walks has_memory align most takes gives s =
    ComputesTyping-same (λ a b. ((has_memory && nat_le align most) ≡ true) × Moves (taken takes) (results_of gives) a b) (λ a b. (has_memory ≡ true) × (2 ^ align ≤ 2 ^ most) × Moves (taken takes) (results_of gives) a b) s (applied (if_true (has_memory && nat_le align most) (effect takes gives)) s)
    (λ a b q. let t = and_true has_memory (nat_le align most) q.0 in (t.0, pow-le-pow_right (omega arith) (leb-true align most t.1), q.1))
    (λ a b q. (true_and has_memory (nat_le align most) q.0 (le-leb align most (width_le align most q.1)), q.2))
    (effect_walks (has_memory && nat_le align most) takes gives s)

load_walks : (c : Context) (n : Access) (m : MemArg) (s : Stack) → ComputesTyping (λ a b. Loads c n m a b) s (applied (accessed c.has_memory (Some (load m n.width n.value_type)) None) s)
load_walks c n m s = access_walks c.has_memory m.align n.width (One I32) (Value n.value_type) s

store_walks : (c : Context) (n : Access) (m : MemArg) (s : Stack) → ComputesTyping (λ a b. Stores c n m a b) s (applied (accessed c.has_memory (Some (store m n.width n.value_type)) None) s)
store_walks c n m s = access_walks c.has_memory m.align n.width (Two n.value_type I32) Empty s

memory_walks : (c : Context) (takes : Takes) (gives : BlockType) (s : Stack) → ComputesTyping (λ a b. (c.has_memory ≡ true) × Moves (taken takes) (results_of gives) a b) s (applied (accessed c.has_memory (Some (access 0 0 takes gives)) None) s)
memory_walks c takes gives s =
    ComputesTyping-same (λ a b. (c.has_memory ≡ true) × (2 ^ 0 ≤ 2 ^ 0) × Moves (taken takes) (results_of gives) a b) (λ a b. (c.has_memory ≡ true) × Moves (taken takes) (results_of gives) a b) s (applied (accessed c.has_memory (Some (access 0 0 takes gives)) None) s)
    (λ a b q. (q.0, q.2)) (λ a b q. (q.0, omega arith, q.1)) (access_walks c.has_memory 0 0 takes gives s)

-- ---- operators

unary_walks : (t : IntegerType) (o : UnaryOperator) (s : Stack) → ComputesTyping (λ a b. IsOperator t o × Moves (integer t ∷ []) (integer t ∷ []) a b) s (applied (if_true (is_operator t o) (effect (One (integer t)) (Value (integer t)))) s)
unary_walks t o s =
    ComputesTyping-same (λ a b. (is_operator t o ≡ true) × Moves (integer t ∷ []) (integer t ∷ []) a b) (λ a b. IsOperator t o × Moves (integer t ∷ []) (integer t ∷ []) a b) s (applied (if_true (is_operator t o) (effect (One (integer t)) (Value (integer t)))) s)
    (λ a b q. (holds t o q.0, q.1)) (λ a b q. (tests t o q.0, q.1)) (effect_walks (is_operator t o) (One (integer t)) (Value (integer t)) s) where
      holds : (t : IntegerType) (o : UnaryOperator) → is_operator t o ≡ true → IsOperator t o
      holds int.I32 Extend32S e = cc
      holds t o e = tt

      tests : (t : IntegerType) (o : UnaryOperator) → IsOperator t o → is_operator t o ≡ true
      tests int.I32 Extend32S h = absurd h
      tests t o h = refl

float_walks : (o : FloatOperator) (s : Stack) → ComputesTyping (λ a b. Moves (float_takes o) (float_gives o ∷ []) a b) s (applied (Some (effect (float_operands o) (Value (float_gives o)))) s)
float_walks (float_op.Compare f o) s = moved_walks (float f ∷ float f ∷ []) (I32 ∷ []) s
float_walks (float_op.Unary f o) s = moved_walks (float f ∷ []) (float f ∷ []) s
float_walks (float_op.Binary f o) s = moved_walks (float f ∷ float f ∷ []) (float f ∷ []) s
float_walks (float_op.Truncate t f g) s = moved_walks (float f ∷ []) (integer t ∷ []) s
float_walks (float_op.Saturate t f g) s = moved_walks (float f ∷ []) (integer t ∷ []) s
float_walks (float_op.Convert f t g) s = moved_walks (integer t ∷ []) (float f ∷ []) s
float_walks float_op.Demote s = moved_walks (F64 ∷ []) (F32 ∷ []) s
float_walks float_op.Promote s = moved_walks (F32 ∷ []) (F64 ∷ []) s
float_walks (float_op.ToBits f) s = moved_walks (float f ∷ []) (integer (as_wide f) ∷ []) s
float_walks (float_op.FromBits f) s = moved_walks (integer (as_wide f) ∷ []) (float f ∷ []) s

-- ---- branches by a table

are_same_true : (ts us : List ValueType) → are_same ts us ≡ true → ts ≡ us
are_same_true [] [] e = refl
are_same_true [] (u ∷ us) e = cc
are_same_true (t ∷ ts) [] e = cc
are_same_true (t ∷ ts) (u ∷ us) e =
    let q = and_true (is_same t u) (are_same ts us) e in
    let a = is_same_true t u q.0 in
    let b = are_same_true ts us q.1 in cc

are_same_same : (ts us : List ValueType) → ts ≡ us → are_same ts us ≡ true
are_same_same [] [] e = refl
are_same_same [] (u ∷ us) e = cc
are_same_same (t ∷ ts) [] e = cc
are_same_same (t ∷ ts) (u ∷ us) e =
    true_and (is_same t u) (are_same ts us) (is_same_same t u cc) (are_same_same ts us cc)

keeps_true : (kept : List ValueType) (o : Option (List ValueType)) → keeps kept o ≡ true → o ≡ Some kept
keeps_true kept None e = cc
keeps_true kept (Some ts) e = ap Some (are_same_true ts kept e)

keeps_same : (kept : List ValueType) (o : Option (List ValueType)) → o ≡ Some kept → keeps kept o ≡ true
keeps_same kept None e = cc
keeps_same kept (Some ts) e = are_same_same ts kept cc

all_keep_true : (ls : Labels) (kept : List ValueType) (table : List ℕ) → all_keep ls kept table ≡ true → AllByRecursion (λ l. slice_get ls l ≡ Some kept) table
all_keep_true ls kept [] e = tt
all_keep_true ls kept (l ∷ more) e =
    let q = and_true (keeps kept (slice_get ls l)) (all_keep ls kept more) e in
    (keeps_true kept (slice_get ls l) q.0, all_keep_true ls kept more q.1)

all_keep_all : (ls : Labels) (kept : List ValueType) (table : List ℕ) → AllByRecursion (λ l. slice_get ls l ≡ Some kept) table → all_keep ls kept table ≡ true
all_keep_all ls kept [] h = refl
all_keep_all ls kept (l ∷ more) h = true_and (keeps kept (slice_get ls l)) (all_keep ls kept more) (keeps_same kept (slice_get ls l) h.0) (all_keep_all ls kept more h.1)

label_some : (ls : Labels) (table : List ℕ) (default : ℕ) (kept : List ValueType) → table_label ls table default ≡ Some kept → AllByRecursion (λ l. slice_get ls l ≡ Some kept) table × (slice_get ls default ≡ Some kept)
label_some ls table default kept e =
    let m = and_then_some (λ (k : List ValueType). if_true (all_keep ls k table) k) (slice_get ls default) kept e in
    let q = if_true_some (all_keep ls m.0 table) m.0 kept m.2 in
    (subst (λ (k : List ValueType). AllByRecursion (λ l. slice_get ls l ≡ Some k) table) q.1 (all_keep_true ls m.0 table q.0), m.1 ∙ ap Some q.1)

some_label : (ls : Labels) (table : List ℕ) (default : ℕ) (kept : List ValueType) → AllByRecursion (λ l. slice_get ls l ≡ Some kept) table → slice_get ls default ≡ Some kept → table_label ls table default ≡ Some kept
some_label ls table default kept all e =
    ap (option_and_then (λ (k : List ValueType). if_true (all_keep ls k table) k)) e ∙ ap (λ (t : Bool). if_true t kept) (all_keep_all ls kept table all)

table_walks : (ls : Labels) (table : List ℕ) (default : ℕ) (s : Stack)
    → ComputesTyping (λ a b. (kept : List ValueType) × AllByRecursion (λ l. slice_get ls l ≡ Some kept) table × (slice_get ls default ≡ Some kept) × Leaves (I32 ∷ kept) a) s (option_and_then (λ kept. left (I32 ∷ kept) s) (table_label ls table default))
table_walks ls table default s =
    ComputesTyping-same (λ a b. (kept : List ValueType) × (table_label ls table default ≡ Some kept) × Leaves (I32 ∷ kept) a) (λ a b. (kept : List ValueType) × AllByRecursion (λ l. slice_get ls l ≡ Some kept) table × (slice_get ls default ≡ Some kept) × Leaves (I32 ∷ kept) a) s (option_and_then (λ kept. left (I32 ∷ kept) s) (table_label ls table default))
    (λ a b q. let l = label_some ls table default q.0 q.1 in (q.0, l.0, l.1, q.2)) (λ a b q. (q.0, some_label ls table default q.0 q.1 q.2, q.3))
    (ComputesTyping-with (λ (kept : List ValueType) a b. Leaves (I32 ∷ kept) a) s (λ kept. left (I32 ∷ kept) s) (table_label ls table default) (λ kept. left_walks (I32 ∷ kept) s))

-- ---- calls

indirect_is : (f : FuncType) (o : Option Stack) → option_map (push f.results) (option_and_then (pops (reverse f.params)) o) ≡ option_and_then (called f) o
indirect_is f None = refl
indirect_is f (Some s) = refl

indirect_walks : (c : Context) (x : ℕ) (s : Stack)
    → ComputesTyping (λ a b. (f : FuncType) × (c.has_table ≡ true) × (slice_get c.types x ≡ Some f) × Moves (I32 ∷ reverse f.params) f.results a b) s (option_and_then (λ f. called_indirect f s) (when c.has_table (slice_get c.types x)))
indirect_walks c x s =
    ComputesTyping-same (λ a b. (f : FuncType) × (when c.has_table (slice_get c.types x) ≡ Some f) × Moves (I32 ∷ reverse f.params) f.results a b) (λ a b. (f : FuncType) × (c.has_table ≡ true) × (slice_get c.types x ≡ Some f) × Moves (I32 ∷ reverse f.params) f.results a b) s (option_and_then (λ f. called_indirect f s) (when c.has_table (slice_get c.types x)))
    (λ a b q. let w = when_some c.has_table (slice_get c.types x) q.0 q.1 in (q.0, w.0, w.1, q.2)) (λ a b q. (q.0, some_when c.has_table (slice_get c.types x) q.0 q.1 q.2, q.3))
    (ComputesTyping-with (λ (f : FuncType) a b. Moves (I32 ∷ reverse f.params) f.results a b) s (λ f. called_indirect f s) (when c.has_table (slice_get c.types x))
    (λ f. ComputesTyping-is (λ a b. Moves (I32 ∷ reverse f.params) f.results a b) s (moved (I32 ∷ reverse f.params) f.results s) (called_indirect f s) (indirect_is f (pop I32 s)) (moved_walks (I32 ∷ reverse f.params) f.results s))) where
      when_some : (t : Bool) (o : Option FuncType) (f : FuncType) → when t o ≡ Some f → (t ≡ true) × (o ≡ Some f)
      when_some true o f e = (refl, e)
      when_some false o f e = cc

      some_when : (t : Bool) (o : Option FuncType) (f : FuncType) → t ≡ true → o ≡ Some f → when t o ≡ Some f
      some_when true o f e h = h
      some_when false o f e h = cc

-- ---- every instruction

abbrev pub OpWalks : Context → Labels → Instruction → Stack → Type 0
OpWalks c ls i s = ComputesTyping (λ a b. OpTyped c ls i a b) s (after c ls i s)

pub op_walks : (c : Context) (ls : Labels) (i : Instruction) (s : Stack) → OpWalks c ls i s
unfolding after
op_walks c ls op.Unreachable s = unreachable_walks s
op_walks c ls op.Nop s = moved_walks [] [] s
op_walks c ls (op.Block t) s = ComputesTyping-never (λ a b. ⊥) s (λ a b h. h)
op_walks c ls (op.Loop t) s = ComputesTyping-never (λ a b. ⊥) s (λ a b h. h)
op_walks c ls (op.If t) s = ComputesTyping-never (λ a b. ⊥) s (λ a b h. h)
op_walks c ls op.Else s = ComputesTyping-never (λ a b. ⊥) s (λ a b h. h)
op_walks c ls op.End s = ComputesTyping-never (λ a b. ⊥) s (λ a b h. h)
op_walks c ls (op.Br l) s = ComputesTyping-with (λ (kept : List ValueType) a b. Leaves kept a) s (λ kept. left kept s) (slice_get ls l) (λ kept. left_walks kept s)
op_walks c ls (op.BrIf l) s = ComputesTyping-with (λ (kept : List ValueType) a b. Moves (I32 ∷ kept) kept a b) s (λ kept. moved (I32 ∷ kept) kept s) (slice_get ls l) (λ kept. moved_walks (I32 ∷ kept) kept s)
op_walks c ls (op.BrTable table) s = table_walks ls table.0 table.1 s
op_walks c ls op.Return s = left_walks c.returns s
op_walks c ls (op.Call x) s = ComputesTyping-with (λ (f : FuncType) a b. Moves (reverse f.params) f.results a b) s (λ f. called f s) (slice_get c.functions x) (λ f. moved_walks (reverse f.params) f.results s)
op_walks c ls (op.CallIndirect x) s = indirect_walks c x s
op_walks c ls op.Drop s = dropped_walks s
op_walks c ls op.Select s = selected_walks s
op_walks c ls (op.LocalGet x) s = lookup_walks (λ (t : ValueType). Nothing) (λ t. Value t) s (slice_get c.locals x)
op_walks c ls (op.LocalSet x) s = lookup_walks (λ (t : ValueType). One t) (λ t. Empty) s (slice_get c.locals x)
op_walks c ls (op.LocalTee x) s = lookup_walks (λ (t : ValueType). One t) (λ t. Value t) s (slice_get c.locals x)
op_walks c ls (op.GlobalGet x) s = lookup_walks (λ (g : GlobalType). Nothing) (λ g. Value g.value_type) s (slice_get c.globals x)
op_walks c ls (op.GlobalSet x) s = set_walks s (slice_get c.globals x)
op_walks c ls (op.Load o m) s = load_walks c (load_access o) m s
op_walks c ls (op.Store o m) s = store_walks c (store_access o) m s
op_walks c ls op.MemorySize s = memory_walks c Nothing (Value I32) s
op_walks c ls op.MemoryGrow s = memory_walks c (One I32) (Value I32) s
op_walks c ls op.MemoryCopy s = memory_walks c (Three I32 I32 I32) Empty s
op_walks c ls op.MemoryFill s = memory_walks c (Three I32 I32 I32) Empty s
op_walks c ls (op.I32Const n) s = moved_walks [] (I32 ∷ []) s
op_walks c ls (op.I64Const n) s = moved_walks [] (I64 ∷ []) s
op_walks c ls (op.Eqz t) s = moved_walks (integer t ∷ []) (I32 ∷ []) s
op_walks c ls (op.Compare t o) s = moved_walks (integer t ∷ integer t ∷ []) (I32 ∷ []) s
op_walks c ls (op.Unary t o) s = unary_walks t o s
op_walks c ls (op.Binary t o) s = moved_walks (integer t ∷ integer t ∷ []) (integer t ∷ []) s
op_walks c ls op.I32WrapI64 s = moved_walks (I64 ∷ []) (I32 ∷ []) s
op_walks c ls op.I64ExtendI32S s = moved_walks (I32 ∷ []) (I64 ∷ []) s
op_walks c ls op.I64ExtendI32U s = moved_walks (I32 ∷ []) (I64 ∷ []) s
op_walks c ls (op.F32Const n) s = moved_walks [] (F32 ∷ []) s
op_walks c ls (op.F64Const n) s = moved_walks [] (F64 ∷ []) s
op_walks c ls (op.Float o) s = float_walks o s

-- ---- an instruction by what was found of it

pub access_effect : (c : Context) (i : Instruction) (a : MemoryEffect) → Some a ≡ access_of i → variable_effect c i ≡ if_true (c.has_memory && nat_le a.align a.most) a.effect
access_effect c (op.LocalGet x) a e = cc
access_effect c (op.LocalSet x) a e = cc
access_effect c (op.LocalTee x) a e = cc
access_effect c (op.GlobalGet x) a e = cc
access_effect c (op.GlobalSet x) a e = cc
access_effect c i a e = ap (λ o. accessed c.has_memory o (numeric_effect i)) (sym e)
