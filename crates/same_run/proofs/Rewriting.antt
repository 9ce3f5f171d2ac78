-- The rules of plain instructions once more, as a function: what the next one makes of values, locals and the store.
use Rattle.std.proofs.Common.{◌≡◌, ◌≢◌, ℕ, ◌+◌, ◌-◌, ◌*◌, ◌/◌, ◌%◌, ◌^◌, Bool, true, false, ◌&&◌, cond, List, [], ◌∷◌, ◌++◌, length, take, drop, replicate, Option, Some, None, Result, Ok, Err, slice_get, refl, ◌∙◌, ap}
use Rattle.std.specs.Prelude.{nat_eq, nat_le, slice_set}
use Rattle.std.proofs.lemmas.Option.{none-some}
use Rattle.std.proofs.lemmas.Bool.{and_parts}
use Rattle.wasm_syntax.specs.declared.instruction.ValueType.{ValueType}
use Rattle.wasm_syntax.specs.declared.instruction.ValueType.TheVariants.{I32, I64, F32, F64}
use Rattle.wasm_syntax.specs.declared.instruction.Instruction.{Instruction}
use Rattle.wasm_syntax.specs.declared.instruction.Instruction.TheVariants as op
use Rattle.wasm_syntax.specs.declared.module.FuncType.{FuncType}
use Rattle.wasm_syntax.specs.Nested.{Instructions, done, plain, block, loop, if_then, if_else, invoke}
use Rattle.wasm_valid.specs.Arities.{arity, float_takes, float_gives}
use Rattle.wasm_num.specs.declared.trap.Trap.{Trap}
use Rattle.wasm_num.specs.declared.trap.Trap.TheVariants as traps
use Rattle.wasm_num.specs.Numbers.{signed, wrapped, bool_number}
use Rattle.wasm_syntax.specs.ValueTypes.{integer}
use Rattle.wasm_steps.specs.Operators.{width, compare_test, unary_number, binary_number}
use Rattle.wasm_steps.specs.FloatOperators.{float_number}
use Rattle.wasm_steps.specs.Configuration.{Val, val, numbers, Callee, signature_of, Instance, Store, trapped, Code, code, label, stopped, Configuration, at}
use Rattle.wasm_steps.specs.Steps.{LoadOp, StoreOp, load_of, store_of, loaded, bytes_at, written, to_bytes}
use Rattle.same_run.proofs.Branching.{top, below}

-- ---- types of functions, compared

abbrev pub same_type : ValueType → ValueType → Bool
same_type I32 I32 = true
same_type I64 I64 = true
same_type F32 F32 = true
same_type F64 F64 = true
same_type t u = false

abbrev pub same_types : List ValueType → List ValueType → Bool
same_types [] [] = true
same_types [] (u ∷ us) = false
same_types (t ∷ ts) [] = false
same_types (t ∷ ts) (u ∷ us) = same_type t u && same_types ts us

type_is : (t u : ValueType) → same_type t u ≡ true → t ≡ u
type_is I32 I32 is = refl
type_is I64 I64 is = refl
type_is F32 F32 is = refl
type_is F64 F64 is = refl
type_is t u is = cc

types_are : (ts us : List ValueType) → same_types ts us ≡ true → ts ≡ us
types_are [] [] is = refl
types_are [] (u ∷ us) is = cc
types_are (t ∷ ts) [] is = cc
types_are (t ∷ ts) (u ∷ us) is = let parts = and_parts (same_type t u) (same_types ts us) is in
    λ i. type_is t u parts.0 i ∷ types_are ts us parts.1 i

type_itself : (t : ValueType) → same_type t t ≡ true
type_itself I32 = refl
type_itself I64 = refl
type_itself F32 = refl
type_itself F64 = refl

types_itself : (ts : List ValueType) → same_types ts ts ≡ true
types_itself [] = refl
types_itself (t ∷ ts) = ap (λ b. b && same_types ts ts) (type_itself t) ∙ types_itself ts

abbrev pub has_type : Option FuncType → FuncType → Bool
has_type None g = false
has_type (Some f) g = same_types f.params g.params && same_types f.results g.results

pub typed : (o : Option FuncType) (g : FuncType) → o ≡ Some g → has_type o g ≡ true
typed o g is = ap (λ o. has_type o g) is ∙ (ap (λ b. b && same_types g.results g.results) (types_itself g.params) ∙ types_itself g.results)

pub mistyped : (o : Option FuncType) (g : FuncType) → o ≢ Some g → has_type o g ≡ false
mistyped None g isnt = refl
mistyped (Some f) g isnt = go (has_type (Some f) g) refl
  where
    go : (b : Bool) → has_type (Some f) g ≡ b → has_type (Some f) g ≡ false
    go false is = is
    go true is =
        let parts = and_parts (same_types f.params g.params) (same_types f.results g.results) is in
        let same : f ≡ g = λ i. record { params = types_are f.params g.params parts.0 i; results = types_are f.results g.results parts.1 i } in
        absurd (isnt (ap Some same))

-- ---- accesses

abbrev pub load_to : Store → List Val → Instructions → LoadOp → Code
load_to s vs rest l = cond (nat_le (top vs + l.memarg.offset + l.bytes) (length s.memory))
    (code (val l.value_type (loaded l (bytes_at s.memory (top vs + l.memarg.offset) l.bytes)) ∷ below vs) rest)
    (stopped (trapped traps.OutOfBoundsMemory))

abbrev pub stored : Bool → Store → List Val → List Val → Instructions → StoreOp → ℕ → ℕ → Configuration
stored true s f vs rest l a x = at (record s { memory = written s.memory (a + l.memarg.offset) (to_bytes l.bytes x) }) f (code vs rest)
stored false s f vs rest l a x = at s f (stopped (trapped traps.OutOfBoundsMemory))

abbrev pub store_to : Store → List Val → List Val → Instructions → StoreOp → Configuration
store_to s f vs rest l =
    stored (nat_le (top (below vs) + l.memarg.offset + l.bytes) (length s.memory)) s f (below (below vs)) rest l (top (below vs)) (top vs)

abbrev pub accessed : Store → List Val → List Val → Instructions → Option LoadOp → Option StoreOp → Option Configuration → Option Configuration
accessed s f vs rest (Some l) store other = Some (at s f (load_to s vs rest l))
accessed s f vs rest None (Some l) other = Some (store_to s f vs rest l)
accessed s f vs rest None None other = other

abbrev pub copied : Bool → Bool → Store → List Val → ℕ → ℕ → ℕ → List Val → Instructions → Configuration
copied from to s f n o d vs rest = cond from
    (cond to (at (record s { memory = written s.memory d (bytes_at s.memory o n) }) f (code vs rest)) (at s f (stopped (trapped traps.OutOfBoundsMemory))))
    (at s f (stopped (trapped traps.OutOfBoundsMemory)))

abbrev pub filled : Bool → Store → List Val → ℕ → ℕ → ℕ → List Val → Instructions → Configuration
filled to s f n x d vs rest = cond to
    (at (record s { memory = written s.memory d (replicate n (x % 256)) }) f (code vs rest))
    (at s f (stopped (trapped traps.OutOfBoundsMemory)))

abbrev pub grown : Bool → Store → List Val → ℕ → List Val → Instructions → Configuration
grown fits s f n vs rest = cond fits
    (at (record s { memory = s.memory ++ replicate (n * 65536) 0 }) f (code (val I32 (length s.memory / 65536) ∷ vs) rest))
    (at s f (code (val I32 (2 ^ 32 - 1) ∷ vs) rest))

-- ---- calls, variables and numbers

abbrev pub of_callee : Instance → ℕ → ℕ → List Val → Instructions → Option Callee → Code
of_callee i x a vs rest None = stopped (trapped traps.IndirectCallMismatch)
of_callee i x a vs rest (Some c) = cond (has_type (slice_get i.func_types x) (signature_of c)) (code vs (invoke a rest)) (stopped (trapped traps.IndirectCallMismatch))

abbrev pub of_element : Instance → ℕ → List Val → Instructions → Option (Option ℕ) → Code
of_element i x vs rest None = stopped (trapped traps.UndefinedElement)
of_element i x vs rest (Some None) = stopped (trapped traps.UninitializedElement)
of_element i x vs rest (Some (Some a)) = of_callee i x a vs rest (slice_get i.callees a)

abbrev pub pushed : Store → List Val → List Val → Instructions → Option Val → Option Configuration
pushed s f vs rest None = None
pushed s f vs rest (Some v) = Some (at s f (code (v ∷ vs) rest))

abbrev pub with_top : List Val → ℕ → List Val → List Val
with_top xs x [] = xs
with_top xs x (v ∷ vs) = slice_set xs x v

abbrev pub selected : ℕ → List Val → List Val
selected c [] = []
selected c (y ∷ []) = []
selected c (y ∷ x ∷ vs) = cond (nat_eq c 0) y x ∷ vs

abbrev pub computed : Store → List Val → ValueType → List Val → Instructions → Result ℕ Trap → Configuration
computed s f t vs rest (Ok r) = at s f (code (val t r ∷ vs) rest)
computed s f t vs rest (Err e) = at s f (stopped (trapped e))

-- one instruction that reads and writes no memory but by the bulk instructions
abbrev pub performed : Instance → Store → List Val → List Val → Instructions → Instruction → Option Configuration
performed i s f vs rest op.Unreachable = Some (at s f (stopped (trapped traps.Unreachable)))
performed i s f vs rest op.Nop = Some (at s f (code vs rest))
performed i s f vs rest (op.BrIf l) = Some (at s f (code (below vs) rest))
performed i s f vs rest (op.Call x) = Some (at s f (code vs (invoke x rest)))
performed i s f vs rest (op.CallIndirect x) = Some (at s f (of_element i x (below vs) rest (slice_get s.table (top vs))))
performed i s f vs rest op.Drop = Some (at s f (code (below vs) rest))
performed i s f vs rest op.Select = Some (at s f (code (selected (top vs) (below vs)) rest))
performed i s f vs rest (op.LocalGet x) = pushed s f vs rest (slice_get f x)
performed i s f vs rest (op.LocalSet x) = Some (at s (with_top f x vs) (code (below vs) rest))
performed i s f vs rest (op.LocalTee x) = Some (at s (with_top f x vs) (code vs rest))
performed i s f vs rest (op.GlobalGet x) = pushed s f vs rest (slice_get s.globals x)
performed i s f vs rest (op.GlobalSet x) = Some (at (record s { globals = with_top s.globals x vs }) f (code (below vs) rest))
performed i s f vs rest op.MemorySize = Some (at s f (code (val I32 (length s.memory / 65536) ∷ vs) rest))
performed i s f vs rest op.MemoryGrow = Some (grown (nat_le (length s.memory / 65536 + top vs) i.page_limit) s f (top vs) (below vs) rest)
performed i s f vs rest op.MemoryCopy = Some (copied (nat_le (top (below vs) + top vs) (length s.memory)) (nat_le (top (below (below vs)) + top vs) (length s.memory)) s f (top vs) (top (below vs)) (top (below (below vs))) (below (below (below vs))) rest)
performed i s f vs rest op.MemoryFill = Some (filled (nat_le (top (below (below vs)) + top vs) (length s.memory)) s f (top vs) (top (below vs)) (top (below (below vs))) (below (below (below vs))) rest)
performed i s f vs rest (op.I32Const n) = Some (at s f (code (val I32 n ∷ vs) rest))
performed i s f vs rest (op.I64Const n) = Some (at s f (code (val I64 n ∷ vs) rest))
performed i s f vs rest (op.Eqz t) = Some (at s f (code (val I32 (bool_number (nat_eq (top vs) 0)) ∷ below vs) rest))
performed i s f vs rest (op.Compare t o) = Some (at s f (code (val I32 (bool_number (compare_test (width (integer t)) o (top (below vs)) (top vs))) ∷ below (below vs)) rest))
performed i s f vs rest (op.Unary t o) = Some (at s f (code (val (integer t) (unary_number (width (integer t)) o (top vs)) ∷ below vs) rest))
performed i s f vs rest (op.Binary t o) = Some (computed s f (integer t) (below (below vs)) rest (binary_number (width (integer t)) o (top (below vs)) (top vs)))
performed i s f vs rest op.I32WrapI64 = Some (at s f (code (val I32 (top vs % 2 ^ 32) ∷ below vs) rest))
performed i s f vs rest op.I64ExtendI32S = Some (at s f (code (val I64 (wrapped 64 (signed 32 (top vs))) ∷ below vs) rest))
performed i s f vs rest op.I64ExtendI32U = Some (at s f (code (val I64 (top vs) ∷ below vs) rest))
performed i s f vs rest (op.F32Const n) = Some (at s f (code (val F32 n ∷ vs) rest))
performed i s f vs rest (op.F64Const n) = Some (at s f (code (val F64 n ∷ vs) rest))
performed i s f vs rest (op.Float o) = Some (computed s f (float_gives o) (drop (length (float_takes o)) vs) rest (float_number o (numbers (take (length (float_takes o)) vs))))
performed i s f vs rest other = None

-- what is first in a list of instructions, where it is no call at work
abbrev pub rewritten : Instance → Store → List Val → List Val → Instructions → Option Configuration
rewritten i s f vs done = None
rewritten i s f vs (plain o rest) = accessed s f vs rest (load_of o) (store_of o) (performed i s f vs rest o)
rewritten i s f vs (block t body rest) = Some (at s f (label vs (arity t) done (code [] body) rest))
rewritten i s f vs (loop t body rest) = Some (at s f (label vs 0 (loop t body done) (code [] body) rest))
rewritten i s f vs (if_then t body rest) = Some (at s f (label (below vs) (arity t) done (code [] (cond (nat_eq (top vs) 0) done body)) rest))
rewritten i s f vs (if_else t body other rest) = Some (at s f (label (below vs) (arity t) done (code [] (cond (nat_eq (top vs) 0) other body)) rest))
rewritten i s f vs (invoke x rest) = None

-- a store is no load, and neither asks for a label or returns
pub store_is_no_load : (o : Instruction) (l : StoreOp) → store_of o ≡ Some l → load_of o ≡ None
store_is_no_load (op.Load a m) l is = absurd (none-some l is)
store_is_no_load other l is = refl
