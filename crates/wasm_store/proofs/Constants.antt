-- The values of constant expressions.
use Rattle.std.proofs.Common.{◌≡◌, ℕ, zero, suc, ◌+◌, ◌^◌, ◌<◌, ◌≤◌, List, [], ◌∷◌, ◌++◌, length, drop, Option, Some, None, refl, sym, ap, ◌∙◌, subst, inl, inr, append_assoc, append-nil, get_or}
use Rattle.std.specs.Prelude.{slice_get}
use Rattle.std.specs.List.{AllByRecursion, filter_map, cons_option}
use Rattle.wasm_syntax.specs.declared.instruction.ValueType.{ValueType}
use Rattle.wasm_syntax.specs.declared.instruction.ValueType.TheVariants.{I32, I64, F32, F64}
use Rattle.wasm_syntax.specs.declared.instruction.Instruction.{Instruction}
use Rattle.wasm_syntax.specs.declared.instruction.Instruction.TheVariants as op
use Rattle.wasm_syntax.specs.declared.module.GlobalType.{GlobalType}
use Rattle.wasm_syntax.specs.declared.module.GlobalEntry.{GlobalEntry}
use Rattle.wasm_syntax.specs.declared.module.Import.{Import}
use Rattle.wasm_syntax.specs.declared.module.Module.{Module}
use Rattle.wasm_valid.specs.Spaces.{imported_global, kinds_of}
use Rattle.wasm_valid.specs.Validity.{IsValid, IsConstant}
use Rattle.wasm_store.specs.Values.{Val, val, number_of, numbers, IsInType}
use Rattle.wasm_store.specs.Instantiation.{constant_value, segment_start, AreFirst}
use Rattle.wasm_store.specs.internal.Finding.{IsNarrow, IsFunction, ImportsFunctions, HaveFirst}
use Rattle.wasm_store.proofs.Functions.{left_from, nothing_left, each_at, kind_of_function}

-- ---- one expression

-- an i32 constant
pub start_i32 : (gs : List Val) (code : List Instruction) (n : ℕ) → slice_get code 0 ≡ Some (op.I32Const n) → n ≡ segment_start gs code
start_i32 gs [] n e = cc
start_i32 gs (i ∷ rest) n e = let f : op.I32Const n ≡ i = cc in ap (λ y. segment_start gs (y ∷ rest)) f

-- an i64 constant
pub start_i64 : (gs : List Val) (code : List Instruction) (n : ℕ) → slice_get code 0 ≡ Some (op.I64Const n) → n ≡ segment_start gs code
start_i64 gs [] n e = cc
start_i64 gs (i ∷ rest) n e = let f : op.I64Const n ≡ i = cc in ap (λ y. segment_start gs (y ∷ rest)) f

-- an expression of a constant of 32 bits begins with it
pub narrow_first : (code : List Instruction) (i : Instruction) → slice_get code 0 ≡ Some i → IsNarrow code → IsNarrow (i ∷ [])
narrow_first [] i e h = absurd h
narrow_first (op.I32Const n ∷ rest) i e h = let f : op.I32Const n ≡ i = cc in subst (λ y. IsNarrow (y ∷ [])) f tt
narrow_first (op.F32Const n ∷ rest) i e h = let f : op.F32Const n ≡ i = cc in subst (λ y. IsNarrow (y ∷ [])) f tt
narrow_first (x ∷ rest) i e h = absurd h

-- the number of a global
number_at : (gs : List Val) (x : ℕ) → get_or (numbers gs) x 0 ≡ elim (slice_get gs x) [ None ↦ 0 | Some v ↦ number_of v ]
number_at [] x = refl
number_at (v ∷ vs) zero = refl
number_at (v ∷ vs) (suc x) = number_at vs x

-- a global
pub start_global : (gs : List Val) (numbers_are : List ℕ) (code : List Instruction) (x : ℕ) → slice_get code 0 ≡ Some (op.GlobalGet x) → numbers gs ≡ numbers_are → get_or numbers_are x 0 ≡ segment_start gs code
start_global gs ns [] x e n = cc
start_global gs ns (i ∷ rest) x e n =
    let f : op.GlobalGet x ≡ i = cc in
    ap (λ y. get_or y x 0) (sym n) ∙ number_at gs x ∙ ap (λ y. segment_start gs (y ∷ rest)) f

-- no expression
pub start_nothing : (gs : List Val) (code : List Instruction) → slice_get code 0 ≡ None → 0 ≡ segment_start gs code
start_nothing gs [] e = refl
start_nothing gs (i ∷ rest) e = cc

-- ---- the globals' first values

-- only functions are imported, so no globals are
no_globals : (is : List Import) → AllByRecursion (λ i. IsFunction i.kind) is → filter_map imported_global (kinds_of is) ≡ []
no_globals [] a = refl
no_globals (i ∷ is) a =
    let f = kind_of_function i.kind a.0 in
    ap (λ y. cons_option (imported_global y) (filter_map imported_global (kinds_of is))) f.1 ∙ no_globals is a.1

-- a constant without globals has a value
literal : (t : ValueType) (code : List Instruction) (gs : List GlobalType) → gs ≡ [] → IsConstant gs t code → (v : Val) × (constant_value [] code ≡ Some v)
literal t code gs e (inl c) = (val I32 c.0, ap (constant_value []) c.2)
literal t code gs e (inr (inl c)) = (val I64 c.0, ap (constant_value []) c.2)
literal t code gs e (inr (inr (inl c))) = (val F32 c.0, ap (constant_value []) c.2)
literal t code gs e (inr (inr (inr (inl c)))) = (val F64 c.0, ap (constant_value []) c.2)
literal t code gs e (inr (inr (inr (inr c)))) = let f : slice_get [] c.0 ≡ Some _ = ap (λ y. slice_get y c.0) (sym e) ∙ c.1 in cc

-- it is one of its type, if its number is the one that the code has
literal_range : (t : ValueType) (code : List Instruction) (gs : List GlobalType) (e : gs ≡ []) (c : IsConstant gs t code) (n : ℕ) → n ≡ number_of (literal t code gs e c).0 → n < 2 ^ 64 → (IsNarrow code → n < 2 ^ 32) → IsInType (literal t code gs e c).0
unfolding literal
literal_range t code gs e (inl c) n same wide small = subst (λ y. y < 2 ^ 32) same (small (subst IsNarrow (sym c.2) tt))
literal_range t code gs e (inr (inl c)) n same wide small = subst (λ y. y < 2 ^ 64) same wide
literal_range t code gs e (inr (inr (inl c))) n same wide small = subst (λ y. y < 2 ^ 32) same (small (subst IsNarrow (sym c.2) tt))
literal_range t code gs e (inr (inr (inr (inl c)))) n same wide small = subst (λ y. y < 2 ^ 64) same wide
literal_range t code gs e (inr (inr (inr (inr c)))) n same wide small = let f : slice_get [] c.0 ≡ Some _ = ap (λ y. slice_get y c.0) (sym e) ∙ c.1 in cc

-- each global's first value
pub first_literal : (m : Module) (k : ℕ) (g : GlobalEntry) → IsValid m → ImportsFunctions m → slice_get m.globals k ≡ Some g → (v : Val) × (constant_value [] g.init ≡ Some v)
first_literal m k g v a e =
    literal g.global_type.value_type g.init (filter_map imported_global (kinds_of m.imports)) (no_globals m.imports a)
    (each_at (λ (y : GlobalEntry). IsConstant (filter_map imported_global (kinds_of m.imports)) y.global_type.value_type y.init) m.globals k g v.globals e)

-- which is one of its type
literal_fits : (m : Module) (k : ℕ) (g : GlobalEntry) (v : IsValid m) (a : ImportsFunctions m) (e : slice_get m.globals k ≡ Some g) (n : ℕ) → n ≡ number_of (first_literal m k g v a e).0 → n < 2 ^ 64 → (IsNarrow g.init → n < 2 ^ 32) → IsInType (first_literal m k g v a e).0
unfolding first_literal
literal_fits m k g v a e n same wide small =
    literal_range g.global_type.value_type g.init (filter_map imported_global (kinds_of m.imports)) (no_globals m.imports a)
    (each_at (λ (y : GlobalEntry). IsConstant (filter_map imported_global (kinds_of m.imports)) y.global_type.value_type y.init) m.globals k g v.globals e) n same wide small

-- its number, where there are no globals
pub literal_number : (code : List Instruction) (v : Val) → constant_value [] code ≡ Some v → segment_start [] code ≡ number_of v
literal_number code v e = ap (λ (o : Option Val). elim o as (λ _. ℕ) [ None ↦ 0 | Some w ↦ number_of w ]) e

module _ (m : Module) where
  -- if the globals that are left have first values, all have
  pub record FirstTo (k : ℕ) (globals : List ℕ) : Type 0 where
    pub goes_on : (more : List Val) → AreFirst (drop k m.globals) more → AllByRecursion IsInType more → HaveFirst m (globals ++ numbers more)

  -- before the first global
  pub first_none : FirstTo 0 []
  first_none = record { goes_on = λ more a r. record { values = more; are_first = a; numbers_are = refl; in_range = r } }

  -- a global more
  pub first_next : (k : ℕ) (globals : List ℕ) (g : GlobalEntry) (n : ℕ) → IsValid m → ImportsFunctions m → slice_get m.globals k ≡ Some g → n ≡ segment_start [] g.init → n < 2 ^ 64 → (IsNarrow g.init → n < 2 ^ 32) → FirstTo k globals → FirstTo (k + 1) (globals ++ n ∷ [])
  first_next k globals g n v a e s wide small f =
      let left = left_from m.globals k g e in
      let l = first_literal m k g v a e in
      let number : n ≡ number_of l.0 = s ∙ literal_number g.init l.0 l.1 in
      record {
        goes_on = λ more r q.
            subst (HaveFirst m) (ap (λ y. globals ++ y ∷ numbers more) (sym number) ∙ sym (append_assoc globals (n ∷ []) (numbers more)))
            (f.goes_on (l.0 ∷ more) (subst (λ y. AreFirst y (l.0 ∷ more)) (sym left) (l.1, r)) (literal_fits m k g v a e n number wide small, q));
      }

  -- at the end all have
  pub first_all : (k : ℕ) (globals : List ℕ) → length m.globals ≤ k → FirstTo k globals → HaveFirst m globals
  first_all k globals l f =
      subst (HaveFirst m) (append-nil globals) (f.goes_on [] (subst (λ y. AreFirst y []) (sym (nothing_left m.globals k l)) tt) tt)
