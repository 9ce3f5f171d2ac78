-- An exported function, by its name.
use Rattle.std.proofs.Common.{◌≡◌, ℕ, ◌+◌, ◌<◌, ◌≤◌, List, length, Option, Some, None, IfNone, refl, sym, ap, ◌∙◌, arith, inl, inr, get_or}
use Rattle.std.specs.Prelude.{slice_get, ◌⊎◌}
use Rattle.std.proofs.Math.Nat.{eq-or-lt_of_le}
use Rattle.std.proofs.lemmas.Option.{slice_get_read, slice_get-get_or}
use Rattle.wasm_syntax.specs.declared.module.Export.{Export}
use Rattle.wasm_syntax.specs.declared.module.ExportKind.{ExportKind}
use Rattle.wasm_syntax.specs.declared.module.ExportKind.TheVariants as exports
use Rattle.wasm_syntax.specs.declared.module.FuncType.{FuncType}
use Rattle.wasm_syntax.specs.declared.module.Module.{Module}
use Rattle.wasm_interp.specs.Invoking.{IsOwnType}
use Rattle.invoked_run.specs.Exports.{IsExportOf}

abbrev export_of : List ℕ → ℕ → Export
export_of name x = record { name = name; kind = exports.Function x }

-- the function that an export is
abbrev function_of : ExportKind → ℕ
function_of (exports.Function x) = x
function_of k = 0

pub same_function : (name : List ℕ) (e : Export) (x y : ℕ) → e ≡ export_of name x → e ≡ export_of name y → x ≡ y
same_function name e x y is same = ap (λ (e : Export). function_of e.kind) (sym is ∙ same)

-- what follows where there is none
pub if_none : {A : Type 0} (o : Option A) {P Q : Type 0} → IfNone o P → (P → Q) → IfNone o Q
if_none None p f = f p
if_none (Some x) p f = tt

-- no export before this one is a function of the module's own by this name
pub record NoneBefore (m : Module) (name : List ℕ) (k : ℕ) : Type 0 where
  pub none : (j x : ℕ) (f : FuncType) → j < k → slice_get m.exports j ≡ Some (export_of name x) → IsOwnType m x f → ⊥

-- before the first export
pub none_first : (m : Module) (name : List ℕ) → NoneBefore m name 0
none_first m name = record { none = λ j x f l s own. omega (arith, l) }

-- an export more that is another one
pub none_next : (m : Module) (name : List ℕ) (k : ℕ) (e : Export) → slice_get m.exports k ≡ Some e
    → ((x : ℕ) (f : FuncType) → e ≡ record { name = name; kind = exports.Function x } → IsOwnType m x f → ⊥) → NoneBefore m name k → NoneBefore m name (k + 1)
none_next m name k e s other n = record { none = λ j x f l t own. by_order j x f t own (eq-or-lt_of_le {n = j} {m = k} (omega (arith, l))) } where
  by_order : (j x : ℕ) (f : FuncType) → slice_get m.exports j ≡ Some (export_of name x) → IsOwnType m x f → ((j ≡ k) ⊎ (j < k)) → ⊥
  by_order j x f t own (inr l) = n.none j x f l t own
  by_order j x f t own (inl q) =
      let same : e ≡ export_of name x = cc (s, t, ap (slice_get m.exports) q) in
      other x f same own

-- at the end there is none
pub no_export : (m : Module) (name : List ℕ) (k : ℕ) → length m.exports ≤ k → NoneBefore m name k → (f : FuncType) → IsExportOf m name f → ⊥
no_export m name k l n f is =
    let s = is.exported in
    n.none s.0 is.function f (omega (arith, l, s.1)) (slice_get-get_or m.exports s.0 (export_of name is.function) s.1 ∙ ap Some s.2) is.own

-- an element that the code reads
pub item_at : (xs ys : List Export) (k : ℕ) (x : Export) → xs ≡ ys → k < length xs → x ≡ get_or xs k x → slice_get ys k ≡ Some x
item_at xs ys k x e l r = ap (λ (y : List Export). slice_get y k) (sym e) ∙ slice_get_read xs (length xs) k x refl l r
