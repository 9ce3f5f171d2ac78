-- Why what an embedder tells a machine to do isn't done.
use Rattle.std.proofs.Common.{◌≡◌, ℕ, ◌+◌, ◌-◌, ◌≤◌, ◌<◌, List, length, Option, Some, sym, ap, ◌∙◌, arith}
use Rattle.std.specs.Prelude.{slice_get}
use Rattle.std.proofs.lemmas.Option.{slice_get_within}
use Rattle.wasm_syntax.specs.declared.module.FuncType.{FuncType}
use Rattle.wasm_syntax.specs.declared.module.Import.{Import}
use Rattle.wasm_syntax.specs.declared.module.ImportKind.{ImportKind}
use Rattle.wasm_syntax.specs.declared.module.ImportKind.TheVariants as imports
use Rattle.wasm_syntax.specs.declared.module.Module.{Module}
use Rattle.wasm_operands.specs.declared.phase.Ask.{Ask}
use Rattle.wasm_operands.specs.declared.phase.Phase.TheVariants.{Asking}
use Rattle.wasm_interp.specs.Invoking.{IsImportType, IsOwnType}

same_some : {X : Type 0} {u v : X} → Some u ≡ Some v → u ≡ v
same_some h = cc

-- one call is asked for
pub ask_once : (a b : Ask) → Asking a ≡ Asking b → a ≡ b
ask_once a b e = cc

module _ (m : Module) (x : ℕ) where
  -- ---- no imported function

  pub none_imported : length m.imports ≤ x → (f : FuncType) → IsImportType m x f → ⊥
  none_imported past f k = omega (arith, slice_get_within m.imports x k.import k.is_import)

  pub other_import : (i : Import) → slice_get m.imports x ≡ Some i → ((n : ℕ) → i.kind ≡ imports.Function n → ⊥) → (f : FuncType) → IsImportType m x f → ⊥
  other_import i is other f k = other k.index (ap (λ (j : Import). j.kind) (same_some (sym is ∙ k.is_import)) ∙ k.kind)

  index_once : (a b : ℕ) → imports.Function a ≡ imports.Function b → a ≡ b
  index_once a b e = cc

  pub no_import_type : (i : Import) (index : ℕ) → slice_get m.imports x ≡ Some i → i.kind ≡ imports.Function index → length m.types ≤ index → (f : FuncType) → IsImportType m x f → ⊥
  no_import_type i index is kind past f k =
      let same : k.index ≡ index = index_once k.index index (sym k.kind ∙ ap (λ (j : Import). j.kind) (same_some (sym k.is_import ∙ is)) ∙ kind) in
      omega (arith, same, slice_get_within m.types k.index f k.type_is)

  -- ---- no function of the module's own

  pub none_below : x < length m.imports → (f : FuncType) → IsOwnType m x f → ⊥
  none_below few f k = omega (arith, k.is_own)

  pub none_past : length m.functions ≤ x - length m.imports → (f : FuncType) → IsOwnType m x f → ⊥
  none_past past f k = omega (arith, slice_get_within m.functions (x - length m.imports) k.index k.function)

  pub no_own_type : (index : ℕ) → slice_get m.functions (x - length m.imports) ≡ Some index → length m.types ≤ index → (f : FuncType) → IsOwnType m x f → ⊥
  no_own_type index is past f k =
      let same : k.index ≡ index = same_some (sym k.function ∙ is) in
      omega (arith, same, slice_get_within m.types k.index f k.type_is)

  -- it has one type
  pub own_once : (f g : FuncType) → IsOwnType m x f → IsOwnType m x g → f ≡ g
  own_once f g k l = same_some (sym k.type_is ∙ ap (slice_get m.types) (same_some (sym k.function ∙ l.function)) ∙ l.type_is)
