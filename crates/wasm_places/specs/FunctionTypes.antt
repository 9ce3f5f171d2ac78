-- Which type a function of a module is declared with, by the index of the function or of the import.
use Rattle.std.specs.Prelude.{◌≡◌, ℕ, ◌-◌, ◌≤◌, length, Some, slice_get}
use Rattle.wasm_syntax.specs.declared.module.FuncType.{FuncType}
use Rattle.wasm_syntax.specs.declared.module.Import.{Import}
use Rattle.wasm_syntax.specs.declared.module.ImportKind.TheVariants as imports
use Rattle.wasm_syntax.specs.declared.module.Module.{Module}

-- one of the module's own functions has this type
pub record IsOwnType (m : Module) (x : ℕ) (f : FuncType) : Type 0 where
  pub is_own : length m.imports ≤ x
  pub index : ℕ
  pub function : slice_get m.functions (x - length m.imports) ≡ Some index
  pub type_is : slice_get m.types index ≡ Some f

-- this import is a function of this type
pub record IsImportType (m : Module) (x : ℕ) (f : FuncType) : Type 0 where
  pub import : Import
  pub is_import : slice_get m.imports x ≡ Some import
  pub index : ℕ
  pub kind : import.kind ≡ imports.Function index
  pub type_is : slice_get m.types index ≡ Some f
