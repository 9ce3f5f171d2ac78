-- Which function of a module a name means.
use Rattle.std.specs.Prelude.{ℕ, List}
use Rattle.wasm_syntax.specs.declared.module.FuncType.{FuncType}
use Rattle.wasm_syntax.specs.declared.module.Module.{Module}
use Rattle.wasm_interp.specs.Invoking.{IsOwnType}
use Rattle.plugin_session.specs.Refusals.{IsExportedBy}

-- a function of the module's own is exported by this name, and has this type
pub record IsExportOf (m : Module) (name : List ℕ) (f : FuncType) : Type 0 where
  pub function : ℕ
  pub exported : IsExportedBy m name function
  pub own : IsOwnType m function f
