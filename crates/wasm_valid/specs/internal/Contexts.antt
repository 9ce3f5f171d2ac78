-- What the code keeps of the context of a module and of a body (section 3.1.1). It keeps a function as the index of its
-- type, while a `Context` has the type itself, so typing is said of each context that fits what is kept.
use Rattle.std.specs.Prelude.{◌≡◌}
use Rattle.wasm_syntax.specs.declared.module.Module.{Module}
use Rattle.wasm_valid.specs.declared.module_context.ModuleContext.{ModuleContext}
use Rattle.wasm_valid.specs.declared.function_context.FunctionContext.{FunctionContext}
use Rattle.wasm_valid.specs.Arities.{results_of}
use Rattle.wasm_valid.specs.Typing.{Context}
use Rattle.wasm_valid.specs.Spaces.{functions_of, tables_of, memories_of, globals_of}
use Rattle.wasm_valid.specs.Validity.{AreTypesAt, has_any}

pub record IsModuleContext (module_context : ModuleContext) (c : Context) : Type 0 where
  pub types : c.types ≡ module_context.types.now
  pub functions : AreTypesAt module_context.types.now module_context.type_indices.items c.functions
  pub table : c.has_table ≡ module_context.has_table
  pub memory : c.has_memory ≡ module_context.has_memory
  pub globals : c.globals ≡ module_context.globals.items

pub record IsFunctionContext (function_context : FunctionContext) (c : Context) : Type 0 where
  pub module_context : IsModuleContext function_context.module_context.now c
  pub locals : c.locals ≡ function_context.locals
  pub returns : c.returns ≡ results_of function_context.returns

-- the context has what the module declares
pub record IsModuleContextOf (module_context : ModuleContext) (m : Module) : Type 0 where
  pub types : module_context.types.now ≡ m.types
  pub type_indices : module_context.type_indices.items ≡ functions_of m
  pub globals : module_context.globals.items ≡ globals_of m
  pub table : module_context.has_table ≡ has_any (tables_of m)
  pub memory : module_context.has_memory ≡ has_any (memories_of m)
