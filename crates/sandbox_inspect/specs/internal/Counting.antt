-- Which index a module's own function gets, after the imported ones. `IsCountedAfter` takes the bytes up to the end of
-- the imports, which the decoder may take as a module by themselves even where it refuses the whole.
use Rattle.std.specs.Prelude.{◌≡◌, ℕ, ◌+◌, List, Option, Some, None}
use Rattle.wasm_syntax.specs.declared.module.Module.{Module}
use Rattle.wasm_syntax.specs.declared.profile.Profile.{Profile}
use Rattle.wasm_syntax.specs.Module.{SpellsWith}
use Rattle.sandbox_inspect.specs.Places.{imported_functions}

-- the index of a module's own function, the imported ones counted first; or the imports can't be read
abbrev pub IsCountedAfter : Profile → List ℕ → ℕ → Option ℕ → Type 0
IsCountedAfter p bytes own (Some f) = (m : Module) × SpellsWith p bytes m × (f ≡ imported_functions m + own)
IsCountedAfter p bytes own None = (m : Module) → SpellsWith p bytes m → ⊥
