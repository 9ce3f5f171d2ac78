-- The module of a run, prepared or not. A list prepares its module once (`list_of_tests`), a run alone doesn't (`program`).
use Rattle.std.specs.Prelude.{◌≡◌, ℕ}
use Rattle.wasm_syntax.specs.declared.module.Module.{Module}
use Rattle.sandbox_telling.specs.declared.runnable.Runnable.{Runnable}
use Rattle.sandbox_telling.specs.declared.runnable.Runnable.TheVariants.{Prepared, Bare}

abbrev pub module_in : Runnable → Module
module_in (Prepared shared) = shared.valid
module_in (Bare valid) = valid

-- where it is prepared, it is for memories of this many pages at most
abbrev pub IsReadyFor : ℕ → Runnable → Type 0
IsReadyFor pages (Prepared shared) = shared.pages ≡ pages
IsReadyFor pages (Bare valid) = Unit {0}
