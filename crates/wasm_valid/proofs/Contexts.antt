-- The functions of a module by their indices.
use Rattle.std.proofs.Common.{◌≡◌, ℕ, zero, suc, List, [], ◌∷◌, length, sym, refl, Option, Some, None, Bor}
use Rattle.std.specs.List.{slice_get}
use Rattle.std.specs.Option.{option_and_then, option_copied}
use Rattle.std.specs.Slice.{IsItemAt}
use Rattle.std.proofs.lemmas.Option.{slice_get_past, slice_get_read}
use Rattle.wasm_syntax.specs.declared.module.FuncType.{FuncType}
use Rattle.wasm_valid.specs.Validity.{AreTypesAt}

-- what `get` returns of a slice
pub copied_at : {X : Type 0} (xs : List X) (i : ℕ) (r : Option (Bor X)) → IsItemAt xs i r → option_copied r ≡ slice_get xs i
copied_at xs i None h = sym (slice_get_past xs i h.3)
copied_at xs i (Some x) h = sym (slice_get_read xs (length xs) i x.now refl h.3.0 h.1)

-- the type of a function is the one that its index names
pub function_at : (types : List FuncType) (xs : List ℕ) (fs : List FuncType) (x : ℕ) → AreTypesAt types xs fs → slice_get fs x ≡ option_and_then (slice_get types) (slice_get xs x)
function_at types [] [] x at = refl
function_at types [] (f ∷ fs) x at = absurd at
function_at types (y ∷ ys) [] x at = absurd at
function_at types (y ∷ ys) (f ∷ fs) zero at = sym at.0
function_at types (y ∷ ys) (f ∷ fs) (suc x) at = function_at types ys fs x at.1
