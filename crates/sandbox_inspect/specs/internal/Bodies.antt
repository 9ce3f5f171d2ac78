-- Where the instructions of a function's body begin: a table of them, as it is made, and what it has to say.
use Rattle.std.specs.Prelude.{◌≡◌, ◌+◌, ◌-◌, ◌≤◌, ℕ, zero, suc, List, [], ◌∷◌, length, Some, slice_get}
use Rattle.wasm_syntax.specs.declared.profile.Profile.{Profile}
use Rattle.wasm_syntax.specs.declared.module.Body.{Body}
use Rattle.wasm_valid.specs.Offsets.{StandsBehind}
use Rattle.sandbox_inspect.specs.Places.{own_entry}
use Rattle.sandbox_inspect.specs.internal.Skipping.{after_instruction}

-- where so many instructions begin, in bytes from the first of the module, which has this length and ends with these bytes
abbrev pub places_from : ℕ → ℕ → List ℕ → List ℕ
places_from most zero text = []
places_from most (suc n) text = (most - length text) ∷ places_from most n (after_instruction text)

-- What this table has of an instruction of this function is where it begins, whatever the function's body is decoded to: behind the
-- locals and the instructions before it.
abbrev pub ArePlaces : List ℕ → ℕ → List ℕ → Type 0
ArePlaces bytes own places = (p : Profile) (index place : ℕ) (b : Body) (behind before : List ℕ) → slice_get places index ≡ Some place → own_entry bytes own ≡ Some (b.bytes, behind)
    → index ≤ length b.code → StandsBehind p b index before → place ≡ length bytes - length behind - length b.bytes + length before
