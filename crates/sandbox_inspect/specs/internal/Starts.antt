-- Where the entries of the code section begin: a table of them, as it is made.
use Rattle.std.specs.Prelude.{◌≡◌, ◌-◌, ℕ, zero, suc, List, [], ◌∷◌, length, Some, slice_get}
use Rattle.std.specs.Option.{option_map_or}
use Rattle.wasm_syntax.specs.Reading.{sized_at, raw_of}
use Rattle.sandbox_inspect.specs.Places.{own_entry}

-- where so many entries begin that stand before this end, as far as they can be read
abbrev pub starts_from : ℕ → ℕ → List ℕ → List ℕ
starts_from end zero entries = []
starts_from end (suc n) entries = option_map_or (λ e. (end - length e.1 - length e.0) ∷ starts_from end n e.1) (sized_at raw_of entries) []

-- what this table has of a function is where the content of its entry begins
abbrev pub AreStarts : List ℕ → List ℕ → Type 0
AreStarts bytes starts = (own start : ℕ) (content behind : List ℕ) → slice_get starts own ≡ Some start → own_entry bytes own ≡ Some (content, behind)
    → start ≡ length bytes - length behind - length content
