-- A table as a list of elements (section 4.2.7): each holds a function's index, or nothing. `with_functions` is what
-- one element segment makes of a table; `Instantiation` goes over all segments by it.
use Rattle.std.specs.Prelude.{ℕ, ◌+◌, List, ◌++◌, length, map, take, drop, Option, Some}

-- a table with these functions from an element on
abbrev pub with_functions : List (Option ℕ) → ℕ → List ℕ → List (Option ℕ)
with_functions table start functions = take start table ++ (map Some functions ++ drop (start + length functions) table)
