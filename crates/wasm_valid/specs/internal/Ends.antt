-- Where the groups of a function's locals end. The code finds a local's type by these ends, as a group may be very
-- large; they stop at 2 ^ 64 - 1, which the index of a local never reaches.
use Rattle.std.specs.Prelude.{ℕ, ◌+◌, ◌^◌, ◌-◌, List, [], ◌∷◌, min}
use Rattle.wasm_syntax.specs.declared.module.Locals.{Locals}

-- how many locals there are up to the end of each group, as far as 64 bits say it
abbrev pub ends_from : ℕ → List Locals → List ℕ
ends_from end [] = []
ends_from end (l ∷ ls) = min (end + l.count) (2 ^ 64 - 1) ∷ ends_from (min (end + l.count) (2 ^ 64 - 1)) ls
