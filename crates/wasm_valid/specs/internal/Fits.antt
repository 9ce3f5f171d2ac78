-- Which lists of types a `Stack` stands for, of which the walk over a body may know a part only. `Bodies` asks by
-- `FitsTypes` for one of these lists, since the typing rules speak of stacks of which all types are known.
use Rattle.std.specs.Prelude.{◌≡◌, List, [], ◌∷◌, Option, Some, None, Bool, true, false}
use Rattle.wasm_syntax.specs.declared.instruction.ValueType.{ValueType}
use Rattle.wasm_valid.specs.internal.Stack.{Stack}

abbrev pub Agrees : Option ValueType → ValueType → Type 0
Agrees None t = Unit {0}
Agrees (Some u) t = u ≡ t

abbrev pub FitsList : List (Option ValueType) → Bool → List ValueType → Type 0
FitsList [] false ts = ts ≡ []
FitsList [] true ts = Unit {0}
FitsList (o ∷ os) u [] = ⊥
FitsList (o ∷ os) u (t ∷ ts) = Agrees o t × FitsList os u ts

abbrev pub FitsTypes : Stack → List ValueType → Type 0
FitsTypes s ts = FitsList s.known s.unreachable ts
