-- Keys of types: what tells one from all others, and where each was first seen. Equal types have one key, so a map of
-- keys gives for each type the first that equals it, as `AreLeast` of `Signatures` asks.
use Rattle.std.specs.Prelude.{◌≡◌, ℕ, List, ◌∷◌, ◌++◌, Option, Some, None, cond, map, ◌⊎◌}
use Rattle.std.specs.Global.{Vec}
use Rattle.std.specs.Map.{lookup}
use Rattle.std.specs.Ordering.{nat_cmp, is_eq}
use Rattle.std.specs.Cmp.Lexicographic.{slice_cmp}
use Rattle.wasm_syntax.specs.declared.instruction.ValueType.{ValueType}
use Rattle.wasm_syntax.specs.declared.instruction.ValueType.TheVariants.{I32, I64, F32, F64}
use Rattle.wasm_syntax.specs.declared.module.FuncType.{FuncType}

-- a number for a type of values; 2 stands between parameters and results
abbrev pub type_code : ValueType → ℕ
type_code I32 = 0
type_code I64 = 1
type_code F32 = 3
type_code F64 = 4

-- what tells a type from all others
abbrev pub key_of : FuncType → List ℕ
key_of f = map type_code f.params ++ 2 ∷ map type_code f.results

-- what is kept at a key
abbrev pub at_key : List (Vec ℕ × ℕ) → List ℕ → Option ℕ
at_key es q = lookup (λ x. is_eq (slice_cmp nat_cmp q x.items)) es

-- a key that is there is left as it is, and another is put there with this index
abbrev pub Sees : List (Vec ℕ × ℕ) → List (Vec ℕ × ℕ) → List ℕ → ℕ → ℕ → Type 0
Sees old new key index k =
    ((at_key old key ≡ Some k) × (new ≡ old))
    ⊎ ((at_key old key ≡ None) × (k ≡ index) × ((q : Vec ℕ) → at_key new q.items ≡ cond (is_eq (slice_cmp nat_cmp key q.items)) (Some index) (at_key old q.items)))

-- the same by a key of this type
abbrev pub SeesType : List (Vec ℕ × ℕ) → List (Vec ℕ × ℕ) → FuncType → ℕ → ℕ → Type 0
SeesType old new t index k = (key : Vec ℕ) × (key.items ≡ key_of t) × Sees old new key.items index k
