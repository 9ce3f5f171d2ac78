-- The spellings of types and limits (section 5.3), by a profile: which bytes spell which type that the decoder returns. The profile's limit on the elements that a table begins with stands here, too (`SpellsTable`).
use Rattle.std.specs.Prelude.{◌≡◌, ℕ, ◌≤◌, List, [], ◌∷◌, Option, Some, None, Bool, true, false}
use Rattle.wasm_syntax.specs.declared.profile.Profile.{Profile}
use Rattle.wasm_syntax.specs.declared.profile.Profile.TheVariants.{Floats}
use Rattle.wasm_syntax.specs.declared.instruction.ValueType.{ValueType}
use Rattle.wasm_syntax.specs.declared.instruction.ValueType.TheVariants.{I32, I64, F32, F64}
use Rattle.wasm_syntax.specs.declared.instruction.BlockType.{BlockType}
use Rattle.wasm_syntax.specs.declared.instruction.BlockType.TheVariants.{Empty, Value}
use Rattle.wasm_syntax.specs.declared.module.FuncType.{FuncType}
use Rattle.wasm_syntax.specs.declared.module.Limits.{Limits}
use Rattle.wasm_syntax.specs.declared.module.GlobalType.{GlobalType}
use Rattle.wasm_syntax.specs.Grammar.{Byte, Then, U32, Vector}
pub use Rattle.wasm_syntax.specs.ValueTypes.{integer, float}

-- section 5.3.1
abbrev pub SpellsValueType : Profile → List ℕ → ValueType → Type 0
SpellsValueType p text I32 = text ≡ 0x7F ∷ []
SpellsValueType p text I64 = text ≡ 0x7E ∷ []
SpellsValueType p text F32 = (p ≡ Floats) × (text ≡ 0x7D ∷ [])
SpellsValueType p text F64 = (p ≡ Floats) × (text ≡ 0x7C ∷ [])

-- section 5.3.2
abbrev pub SpellsBlockType : Profile → List ℕ → BlockType → Type 0
SpellsBlockType p text Empty = text ≡ 0x40 ∷ []
SpellsBlockType p text (Value t) = SpellsValueType p text t

-- section 5.3.3: 60, the parameters and the results
abbrev pub SpellsFuncType : Profile → List ℕ → FuncType → Type 0
SpellsFuncType p text t =
    Then (Byte 0x60) (Then (Vector (SpellsValueType p)) (Vector (SpellsValueType p))) text (tt, (t.params, t.results))

-- limits by their two numbers (section 5.3.4)
abbrev pub SpellsBounds : List ℕ → ℕ → Option ℕ → Type 0
SpellsBounds text min None = Then (Byte 0x00) U32 text (tt, min)
SpellsBounds text min (Some max) = Then (Byte 0x01) (Then U32 U32) text (tt, (min, max))

abbrev pub SpellsLimits : List ℕ → Limits → Type 0
SpellsLimits text l = SpellsBounds text l.min l.max

-- section 5.3.6: 70 and the limits; the profile has at most 1,000,000 elements at the beginning
abbrev pub SpellsTable : List ℕ → Limits → Type 0
SpellsTable text l = Then (Byte 0x70) SpellsLimits text (tt, l) × (l.min ≤ 1000000)

-- constant or variable
abbrev pub SpellsMutability : List ℕ → Bool → Type 0
SpellsMutability text false = text ≡ 0x00 ∷ []
SpellsMutability text true = text ≡ 0x01 ∷ []

-- section 5.3.7
abbrev pub SpellsGlobalType : Profile → List ℕ → GlobalType → Type 0
SpellsGlobalType p text g = Then (SpellsValueType p) SpellsMutability text (g.value_type, g.mutable)
