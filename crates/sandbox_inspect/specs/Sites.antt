-- Where a function is at work, as a line tells it: the offset of an instruction in the module's bytes, the function's index,
-- the imported ones counted first, and what it is called.
use Rattle.std.specs.Prelude.{◌≡◌, ◌<◌, ◌+◌, ◌-◌, ◌^◌, ℕ, List, ◌++◌, Option, Some, None, IfSome, IsSome, length, min, slice_get, false, codes, decimal}
use Rattle.std.specs.Fmt.{digits}
use Rattle.wasm_syntax.specs.declared.profile.Profile.{Profile}
use Rattle.wasm_syntax.specs.declared.module.Body.{Body}
use Rattle.wasm_syntax.specs.declared.module.Module.{Module}
use Rattle.wasm_syntax.specs.Module.{SpellsWith}
use Rattle.sandbox_inspect.specs.Words.{SurveyText, called_text}
use Rattle.sandbox_inspect.specs.Places.{IsInstructionAt, called}

abbrev pub offset_text : Option ℕ → SurveyText
offset_text (Some offset) = codes "0x" ++ digits 16 false offset
offset_text None = codes "-"

-- `0x132 4 divide`
abbrev pub site_text : Option ℕ → ℕ → Option (List ℕ) → SurveyText
site_text offset function name = offset_text offset ++ codes " " ++ decimal function ++ codes " " ++ called_text function name

-- the index of the module's own function: the imported ones come first
abbrev pub function_of : Module → ℕ → ℕ
function_of m own = min (length m.imports + own) (2 ^ 64 - 1)

-- Of the module's own function and its instruction of this index, in these bytes. An offset that is told is that of the
-- instruction, and one is told of each of the module's functions where these bytes spell the module by some profile.
pub record IsSite (bytes : List ℕ) (m : Module) (own index : ℕ) (text : SurveyText) : Type 0 where
  pub offset : Option ℕ
  pub stands : IfSome offset (λ o. (body : Body) × (slice_get m.bodies own ≡ Some body) × IsInstructionAt bytes own body index o)
  pub told : (p : Profile) → SpellsWith p bytes m → own < length m.bodies → IsSome offset
  pub text_is : text ≡ site_text offset (function_of m own) (called bytes (function_of m own))
