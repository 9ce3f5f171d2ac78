-- What is told of bytes that are refused: the fault, its offset, the function that it lies in and that function's
-- name. `IsSurvey` adds the text of a valid module from `Survey`. Of refused bytes it fixes the text for the fault
-- that is told, but not the fault's offset, nor, where they spell no module, which fault that is.
use Rattle.std.specs.Prelude.{◌≡◌, ◌≢◌, ℕ, List, [], ◌∷◌, ◌++◌, Option, Some, None, Result, Ok, Err, codes}
use Rattle.std.specs.List.{concat}
use Rattle.std.specs.Option.{option_map_or}
use Rattle.wasm_syntax.specs.declared.fault.LoadFault.{LoadFault}
use Rattle.wasm_syntax.specs.declared.fault.LoadFault.TheVariants.{Memory}
use Rattle.wasm_syntax.specs.declared.module.Module.{Module}
use Rattle.wasm_syntax.specs.declared.profile.Profile.{Profile}
use Rattle.wasm_syntax.specs.Module.{SpellsWith}
use Rattle.wasm_valid.specs.Validity.{IsValid}
use Rattle.wasm_valid.specs.Refusal.{IsRefusal}
use Rattle.wasm_store.specs.Instantiation.{LinksOf}
use Rattle.sandbox_report.specs.Faults.{load_number, load_offset, load_text}
use Rattle.sandbox_inspect.specs.Words.{SurveyText, name_text, number_text}
use Rattle.sandbox_inspect.specs.Survey.{survey_of}
use Rattle.sandbox_inspect.specs.Places.{IsFunctionAt, function_name}

-- the function's name, where there is a function and it has one
abbrev pub name_of : List ℕ → Option ℕ → List ℕ
name_of bytes None = []
name_of bytes (Some f) = option_map_or (λ name. name) (function_name bytes f) []

abbrev pub lines_of : Option ℕ → SurveyText → Option ℕ → Option ℕ → SurveyText
lines_of number reason offset f = concat (codes "loads:no\nfault:" ∷ number_text number ∷ codes "\ntext:" ∷ reason
    ∷ codes "\noffset:" ∷ number_text offset ∷ codes "\nfunction:" ∷ number_text f ∷ codes "\nname:" ∷ [])

abbrev pub fault_lines : LoadFault → Option ℕ → SurveyText
fault_lines fault f = lines_of (load_number fault) (load_text fault) (load_offset fault) f

-- the fault, where it is, and the function that it lies in
abbrev pub refusal_text : List ℕ → LoadFault → Option ℕ → SurveyText
refusal_text bytes fault f = fault_lines fault f ++ (name_text (name_of bytes f) ++ codes "\n")

-- The bytes spell no valid module; with a fault of decoding they spell none at all.
pub record IsRefusedFor (p : Profile) (bytes : List ℕ) (fault : LoadFault) : Type 0 where
  pub fault_is : fault ≢ Memory
  pub not_valid : (m : Module) → SpellsWith p bytes m → IsValid m → ⊥
  pub spells_none : ¬ IsRefusal fault → (m : Module) → SpellsWith p bytes m → ⊥

-- the function that a fault lies in, where it has an offset
abbrev pub LiesIn : Profile → List ℕ → Option ℕ → Option ℕ → Type 0
LiesIn p bytes None f = f ≡ None
LiesIn p bytes (Some offset) f = IsFunctionAt p bytes offset f

-- what is told of bytes: of a valid module what it is, else why they are refused
abbrev pub IsSurvey : LinksOf → Profile → List ℕ → Result (Unit {0}) LoadFault → SurveyText → Type 0
IsSurvey links p bytes (Ok u) text = (m : Module) × SpellsWith p bytes m × IsValid m × (text ≡ survey_of links m)
IsSurvey links p bytes (Err fault) text = IsRefusedFor p bytes fault × (f : Option ℕ) × LiesIn p bytes (load_offset fault) f × (text ≡ refusal_text bytes fault f)
