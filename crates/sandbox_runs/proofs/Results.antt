-- What a function is called with, and what is printed of its result.
use Rattle.std.proofs.Common.{◌≡◌, ◌++◌, ℕ, List, [], Option, inl, inr, refl}
use Rattle.std.specs.Prelude.{slice_get}
use Rattle.std.specs.Io.KnownBytes.{Keeps}
use Rattle.std.proofs.KnownBytes.{Appends-nil, Keeps-refl}
use Rattle.stream_answers.specs.Printing.{AppendsPart}
use Rattle.wasm_syntax.specs.declared.instruction.ValueType.{ValueType}
use Rattle.wasm_syntax.specs.declared.module.FuncType.{FuncType}
use Rattle.wasm_syntax.specs.declared.module.Module.{Module}
use Rattle.sandbox_core.specs.declared.fault.SessionFault.TheVariants.{Setting}
use Rattle.invoked_run.specs.Exports.{IsExportOf}
use Rattle.value_words.specs.declared.reading.NoNumbers.{NoNumbers}
use Rattle.value_words.specs.declared.reading.NoNumbers.TheVariants as wanting
use Rattle.value_words.specs.Numbers.{AreNumbersOf, HasNone}
use Rattle.sandbox_args.specs.Request.{Text}
use Rattle.sandbox_runs.specs.Invoking.{AreArguments, HasNoArguments, fault_of}

pub keeps : (known : Option (List ℕ)) → Keeps known known
keeps known = Keeps-refl known

-- no byte of a text
pub nothing_printed : (known : Option (List ℕ)) (text : List ℕ) → AppendsPart known known text
nothing_printed known text = record { part = []; rest = text; parts = refl; appended = Appends-nil known }

module _ (m : Module) (name : Text) (words : List Text) where
  pub arguments_are : (f : FuncType) (numbers : List ℕ) (value_type : Option ValueType) → IsExportOf m name f → AreNumbersOf f.params words numbers → value_type ≡ slice_get f.results 0
      → AreArguments m name words numbers value_type
  arguments_are f numbers value_type is are gives = (f, is, are, gives)

  pub no_function : ((f : FuncType) → IsExportOf m name f → ⊥) → HasNoArguments m name words Setting
  no_function none = inl (refl, inl none)

  pub no_numbers : (f : FuncType) (reason : NoNumbers) → IsExportOf m name f → HasNone f.params words reason → HasNoArguments m name words (fault_of reason)
  no_numbers f wanting.Memory is none = inr refl
  no_numbers f wanting.Count is none = inl (refl, inr (f, wanting.Count, is, none))
  no_numbers f (wanting.Word k) is none = inl (refl, inr (f, wanting.Word k, is, none))
