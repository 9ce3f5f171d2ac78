-- How a run ended, as its report says it: a label, a number, a text, an offset (`docs/USING.md`, "The report of a
-- run"). Each is the value of one line, and `is_machines` says which ends put the blame on the machine, whatever else
-- the report says.
use Rattle.std.specs.Prelude.{◌==◌, ◌||◌, ℕ, Bool, true, false, [], Option, Some, None, codes}
use Rattle.std.specs.Option.{option_map_or}
use Rattle.meanings.specs.Tables.{end_label, trap_text}
use Rattle.wasm_steps.specs.declared.pause.Outcome.TheVariants.{Exited, Trapped, OutOfFuel, OutOfMemory}
use Rattle.sandbox_report.specs.declared.end.End.{End}
use Rattle.sandbox_report.specs.declared.end.End.TheVariants.{Ran, Refused}
pub use Rattle.sandbox_report.specs.EndNumbers.{trap_number, outcome_number}
use Rattle.sandbox_report.specs.Faults.{Text, fault_number, fault_offset, fault_text}

-- what has no number is that it is out of memory
abbrev pub refusal_label : Option ℕ → Text
refusal_label (Some n) = codes "fault"
refusal_label None = end_label 3

abbrev pub label_of : End → Text
label_of (Ran outcome) = end_label (outcome_number outcome)
label_of (Refused fault) = refusal_label (fault_number fault)

-- the guest's whole status, the number of a trap or of a fault
abbrev pub end_code : End → Option ℕ
end_code (Ran (Exited status)) = Some status
end_code (Ran (Trapped trap)) = Some (trap_number trap)
end_code (Ran OutOfFuel) = None
end_code (Ran OutOfMemory) = None
end_code (Refused fault) = fault_number fault

abbrev pub end_text : End → Text
end_text (Ran (Exited status)) = []
end_text (Ran (Trapped trap)) = trap_text (trap_number trap)
end_text (Ran OutOfFuel) = []
end_text (Ran OutOfMemory) = []
end_text (Refused fault) = fault_text fault

abbrev pub end_offset : End → Option ℕ
end_offset (Ran outcome) = None
end_offset (Refused fault) = fault_offset fault

-- What is the machine's: a device or a file that failed, and memory that was wanting before the guest ran.
abbrev pub is_machines : End → Bool
is_machines (Ran outcome) = false
is_machines (Refused fault) = option_map_or (λ n. n == 33 || n == 41) (fault_number fault) true
