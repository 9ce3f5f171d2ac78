use Rattle.std.proofs.Common.{◌∙◌}
use Rattle.wasm_valid.specs.Validity.{IsValid}
use Rattle.wasm_valid.proofs.Refusals.{unsettled}
use Rattle.wasm_valid.proofs.validating.check.Goals as goal

pub returns-in_err-tables : goal.returns-in_err-tables
returns-in_err-tables c = unsettled c.from_residual.result (IsValid c.args.module.now) c.from_residual.ensures.1

pub returns-in_err-memories : goal.returns-in_err-memories
returns-in_err-memories c = unsettled c.from_residual-in_err-memories.result (IsValid c.args.module.now) c.from_residual-in_err-memories.ensures.1

pub check_over-requires : goal.check_over-requires
check_over-requires c = record { tables = c.as_slice.ensures.value ∙ c.in_ok-tables.ensures; memories = c.as_slice-2.ensures.value ∙ c.in_ok-memories.ensures }

pub returns : goal.returns
returns c = c.check_over.ensures
