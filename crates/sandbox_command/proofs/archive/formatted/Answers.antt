use Rattle.std.proofs.Common.{inr}
use Rattle.sandbox_command.proofs.Filled.{is_formatted}
use Rattle.sandbox_command.proofs.archive.formatted.Goals as goal

pub returns-in-Ok-clause-made : goal.returns-in-Ok-clause-made
returns-in-Ok-clause-made c =
    let size = c.size_for-size.ensures in
    is_formatted _ c.size_for-size.result size.version size.sectors size.slots c.args.zeros c.format_as-done.result.1 c.requires _ _ c.in-Ok.is c.format_as-done.ensures.formats

pub returns-in-Err-clause-refused : goal.returns-in-Err-clause-refused
returns-in-Err-clause-refused c =
    let size = c.size_for-size.ensures in
    inr (
      c.format_as-done.result.1,
      c.in-Err.failure,
      is_formatted _ c.size_for-size.result size.version size.sectors size.slots c.args.zeros c.format_as-done.result.1 c.requires _ _ c.in-Err.is c.format_as-done.ensures.formats,
      c.of_formatting.ensures,
    )
