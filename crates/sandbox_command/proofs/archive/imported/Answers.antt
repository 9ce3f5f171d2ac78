use Rattle.sandbox_command.proofs.Filled.{is_imported}
use Rattle.sandbox_command.proofs.archive.imported.Goals as goal

pub returns-in-Ok : goal.returns-in-Ok
returns-in-Ok c = (c.in-Ok.field-0, is_imported _ c.args.empty c.import_into-done.result.1 c.requires _ _ _ c.in-Ok.is c.import_into-done.ensures.performs)

pub returns-in-Err : goal.returns-in-Err
returns-in-Err c = (c.import_into-done.result.1, is_imported _ c.args.empty c.import_into-done.result.1 c.requires _ _ _ c.in-Err.is c.import_into-done.ensures.performs)
