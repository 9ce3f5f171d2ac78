use Rattle.std.proofs.Common.{inr}
use Rattle.sandbox_command.proofs.runs.run_alone.Goals as goal

-- all files were opened
pub returns-in-Ok-made_report : goal.returns-in-Ok-made_report
returns-in-Ok-made_report g c = inr (inr (record {
  opened = c.in-Ok.opened;
  between = c.open_all.new.places;
  asked_for = c.open_all.ensures.asked;
  are_opened = c.in-Ok.ensures.opened;
  report = c.in-Ok-made_report.report;
  begun = c.made_report.new.places;
  has_report = c.in-Ok-made_report.ensures;
  runs = c.run_opened.ensures;
}))
