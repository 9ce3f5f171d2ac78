use Rattle.sandbox_command.proofs.list_of_tests.run_list.Goals as goal

pub returns : goal.returns
returns g c = (c.run_lines-status.new.places, c.run_lines-status.ensures.runs, (c.run_lines-status.new.err, c.run_lines-status.ensures.line, c.end.ensures))
