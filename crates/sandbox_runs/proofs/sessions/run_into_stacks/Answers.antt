use Rattle.sandbox_runs.proofs.Charged.{charged_from}
use Rattle.sandbox_runs.proofs.sessions.run_into_stacks.Goals as goal

pub returns-clause-told : goal.returns-clause-told
returns-clause-told g c = charged_from _ _ _ _ _ _ _ _ _ _ _ c.requires.new c.slice_of-slice.ensures c.run_profiled-told.ensures.profiled
