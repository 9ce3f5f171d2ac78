use Rattle.std.proofs.Common.{◌∙◌, ap, subst}
use Rattle.sandbox_core.specs.Devices.{devices}
use Rattle.sandbox_core.specs.Session.{used_by}
use Rattle.sandbox_telling.specs.Profiling.{ReportsCharged, slice_of}
use Rattle.sandbox_telling.specs.Supplies.{terminals_of}
use Rattle.sandbox_runs.specs.internal.Seeds.{with_seed, with_terminals}
use Rattle.sandbox_runs.proofs.sessions.run_within.Goals as goal

pub run_charged-requires-clause-unused : goal.run_charged-requires-clause-unused
run_charged-requires-clause-unused g c =
    ap (λ s. used_by s) (c.interact.ensures ∙ ap (λ s. with_terminals (terminals_of c.args.run.now) s) (c.seed.ensures ∙ ap (λ s. with_seed c.args.run.now.seed s) c.limit_values.ensures)) ∙ c.requires.begun.0

pub seed-requires : goal.seed-requires
seed-requires g c = ap (λ s. s.host.generator) c.limit_values.ensures ∙ c.requires.begun.1

pub interact-requires : goal.interact-requires
interact-requires g c = ap (λ s. s.host.interactive) (c.seed.ensures ∙ ap (λ s. with_seed c.args.run.now.seed s) c.limit_values.ensures) ∙ c.requires.begun.2

pub returns-clause-told : goal.returns-clause-told
returns-clause-told g c =
    let told = c.run_charged.result.0 in
    subst (λ s. ReportsCharged (devices g.D.Device g.R.Read g.W1.Write g.W2.Write g.R.Inlet.gave g.R.Inlet.refused g.W1.Outlet.took g.W1.Outlet.refused g.W2.Outlet.took g.W2.Outlet.refused) s c.args.run.now.limits.fuel (slice_of c.args.run.now) told.report told.tally c.run_charged.new.room told.depth c.run_charged.result.1)
    (c.interact.ensures ∙ ap (λ s. with_terminals (terminals_of c.args.run.now) s) (c.seed.ensures ∙ ap (λ s. with_seed c.args.run.now.seed s) c.limit_values.ensures)) c.run_charged.ensures.told

pub returns-clause-kept : goal.returns-clause-kept
returns-clause-kept g c = subst (λ m. g.S.Resumable.gives_back m c.run_charged.result.0.kept)
    (ap (λ s. s.machine.valid) (c.interact.ensures ∙ ap (λ s. with_terminals (terminals_of c.args.run.now) s) (c.seed.ensures ∙ ap (λ s. with_seed c.args.run.now.seed s) c.limit_values.ensures))) c.run_charged.ensures.kept
