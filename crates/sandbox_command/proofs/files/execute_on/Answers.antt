use Rattle.std.proofs.Common.{◌≡◌, MatchResult, Result, refl, sym, subst}
use Rattle.std.specs.IoError.{error_kind}
use Rattle.std.specs.declared.io.Error.{Error}
use Rattle.sandbox_command.specs.Around.{EndsGiven, around, calling, flushing}
use Rattle.sandbox_command.specs.Files.{HasExecuted}
use Rattle.sandbox_runs.specs.Status.{file_status}
use Rattle.sandbox_command.proofs.files.execute_on.Goals as goal

pub returns-in-Ok-clause-tells : goal.returns-in-Ok-clause-tells
returns-in-Ok-clause-tells g c =
    let on = around g.P.Places g.P.Input.Read g.P.Output.Write g.P.Volume.Device g.R.Read g.W1.Write g.W2.Write (flushing g.P.Output.Outlet.flushed g.P.Output.Outlet.refuses g.W1.Outlet.flushed g.W1.Outlet.refuses g.W2.Outlet.flushed g.W2.Outlet.refuses) (calling g.P.Input.Inlet.gave g.P.Input.Inlet.refused g.P.Output.Outlet.took g.P.Output.Outlet.refused g.R.Inlet.gave g.R.Inlet.refused g.W1.Outlet.took g.W1.Outlet.refused g.W2.Outlet.took g.W2.Outlet.refused) in
    let status = c.execute-left.result.status in
    subst (λ (r : Result _ Error). MatchResult r (λ device. HasExecuted on c.args.work device c.args.given c.args.places.now c.end.new.self status)
    (λ error. (status ≡ file_status (error_kind error)) × EndsGiven on c.args.given c.args.places.now c.end.new.self)) (sym c.in-Ok.is)
    (record { left = c.execute-left.result; executes = c.execute-left.ensures.tells; answered = c.execute-left.ensures.answered; stays_within = c.execute-left.ensures.stays_within; ends = refl; ended = c.end.ensures })
