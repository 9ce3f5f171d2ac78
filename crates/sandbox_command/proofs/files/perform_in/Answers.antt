use Rattle.std.proofs.Common.{Option, sym, subst, true≢false, ◌∙◌}
use Rattle.std.specs.Borrow.{Bor}
use Rattle.sandbox_args.specs.Request.{Text}
use Rattle.sandbox_command.specs.Around.{around, calling, flushing}
use Rattle.sandbox_command.specs.Files.{RunsNamed}
use Rattle.sandbox_command.proofs.Finishing.{alone_within, run_performed}
use Rattle.sandbox_command.proofs.Formatted.{format_performed}
use Rattle.sandbox_command.proofs.files.perform_in.Goals as goal

-- a list of tests
pub returns-in-Some-clause-tells : goal.returns-in-Some-clause-tells
returns-in-Some-clause-tells g c =
    let on = around g.P.Places g.P.Input.Read g.P.Output.Write g.P.Volume.Device g.R.Read g.W1.Write g.W2.Write (flushing g.P.Output.Outlet.flushed g.P.Output.Outlet.refuses g.W1.Outlet.flushed g.W1.Outlet.refuses g.W2.Outlet.flushed g.W2.Outlet.refuses) (calling g.P.Input.Inlet.gave g.P.Input.Inlet.refused g.P.Output.Outlet.took g.P.Output.Outlet.refused g.R.Inlet.gave g.R.Inlet.refused g.W1.Outlet.took g.W1.Outlet.refused g.W2.Outlet.took g.W2.Outlet.refused) in
    run_performed on c.args.invocation.now c.in-Run.run' c.args.given c.args.places.now c.run_list.new.places c.run_list.result c.in-Run.is
    (λ clash. true≢false (sym (c.clashes.ensures.1 clash) ∙ c.if-clashes.false))
    (subst (λ (named : Option (Bor Text)). RunsNamed on named c.in-Run.run' c.args.given c.args.places.now c.run_list.new.places c.run_list.result) (sym c.in-Some.is) c.run_list.ensures)

-- or a run alone
pub returns-in-None-clause-tells : goal.returns-in-None-clause-tells
returns-in-None-clause-tells g c =
    let on = around g.P.Places g.P.Input.Read g.P.Output.Write g.P.Volume.Device g.R.Read g.W1.Write g.W2.Write (flushing g.P.Output.Outlet.flushed g.P.Output.Outlet.refuses g.W1.Outlet.flushed g.W1.Outlet.refuses g.W2.Outlet.flushed g.W2.Outlet.refuses) (calling g.P.Input.Inlet.gave g.P.Input.Inlet.refused g.P.Output.Outlet.took g.P.Output.Outlet.refused g.R.Inlet.gave g.R.Inlet.refused g.W1.Outlet.took g.W1.Outlet.refused g.W2.Outlet.took g.W2.Outlet.refused) in
    run_performed on c.args.invocation.now c.in-Run.run' c.args.given c.args.places.now c.run_alone.new.places c.run_alone.result c.in-Run.is
    (λ clash. true≢false (sym (c.clashes.ensures.1 clash) ∙ c.if-clashes.false))
    (subst (λ (named : Option (Bor Text)). RunsNamed on named c.in-Run.run' c.args.given c.args.places.now c.run_alone.new.places c.run_alone.result) (sym c.in-None.is) c.run_alone.ensures)

pub returns-in-None-clause-within : goal.returns-in-None-clause-within
returns-in-None-clause-within g c =
    alone_within (around g.P.Places g.P.Input.Read g.P.Output.Write g.P.Volume.Device g.R.Read g.W1.Write g.W2.Write (flushing g.P.Output.Outlet.flushed g.P.Output.Outlet.refuses g.W1.Outlet.flushed g.W1.Outlet.refuses g.W2.Outlet.flushed g.W2.Outlet.refuses) (calling g.P.Input.Inlet.gave g.P.Input.Inlet.refused g.P.Output.Outlet.took g.P.Output.Outlet.refused g.R.Inlet.gave g.R.Inlet.refused g.W1.Outlet.took g.W1.Outlet.refused g.W2.Outlet.took g.W2.Outlet.refused)) c.in-Run.run' c.args.given c.args.places.now c.run_alone.new.places c.run_alone.result c.run_alone.ensures

-- a volume that is made
pub returns-in-Format-clause-tells : goal.returns-in-Format-clause-tells
returns-in-Format-clause-tells g c =
    let on = around g.P.Places g.P.Input.Read g.P.Output.Write g.P.Volume.Device g.R.Read g.W1.Write g.W2.Write (flushing g.P.Output.Outlet.flushed g.P.Output.Outlet.refuses g.W1.Outlet.flushed g.W1.Outlet.refuses g.W2.Outlet.flushed g.W2.Outlet.refuses) (calling g.P.Input.Inlet.gave g.P.Input.Inlet.refused g.P.Output.Outlet.took g.P.Output.Outlet.refused g.R.Inlet.gave g.R.Inlet.refused g.W1.Outlet.took g.W1.Outlet.refused g.W2.Outlet.took g.W2.Outlet.refused) in
    let asks = c.lengthen-device.ensures in
    format_performed on c.args.invocation.now _ _ _ _ _ _ c.version_for-version.result c.room_for-room.result c.args.given c.args.places.now c.lengthen-device.new.self c.execute_on.new.places c.execute_on.result c.lengthen-device.result
    c.in-Format.is (λ clash. true≢false (sym (c.clashes.ensures.1 clash) ∙ c.if-clashes.false)) c.version_for-version.ensures c.room_for-room.ensures
    asks.asked asks.refused asks.volume asks.unused asks.enough c.execute_on.ensures.tells
