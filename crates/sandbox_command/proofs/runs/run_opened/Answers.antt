use Rattle.std.proofs.Common.{sym, subst}
use Rattle.sandbox_command.specs.declared.opening.Medium.{Medium}
use Rattle.sandbox_command.specs.Alone.{KeepsIt, RunsFilled, RunsInMemory, RunsOnMedium, RunsWith, file_of}
use Rattle.sandbox_command.specs.Around.{around, calling, flushing}
use Rattle.sandbox_command.proofs.Finishing.{rewired}
use Rattle.sandbox_command.proofs.runs.run_opened.Goals as goal

pub returns-in-File : goal.returns-in-File
returns-in-File g c =
    let on = around g.P.Places g.P.Input.Read g.P.Output.Write g.P.Volume.Device g.R.Read g.W1.Write g.W2.Write (flushing g.P.Output.Outlet.flushed g.P.Output.Outlet.refuses g.W1.Outlet.flushed g.W1.Outlet.refuses g.W2.Outlet.flushed g.W2.Outlet.refuses) (calling g.P.Input.Inlet.gave g.P.Input.Inlet.refused g.P.Output.Outlet.took g.P.Output.Outlet.refused g.R.Inlet.gave g.R.Inlet.refused g.W1.Outlet.took g.W1.Outlet.refused g.W2.Outlet.took g.W2.Outlet.refused) in
    let run = c.args.run.now in
    let opened = c.args.opened in
    subst (λ (m : Medium _). RunsOnMedium on m run opened c.args.given c.args.report c.args.places.now c.run_in_file.new.places c.run_in_file.result) (sym c.in-File.is)
    (rewired (λ streams spare. RunsWith on g.P.Volume.Device (λ left before said p q status summary after. KeepsIt g.P.Places left before said p q status summary after)
    run opened.«module».items opened.random.items c.in-File.device streams spare (file_of opened.profile) c.args.report c.args.places.now c.run_in_file.new.places c.run_in_file.result)
    _ _ c.source_of-input.ensures.source _ _ c.sink_of-out.ensures.sink _ _ c.sink_of-err.ensures.sink
    _ _ c.source_of-input.ensures.spare _ _ c.sink_of-out.ensures.spare _ _ c.sink_of-err.ensures.spare
    c.run_in_file.ensures)

pub returns-in-Memory : goal.returns-in-Memory
returns-in-Memory g c =
    let on = around g.P.Places g.P.Input.Read g.P.Output.Write g.P.Volume.Device g.R.Read g.W1.Write g.W2.Write (flushing g.P.Output.Outlet.flushed g.P.Output.Outlet.refuses g.W1.Outlet.flushed g.W1.Outlet.refuses g.W2.Outlet.flushed g.W2.Outlet.refuses) (calling g.P.Input.Inlet.gave g.P.Input.Inlet.refused g.P.Output.Outlet.took g.P.Output.Outlet.refused g.R.Inlet.gave g.R.Inlet.refused g.W1.Outlet.took g.W1.Outlet.refused g.W2.Outlet.took g.W2.Outlet.refused) in
    let run = c.args.run.now in
    let opened = c.args.opened in
    subst (λ (m : Medium _). RunsOnMedium on m run opened c.args.given c.args.report c.args.places.now c.run_in_memory.new.places c.run_in_memory.result) (sym c.in-Memory.is)
    (rewired (λ streams spare. RunsInMemory on
    run opened.«module».items opened.random.items c.in-Memory.device streams spare (file_of opened.profile) c.args.report c.args.places.now c.run_in_memory.new.places c.run_in_memory.result)
    _ _ c.source_of-input.ensures.source _ _ c.sink_of-out.ensures.sink _ _ c.sink_of-err.ensures.sink
    _ _ c.source_of-input.ensures.spare _ _ c.sink_of-out.ensures.spare _ _ c.sink_of-err.ensures.spare
    c.run_in_memory.ensures)

pub returns-in-Archive : goal.returns-in-Archive
returns-in-Archive g c =
    let on = around g.P.Places g.P.Input.Read g.P.Output.Write g.P.Volume.Device g.R.Read g.W1.Write g.W2.Write (flushing g.P.Output.Outlet.flushed g.P.Output.Outlet.refuses g.W1.Outlet.flushed g.W1.Outlet.refuses g.W2.Outlet.flushed g.W2.Outlet.refuses) (calling g.P.Input.Inlet.gave g.P.Input.Inlet.refused g.P.Output.Outlet.took g.P.Output.Outlet.refused g.R.Inlet.gave g.R.Inlet.refused g.W1.Outlet.took g.W1.Outlet.refused g.W2.Outlet.took g.W2.Outlet.refused) in
    let run = c.args.run.now in
    let opened = c.args.opened in
    subst (λ (m : Medium _). RunsOnMedium on m run opened c.args.given c.args.report c.args.places.now c.run_filled.new.places c.run_filled.result) (sym c.in-Archive.is)
    (rewired (λ streams spare. RunsFilled on
    run c.in-Archive.archive.items opened.«module».items opened.random.items streams spare (file_of opened.profile) c.args.report c.args.places.now c.run_filled.new.places c.run_filled.result)
    _ _ c.source_of-input.ensures.source _ _ c.sink_of-out.ensures.sink _ _ c.sink_of-err.ensures.sink
    _ _ c.source_of-input.ensures.spare _ _ c.sink_of-out.ensures.spare _ _ c.sink_of-err.ensures.spare
    c.run_filled.ensures)
