use Rattle.std.proofs.Common.{ℕ, Option, ap, subst, sym}
use Rattle.sandbox_report.specs.declared.summary.Summary.{Summary}
use Rattle.sandbox_device.specs.declared.ram_device.RamDevice.{RamDevice}
use Rattle.sandbox_telling.specs.declared.stopping.Stopped.{Stopped}
use Rattle.sandbox_command.specs.declared.closing.RunLeft.{RunLeft}
use Rattle.sandbox_telling.specs.Sources.{sink_contents}
use Rattle.sandbox_telling.specs.Streams.{AppendsSome}
use Rattle.sandbox_command.specs.Alone.{HandsAll, IsProfiled, file_of}
use Rattle.sandbox_command.specs.Around.{around, calling, flushing, in_memory}
use Rattle.sandbox_args.specs.Request.{Text}
use Rattle.sandbox_telling.specs.Modules.{profile_for}
use Rattle.sandbox_telling.specs.Stopping.{TellsLines}
use Rattle.sandbox_command.proofs.Ledgers.{its_file, new_stacks, told_with}
use Rattle.sandbox_command.proofs.Finishing.{runs_with}
use Rattle.sandbox_telling.proofs.Lines.{lines_then}
use Rattle.sandbox_command.proofs.runs.run_in_memory.Goals as goal

pub run-ended-requires : goal.run-ended-requires
run-ended-requires g c = new_stacks g.P.Places.is_output _ _ _ c.parted-stacks.ensures.stacks c.requires.profile

pub profiled-ending-requires-clause-file : goal.profiled-ending-requires-clause-file
profiled-ending-requires-clause-file g c = its_file g.P.Places.is_output _ _ _ c.parted-stacks.ensures.file c.requires.profile

pub profiled-ending-requires-clause-told : goal.profiled-ending-requires-clause-told
profiled-ending-requires-clause-told g c =
    told_with _ _ _ _ _ c.parted-stacks.ensures.stacks c.parted-stacks.ensures.file c.finished-stopped.ensures.stopped c.run-ended.ensures.fuel_use

pub returns : goal.returns
returns g c =
    let finished = c.finished-stopped.ensures in
    let ended = c.run-ended.result.0 in
    let bytes = c.as_slice-module.result.now in
    let run = c.args.run.now in
    let p = c.args.places.now in
    let delivered = c.delivered-left in
    let handed = delivered.new.places in
    let said = delivered.result.0 in
    let after = delivered.result.1.device in
    let profiled = c.profiled-ending.new.places in
    let ending = c.profiled-ending.result in
    runs_with (around g.P.Places g.P.Input.Read g.P.Output.Write g.P.Volume.Device g.R.Read g.W1.Write g.W2.Write (flushing g.P.Output.Outlet.flushed g.P.Output.Outlet.refuses g.W1.Outlet.flushed g.W1.Outlet.refuses g.W2.Outlet.flushed g.W2.Outlet.refuses) (calling g.P.Input.Inlet.gave g.P.Input.Inlet.refused g.P.Output.Outlet.took g.P.Output.Outlet.refused g.R.Inlet.gave g.R.Inlet.refused g.W1.Outlet.took g.W1.Outlet.refused g.W2.Outlet.took g.W2.Outlet.refused)) in_memory
    (λ left before said p q status summary after. HandsAll g.P.Places run left before said p q status summary after)
    run c.args.device c.args.wired.streams c.args.wired.spare (file_of c.args.wired.profile) c.args.report
    _ _ _ _ c.as_slice-module.ensures.value c.as_slice-random.ensures.value ended c.run-ended.ensures.runs c.run-ended.ensures.answered
    finished.left.0 finished.left.1 c.finished-stopped.result.2 finished.left.2 c.told-status.new.err
    (lines_then _ _ _ delivered.ensures.rest.2
    (lines_then _ _ _ (subst (λ (l : RunLeft _ _ _ _ _ _). AppendsSome (sink_contents g.P.Output.Write.contents g.W2.Write.contents l.own) (sink_contents g.P.Output.Write.contents g.W2.Write.contents c.profiled-ending.new.err))
    delivered.ensures.rest.1 c.profiled-ending.ensures.lines) c.told-status.ensures.lines))
    c.as_slice-lines.result.now (subst (λ (text : Text). TellsLines (profile_for run.floats) bytes run.frames ended.stopped text) (sym c.as_slice-lines.ensures.value) c.run-ended.ensures.lines)
    after said.status said.summary ending.status ending.summary p handed profiled c.told-status.new.places c.end.new.self c.told-status.result
    (subst (λ (d : RamDevice). HandsAll g.P.Places run d ended.status ended.summary p handed said.status said.summary after) (ap (λ l. l.device) finished.left.2)
    (subst (λ (n : ℕ). HandsAll g.P.Places run c.finished-stopped.result.2.device n ended.summary p handed said.status said.summary after) finished.ending.0
    (subst (λ (s : Option Summary). HandsAll g.P.Places run c.finished-stopped.result.2.device c.finished-stopped.result.0.status s p handed said.status said.summary after) finished.ending.1
    delivered.ensures.hands)))
    (subst (λ (s : Option Stopped). IsProfiled g.P.Places g.P.Output.Write bytes s run.profile (file_of c.args.wired.profile) said.status said.summary handed profiled ending.status ending.summary) finished.stopped
    (subst (λ (f : Option _). IsProfiled g.P.Places g.P.Output.Write bytes c.finished-stopped.result.1 run.profile f said.status said.summary handed profiled ending.status ending.summary) c.parted-stacks.ensures.file
    c.profiled-ending.ensures.profile))
    c.told-status.ensures.tells (subst (λ (l : RunLeft _ _ _ _ _ _). g.P.Places.ended (record l { own = c.told-status.new.err }) c.told-status.new.places c.end.new.self) delivered.ensures.rest.1 c.end.ensures)
