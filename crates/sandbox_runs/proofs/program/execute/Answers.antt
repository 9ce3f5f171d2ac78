use Rattle.std.proofs.Common.{◌≡◌, true, sym, subst}
use Rattle.stream_answers.specs.Hearing.{Hears, Moves}
use Rattle.vol_commands.specs.Blame.{IsCause}
use Rattle.vol_commands.specs.Doing.{Performs, reads_input}
use Rattle.vol_commands.specs.Going.{FormatsWithin, KeepsWithin}
use Rattle.vol_commands.specs.Exporting.{PerformsExport}
use Rattle.vol_commands.specs.Importing.{PerformsImport, blames_input}
use Rattle.sandbox_telling.specs.declared.work.VolumeWork.{VolumeWork}
use Rattle.sandbox_runs.specs.StreamCalling.{calls_of}
use Rattle.sandbox_runs.specs.Execution.{Executes, StaysWithin}
use Rattle.vol_commands.proofs.Flushed.{performs_flushed}
use Rattle.sandbox_runs.proofs.AfterFlush.{export_flushed}
use Rattle.sandbox_runs.proofs.program.execute.Goals as goal

-- the task was done, and then the output flushed
pub returns-in-Task-clause-tells : goal.returns-in-Task-clause-tells
returns-in-Task-clause-tells g c =
    let honest = g.D.Device.honest in
    let disk = g.D.Device.disk in
    let size = g.D.Device.size in
    let failures = g.D.Device.failures in
    let goes_on = g.D.Device.goes_on in
    let remaining = g.R.Read.remaining in
    let outs = g.W1.Write.contents in
    let task = c.in-Task.task in
    let done = c.perform-done.result.0 in
    let left = c.ended_task.result in
    let ended = c.ended_task.ensures in
    let flushed = performs_flushed honest disk size failures task c.args.device (remaining c.args.given.input) (remaining c.perform-done.new.input) (outs c.args.given.out) (outs c.perform-done.new.out) (outs left.out)
    c.perform-done.result.1 done c.perform-done.ensures.performs ended.out in
    let at_input = subst (λ (r : g.row.R.Denot). Performs honest disk size failures task c.args.device (remaining c.args.given.input) (remaining r) (outs c.args.given.out) (outs left.out) c.perform-done.result.1 done) (sym ended.input) flushed in
    let performs = subst (λ (d : g.row.D.Denot). Performs honest disk size failures task c.args.device (remaining c.args.given.input) (remaining left.input) (outs c.args.given.out) (outs left.out) d done) (sym ended.device) at_input in
    let heard = subst (λ (r : g.row.R.Denot). reads_input task ≡ true → IsCause (Moves g.R.Inlet.gave) g.R.Inlet.refused done c.args.given.input r) (sym ended.input) c.perform-done.ensures.heard in
    subst (λ (it : VolumeWork). Executes honest disk size failures goes_on remaining outs g.W2.Write.contents (calls_of g.R.Inlet.gave g.R.Inlet.refused) (calls_of g.W1.Outlet.took g.W1.Outlet.refused) it c.args.device c.args.given.input c.args.given.out c.args.given.err left) (sym c.in-Task.is)
    (done, performs, ended.status, ended.summary, ended.err, heard, λ prints. (c.perform-done.new.out, c.perform-done.ensures.printed prints))

-- a tar stream was brought in, and then the output flushed
pub returns-in-Import-clause-tells : goal.returns-in-Import-clause-tells
returns-in-Import-clause-tells g c =
    let honest = g.D.Device.honest in
    let disk = g.D.Device.disk in
    let size = g.D.Device.size in
    let failures = g.D.Device.failures in
    let goes_on = g.D.Device.goes_on in
    let remaining = g.R.Read.remaining in
    let path = c.in-Import.path.now in
    let done = c.import_into-done.result.0 in
    let left = c.ended-in-Import.result in
    let ended = c.ended-in-Import.ensures in
    let at_input = subst (λ (r : g.row.R.Denot). PerformsImport honest disk size failures path c.args.device (remaining c.args.given.input) (remaining r) c.import_into-done.result.1 done) (sym ended.input) c.import_into-done.ensures.performs in
    let performs = subst (λ (d : g.row.D.Denot). PerformsImport honest disk size failures path c.args.device (remaining c.args.given.input) (remaining left.input) d done) (sym ended.device) at_input in
    let heard = subst (λ (r : g.row.R.Denot). Hears (Moves g.R.Inlet.gave) g.R.Inlet.refused (blames_input done) c.args.given.input r) (sym ended.input) c.import_into-done.ensures.heard in
    subst (λ (it : VolumeWork). Executes honest disk size failures goes_on remaining g.W1.Write.contents g.W2.Write.contents (calls_of g.R.Inlet.gave g.R.Inlet.refused) (calls_of g.W1.Outlet.took g.W1.Outlet.refused) it c.args.device c.args.given.input c.args.given.out c.args.given.err left) (sym c.in-Import.is)
    (done, performs, ended.status, ended.summary, ended.out, ended.err, heard)

-- the directory was printed, and then the output flushed
pub returns-in-Export-clause-tells : goal.returns-in-Export-clause-tells
returns-in-Export-clause-tells g c =
    let honest = g.D.Device.honest in
    let disk = g.D.Device.disk in
    let size = g.D.Device.size in
    let failures = g.D.Device.failures in
    let goes_on = g.D.Device.goes_on in
    let outs = g.W1.Write.contents in
    let path = c.in-Export.path.now in
    let done = c.export_from-done.result.0 in
    let left = c.ended-in-Export.result in
    let ended = c.ended-in-Export.ensures in
    let flushed = export_flushed honest disk size failures goes_on path c.args.device (outs c.args.given.out) (outs c.export_from-done.new.out) (outs left.out) c.export_from-done.result.1 done ended.out c.export_from-done.ensures.performs in
    let performs = subst (λ (d : g.row.D.Denot). PerformsExport honest disk size failures path c.args.device (outs c.args.given.out) (outs left.out) d done) (sym ended.device) flushed in
    subst (λ (it : VolumeWork). Executes honest disk size failures goes_on g.R.Read.remaining outs g.W2.Write.contents (calls_of g.R.Inlet.gave g.R.Inlet.refused) (calls_of g.W1.Outlet.took g.W1.Outlet.refused) it c.args.device c.args.given.input c.args.given.out c.args.given.err left) (sym c.in-Export.is)
    (done, performs, ended.status, ended.summary, ended.input, ended.err, (c.export_from-done.new.out, c.export_from-done.ensures.heard))

-- ---- the sectors past the volume

pub returns-in-Format-clause-stays_within : goal.returns-in-Format-clause-stays_within
returns-in-Format-clause-stays_within g c =
    subst (λ (it : VolumeWork). StaysWithin g.D.Device.honest g.D.Device.disk g.D.Device.size g.D.Device.goes_on it c.args.device c.ended.result.device) (sym c.in-Format.is)
    (subst (λ (d : g.row.D.Denot). FormatsWithin g.D.Device.honest g.D.Device.size g.D.Device.goes_on c.in-Format.sectors c.args.device d) (sym c.ended.ensures.device) c.format_where-done.ensures.goes_on)

pub returns-in-Task-clause-stays_within : goal.returns-in-Task-clause-stays_within
returns-in-Task-clause-stays_within g c =
    subst (λ (it : VolumeWork). StaysWithin g.D.Device.honest g.D.Device.disk g.D.Device.size g.D.Device.goes_on it c.args.device c.ended_task.result.device) (sym c.in-Task.is)
    (subst (λ (d : g.row.D.Denot). KeepsWithin g.D.Device.honest g.D.Device.disk g.D.Device.size g.D.Device.goes_on c.args.device d) (sym c.ended_task.ensures.device) c.perform-done.ensures.goes_on)

pub returns-in-Import-clause-stays_within : goal.returns-in-Import-clause-stays_within
returns-in-Import-clause-stays_within g c =
    subst (λ (it : VolumeWork). StaysWithin g.D.Device.honest g.D.Device.disk g.D.Device.size g.D.Device.goes_on it c.args.device c.ended-in-Import.result.device) (sym c.in-Import.is)
    (subst (λ (d : g.row.D.Denot). KeepsWithin g.D.Device.honest g.D.Device.disk g.D.Device.size g.D.Device.goes_on c.args.device d) (sym c.ended-in-Import.ensures.device) c.import_into-done.ensures.goes_on)

pub returns-in-Export-clause-stays_within : goal.returns-in-Export-clause-stays_within
returns-in-Export-clause-stays_within g c =
    subst (λ (it : VolumeWork). StaysWithin g.D.Device.honest g.D.Device.disk g.D.Device.size g.D.Device.goes_on it c.args.device c.ended-in-Export.result.device) (sym c.in-Export.is)
    (subst (λ (d : g.row.D.Denot). KeepsWithin g.D.Device.honest g.D.Device.disk g.D.Device.size g.D.Device.goes_on c.args.device d) (sym c.ended-in-Export.ensures.device) c.export_from-done.ensures.goes_on)
