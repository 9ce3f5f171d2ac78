use Rattle.std.proofs.Common.{Bool, ℕ, sym, subst}
use Rattle.std.specs.IoError.{error_kind}
use Rattle.sandbox_runs.specs.Inspecting.{Inspects}
use Rattle.sandbox_runs.proofs.AfterFlush.{inspected}
use Rattle.sandbox_command.proofs.inspecting.inspect.Goals as goal

pub returns-clause-tells : goal.returns-clause-tells
returns-clause-tells g c =
    let outs = g.W1.Write.contents in
    let bytes = c.args.bytes.now in
    let before = outs c.args.given.out in
    let surveyed = c.survey-surveyed in
    let left = c.left_with.result in
    let said = c.left_with.ensures in
    let heard = surveyed.ensures.heard in
    let failed = heard.failed in
    let inspects =
    subst (λ (w : g.row.W1.Denot). Inspects c.args.profile bytes before (outs w) failed left.flushed left.status) (sym said.out)
    (subst (λ (flushed : Bool). Inspects c.args.profile bytes before (outs c.try_flush-flushed.new.self) failed flushed left.status) (sym said.flushed)
    (subst (λ (status : ℕ). Inspects c.args.profile bytes before (outs c.try_flush-flushed.new.self) failed c.try_flush-flushed.result status) (sym said.status)
    (inspected error_kind c.args.profile bytes before (outs surveyed.new.out) (outs c.try_flush-flushed.new.self) surveyed.result c.try_flush-flushed.result c.survey_ended-status.result
    surveyed.ensures.tells surveyed.ensures.begins c.try_flush-flushed.ensures.bytes c.survey_ended-status.ensures.told c.survey_ended-status.ensures.refused failed heard.worked heard.blamed))) in
    (failed, inspects, (surveyed.new.out, heard.heard))
