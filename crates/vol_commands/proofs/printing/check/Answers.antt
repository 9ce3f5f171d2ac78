use Rattle.std.proofs.Common.{◌≡◌, ◌∙◌, refl, subst, true}
use Rattle.std.specs.Io.KnownBytes.{Appends}
use Rattle.sandbox_args.specs.Request.{Text}
use Rattle.stream_answers.specs.Hearing.{Moves, Refuses, stays}
use Rattle.vol_inode.specs.declared.version.Version.{Version}
use Rattle.vol_tar.proofs.Blamed.{hears_so}
use Rattle.vol_commands.specs.Blame.{blames_stream}
use Rattle.vol_commands.specs.declared.failure.Failure.TheVariants as failure
use Rattle.stream_answers.specs.Printing.{AppendsPart}
use Rattle.vol_commands.specs.Tasks.{summary}
use Rattle.vol_commands.specs.internal.Lines.{summary_line}
use Rattle.vol_commands.proofs.Blamed.{blame}
use Rattle.vol_commands.proofs.Printed.{stream_refused}
use Rattle.vol_commands.proofs.Texts.{summary_told}
use Rattle.vol_commands.proofs.printing.check.Goals as goal

pub returns-clause-prints : goal.returns-clause-prints
returns-clause-prints g c h =
    let v = c.args.volume.now in
    let made = subst (λ (version : Version). c.put_summary.new.line.items ≡ summary_line version c.stats.result) c.version.ensures c.put_summary.ensures in
    let holds : c.as_slice.result.now ≡ summary v.numbers v.tree = c.as_slice.ensures.value ∙ (made ∙ summary_told v.numbers v.tree c.stats.result (c.stats.ensures h)) in (
      summary v.numbers v.tree,
      refl,
      subst (λ (text : Text). Appends (g.W.Write.contents c.args.out.now) (g.W.Write.contents c.print_all.new.out) text) holds c.in_ok-print_all.ensures.all,
    )

pub returns-in_err-print_all-clause-prints : goal.returns-in_err-print_all-clause-prints
returns-in_err-print_all-clause-prints g c h =
    let v = c.args.volume.now in
    let made = subst (λ (version : Version). c.put_summary.new.line.items ≡ summary_line version c.stats.result) c.version.ensures c.put_summary.ensures in
    let holds : c.as_slice.result.now ≡ summary v.numbers v.tree = c.as_slice.ensures.value ∙ (made ∙ summary_told v.numbers v.tree c.stats.result (c.stats.ensures h)) in
    stream_refused (summary v.numbers v.tree) (g.W.Write.contents c.args.out.now) (g.W.Write.contents c.print_all.new.out) c.from_residual.result
    (subst (λ (text : Text). AppendsPart (g.W.Write.contents c.args.out.now) (g.W.Write.contents c.print_all.new.out) text) holds c.in_err-print_all.ensures.part) c.from_residual.ensures.1

-- ---- what the output refused

pub returns-clause-heard : goal.returns-clause-heard
returns-clause-heard g c = c.in_ok-print_all.ensures.heard

pub returns-in_err-print_all-clause-heard : goal.returns-in_err-print_all-clause-heard
returns-in_err-print_all-clause-heard g c =
    hears_so (Moves g.W.Outlet.took) (Refuses g.W.Outlet.took g.W.Outlet.refused) (blames_stream c.from_residual.result) true
    (blame c.from_residual.result failure.Stream c.from_residual.ensures.1) _ _ _ stays c.in_err-print_all.ensures.heard
