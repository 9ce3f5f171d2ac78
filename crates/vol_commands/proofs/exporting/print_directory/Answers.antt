use Rattle.std.proofs.Common.{◌≡◌, false, ℕ, List, Option, Result, Ok, Err, IsErrAnd, sym, subst}
use Rattle.std.proofs.KnownBytes.{Keeps-refl}
use Rattle.vol_tree.specs.Tree.{Tree}
use Rattle.path_walk.proofs.Chaining.{asked_then}
use Rattle.sandbox_args.specs.Request.{Text}
use Rattle.stream_answers.specs.Hearing.{Moves, Refuses, stays}
use Rattle.vol_tar.proofs.Blamed.{hears_none, hears_so}
use Rattle.vol_tar.specs.Import.{is_stream}
use Rattle.vol_tar.specs.Export.{Exports, ExportsPart, HasMisfit, RefusesExport}
use Rattle.vol_commands.specs.declared.exporting.ExportFailure.{ExportFailure}
use Rattle.vol_commands.specs.declared.exporting.ExportFailure.TheVariants.{Path, Stopped}
use Rattle.vol_commands.specs.Exporting.{PrintsDirectory, blames_export, blames_output}
use Rattle.vol_commands.proofs.Asking.{asked_on}
use Rattle.vol_commands.proofs.Blamed.{blame_export}
use Rattle.vol_commands.proofs.exporting.print_directory.Goals as goal

-- what a refusal prints, where it goes on as an error
printed_on : (T : Tree) (path : Text) (a b : Option (List ℕ)) (r : Result (Unit {0}) ExportFailure) (f : ExportFailure) → IsErrAnd r (λ e. e ≡ f) → PrintsDirectory T path a b (Err f) → PrintsDirectory T path a b r
printed_on T path a b (Ok x) f is p = absurd is
printed_on T path a b (Err e) f is p = subst (λ (x : ExportFailure). PrintsDirectory T path a b (Err x)) (sym is) p

pub returns-clause-asked : goal.returns-clause-asked
returns-clause-asked g c =
    asked_then g.D.Device.honest g.D.Device.disk g.D.Device.size g.D.Device.failures g.D.Device.goes_on c.args.volume.now c.directory_named.new.volume c.export.new.volume false c.in_ok-directory.ensures.asked c.in_ok-export.ensures.asked

pub returns-in_err-export-clause-asked : goal.returns-in_err-export-clause-asked
returns-in_err-export-clause-asked g c =
    asked_on g.D.Device.honest g.D.Device.disk g.D.Device.size g.D.Device.failures g.D.Device.goes_on blames_export c.from_residual-in_err-export.result (Stopped c.in_err-export.field-0.0) c.from_residual-in_err-export.ensures.1 c.args.volume.now c.export.new.volume
    (asked_then g.D.Device.honest g.D.Device.disk g.D.Device.size g.D.Device.failures g.D.Device.goes_on c.args.volume.now c.directory_named.new.volume c.export.new.volume _ c.in_ok-directory.ensures.asked c.in_err-export.ensures.asked)

pub returns-clause-prints : goal.returns-clause-prints
returns-clause-prints g c h =
    let named = c.in_ok-directory.ensures in
    let directory = c.in_ok-directory.directory in
    let out = g.W.Write.contents in (
      directory,
      named.answer h,
      subst (λ (T : Tree). Exports T directory (out c.args.out.now) (out c.export.new.out)) (named.asked.tree h) (c.in_ok-export.ensures.all (named.asked.kept.honest.0 h)),
    )

-- the path names no directory
pub returns-in_err-directory-clause-prints : goal.returns-in_err-directory-clause-prints
returns-in_err-directory-clause-prints g c h =
    let out = g.W.Write.contents c.args.out.now in
    printed_on c.args.volume.now.tree c.args.path.now out out c.from_residual.result (Path c.in_err-directory.field-0.0) c.from_residual.ensures.1 (c.in_err-directory.ensures.answer h, Keeps-refl out)

-- a beginning was printed
pub returns-in_err-export-clause-prints : goal.returns-in_err-export-clause-prints
returns-in_err-export-clause-prints g c h =
    let named = c.in_ok-directory.ensures in
    let directory = c.in_ok-directory.directory in
    let why = c.in_err-export.field-0.0 in
    let a = g.W.Write.contents c.args.out.now in
    let b = g.W.Write.contents c.export.new.out in
    let now = named.asked.kept.honest.0 h in
    printed_on c.args.volume.now.tree c.args.path.now a b c.from_residual-in_err-export.result (Stopped why) c.from_residual-in_err-export.ensures.1 (
      directory,
      named.answer h,
      subst (λ (T : Tree). ExportsPart T directory a b) (named.asked.tree h) (c.in_err-export.ensures.part now),
      subst (λ (T : Tree). RefusesExport (HasMisfit T directory) why) (named.asked.tree h) (c.in_err-export.ensures.refused now),
    )

-- ---- what the output refused

pub returns-clause-heard : goal.returns-clause-heard
returns-clause-heard g c = c.in_ok-export.ensures.heard

pub returns-in_err-directory-clause-heard : goal.returns-in_err-directory-clause-heard
returns-in_err-directory-clause-heard g c =
    let r = c.from_residual.result in
    hears_none (Moves g.W.Outlet.took) (Refuses g.W.Outlet.took g.W.Outlet.refused) (blames_output r) (blame_export r (Path c.in_err-directory.field-0.0) c.from_residual.ensures.1) _ _ stays

pub returns-in_err-export-clause-heard : goal.returns-in_err-export-clause-heard
returns-in_err-export-clause-heard g c =
    let r = c.from_residual-in_err-export.result in
    let why = c.in_err-export.field-0.0 in
    hears_so (Moves g.W.Outlet.took) (Refuses g.W.Outlet.took g.W.Outlet.refused) (blames_output r) (is_stream why) (blame_export r (Stopped why) c.from_residual-in_err-export.ensures.1) _ _ _ stays c.in_err-export.ensures.heard
