use Rattle.vol_commands.proofs.Brought.{part_left}
use Rattle.vol_log.proofs.Moments.{leaves_any}
use Rattle.std.proofs.Common.{false, subst}
use Rattle.vol_tree.specs.Tree.{Tree}
use Rattle.vol_tree.specs.declared.superblock.Superblock.{Superblock}
use Rattle.vol_tree.specs.Opened.{geometry}
use Rattle.vol_tar.specs.Import.{Imports, is_stream}
use Rattle.vol_tar.proofs.Kept.{keeps_then}
use Rattle.vol_tree.proofs.GoingOn.{goes_then}
use Rattle.stream_answers.specs.Hearing.{Moves, stays}
use Rattle.vol_tar.proofs.Blamed.{hears_none, hears_so}
use Rattle.vol_commands.proofs.Blamed.{blame_import}
use Rattle.vol_commands.specs.Importing.{blames_input}
use Rattle.vol_commands.specs.declared.importing.ImportFailure.TheVariants.{Path, Halted}
use Rattle.vol_commands.proofs.importing.bring.Goals as goal

pub returns-clause-crash : goal.returns-clause-crash
returns-clause-crash g c =
    part_left g.D.Device.honest g.D.Device.disk g.D.Device.size g.D.Device.failures g.D.Device.goes_on c.args.volume.now c.directory_named.new.volume c.import.new.volume c.args.path.now c.in_ok-directory.directory (g.R.Read.remaining c.args.input.now)
    c.in_ok-directory.ensures.asked c.in_ok-directory.ensures.answer c.in_ok-import.ensures.crash

pub returns-in_err-import-clause-crash : goal.returns-in_err-import-clause-crash
returns-in_err-import-clause-crash g c =
    part_left g.D.Device.honest g.D.Device.disk g.D.Device.size g.D.Device.failures g.D.Device.goes_on c.args.volume.now c.directory_named.new.volume c.import.new.volume c.args.path.now c.in_ok-directory.directory (g.R.Read.remaining c.args.input.now)
    c.in_ok-directory.ensures.asked c.in_ok-directory.ensures.answer c.in_err-import.ensures.crash

pub returns-in_err-directory-clause-crash : goal.returns-in_err-directory-clause-crash
returns-in_err-directory-clause-crash g c h = leaves_any (g.D.Device.disk c.args.volume.now.device) (g.D.Device.disk c.directory_named.new.volume.device) _ (c.in_err-directory.ensures.asked.crash h)

pub returns-clause-kept : goal.returns-clause-kept
returns-clause-kept g c =
    keeps_then g.D.Device.honest g.D.Device.size g.D.Device.failures c.args.volume.now c.directory_named.new.volume c.import.new.volume false c.in_ok-directory.ensures.asked.kept c.in_ok-import.ensures.kept

pub returns-clause-durable : goal.returns-clause-durable
returns-clause-durable g c h = c.in_ok-import.ensures.durable (c.in_ok-directory.ensures.asked.kept.honest.0 h)

pub returns-clause-brings : goal.returns-clause-brings
returns-clause-brings g c h =
    let named = c.in_ok-directory.ensures in
    let N = c.directory_named.new.volume in
    let directory = c.in_ok-directory.directory in
    let imported = λ (v : Superblock) (T : Tree). Imports (geometry v) T directory (g.R.Read.remaining c.args.input.now) (g.R.Read.remaining c.import.new.input) c.in_ok-import.field-0 c.import.new.volume.tree in (
      directory,
      named.answer h,
      subst (λ (v : Superblock). imported v c.args.volume.now.tree) named.asked.kept.numbers (subst (λ (T : Tree). imported N.numbers T) (named.asked.tree h) (c.in_ok-import.ensures.imports (named.asked.kept.honest.0 h))),
    )

pub returns-clause-goes_on : goal.returns-clause-goes_on
returns-clause-goes_on g c = goes_then g.D.Device.goes_on c.args.volume.now c.directory_named.new.volume c.import.new.volume c.in_ok-directory.ensures.asked.kept.numbers c.in_ok-directory.ensures.asked.goes c.in_ok-import.ensures.goes_on

pub returns-in_err-import-clause-goes_on : goal.returns-in_err-import-clause-goes_on
returns-in_err-import-clause-goes_on g c = goes_then g.D.Device.goes_on c.args.volume.now c.directory_named.new.volume c.import.new.volume c.in_ok-directory.ensures.asked.kept.numbers c.in_ok-directory.ensures.asked.goes c.in_err-import.ensures.goes_on

pub returns-in_err-directory-clause-heard : goal.returns-in_err-directory-clause-heard
returns-in_err-directory-clause-heard g c =
    let r = c.from_residual.result in
    hears_none (Moves g.R.Inlet.gave) g.R.Inlet.refused (blames_input r) (blame_import r (Path c.in_err-directory.field-0.0) c.from_residual.ensures.1) _ _ stays

pub returns-in_err-import-clause-heard : goal.returns-in_err-import-clause-heard
returns-in_err-import-clause-heard g c =
    let r = c.from_residual-in_err-import.result in
    let halted = c.in_err-import.field-0.0 in
    hears_so (Moves g.R.Inlet.gave) g.R.Inlet.refused (blames_input r) (is_stream halted.refusal.why) (blame_import r (Halted halted) c.from_residual-in_err-import.ensures.1) _ _ _ stays c.in_err-import.ensures.heard

pub returns-clause-heard : goal.returns-clause-heard
returns-clause-heard g c = c.in_ok-import.ensures.heard
