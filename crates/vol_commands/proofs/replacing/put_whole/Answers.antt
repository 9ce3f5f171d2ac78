use Rattle.std.proofs.Common.{◌∙◌, refl}
use Rattle.vol_log.proofs.Moments.{leaves_any}
use Rattle.vol_tar.proofs.Moments.{any_after}
use Rattle.vol_commands.specs.Replacing.{IsPartOfWhole, path_beside}
use Rattle.vol_commands.proofs.Replaced.{whole_same}
use Rattle.vol_tree.proofs.GoingOn.{goes_then}
use Rattle.stream_answers.specs.Hearing.{Moves, stays}
use Rattle.vol_commands.proofs.Blamed.{blame, unblamed}
use Rattle.vol_commands.specs.declared.failure.Failure.TheVariants.{Tree}
use Rattle.vol_commands.proofs.replacing.put_whole.Goals as goal

pub returns-in-Ok-clause-crash : goal.returns-in-Ok-clause-crash
returns-in-Ok-clause-crash g c h =
    let v = c.args.volume.now in
    let M = c.ask_place.new.volume in
    let disk = g.D.Device.disk in
    let before = g.R.Read.remaining c.args.input.now in
    let path = c.args.path.now in
    let these = IsPartOfWhole v.numbers v.tree (path_beside path) path before in
    let asked = c.in_ok-ask_place.ensures.asked in
    any_after (disk v.device) v.numbers these (disk M.device) (disk c.write_beside.new.volume.device) M.numbers (IsPartOfWhole M.numbers M.tree c.as_str.result.now path before) asked.kept.numbers
    (λ U part. whole_same v.numbers M.numbers v.tree M.tree (path_beside path) c.as_str.result.now path before U asked.kept.numbers (asked.tree h) (c.as_str.ensures.value ∙ c.in-Ok.ensures) part)
    (leaves_any (disk v.device) (disk M.device) _ (asked.crash h)) (c.write_beside.ensures.crash (asked.kept.honest.0 h))

pub returns-in-Ok-clause-goes_on : goal.returns-in-Ok-clause-goes_on
returns-in-Ok-clause-goes_on g c = goes_then g.D.Device.goes_on c.args.volume.now c.ask_place.new.volume c.write_beside.new.volume c.in_ok-ask_place.ensures.asked.kept.numbers c.in_ok-ask_place.ensures.asked.goes c.write_beside.ensures.goes_on

pub returns-in_err-ask_place-clause-heard : goal.returns-in_err-ask_place-clause-heard
returns-in_err-ask_place-clause-heard g c =
    unblamed (Moves g.R.Inlet.gave) g.R.Inlet.refused c.from_residual.result (blame c.from_residual.result (Tree c.in_err-ask_place.field-0.0) c.from_residual.ensures.1) _ _ stays

pub returns-in-Err-clause-heard : goal.returns-in-Err-clause-heard
returns-in-Err-clause-heard g c = unblamed (Moves g.R.Inlet.gave) g.R.Inlet.refused _ refl _ _ stays
