use Rattle.std.proofs.Common.{inl, refl, Err}
use Rattle.vol_tar.proofs.Moments.{any_after, any_same}
use Rattle.vol_commands.specs.Replacing.{IsPartOfWhole, IsRemovalPart}
use Rattle.vol_commands.specs.Tasks.{IsPartOfPut}
use Rattle.vol_commands.proofs.Replaced.{moved_part, put_part, taken_part}
use Rattle.vol_tree.proofs.GoingOn.{goes_then}
use Rattle.stream_answers.specs.Hearing.{Moves}
use Rattle.vol_commands.proofs.Blamed.{behind, exactly, unblamed}
use Rattle.vol_commands.proofs.replacing.write_beside.Goals as goal

pub returns-in-Ok-clause-crash : goal.returns-in-Ok-clause-crash
returns-in-Ok-clause-crash g c h =
    let v = c.args.volume.now in
    let P = c.put.new.volume in
    let disk = g.D.Device.disk in
    let before = g.R.Read.remaining c.args.input.now in
    let beside = c.args.beside.now in
    let path = c.args.path.now in
    let these = IsPartOfWhole v.numbers v.tree beside path before in
    let part = put_part v.numbers v.tree P.tree beside before (g.R.Read.remaining c.put.new.input) c.put.result (c.put.ensures.puts h) in
    let first = any_after (disk v.device) v.numbers these (disk v.device) (disk P.device) v.numbers (IsPartOfPut v.numbers v.tree beside before) refl (λ U some. inl some) (any_same (disk v.device) v.numbers these) (c.put.ensures.crash h) in
    any_after (disk v.device) v.numbers these (disk P.device) (disk c.change_tree.new.volume.device) P.numbers _ c.put.ensures.kept.numbers
    (λ U next. moved_part v.numbers v.tree P.tree U beside path before part next) first (c.change_tree.ensures.crash (c.put.ensures.kept.honest.0 h))

pub returns-in-Err-clause-crash : goal.returns-in-Err-clause-crash
returns-in-Err-clause-crash g c h =
    let v = c.args.volume.now in
    let disk = g.D.Device.disk in
    let before = g.R.Read.remaining c.args.input.now in
    let these = IsPartOfWhole v.numbers v.tree c.args.beside.now c.args.path.now before in
    any_after (disk v.device) v.numbers these (disk v.device) (disk c.put.new.volume.device) v.numbers (IsPartOfPut v.numbers v.tree c.args.beside.now before) refl (λ U some. inl some) (any_same (disk v.device) v.numbers these) (c.put.ensures.crash h)

pub returns-in-Err-2-clause-crash : goal.returns-in-Err-2-clause-crash
returns-in-Err-2-clause-crash g c h =
    let v = c.args.volume.now in
    let P = c.put.new.volume in
    let disk = g.D.Device.disk in
    let before = g.R.Read.remaining c.args.input.now in
    let beside = c.args.beside.now in
    let path = c.args.path.now in
    let these = IsPartOfWhole v.numbers v.tree beside path before in
    let part = put_part v.numbers v.tree P.tree beside before (g.R.Read.remaining c.put.new.input) c.put.result (c.put.ensures.puts h) in
    let first = any_after (disk v.device) v.numbers these (disk v.device) (disk P.device) v.numbers (IsPartOfPut v.numbers v.tree beside before) refl (λ U some. inl some) (any_same (disk v.device) v.numbers these) (c.put.ensures.crash h) in
    any_after (disk v.device) v.numbers these (disk P.device) (disk c.take_back.new.volume.device) P.numbers (IsRemovalPart P.tree beside) c.put.ensures.kept.numbers
    (λ U next. taken_part v.numbers v.tree P.tree U beside path before part next) first (c.take_back.ensures.crash (c.put.ensures.kept.honest.0 h))

pub returns-in-Ok-clause-goes_on : goal.returns-in-Ok-clause-goes_on
returns-in-Ok-clause-goes_on g c = goes_then g.D.Device.goes_on c.args.volume.now c.put.new.volume c.change_tree.new.volume c.put.ensures.kept.numbers c.put.ensures.goes_on c.change_tree.ensures.goes_on

pub returns-in-Err-2-clause-goes_on : goal.returns-in-Err-2-clause-goes_on
returns-in-Err-2-clause-goes_on g c = goes_then g.D.Device.goes_on c.args.volume.now c.put.new.volume c.take_back.new.volume c.put.ensures.kept.numbers c.put.ensures.goes_on c.take_back.ensures.goes_on

pub returns-in-Ok-clause-heard : goal.returns-in-Ok-clause-heard
returns-in-Ok-clause-heard g c = unblamed (Moves g.R.Inlet.gave) g.R.Inlet.refused c.change_tree.result c.change_tree.ensures.unblamed _ _ c.in-Ok.ensures.heard

pub returns-in-Err-clause-heard : goal.returns-in-Err-clause-heard
returns-in-Err-clause-heard g c = exactly (Moves g.R.Inlet.gave) g.R.Inlet.refused (Err c.in-Err.failure) _ _ c.in-Err.ensures.heard

pub returns-in-Err-2-clause-heard : goal.returns-in-Err-2-clause-heard
returns-in-Err-2-clause-heard g c = behind (Moves g.R.Inlet.gave) g.R.Inlet.refused c.in-Err.failure c.take_back.result c.take_back.ensures.unblamed _ _ c.in-Err.ensures.heard
