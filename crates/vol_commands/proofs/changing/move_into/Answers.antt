use Rattle.std.proofs.Common.{◌≡◌, ◌&&◌, not, false, sym, arith, inr}
use Rattle.std.proofs.lemmas.Grind.{common_steps}
use Rattle.vol_tree.specs.Calls.{renamed}
use Rattle.path_walk.specs.Paths.{Missing}
use Rattle.vol_commands.specs.Changes.{moved_to}
use Rattle.vol_commands.proofs.Changed.{asked_first, means, refused_on}
use Rattle.vol_commands.proofs.Meant.{into_done}
use Rattle.vol_commands.proofs.changing.move_into.Goals.{else-wants_dir-via-then-wants_dir+else-not-is_directory, else-wants_dir-via-else-wants_dir}
use Rattle.vol_commands.proofs.changing.move_into.Goals as goal

pub returns : goal.returns
returns g c =
    let v = c.args.volume.now in
    let s = c.args.source in
    let name = c.args.name.now in
    let wants = c.args.wants_dir in
    let d = c.in_ok-is_directory.is_directory in
    let call = c.rename.ensures in
    let may : (wants && not d) ≡ false = elim c.else-wants_dir.branch [
      | else-wants_dir-via-then-wants_dir+else-not-is_directory w ↦ grind (arith, common_steps)
      | else-wants_dir-via-else-wants_dir w ↦ grind (arith, common_steps)
    ] in
    means g.D.Device.honest g.D.Device.disk g.D.Device.size g.D.Device.failures g.D.Device.goes_on (λ T. renamed T s c.args.parent name) (λ T. moved_to T s (Missing c.args.parent name, wants)) v c.rename.new.self c.rename.result
    (λ h. into_done v.tree s c.args.parent name wants d (sym (c.in_ok-is_directory.ensures.answer h)) may)
    (asked_first g.D.Device.honest g.D.Device.disk g.D.Device.size g.D.Device.failures g.D.Device.goes_on (λ T. renamed T s c.args.parent name) v c.is_directory.new.volume c.rename.new.self c.rename.result c.in_ok-is_directory.ensures.asked
    (record { answer = call.answer; crash = call.crash; kept = call.kept; goes = call.goes_on }))

-- the device failed
pub returns-in_err-is_directory : goal.returns-in_err-is_directory
returns-in_err-is_directory g c =
    refused_on g.D.Device.honest g.D.Device.disk g.D.Device.size g.D.Device.failures g.D.Device.goes_on (λ T. moved_to T c.args.source (Missing c.args.parent c.args.name.now, c.args.wants_dir)) c.args.volume.now c.is_directory.new.volume c.in_err-is_directory.field-0.0 c.from_residual.result
    c.in_err-is_directory.ensures.asked (λ h. inr (c.in_err-is_directory.ensures.answer h)) c.from_residual.ensures.1
