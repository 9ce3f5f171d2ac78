use Rattle.std.proofs.Common.{ℕ, Bool, Result, Ok, ap, ◌∙◌, if◌then◌else◌}
use Rattle.vol_tree.specs.declared.errno.Errno.{Errno}
use Rattle.vol_tree.specs.Calls.{directory_removed, unlinked}
use Rattle.vol_commands.specs.Changes.{entry_removed}
use Rattle.vol_commands.proofs.Changed.{asked_first, means, refused_on}
use Rattle.vol_commands.proofs.Meant.{removed_directory, removed_file, stops}
use Rattle.vol_commands.specs.Tasks.{entry_named}
use Rattle.vol_tree.specs.Tree.{Tree}
use Rattle.vol_commands.proofs.changing.remove.Goals as goal

pub returns-then-is_directory : goal.returns-then-is_directory
returns-then-is_directory g c =
    let v = c.args.volume.now in
    let s = c.in_ok-serial.serial in
    let call = c.rmdir.ensures in
    let named = λ (b : Bool). let r : Result (ℕ × Bool) Errno = Ok (s, b) in r in
    means g.D.Device.honest g.D.Device.disk g.D.Device.size g.D.Device.failures g.D.Device.goes_on (λ T. directory_removed T s) (λ T. entry_removed T c.args.path.now) v c.rmdir.new.self c.rmdir.result
    (λ h. removed_directory v.tree c.args.path.now s (c.in_ok-serial.ensures.answer h ∙ ap named c.if-is_directory.true))
    (asked_first g.D.Device.honest g.D.Device.disk g.D.Device.size g.D.Device.failures g.D.Device.goes_on (λ T. directory_removed T s) v c.entry_named.new.volume c.rmdir.new.self c.rmdir.result c.in_ok-serial.ensures.asked
    (record { answer = call.answer; crash = call.crash; kept = call.kept; goes = call.goes_on }))

pub returns-else-is_directory : goal.returns-else-is_directory
returns-else-is_directory g c =
    let v = c.args.volume.now in
    let s = c.in_ok-serial.serial in
    let call = c.unlink.ensures in
    let named = λ (b : Bool). let r : Result (ℕ × Bool) Errno = Ok (s, b) in r in
    means g.D.Device.honest g.D.Device.disk g.D.Device.size g.D.Device.failures g.D.Device.goes_on (λ T. Ok (unlinked T s)) (λ T. entry_removed T c.args.path.now) v c.unlink.new.self c.unlink.result
    (λ h. removed_file v.tree c.args.path.now s (c.in_ok-serial.ensures.answer h ∙ ap named c.if-is_directory.false))
    (asked_first g.D.Device.honest g.D.Device.disk g.D.Device.size g.D.Device.failures g.D.Device.goes_on (λ T. Ok (unlinked T s)) v c.entry_named.new.volume c.unlink.new.self c.unlink.result c.in_ok-serial.ensures.asked
    (record { answer = call.answer; crash = call.crash; kept = call.kept; goes = call.goes_on }))

-- the path names nothing
pub returns-in_err-serial : goal.returns-in_err-serial
returns-in_err-serial g c =
    let next = λ (e : ℕ × Bool). let r : Result Tree Errno = if e.1 then directory_removed c.args.volume.now.tree e.0 else Ok (unlinked c.args.volume.now.tree e.0) in r in
    refused_on g.D.Device.honest g.D.Device.disk g.D.Device.size g.D.Device.failures g.D.Device.goes_on (λ T. entry_removed T c.args.path.now) c.args.volume.now c.entry_named.new.volume c.in_err-serial.field-0.0 c.from_residual.result
    c.in_err-serial.ensures.asked (λ h. stops (entry_named c.args.volume.now.tree c.args.path.now) next c.in_err-serial.field-0.0 (c.in_err-serial.ensures.answer h)) c.from_residual.ensures.1
