use Rattle.sandbox_device.specs.Named.{was_not_overwritten}
use Rattle.sandbox_device.proofs.Told.{failing, told_of}
use Rattle.sandbox_device.proofs.replacing.overwrite.Goals as goal

pub returns-in_err-is_regular : goal.returns-in_err-is_regular
returns-in_err-is_regular g c = failing _ c.from_residual.result _ c.from_residual.ensures.1 (was_not_overwritten _)

pub returns-in_err-write_contents : goal.returns-in_err-write_contents
returns-in_err-write_contents g c = failing _ c.from_residual-in_err-write_contents.result _ c.from_residual-in_err-write_contents.ensures.1 (was_not_overwritten _)

pub returns-in_err-make_room : goal.returns-in_err-make_room
returns-in_err-make_room g c = failing _ c.from_residual-in_err-make_room.result _ c.from_residual-in_err-make_room.ensures.1 (was_not_overwritten _)

pub returns-in_err-write_contents-2 : goal.returns-in_err-write_contents-2
returns-in_err-write_contents-2 g c = failing _ c.from_residual-in_err-write_contents-2.result _ c.from_residual-in_err-write_contents-2.ensures.1 (was_not_overwritten _)

pub returns-in_err-stream_position : goal.returns-in_err-stream_position
returns-in_err-stream_position g c = failing _ c.from_residual-in_err-stream_position.result _ c.from_residual-in_err-stream_position.ensures.1 (was_not_overwritten _)

pub returns-in_err-set_len : goal.returns-in_err-set_len
returns-in_err-set_len g c = failing _ c.from_residual-in_err-set_len.result _ c.from_residual-in_err-set_len.ensures.1 (was_not_overwritten _)

pub returns : goal.returns
returns g c = told_of _ (λ done. c.in_ok-write_contents-2.ensures) (λ e. was_not_overwritten _)
