use Rattle.sandbox_device.specs.FileEvidence.{was_refused}
use Rattle.sandbox_device.proofs.Told.{on_err}
use Rattle.sandbox_device.proofs.opening.share_lock.Goals as goal

pub returns-in_err-try_lock_shared : goal.returns-in_err-try_lock_shared
returns-in_err-try_lock_shared c = on_err c.from_residual.result (was_refused _ _)
