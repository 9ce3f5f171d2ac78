-- No check before the walks of an opening or a rename answers 29.
use Rattle.std.proofs.Common.{◌≢◌, ℕ, ◌^◌, List, Err, refl}
use Rattle.wasi_bodies.specs.declared.checks.DescriptorKinds.TheVariants as takes
use Rattle.wasi_paths.specs.declared.paths.opening.OpenCall.{OpenCall}
use Rattle.wasi_paths.specs.declared.paths.renaming.RenameCall.{RenameCall}
use Rattle.wasi_bodies.specs.World.{World}
use Rattle.wasi_bodies.specs.Checks.{guard, get, of_kind, has, opened_entry, entry_at, only_directories, range}
use Rattle.wasi_bodies.specs.paths.Rows.{open_rights}
use Rattle.wasi_paths.specs.internal.paths.Opening.{flags_checked, open_entered}
use Rattle.wasi_paths.specs.internal.paths.Renaming.{rename_allowed, rename_entered}
use Rattle.wasi_bodies.proofs.bodies.VolumeCalls.{never_after}
use Rattle.wasi_bodies.proofs.checks.NoneAnswers29.{guards, ends_never, get_never, kind_never, opened_never, entry_never, range_never}

flags_never : (oflags fdflags : ℕ) → flags_checked oflags fdflags ≢ Err 29
flags_never oflags fdflags =
    never_after (guard _ 28) _ (guards _ 28 refl) (λ _ _. never_after (guard _ 28) _ (guards _ 28 refl) (λ _ _. guards _ 58 refl))

pub open_entered_never : (m : List ℕ) (a : OpenCall) (w : World) → open_entered w m a ≢ Err 29
open_entered_never m a w =
    never_after (entry_at w a.fd only_directories (open_rights a.oflags)) _ (entry_never a.fd takes.Directories (open_rights a.oflags) w)
    (λ o _. never_after (flags_checked a.oflags a.fdflags) _ (flags_never a.oflags a.fdflags)
    (λ _ _. never_after (range m a.path a.len) _ (range_never m a.path a.len)
    (λ _ _. never_after (range m a.result_at 4) _ (range_never m a.result_at 4) (λ _ _. ends_never o))))

allowed_never : (a : RenameCall) (w : World) → rename_allowed w a ≢ Err 29
allowed_never a w =
    never_after (get w a.from_fd) _ (get_never w a.from_fd)
    (λ d _. never_after (get w a.to_fd) _ (get_never w a.to_fd)
    (λ e _. never_after (of_kind only_directories d) _ (kind_never takes.Directories d)
    (λ _ _. never_after (of_kind only_directories e) _ (kind_never takes.Directories e)
    (λ _ _. never_after (guard (has d (2 ^ 16)) 76) _ (guards _ 76 refl)
    (λ _ _. never_after (guard (has e (2 ^ 17)) 76) _ (guards _ 76 refl) (λ _ _. ends_never (d, e)))))))

pub rename_entered_never : (m : List ℕ) (a : RenameCall) (w : World) → rename_entered w m a ≢ Err 29
rename_entered_never m a w =
    never_after (rename_allowed w a) _ (allowed_never a w)
    (λ both _. never_after (range m a.from_path a.from_len) _ (range_never m a.from_path a.from_len)
    (λ _ _. never_after (range m a.to_path a.to_len) _ (range_never m a.to_path a.to_len)
    (λ _ _. never_after (opened_entry both.0) _ (opened_never both.0)
    (λ from _. never_after (opened_entry both.1) _ (opened_never both.1) (λ to _. ends_never (from, to))))))
