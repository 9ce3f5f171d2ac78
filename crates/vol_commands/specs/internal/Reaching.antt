-- What the functions that find the entry of a path answer: what their definition in `Tasks` says, or errno 29.
-- `Answered` is in the contracts of `serial_named`, `entry_named`, `directory_named` and `file_named`, for an honest
-- device.
use Rattle.std.specs.Prelude.{◌≡◌, ◌⊎◌, Result, Ok, Err}
use Rattle.vol_tree.specs.declared.errno.Errno.{Errno}
use Rattle.vol_tree.specs.declared.errno.Errno.TheVariants as errno

abbrev pub Answered : {X : Type 0} → Result X Errno → Result X Errno → Type 0
Answered meant (Ok x) = meant ≡ Ok x
Answered meant (Err e) = (meant ≡ Err e) ⊎ (e ≡ errno.Io)
