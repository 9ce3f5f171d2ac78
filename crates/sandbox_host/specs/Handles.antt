-- What memory a `Handle` owns: the box with the session or the module that it has. One that has nothing is a null
-- pointer.
use Rattle.std.specs.Prelude.{Option, None, Some}
use Rattle.std.specs.Coded.{coded_option}
use mir.Syntax.{Ty}
use base.Fml.{Fml, feq}
use base.Stored.{Coded}
use denote.RawPtr.{Ptr, null_ptr}
use Rattle.std.specs.Box.Ownership.{box_owns}
use Rattle.sandbox_host.specs.contracts.held.HandleContent.{the_row}

abbrev pub handle_owns : (Ty → Ptr → Fml) → Ptr → Option the_row.Denot → Fml
handle_owns token p None = feq Ptr p null_ptr
handle_owns token p (Some x) = box_owns token the_row p x

abbrev pub held_coded : Coded (Option the_row.Denot)
held_coded = coded_option the_row.coded
