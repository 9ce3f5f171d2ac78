-- When two worlds are the same for a guest. The descriptor of a preopened directory refers to the name that the guest knows
-- it by: a call reads the name, and never where it stands in the host's memory.
use Rattle.std.specs.Prelude.{◌≡◌, ℕ, List}
use Rattle.std.specs.Option.{option_map}
use Rattle.std.specs.Borrow.{Bor}
use Rattle.wasi_fd.specs.declared.descriptor.Descriptor.{Descriptor}
use Rattle.wasi_fd.specs.declared.descriptor.Descriptor.TheVariants.{Stream, Entry}
use Rattle.wasi_fd.specs.declared.descriptor.Opened.{Opened}
use Rattle.wasi_bodies.specs.World.{World}

-- the same name, wherever it stands
abbrev pub unplaced_name : Bor (List ℕ) → Bor (List ℕ)
unplaced_name name = record name { ref_ptr = (0, 0) }

abbrev pub unplaced_entry : Opened → Opened
unplaced_entry o = record o { guest_name = option_map unplaced_name o.guest_name }

abbrev pub unplaced : Descriptor → Descriptor
unplaced (Stream s) = Stream s
unplaced (Entry o) = Entry (unplaced_entry o)

-- the same world, wherever the names of its directories stand
abbrev pub unplaced_world : World → World
unplaced_world w = record w { table = λ n. option_map unplaced (w.table n) }

abbrev pub IsSameWorld : World → World → Type 0
IsSameWorld w v = unplaced_world w ≡ unplaced_world v
