-- What calls that write bytes do after their checks. `written_on` serves a write with append too, since the code takes
-- such a file to stand at its end.
use Rattle.std.specs.Prelude.{ℕ, ◌+◌, ◌==◌, List, Ok, if◌then◌else◌}
use Rattle.byteorder.specs.Endian.{little_bytes}
use Rattle.wasi_fd.specs.declared.descriptor.Descriptor.{Descriptor}
use Rattle.wasi_fd.specs.declared.descriptor.Opened.{Opened}
use Rattle.wasi_bodies.specs.World.{World, with_descriptor, moved_to}
use Rattle.wasi_bodies.specs.Checks.{Checked, Done, ◌>>=◌, with_result}
use Rattle.wasi_bodies.specs.files.Rows.{file_write, write_to}

-- the bytes at a place of a file
abbrev pub written_at_offset : World → Opened → ℕ → List ℕ → ℕ → Checked Done
written_at_offset w o at bytes result = do
  r ← file_write w o at bytes
  Ok (with_result r.0 result (little_bytes 4 r.1))

-- the bytes where a file stands, which moves after them
abbrev pub written_on : World → ℕ → Opened → List ℕ → ℕ → Checked Done
written_on w fd o bytes result = do
  r ← file_write w o o.position bytes
  Ok (with_result (if r.1 == 0 then r.0 else with_descriptor fd (moved_to o (o.position + r.1)) r.0) result (little_bytes 4 r.1))

-- the bytes to what a number stands for
abbrev pub written_to : World → ℕ → Descriptor → List ℕ → ℕ → Checked Done
written_to w fd d bytes result = do
  r ← write_to w fd d bytes
  Ok (with_result r.0 result (little_bytes 4 r.1))
