-- Which number an open file has (`docs/USING.md`, "Files"): none of the three that the standard streams have, whether
-- those are open or closed.
use Rattle.std.specs.Prelude.{pos, ◌≤ℤ◌}
use Rattle.std.specs.declared.fs.File.{File}
use Rattle.std.specs.Fd.{file_raw_fd}

abbrev pub StandsApart : File → Type 0
StandsApart file = pos 3 ≤ℤ file_raw_fd file
