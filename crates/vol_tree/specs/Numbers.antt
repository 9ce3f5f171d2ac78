-- The number that WASI preview 1 has for each `Errno`, which `Errno::number` gives. The variants of 25, 37, 44 and 76
-- are for callers that go by paths (such as `path_walk`), and no call of `docs/VOLUME.md`, "The tree", answers them.
use Rattle.std.specs.Prelude.{ℕ}
use Rattle.vol_tree.specs.declared.errno.Errno.{Errno}
use Rattle.vol_tree.specs.declared.errno.Errno.TheVariants.{Exist, TooBig, BadText, Invalid, Io, IsDirectory, NameTooLong, NotFound, NoSpace, NotDirectory, NotEmpty, NotCapable}

abbrev pub number_of : Errno → ℕ
number_of Exist = 20
number_of TooBig = 22
number_of BadText = 25
number_of Invalid = 28
number_of Io = 29
number_of IsDirectory = 31
number_of NameTooLong = 37
number_of NotFound = 44
number_of NoSpace = 51
number_of NotDirectory = 54
number_of NotEmpty = 55
number_of NotCapable = 76
