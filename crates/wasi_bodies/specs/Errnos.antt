-- The error numbers by which rows refuse, and 0 (`errno` of WASI preview 1): a row names the reason and not its number.
-- What a path or the tree refuses by itself has its number from `number_of` of `vol_tree`, which may have no name here.
use Rattle.std.specs.Prelude.{ℕ}

abbrev pub SUCCESS : ℕ
SUCCESS = 0

abbrev pub AGAIN : ℕ
AGAIN = 6

abbrev pub BADF : ℕ
BADF = 8

abbrev pub BUSY : ℕ
BUSY = 10

abbrev pub EXIST : ℕ
EXIST = 20

abbrev pub FAULT : ℕ
FAULT = 21

abbrev pub INVAL : ℕ
INVAL = 28

abbrev pub IO : ℕ
IO = 29

abbrev pub ISDIR : ℕ
ISDIR = 31

abbrev pub MFILE : ℕ
MFILE = 33

abbrev pub NAMETOOLONG : ℕ
NAMETOOLONG = 37

abbrev pub NOENT : ℕ
NOENT = 44

abbrev pub NOSYS : ℕ
NOSYS = 52

abbrev pub NOTDIR : ℕ
NOTDIR = 54

abbrev pub NOTEMPTY : ℕ
NOTEMPTY = 55

abbrev pub NOTSUP : ℕ
NOTSUP = 58

abbrev pub OVERFLOW : ℕ
OVERFLOW = 61

abbrev pub SPIPE : ℕ
SPIPE = 70

abbrev pub NOTCAPABLE : ℕ
NOTCAPABLE = 76
