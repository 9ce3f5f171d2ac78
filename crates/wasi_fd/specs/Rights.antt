-- The rights of descriptors, as numbers (`rights` of WASI preview 1). A right that no row of `wasi_calls` asks for has
-- no name, and the sums at the end are what an open file or directory can be asked for.
use Rattle.std.specs.Prelude.{ℕ, ◌+◌, ◌^◌}
use Rattle.wasi_fd.specs.declared.rights.Rights.{Rights}

abbrev pub bits_of : Rights → ℕ
bits_of r = r.0

-- each right, by its bit
abbrev pub FD_DATASYNC : ℕ
FD_DATASYNC = 2 ^ 0

abbrev pub FD_READ : ℕ
FD_READ = 2 ^ 1

abbrev pub FD_SEEK : ℕ
FD_SEEK = 2 ^ 2

abbrev pub FD_SYNC : ℕ
FD_SYNC = 2 ^ 4

abbrev pub FD_TELL : ℕ
FD_TELL = 2 ^ 5

abbrev pub FD_WRITE : ℕ
FD_WRITE = 2 ^ 6

abbrev pub PATH_CREATE_DIRECTORY : ℕ
PATH_CREATE_DIRECTORY = 2 ^ 9

abbrev pub PATH_CREATE_FILE : ℕ
PATH_CREATE_FILE = 2 ^ 10

abbrev pub PATH_OPEN : ℕ
PATH_OPEN = 2 ^ 13

abbrev pub FD_READDIR : ℕ
FD_READDIR = 2 ^ 14

abbrev pub PATH_RENAME_SOURCE : ℕ
PATH_RENAME_SOURCE = 2 ^ 16

abbrev pub PATH_RENAME_TARGET : ℕ
PATH_RENAME_TARGET = 2 ^ 17

abbrev pub PATH_FILESTAT_GET : ℕ
PATH_FILESTAT_GET = 2 ^ 18

abbrev pub PATH_FILESTAT_SET_SIZE : ℕ
PATH_FILESTAT_SET_SIZE = 2 ^ 19

abbrev pub FD_FILESTAT_GET : ℕ
FD_FILESTAT_GET = 2 ^ 21

abbrev pub FD_FILESTAT_SET_SIZE : ℕ
FD_FILESTAT_SET_SIZE = 2 ^ 22

abbrev pub PATH_REMOVE_DIRECTORY : ℕ
PATH_REMOVE_DIRECTORY = 2 ^ 25

abbrev pub PATH_UNLINK_FILE : ℕ
PATH_UNLINK_FILE = 2 ^ 26

-- what an open file can be asked for
abbrev pub file_rights : ℕ
file_rights = FD_DATASYNC + FD_READ + FD_SEEK + FD_SYNC + FD_TELL + FD_WRITE + FD_FILESTAT_GET + FD_FILESTAT_SET_SIZE

-- what an open directory can be asked for
abbrev pub directory_rights : ℕ
directory_rights =
    FD_DATASYNC + FD_SYNC + FD_READDIR + FD_FILESTAT_GET + PATH_CREATE_DIRECTORY + PATH_CREATE_FILE + PATH_OPEN + PATH_RENAME_SOURCE
    + PATH_RENAME_TARGET + PATH_FILESTAT_GET + PATH_FILESTAT_SET_SIZE + PATH_REMOVE_DIRECTORY + PATH_UNLINK_FILE

-- those of files and of directories
abbrev pub all_rights : ℕ
all_rights = directory_rights + FD_READ + FD_SEEK + FD_TELL + FD_WRITE + FD_FILESTAT_SET_SIZE
