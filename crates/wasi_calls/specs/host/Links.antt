-- Which calls there are, by the names and types of WASI preview 1. A name of `wasi_snapshot_preview1` that isn't listed
-- links too where its type gives one i32, and such a call answers `nosys`.
use Rattle.std.specs.Prelude.{ℕ, Bool, not, ◌&&◌, List, [], ◌∷◌, ◌++◌, map, Option, Some, None, if◌then◌else◌, codes, bytes_eq}
use Rattle.std.specs.List.{find}
use Rattle.std.specs.Option.{option_map_or}
use Rattle.wasm_syntax.specs.declared.instruction.ValueType.{ValueType}
use Rattle.wasm_syntax.specs.declared.instruction.ValueType.TheVariants.{I32, I64, F32, F64}
use Rattle.wasm_syntax.specs.declared.module.FuncType.{FuncType}
use Rattle.wasm_store.specs.declared.call.HostCall.{HostCall}
use Rattle.wasm_store.specs.declared.call.HostCall.TheVariants as call

-- A call of the list: its name, the types of its parameters and of its results (`i` is i32, `I` is i64), and which it is.
abbrev pub Listed : Type 0
Listed = List ℕ × List ℕ × List ℕ × HostCall

-- texts, clocks, random bytes and the end
abbrev pub supply_calls : List Listed
supply_calls =
    (codes "args_sizes_get", codes "ii", codes "i", call.ArgsSizesGet)
    ∷ (codes "args_get", codes "ii", codes "i", call.ArgsGet)
    ∷ (codes "environ_sizes_get", codes "ii", codes "i", call.EnvironSizesGet)
    ∷ (codes "environ_get", codes "ii", codes "i", call.EnvironGet)
    ∷ (codes "clock_res_get", codes "ii", codes "i", call.ClockResGet)
    ∷ (codes "clock_time_get", codes "iIi", codes "i", call.ClockTimeGet)
    ∷ (codes "random_get", codes "ii", codes "i", call.RandomGet)
    ∷ (codes "proc_exit", codes "i", codes "", call.ProcExit) ∷ []

-- what descriptors are, and where they stand
abbrev pub descriptor_calls : List Listed
descriptor_calls =
    (codes "fd_close", codes "i", codes "i", call.FdClose)
    ∷ (codes "fd_fdstat_get", codes "ii", codes "i", call.FdFdstatGet)
    ∷ (codes "fd_filestat_get", codes "ii", codes "i", call.FdFilestatGet)
    ∷ (codes "fd_filestat_set_size", codes "iI", codes "i", call.FdFilestatSetSize)
    ∷ (codes "fd_prestat_get", codes "ii", codes "i", call.FdPrestatGet)
    ∷ (codes "fd_prestat_dir_name", codes "iii", codes "i", call.FdPrestatDirName)
    ∷ (codes "fd_seek", codes "iIii", codes "i", call.FdSeek)
    ∷ (codes "fd_tell", codes "ii", codes "i", call.FdTell) ∷ []

-- bytes of files and streams, and lists of directories
abbrev pub byte_calls : List Listed
byte_calls =
    (codes "fd_read", codes "iiii", codes "i", call.FdRead)
    ∷ (codes "fd_pread", codes "iiiIi", codes "i", call.FdPread)
    ∷ (codes "fd_write", codes "iiii", codes "i", call.FdWrite)
    ∷ (codes "fd_pwrite", codes "iiiIi", codes "i", call.FdPwrite)
    ∷ (codes "fd_sync", codes "i", codes "i", call.FdSync)
    ∷ (codes "fd_datasync", codes "i", codes "i", call.FdDatasync)
    ∷ (codes "fd_readdir", codes "iiiIi", codes "i", call.FdReaddir) ∷ []

-- calls on paths
abbrev pub path_calls : List Listed
path_calls =
    (codes "path_create_directory", codes "iii", codes "i", call.PathCreateDirectory)
    ∷ (codes "path_filestat_get", codes "iiiii", codes "i", call.PathFilestatGet)
    ∷ (codes "path_open", codes "iiiiiIIii", codes "i", call.PathOpen)
    ∷ (codes "path_remove_directory", codes "iii", codes "i", call.PathRemoveDirectory)
    ∷ (codes "path_rename", codes "iiiiii", codes "i", call.PathRename)
    ∷ (codes "path_unlink_file", codes "iii", codes "i", call.PathUnlinkFile) ∷ []

-- all calls
abbrev pub calls : List Listed
calls = supply_calls ++ (descriptor_calls ++ (byte_calls ++ path_calls))

-- the letters `i`, `I`, `f` and `F`; no call has floats
abbrev pub letter_of : ValueType → ℕ
letter_of I32 = 105
letter_of I64 = 73
letter_of F32 = 102
letter_of F64 = 70

-- these are the types that the letters say
abbrev pub are_types : List ℕ → List ValueType → Bool
are_types letters types = bytes_eq letters (map letter_of types)

-- The call of this module name, name and type. A listed call of another type is none; any other name with one i32 result
-- is a call that answers that there is none such.
abbrev pub link : List ℕ → List ℕ → FuncType → Option HostCall
link module_name name t =
    if not (bytes_eq module_name (codes "wasi_snapshot_preview1")) then None else
    option_map_or (λ (c : Listed). if are_types c.1 t.params && are_types c.2 t.results then Some c.3 else None)
    (find (λ (c : Listed). bytes_eq name c.0) calls)
    (if are_types (codes "i") t.results then Some call.Nosys else None)
