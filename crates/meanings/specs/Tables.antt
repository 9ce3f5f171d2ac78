-- The register: what each number means (`docs/USING.md`, "Faults", "Traps", "Errnos"). `fault_text` and its like are what
-- the program, its reports and the library say for a number; other crates cite them, and the rows stand here alone.
use Rattle.std.specs.Prelude.{◌==◌, ℕ, List, [], ◌∷◌, find, codes}
use Rattle.std.specs.Option.{option_map_or}
use Rattle.meanings.specs.declared.tables.Meaning.{Meaning}

abbrev pub Text : Type 0
Text = List ℕ

-- the text of a number in a table, or none
unfoldable pub text_in : List Meaning → ℕ → Text
text_in table number = option_map_or (λ row. row.text.now) (find (λ row. row.number == number) table) []

-- the text of the row of this number, or none
abbrev pub text_at : List (ℕ × Text) → ℕ → Text
text_at rows number = option_map_or (λ row. row.1) (find (λ row. row.0 == number) rows) []

-- the faults
unfoldable pub faults : List (ℕ × Text)
faults = (1, codes "the module ends too early")
    ∷ (2, codes "the module's first four bytes are not 00 61 73 6D")
    ∷ (3, codes "the module's next four bytes are not 01 00 00 00")
    ∷ (4, codes "a number in the module is too long, or its unused bits are wrong")
    ∷ (5, codes "a section stands after one of its own or a greater id")
    ∷ (6, codes "a part of the module with a size of its own does not fill it")
    ∷ (7, codes "a byte in the module has no meaning where it stands")
    ∷ (8, codes "a name in the module is not UTF-8")
    ∷ (9, codes "two counts in the module that have to agree differ")
    ∷ (10, codes "a type or an instruction of floating point")
    ∷ (11, codes "the module has more than the limits allow")
    ∷ (12, codes "the module is not valid")
    ∷ (13, codes "an import is no function, or there is no such call of that type")
    ∷ (14, codes "no function _start without parameters and results is exported")
    ∷ (15, codes "a setting that can't be: options, texts, names, directories or pages")
    ∷ (16, codes "the path of a preopened directory is no directory of the volume")
    ∷ (20, codes "a data segment passes the end of memory")
    ∷ (21, codes "an element segment passes the end of the table")
    ∷ (22, codes "the module's memory begins with more pages than it may have")
    ∷ (30, codes "no volume")
    ∷ (31, codes "the volume has a version that is not known")
    ∷ (32, codes "the volume is damaged")
    ∷ (33, codes "the volume's device failed")
    ∷ (34, codes "too few sectors")
    ∷ (35, codes "the volume has this version already, or a newer one")
    ∷ (36, codes "a number of sectors or slots is out of its range")
    ∷ (41, codes "a file or a standard stream can't be opened, locked, read or written")
    ∷ (0, codes "success")
    ∷ (40, codes "out of memory")
    ∷ (100, codes "no session or module, or one in another state")
    ∷ []

-- the traps
unfoldable pub traps : List (ℕ × Text)
traps = (0, codes "unreachable")
    ∷ (1, codes "integer divide by zero")
    ∷ (2, codes "integer overflow")
    ∷ (3, codes "out of bounds memory access")
    ∷ (4, codes "undefined element")
    ∷ (5, codes "uninitialized element")
    ∷ (6, codes "indirect call type mismatch")
    ∷ (7, codes "call stack exhausted")
    ∷ (8, codes "invalid conversion to integer")
    ∷ []

-- the errnos of WASI preview 1
unfoldable pub errnos : List (ℕ × Text)
errnos = (0, codes "success")
    ∷ (6, codes "fewer random bytes are left than were asked for")
    ∷ (8, codes "no such descriptor")
    ∷ (10, codes "an open descriptor has the entry")
    ∷ (20, codes "there is an entry of that name")
    ∷ (21, codes "an address outside the guest's memory")
    ∷ (22, codes "the file would be too large")
    ∷ (25, codes "a path is not UTF-8")
    ∷ (28, codes "an argument has no meaning here")
    ∷ (29, codes "the volume or a stream failed, now or before")
    ∷ (31, codes "it is a directory")
    ∷ (33, codes "256 descriptors are open")
    ∷ (37, codes "a name is too long")
    ∷ (44, codes "there is no entry of that name")
    ∷ (51, codes "no sector or no slot for an entry is left")
    ∷ (52, codes "there is no such call")
    ∷ (54, codes "it is no directory")
    ∷ (55, codes "the directory is not empty")
    ∷ (58, codes "a flag that is not supported")
    ∷ (61, codes "a position is past the last one")
    ∷ (70, codes "a stream has no positions")
    ∷ (76, codes "a right is missing, or a path leads out of its directory")
    ∷ []

-- the ends of a run
unfoldable pub ends : List (ℕ × Text)
ends = (0, codes "exit")
    ∷ (1, codes "trap")
    ∷ (2, codes "out of fuel")
    ∷ (3, codes "out of memory")
    ∷ []

unfoldable pub fault_text : ℕ → Text
fault_text = text_at faults

unfoldable pub trap_text : ℕ → Text
trap_text = text_at traps

unfoldable pub errno_text : ℕ → Text
errno_text = text_at errnos

unfoldable pub end_label : ℕ → Text
end_label = text_at ends
