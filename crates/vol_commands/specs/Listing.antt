-- How `ls` writes an entry (`docs/USING.md`, "Commands"): its kind, its size and its name, and a line end. By `--escape`
-- the name is written as GNU `ls` does by `-b` in the C locale (GNU Coreutils manual, "Formatting the file names", style
-- `escape`): plain ASCII stays, and each other byte, a space and a backslash come as a sequence behind a backslash. By
-- `--null` a NUL stands in place of the line end.
use Rattle.std.specs.Prelude.{◌+◌, ◌/◌, ◌%◌, ◌&&◌, ◌==◌, nat_lt, ℕ, [], ◌∷◌, Option, None, Some, false, if◌then◌else◌, codes, decimal}
use Rattle.std.specs.List.{concat, flat_map}
use Rattle.std.specs.Option.{option_map_or}
use Rattle.vol_tree.specs.Tree.{Tree, Node, Directory, File, Entry}
use Rattle.vol_tree.specs.Space.{size_of}
use Rattle.sandbox_args.specs.declared.request.ListForm.{ListForm}
use Rattle.sandbox_args.specs.Request.{Text}

-- the form without options
abbrev pub plain : ListForm
plain = record { escape = false; null = false }

-- a, b, t, n, v, f and r for the bytes 7 to 13, a space, a backslash
abbrev pub letter_of : ℕ → Option ℕ
letter_of b =
    if b == 7 then Some 97 else if b == 8 then Some 98 else if b == 9 then Some 116 else if b == 10 then Some 110
    else if b == 11 then Some 118 else if b == 12 then Some 102 else if b == 13 then Some 114
    else if b == 32 then Some 32 else if b == 92 then Some 92 else None

-- a byte that is plain ASCII; else a backslash and its three octal digits
abbrev pub plain_or_octal : ℕ → Text
plain_or_octal b = if (nat_lt 32 b && nat_lt b 127) then b ∷ [] else 92 ∷ (48 + b / 64) ∷ (48 + b / 8 % 8) ∷ (48 + b % 8) ∷ []

abbrev pub escaped_byte : ℕ → Text
escaped_byte b = option_map_or (λ letter. 92 ∷ letter ∷ []) (letter_of b) (plain_or_octal b)

abbrev pub name_as : ListForm → Text → Text
name_as form name = if form.escape then flat_map escaped_byte name else name

abbrev pub line_end : ListForm → Text
line_end form = if form.null then 0 ∷ [] else 10 ∷ []

abbrev pub mark_of : Node → Text
mark_of Directory = codes "d "
mark_of (File bytes) = codes "f "

-- an entry's line: what it is, its size, its name
unfoldable pub line_of : ListForm → Entry → Text
line_of form e = concat (mark_of e.node ∷ decimal (size_of e.node) ∷ codes " " ∷ name_as form e.name ∷ line_end form ∷ [])

-- the line of an entry of this directory
abbrev pub line_in : ListForm → ℕ → Option Entry → Text
line_in form directory None = []
line_in form directory (Some e) = if e.parent == directory then line_of form e else []

-- the entries of a directory, by rising serials
abbrev pub listing : ListForm → Tree → ℕ → Text
listing form T directory = flat_map (line_in form directory) T
