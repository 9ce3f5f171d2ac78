-- Lines of the program's own.
use Rattle.std.proofs.Common.{ℕ, List, [], ◌++◌, Option, Result, Ok, Err, OnOk, OnErr}
use Rattle.std.specs.Io.KnownBytes.{Appends, Keeps}
use Rattle.std.proofs.KnownBytes.{Appends-trans, Appends-kept}
use Rattle.stream_answers.specs.Printing.{AppendsPart}
use Rattle.stream_answers.proofs.Handed.{part_none}
use Rattle.sandbox_telling.specs.Streams.{AppendsSome}

pub no_line : (a b : Option (List ℕ)) → Keeps a b → AppendsSome a b
no_line a b kept = let p = part_none a b [] kept in (p.part, p.appended)

pub line_printed : {E : Type 0} (a b : Option (List ℕ)) (line : List ℕ) (r : Result (Unit {0}) E) → OnOk r (Appends a b line) → OnErr r (AppendsPart a b line) → AppendsSome a b
line_printed a b line (Ok x) all part = (line, all)
line_printed a b line (Err e) all part = (part.part, part.appended)

pub lines_then : (a b c : Option (List ℕ)) → AppendsSome a b → AppendsSome b c → AppendsSome a c
lines_then a b c first more = (first.0 ++ more.0, Appends-trans a b c first.0 more.0 first.1 more.1)

pub lines_kept : (a b c : Option (List ℕ)) → AppendsSome a b → Keeps b c → AppendsSome a c
lines_kept a b c first kept = (first.0, Appends-kept a b c first.0 first.1 kept)
