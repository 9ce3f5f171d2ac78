-- Bytes that are handed to a writer, which is flushed then.
use Rattle.std.proofs.Common.{ℕ, List, Option}
use Rattle.std.specs.Io.KnownBytes.{Keeps}
use Rattle.std.proofs.KnownBytes.{Appends-kept}
use Rattle.stream_answers.specs.Printing.{AppendsPart}

-- a flush keeps it
pub part_kept : (a b c : Option (List ℕ)) (text : List ℕ) → AppendsPart a b text → Keeps b c → AppendsPart a c text
part_kept a b c text part kept = record { part = part.part; rest = part.rest; parts = part.parts; appended = Appends-kept a b c part.part part.appended kept }
