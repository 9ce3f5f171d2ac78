-- A section as the code has it, with borrowed slices, read as a `Section` of `Places`, with lists of bytes. The
-- contracts of `src/sections.rt` compare by `found` what the code returns with what the definitions find.
use Rattle.sandbox_inspect.specs.Places.{Section as Found, Exported as FoundExport}
use Rattle.sandbox_inspect.specs.declared.naming.Exported.{Exported}
use Rattle.sandbox_inspect.specs.declared.sections.Section.{Section}

abbrev pub found : Section → Found
found s = record { from = s.from.now; id = s.id; content = s.content.now; rest = s.rest.now }

abbrev pub found_export : Exported → FoundExport
found_export e = record { name = e.name.now; kind = e.kind; index = e.index; rest = e.rest.now }
