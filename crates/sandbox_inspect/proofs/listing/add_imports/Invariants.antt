use Rattle.std.proofs.Common.{◌≡◌, ◌++◌, drop}
use Rattle.std.specs.List.{flat_map}
use Rattle.sandbox_inspect.specs.Survey.{import_text}
use Rattle.sandbox_inspect.proofs.listing.add_imports.Given as goal

-- with the text of the rest it is the whole text
abbrev pub invariant-loop-import : goal.invariant-loop-import
invariant-loop-import g l = l.text.items ++ flat_map (import_text g.L.Links.links l.types) (drop l.import-index l.imports)
    ≡ l.initial.text.items ++ flat_map (import_text g.L.Links.links l.types) l.imports
