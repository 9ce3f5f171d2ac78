use Rattle.std.proofs.Common.{◌≡◌, ◌++◌, drop}
use Rattle.std.specs.List.{flat_map}
use Rattle.sandbox_inspect.specs.Survey.{export_text}
use Rattle.sandbox_inspect.proofs.listing.add_exports.Given as goal

-- with the text of the rest it is the whole text
abbrev pub invariant-loop-export : goal.invariant-loop-export
invariant-loop-export l = l.text.items ++ flat_map export_text (drop l.export-index l.exports) ≡ l.initial.text.items ++ flat_map export_text l.exports
