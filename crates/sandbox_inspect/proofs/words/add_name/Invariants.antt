use Rattle.std.proofs.Common.{◌≡◌, ◌++◌, drop}
use Rattle.std.specs.List.{flat_map}
use Rattle.sandbox_inspect.specs.Words.{byte_text}
use Rattle.sandbox_inspect.proofs.words.add_name.Given as goal

-- with the text of the rest it is the whole text
abbrev pub invariant-loop-byte : goal.invariant-loop-byte
invariant-loop-byte l = l.text.items ++ flat_map byte_text (drop l.byte-index l.name) ≡ l.initial.text.items ++ flat_map byte_text l.name
