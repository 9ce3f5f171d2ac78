use Rattle.std.proofs.Common.{◌∙◌, ◌+◌, ◌*◌, ℕ, ap, min}
use Rattle.sandbox_command.specs.Archive.{slots_of, version_of}
use Rattle.sandbox_command.proofs.archive.size_for.Goals as goal

pub returns-clause-version : goal.returns-clause-version
returns-clause-version c = c.version_of.ensures ∙ ap (λ (b : ℕ). version_of b) c.blocks_of-blocks.ensures

pub returns-clause-slots : goal.returns-clause-slots
returns-clause-slots c = c.min-slots.ensures ∙ ap (λ (b : ℕ). slots_of b) c.blocks_of-blocks.ensures

pub returns-clause-sectors : goal.returns-clause-sectors
returns-clause-sectors c =
    c.min-sectors.ensures ∙ ap (λ (s : ℕ). min (2 * c.blocks_of-blocks.result + 16384 + s + 122) 16777216) c.min-slots.ensures
    ∙ ap (λ (b : ℕ). min (2 * b + 16384 + slots_of b + 122) 16777216) c.blocks_of-blocks.ensures
