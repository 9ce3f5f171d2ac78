use Rattle.std.proofs.Common.{◌≡◌, ◌∙◌, ◌-◌, suc, sym, ap, arith}
use Rattle.std.proofs.lemmas.Option.{none-some}
use Rattle.vol_log.specs.Log.{view}
use Rattle.vol_tree.specs.Tree.{entry}
use Rattle.vol_tree.specs.declared.superblock.Superblock.{Superblock}
use Rattle.vol_tree.specs.Stands.{entry_of}
use Rattle.vol_tree.specs.Clauses.{tree_in}
use Rattle.vol_tree.proofs.Finding.{tree_entry, length_tree}
use Rattle.vol_tree.proofs.Entries.{used_within}
use Rattle.vol_tree.proofs.parts.Parts.above.Goals as goal

pub returns-then-entry-eq0-clause-answer : goal.returns-then-entry-eq0-clause-answer
returns-then-entry-eq0-clause-answer g c h other used =
    let old = c.args.self.now in
    let T = tree_in (view old.log) old.numbers in
    let d = c.in_ok-entry.entry in
    let found = c.in_ok-entry.ensures.found h used in
    let up = (c.requires.is_open.content h).volume.tree.inside c.args.serial (entry_of (view old.log) d) (tree_entry (view old.log) old.numbers c.args.serial d c.requires.first found) other in
    absurd (none-some up.0 (ap (entry T) (sym c.if-entry-eq0.true) ∙ up.1))

pub returns-then-self-entry-clause-answer : goal.returns-then-self-entry-clause-answer
returns-then-self-entry-clause-answer g c h other used =
    let old = c.args.self.now in
    let T = tree_in (view old.log) old.numbers in
    let d = c.in_ok-entry.entry in
    let found = c.in_ok-entry.ensures.found h used in
    let up = (c.requires.is_open.content h).volume.tree.inside c.args.serial (entry_of (view old.log) d) (tree_entry (view old.log) old.numbers c.args.serial d c.requires.first found) other in
    let back : suc (d.parent - 1) ≡ d.parent = omega (arith, c.if-entry-eq0.false) in
    let within = used_within T (d.parent - 1) up.0 (ap (entry T) back ∙ up.1) in
    let slots : c.entry.new.self.numbers.slots ≡ old.numbers.slots = ap (λ (w : Superblock). w.slots) c.in_ok-entry.ensures.reads.commits.kept.numbers in
    absurd (omega (arith, within, length_tree (view old.log) old.numbers, slots, c.if-self-entry.true))

pub returns-clause-answer : goal.returns-clause-answer
returns-clause-answer g c h other used =
    let old = c.args.self.now in
    let d = c.in_ok-entry.entry in
    let found = c.in_ok-entry.ensures.found h used in
    record { below = entry_of (view old.log) d; at = tree_entry (view old.log) old.numbers c.args.serial d c.requires.first found; is = sym c.new.ensures }
