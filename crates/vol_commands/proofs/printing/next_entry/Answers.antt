use Rattle.std.proofs.Common.{sym, ◌∙◌, subst, arith, ap, refl, IsSome, Option}
use Rattle.std.proofs.lemmas.Grind.{common_steps}
use Rattle.vol_tree.specs.Tree.{Entry, Tree, entry}
use Rattle.vol_tree.specs.declared.superblock.Superblock.{Superblock}
use Rattle.vol_tree.specs.Opened.{IsSerial}
use Rattle.vol_commands.specs.Listing.{plain}
use Rattle.vol_commands.proofs.Listing.{next_child_is}
use Rattle.vol_commands.proofs.printing.next_entry.Goals.{in_default-via-in-Some+else-number-last, in_default-via-in_default}
use Rattle.vol_commands.proofs.printing.next_entry.Goals as goal

-- what is given is an entry
pub returns-in-Some-clause-range : goal.returns-in-Some-clause-range
returns-in-Some-clause-range g c =
    let kept = c.list_next.ensures.kept in
    record {
      number = subst (λ (v : Superblock). IsSerial v c.in-Some.serial) (sym kept.numbers) (rw c.in-Some.is at c.in_ok-serial.ensures.range);
      used = λ h.
          let told = rw c.in-Some.is at c.in_ok-serial.ensures.answer (kept.honest.1 h) in
          let next = next_child_is plain c.args.volume.now.tree c.args.directory c.args.last c.in-Some.serial (sym told.0) in
          let there = ap (λ (T : Tree). entry T c.in-Some.serial) told.1 ∙ next.there in
          subst (λ (o : Option Entry). IsSome o) (sym there) refl;
    }

-- on a device that keeps its model, what is given is greater
pub returns-in_default-clause-answer : goal.returns-in_default-clause-answer
returns-in_default-clause-answer g c h =
    elim c.in_default.branch [
      | in_default-via-in-Some+else-number-last w ↦
          let told = rw w.in-Some.is at c.in_ok-serial.ensures.answer h in
          let next = next_child_is plain c.args.volume.now.tree c.args.directory c.args.last w.in-Some.serial (sym told.0) in
          absurd (omega (arith, next.later, w.number.ensures, w.if-number-last.false))
      | in_default-via-in_default w ↦ rw w.in_default.is at c.in_ok-serial.ensures.answer h
    ]

pub returns-in-Some-clause-asked : goal.returns-in-Some-clause-asked
returns-in-Some-clause-asked c = grind (arith, common_steps)

pub returns-in_default-clause-asked : goal.returns-in_default-clause-asked
returns-in_default-clause-asked c = grind (arith, common_steps)
