use Rattle.std.proofs.Common.{true, false, sym, ◌∙◌}
use Rattle.vol_tree.proofs.Committing.{no_commit}
use Rattle.vol_tree.proofs.parts.Parts.make_room.Goals as goal

pub returns-then-failed-clause-commits : goal.returns-then-failed-clause-commits
returns-then-failed-clause-commits g c = no_commit c.args.self.now true c.requires.open (sym c.failed.ensures ∙ c.if-failed.true)

-- there is room
pub returns-clause-commits : goal.returns-clause-commits
returns-clause-commits g c = no_commit c.args.self.now false c.requires.open (sym c.failed.ensures ∙ c.if-failed.false)
