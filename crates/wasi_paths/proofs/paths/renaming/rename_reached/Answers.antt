use Rattle.std.proofs.Common.{sym, subst}
use Rattle.path_walk.specs.declared.walking.Reached.{Reached}
use Rattle.path_walk.specs.Walk.{reached_as, IsReached}
use Rattle.wasi_paths.specs.internal.paths.Renaming.{RenamesTo}
use Rattle.wasi_paths.proofs.paths.renaming.rename_reached.Goals as goal

pub returns-in-Found-clause-renames : goal.returns-in-Found-clause-renames
returns-in-Found-clause-renames g c = λ h w table alive shown.
    subst (λ (r : Reached). RenamesTo c.args.walked.now.source c.args.walked.now.slash (reached_as r) w c.rename_found.new.volume c.rename_found.result) (sym c.in-Found.is)
    (rw c.new.ensures at c.rename_found.ensures.renames h w c.args.walked.now.slash table alive shown)

pub returns-in-Missing-clause-renames : goal.returns-in-Missing-clause-renames
returns-in-Missing-clause-renames g c = λ h w table alive shown.
    subst (λ (r : Reached). RenamesTo c.args.walked.now.source c.args.walked.now.slash (reached_as r) w c.rename_missing.new.volume c.rename_missing.result) (sym c.in-Missing.is)
    (rw c.new-in-Missing.ensures at c.rename_missing.ensures.renames h w alive shown)

pub rename_missing-requires-clause-name : goal.rename_missing-requires-clause-name
rename_missing-requires-clause-name g c = let reached = subst (IsReached g.D.Device.honest c.args.volume.now) c.in-Missing.is c.requires.reached in reached.1
