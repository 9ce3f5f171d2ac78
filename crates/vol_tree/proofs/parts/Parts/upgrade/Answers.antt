use Rattle.std.proofs.Common.{Bool, true, false, sym, subst}
use Rattle.vol_tree.specs.internal.Upgrades.{Upgrades}
use Rattle.vol_tree.proofs.Raising.{upgrade_fails, upgrades_after}
use Rattle.vol_tree.proofs.Taking.{err_is}
use Rattle.vol_tree.proofs.parts.Parts.upgrade.Goals as goal

pub returns-in_err-commit-clause-upgrades : goal.returns-in_err-commit-clause-upgrades
returns-in_err-commit-clause-upgrades g c older =
    let io = err_is c.from_residual.result c.from_residual.ensures.0 in
    subst (λ (b : Bool). Upgrades c.args.to c.args.self.now c.commit.new.self b) (sym io) (upgrade_fails c.args.to c.args.self.now c.commit.new.self c.in_err-commit.ensures.commits)

pub returns-in_err-write_version-clause-upgrades : goal.returns-in_err-write_version-clause-upgrades
returns-in_err-write_version-clause-upgrades g c older =
    let io = err_is c.from_residual-in_err-write_version.result c.from_residual-in_err-write_version.ensures.0 in
    subst (λ (b : Bool). Upgrades c.args.to c.args.self.now c.write_version.new.self b) (sym io)
    (upgrades_after c.args.to c.args.self.now c.commit.new.self c.write_version.new.self true c.in_ok-commit.ensures.commits c.in_err-write_version.ensures)

pub returns-clause-upgrades : goal.returns-clause-upgrades
returns-clause-upgrades g c older = upgrades_after c.args.to c.args.self.now c.commit.new.self c.write_version.new.self false c.in_ok-commit.ensures.commits c.in_ok-write_version.ensures
