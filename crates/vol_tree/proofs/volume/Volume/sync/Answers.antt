use Rattle.std.proofs.Common.{refl, sym, subst}
use Rattle.std.proofs.lemmas.Result.{IfOk-from_err}
use Rattle.vol_tree.specs.Tree.{Tree}
use Rattle.vol_tree.specs.Stands.{StandsAs}
use Rattle.vol_tree.specs.declared.superblock.Superblock.{Superblock}
use Rattle.vol_tree.specs.Parts.{opened}
use Rattle.vol_tree.proofs.Changing.{refused_io}
use Rattle.vol_tree.proofs.Taking.{done_nothing}
use Rattle.vol_tree.proofs.volume.Volume.sync.Goals as goal

pub commit-requires : goal.commit-requires
commit-requires g c = record { «open» = c.self.invariant }

pub returns-in_err-commit : goal.returns-in_err-commit
returns-in_err-commit g c =
    let r = c.from_residual.result in
    let done = refused_io _ c.self.inside.parts c.commit.new.self r c.from_residual.ensures.1 c.in_err-commit.ensures.commits in
    rw (← c.self.view_is) (record { answer = done.answer; crash = done.crash; durable = λ h. IfOk-from_err r _ c.from_residual.ensures.0; kept = done.kept; goes_on = done.goes_on })

pub returns : goal.returns
returns g c =
    let e = c.in_ok-commit.ensures in
    let done = done_nothing _ c.self.inside.parts c.commit.new.self tt e.commits (λ h. refl) in
    rw (← c.self.view_is) (record { answer = done.answer; crash = done.crash; durable = λ h m may. subst (λ (v : Superblock). StandsAs m v (opened c.commit.new.self).tree) (sym e.commits.kept.numbers) (subst (λ (T : Tree). StandsAs m c.self.inside.parts.numbers T) (sym (e.commits.tree h)) (e.durable h m may)); kept = done.kept; goes_on = done.goes_on })
