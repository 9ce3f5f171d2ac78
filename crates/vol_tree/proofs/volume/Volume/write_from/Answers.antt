use Rattle.std.proofs.Common.{◌∙◌, true, inr, refl, sym}
use Rattle.vol_tree.proofs.Committing.{no_commit}
use Rattle.vol_tree.proofs.volume.Volume.write_from.Goals as goal

pub returns-then-failed : goal.returns-then-failed
returns-then-failed g c =
    let same = no_commit c.self.inside.parts true c.self.invariant (sym c.failed.ensures ∙ c.if-failed.true) in
    rw (← c.self.view_is) (record { answer = λ h. (refl, inr refl); crash = same.crash; refused = λ h other. absurd (other refl); kept = same.kept; goes_on = same.goes_on })

pub returns : goal.returns
returns g c =
    let e = c.write.ensures in
    rw (← c.self.view_is) (record { answer = e.answer; crash = e.crash; refused = e.refused; kept = e.kept; goes_on = e.goes_on })
