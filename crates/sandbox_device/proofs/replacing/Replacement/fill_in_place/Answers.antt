use Rattle.std.proofs.Common.{ℕ, List, inr, subst}
use Rattle.sandbox_device.specs.Named.{IsThere, not_overwritten}
use Rattle.sandbox_device.proofs.Told.{told_as}
use Rattle.sandbox_device.proofs.replacing.Replacement.fill_in_place.Goals as goal

pub returns : goal.returns
returns g c =
    let there = subst (λ (p : List ℕ). IsThere p c.args.self.old c.in_ok-file.file) c.as_str.ensures.value c.in_ok-file.ensures in
    told_as c.overwrite.result c.overwrite.ensures (λ done. inr (c.in_ok-file.file, there, done)) (λ failed. not_overwritten c.in_ok-file.file there failed)
