use Rattle.std.proofs.Common.{◌≡◌, true, false, not, Ok, refl, sym, ◌∙◌, ap}
use Rattle.std.specs.Prelude.{◌==◌}
use Rattle.path_walk.specs.declared.walking.Reached.{Reached}
use Rattle.path_walk.specs.Walk.{reached_as}
use Rattle.wasi_paths.specs.internal.paths.Renaming.{source_checked}
use Rattle.wasi_bodies.proofs.checks.Chains.{goes_on, stops, guard_passes, guard_fails}
use Rattle.wasi_paths.proofs.paths.renaming.source_of.Goals as goal

pub returns-then-eq-clause-row : goal.returns-then-eq-clause-row
returns-then-eq-clause-row c =
    let same : (c.in-Found.found == c.args.directory) ≡ true = rw c.new-source.ensures at (sym c.eq.ensures ∙ c.if-eq.true) in
    ap (λ (r : Reached). source_checked c.args.directory (reached_as r)) c.in-Found.is
    ∙ (goes_on _ _ c.in-Found.found refl ∙ stops _ _ 10 (guard_fails _ 10 (ap not same)))

pub returns-else-eq-clause-row : goal.returns-else-eq-clause-row
returns-else-eq-clause-row c =
    let other : (c.in-Found.found == c.args.directory) ≡ false = rw c.new-source.ensures at (sym c.eq.ensures ∙ c.if-eq.false) in
    ap (λ (r : Reached). source_checked c.args.directory (reached_as r)) c.in-Found.is
    ∙ (goes_on _ _ c.in-Found.found refl ∙ (goes_on _ _ tt (guard_passes _ 10 (ap not other)) ∙ ap Ok (sym c.new-source.ensures)))

pub returns-in-Missing-clause-row : goal.returns-in-Missing-clause-row
returns-in-Missing-clause-row c =
    ap (λ (r : Reached). source_checked c.args.directory (reached_as r)) c.in-Missing.is ∙ stops _ _ 44 refl
