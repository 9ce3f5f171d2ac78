use Rattle.std.proofs.Common.{◌<◌, ◌∙◌, sym, length, arith, below_more}
use Rattle.std.proofs.lemmas.List.{get_or-map}
use Rattle.std.proofs.lemmas.Grind.{common_steps}
use Rattle.vol_log.proofs.Images.{blank}
use Rattle.vol_log.specs.declared.staged.Staged.{Staged}
use Rattle.vol_log.proofs.header.is_staged.Goals as goal

pub loop-staged-preserved : goal.loop-staged-preserved
loop-staged-preserved c =
    let batch = c.args.batch.now in
    let lt : c.loop-staged.staged-index < length batch = omega arith in
    below_more _ _ c.loop-staged.invariant (λ is. c.if-staged-sector.false (sym (get_or-map (λ (t : Staged). t.sector) batch c.loop-staged.staged-index blank 0 lt) ∙ is))

pub returns-then-staged-sector-clause-yes : goal.returns-then-staged-sector-clause-yes
returns-then-staged-sector-clause-yes c = grind (arith, common_steps)
