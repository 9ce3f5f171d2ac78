-- Each call answers for one segment.
use Rattle.std.proofs.Common.{rules}
use Rattle.std.proofs.lemmas.Iterator.{cases_from_all, YieldsList-from_slice}
use Rattle.wasm_valid.specs.internal.Rules.{ElementsHold}
use Rattle.wasm_valid.proofs.EachOne.{answered}
use Rattle.wasm_valid.proofs.module_rules.elements_fit.Goals as goal

pub returns : goal.returns
returns c =
    let gs = c.args.globals.now in
    let n = c.args.counts in
    answered (ElementsHold gs n) c.all.result c.args.segments.now
    (cases_from_all _ _ _ (λ e. ElementsHold gs n e) (λ e. ElementsHold gs n e → ⊥) c.all.ensures.ran (YieldsList-from_slice c.args.segments.now cc) (λ x q k. search rules) (λ x q k. search rules))
