use Rattle.std.proofs.Common.{◌++◌, arith}
use Rattle.std.proofs.lemmas.Grind.{common_steps}
use Rattle.vol_body.specs.Source.{gathered}
use Rattle.vol_body.proofs.Sources.{left_after}
use Rattle.vol_body.proofs.source.Source.after.Goals as goal

pub returns : goal.returns
returns c =
    let s = c.self.inside in
    let rest = c.skip-rest.result in
    left_after (s.first.now ++ gathered s.memory.now s.spans.now) (rest.first.now ++ gathered s.memory.now rest.spans.now) c.args.self.now s.len c.args.count c.min-count.result c.self.invariant.0 c.min-count.ensures c.skip-rest.ensures.rest c.self.view_is

pub invariant_of-result : goal.invariant_of-result
invariant_of-result c = grind (arith, common_steps)
