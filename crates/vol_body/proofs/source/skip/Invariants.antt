use Rattle.std.proofs.Common.{◌≡◌, ◌≤◌, ◌++◌, length, drop}
use Rattle.vol_body.specs.Source.{gathered, AreInside}
use Rattle.vol_body.proofs.source.skip.Given as goal

abbrev pub invariant-loop-first : goal.invariant-loop-first
invariant-loop-first l = record {
  enough : l.left ≤ length (l.first ++ gathered l.memory l.spans);
  rest : drop l.left (l.first ++ gathered l.memory l.spans) ≡ drop l.count (l.initial.first ++ gathered l.memory l.initial.spans);
  inside : AreInside l.memory l.spans;
}

abbrev pub decreases-loop-first : goal.decreases-loop-first
decreases-loop-first l = length l.spans
