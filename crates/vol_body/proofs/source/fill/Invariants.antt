use Rattle.std.proofs.Common.{◌≡◌, ◌≤◌, ◌<◌, ◌++◌, length, take, drop}
use Rattle.vol_body.specs.Source.{gathered, AreInside}
use Rattle.vol_body.proofs.source.fill.Given as goal

abbrev pub invariant-loop-filled : goal.invariant-loop-filled
invariant-loop-filled l = record {
  taken : l.taken ≤ length l.first;
  filled : l.filled ≤ length l.into;
  used : l.filled < length l.into → l.taken ≡ length l.first;
  bytes : take l.filled l.into ≡ take l.filled (l.fn.first ++ gathered l.memory l.fn.spans);
  rest : drop l.taken l.first ++ gathered l.memory l.spans ≡ drop l.filled (l.fn.first ++ gathered l.memory l.fn.spans);
  inside : AreInside l.memory l.spans;
}

abbrev pub decreases-loop-filled : goal.decreases-loop-filled
decreases-loop-filled l = length l.spans
