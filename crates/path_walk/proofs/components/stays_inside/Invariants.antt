use Rattle.std.proofs.Common.{◌≡◌, ◌≤◌, ◌+◌, suc, length, cond, [], true}
use Rattle.path_walk.specs.Paths.{components_of, stays_inside}
use Rattle.path_walk.proofs.components.stays_inside.Given as goal

abbrev pub invariant-loop-more : goal.invariant-loop-more
invariant-loop-more l = record {
  room : l.more ≡ true → l.depth + length l.rest ≤ length l.fn.text;
  goes : stays_inside l.depth (cond l.more (components_of l.rest) []) ≡ stays_inside 0 (components_of l.fn.text);
}

abbrev pub decreases-loop-more : goal.decreases-loop-more
decreases-loop-more l = cond l.more (suc (length l.rest)) 0
