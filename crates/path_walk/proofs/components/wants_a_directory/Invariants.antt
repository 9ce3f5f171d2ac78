use Rattle.std.proofs.Common.{◌≡◌, suc, length, cond, []}
use Rattle.path_walk.specs.Paths.{parts_of, is_skipped, last_or, wants_directory}
use Rattle.path_walk.proofs.components.wants_a_directory.Given as goal

abbrev pub invariant-loop-more : goal.invariant-loop-more
invariant-loop-more l = cond l.more (is_skipped (last_or [] (parts_of l.rest))) l.wants ≡ wants_directory l.fn.text

abbrev pub decreases-loop-more : goal.decreases-loop-more
decreases-loop-more l = cond l.more (suc (length l.rest)) 0
