use Rattle.std.proofs.Common.{◌<◌, ◌+◌, ◌-◌, ◌*◌, ℕ, Ok, take, slice_index}
use Rattle.vol_log.specs.Log.{view}
use Rattle.vol_body.specs.internal.Surveying.{all_listed, Surveys, ListsNoneFrom}
use Rattle.vol_body.proofs.surveying.survey_inner_blocks.Given as goal

abbrev pub invariant-loop-i : goal.invariant-loop-i
invariant-loop-i g l = Surveys l.first l.end l.fn.log l.log l.fn.named.items l.named.items
    (all_listed (view l.fn.log) (take l.i l.inner_blocks))
    ((k : ℕ) → k < l.i → ListsNoneFrom (view l.fn.log) (slice_index l.inner_blocks k) (l.count - (l.start + 128 * k))) (Ok tt)
