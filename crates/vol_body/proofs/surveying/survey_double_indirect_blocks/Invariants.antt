use Rattle.std.proofs.Common.{◌<◌, ◌+◌, ◌*◌, ℕ, Ok, take, slice_index}
use Rattle.vol_log.specs.Log.{view}
use Rattle.vol_body.specs.internal.Surveying.{all_with_all_listed, Surveys, LaterNone}
use Rattle.vol_body.proofs.surveying.survey_double_indirect_blocks.Given as goal

abbrev pub invariant-loop-m : goal.invariant-loop-m
invariant-loop-m g l = Surveys l.first l.end l.fn.log l.log l.fn.named.items l.named.items
    (all_with_all_listed (view l.fn.log) (take l.m l.double_indirect_blocks))
    ((k : ℕ) → k < l.m → LaterNone (view l.fn.log) (slice_index l.double_indirect_blocks k) (16570 + 16384 * k) l.count) (Ok tt)
