use Rattle.std.proofs.Common.{arith}
use Rattle.wasi_bodies.proofs.descriptors.Shifts.{none_back, told_forth, told_back}
use Rattle.wasi_bodies.proofs.descriptors.positions.position_at.Goals as goal

pub returns-then-from-distance : goal.returns-then-from-distance
returns-then-from-distance c = none_back c.args.from c.args.delta (omega arith) (omega arith)

pub returns-then-delta-le-LAST : goal.returns-then-delta-le-LAST
returns-then-delta-le-LAST c = told_forth c.args.from c.args.delta _ c.in_reach.result (omega arith) (omega arith) c.in_reach.ensures.near c.in_reach.ensures.far

pub returns-else-from-distance : goal.returns-else-from-distance
returns-else-from-distance c =
    told_back c.args.from c.args.delta _ c.in_reach-else-delta-le-LAST.result (omega arith) (omega arith) (omega arith)
    c.in_reach-else-delta-le-LAST.ensures.near c.in_reach-else-delta-le-LAST.ensures.far
