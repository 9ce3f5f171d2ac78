use Rattle.std.proofs.Common.{arith}
use Rattle.sandbox_inspect.proofs.Entries.{held}
use Rattle.sandbox_inspect.proofs.starts.ModuleBytes.start.Goals as goal

pub overflow_sub-result : goal.overflow_sub-result
overflow_sub-result c =
    let h = held c.self.inside.bytes.now c.args.own c.in_ok-content.content.now c.in_ok-content.behind c.in_ok-content.ensures in
    omega (arith, h.2, h.5)

pub overflow_sub-result-2 : goal.overflow_sub-result-2
overflow_sub-result-2 c =
    let h = held c.self.inside.bytes.now c.args.own c.in_ok-content.content.now c.in_ok-content.behind c.in_ok-content.ensures in
    omega (arith, h.2, h.5)
