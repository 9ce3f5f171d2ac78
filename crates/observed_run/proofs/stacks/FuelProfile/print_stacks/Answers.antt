use Rattle.std.proofs.Common.{◌≡◌, ◌<◌, [], ◌++◌, length, slice_index, sym, subst, arith}
use Rattle.stream_answers.specs.Printing.{IsPrinted}
use Rattle.stream_answers.proofs.Pieces.{none_printed, printed_then}
use Rattle.observed_run.specs.Folded.{line_text}
use Rattle.observed_run.proofs.Lines.{printed_first, printed_none, printed_some, printed_all}
use Rattle.observed_run.proofs.Refused.{passed, refused_then}
use Rattle.observed_run.proofs.stacks.FuelProfile.print_stacks.Goals as goal
use Rattle.observed_run.proofs.stacks.FuelProfile.print_stacks.Goals.{then-units_at-gt0+in_ok-print_node, else-units_at-gt0}

pub loop-node-init : goal.loop-node-init
loop-node-init g c = ([], none_printed g.W.Outlet.took g.W.Write.contents c.args.out.now, printed_first c.args.self.now.calls (g.N.Names.text c.args.names.now) c.args.self.now.units)

-- a line more, or none where no units were taken
pub loop-node-preserved : goal.loop-node-preserved
loop-node-preserved g c =
    let calls = c.args.self.now.calls in
    let name = g.N.Names.text c.args.names.now in
    let units = c.args.self.now.units in
    let printed = IsPrinted g.W.Outlet.took g.W.Write.contents c.args.out.now in
    let so_far = c.loop-node.invariant in
    let small : c.loop-node.node < length units = omega (arith, c.loop-node-test.true, c.nodes-node-end.ensures) in
    elim c.if-units_at-gt0.branch [
      | then-units_at-gt0+in_ok-print_node w ↦
          let line = w.in_ok-print_node.ensures in
          let positive : 0 < slice_index units c.loop-node.node = omega (arith, w.if-units_at-gt0.true, c.units_at.ensures) in
          let text = line_text name line.0 (slice_index units c.loop-node.node) in (
            so_far.0 ++ text,
            subst (printed (so_far.0 ++ text)) (sym w.out-is) (printed_then g.W.Outlet.took g.W.Write.contents _ _ _ so_far.0 text so_far.1 line.2),
            printed_some calls name units c.loop-node.node so_far.0 line.0 small positive line.1 so_far.2,
          )
      | else-units_at-gt0 w ↦
          let none : slice_index units c.loop-node.node ≡ 0 = omega (arith, w.if-units_at-gt0.false, c.units_at.ensures) in
          (so_far.0, subst (printed so_far.0) (sym w.out-is) so_far.1, printed_none calls name units c.loop-node.node so_far.0 small none so_far.2)
    ]

-- a line that wasn't printed, after those that were
pub returns-in_err-print_node : goal.returns-in_err-print_node
returns-in_err-print_node g c =
    let took = g.W.Outlet.took in
    let refused = g.W.Outlet.refused in
    let out = g.W.Write.contents in
    let so_far = c.loop-node.invariant in
    passed took refused out _ c.from_residual.result c.in_err-print_node.field-0.0 c.args.out.now c.print_node.new.out c.from_residual.ensures.1
    (refused_then took refused out c.args.out.now c.loop-node.out c.print_node.new.out so_far.0 c.in_err-print_node.field-0.0 so_far.1 c.in_err-print_node.ensures)

-- all are printed
pub returns : goal.returns
returns g c =
    let so_far = c.loop-node.invariant in
    (so_far.0, printed_all c.args.self.now.calls (g.N.Names.text c.args.names.now) c.args.self.now.units c.loop-node.node so_far.0 (omega (arith, c.loop-node-test.false, c.nodes-node-end.ensures, c.loop-node.auto.node-end)) so_far.2, so_far.1)
