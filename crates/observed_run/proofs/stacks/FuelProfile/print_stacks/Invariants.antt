use Rattle.std.proofs.Common.{List, ℕ}
use Rattle.stream_answers.specs.Printing.{IsPrinted}
use Rattle.observed_run.proofs.Lines.{Printed}
use Rattle.observed_run.proofs.stacks.FuelProfile.print_stacks.Given as goal

-- the lines of the nodes so far are printed
abbrev pub invariant-loop-node : goal.invariant-loop-node
invariant-loop-node g l = (so_far : List ℕ) × IsPrinted g.W.Outlet.took g.W.Write.contents l.initial.out so_far l.out
    × Printed l.self.calls (g.N.Names.text l.names) l.self.units l.node so_far
