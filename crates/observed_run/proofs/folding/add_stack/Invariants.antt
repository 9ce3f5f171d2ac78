use Rattle.std.proofs.Common.{◌≡◌, ◌++◌, ◌-◌, drop, length}
use Rattle.observed_run.specs.Folded.{stack_text}
use Rattle.observed_run.proofs.folding.add_stack.Given as goal

-- the outermost functions so far are added
abbrev pub invariant-loop-depth : goal.invariant-loop-depth
invariant-loop-depth g l = l.line.items ≡ l.initial.line.items ++ stack_text (g.N.Names.text l.names) (drop (length l.functions - l.depth) l.functions)
