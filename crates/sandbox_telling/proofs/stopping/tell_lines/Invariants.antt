use Rattle.sandbox_telling.specs.Streams.{AppendsSome}
use Rattle.sandbox_telling.proofs.stopping.tell_lines.Given as goal

-- what was printed so far follows
abbrev pub invariant-loop-line : goal.invariant-loop-line
invariant-loop-line g l = AppendsSome (g.W.Write.contents l.initial.err) (g.W.Write.contents l.err)
