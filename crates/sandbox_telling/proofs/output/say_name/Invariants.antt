use Rattle.sandbox_telling.specs.Streams.{AppendsSome}
use Rattle.sandbox_telling.proofs.output.say_name.Given as goal

-- what was printed so far follows
abbrev pub invariant-loop-byte : goal.invariant-loop-byte
invariant-loop-byte g l = AppendsSome (g.W.Write.contents l.initial.err) (g.W.Write.contents l.err)
