use Rattle.std.proofs.Common.{◌≡◌, ◌++◌, drop}
use Rattle.sandbox_telling.specs.Stopping.{answers_from, answers_text}
use Rattle.sandbox_telling.proofs.stopping.add_answers.Given as goal

-- with the lines of the rest it is the whole text
abbrev pub invariant-loop-errno : goal.invariant-loop-errno
invariant-loop-errno l = l.text.items ++ answers_from l.errno (drop l.errno l.answers) ≡ l.initial.text.items ++ answers_text l.answers
