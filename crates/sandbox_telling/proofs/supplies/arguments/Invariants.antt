use Rattle.std.proofs.Common.{◌≡◌, ◌∷◌, take}
use Rattle.sandbox_args.specs.Request.{argument_0, texts}
use Rattle.sandbox_telling.proofs.supplies.arguments.Given as goal

-- the words so far
abbrev pub invariant-loop-word : goal.invariant-loop-word
invariant-loop-word l = texts l.arguments.items ≡ argument_0 l.run ∷ texts (take l.word-index l.run.words.items)
