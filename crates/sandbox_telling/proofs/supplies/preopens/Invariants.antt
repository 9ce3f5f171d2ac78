use Rattle.std.proofs.Common.{take}
use Rattle.sandbox_args.specs.Request.{texts}
use Rattle.sandbox_telling.specs.Supplies.{AreDirectories}
use Rattle.sandbox_telling.proofs.supplies.preopens.Given as goal

-- the directories so far
abbrev pub invariant-loop-word : goal.invariant-loop-word
invariant-loop-word l = AreDirectories (texts (take l.word-index l.words)) l.preopens.items
