use Rattle.std.proofs.Common.{◌≡◌, ◌+◌, vec_len, length}
use Rattle.stream_answers.specs.Pieces.{AtLast, Gives}
use Rattle.sandbox_places.proofs.reading.read_whole.Given as goal

abbrev pub invariant-loop-left : goal.invariant-loop-left
invariant-loop-left g l = record {
  gave : Gives (AtLast g.R.Inlet.gave g.R.Inlet.refused) l.initial.input l.bytes.items l.input;
  count : length l.bytes.items + l.left ≡ l.most;
  piece : vec_len l.piece ≡ l.at_once;
}

abbrev pub decreases-loop-left : goal.decreases-loop-left
decreases-loop-left g l = l.left
