use Rattle.std.proofs.Common.{◌≡◌, ◌≤◌, ◌+◌, ◌-◌, ℕ, true, false, ◌*◌, drop}
use Rattle.vol_log.specs.Log.{view, room_of, has_failed}
use Rattle.vol_alloc.specs.Alloc.{taken_of}
use Rattle.vol_inode.specs.Space.{blocks_for_size}
use Rattle.vol_body.specs.internal.Writing.{IsReady, ChangesPositions, IsBlockIn, HasBlocks, OnlyPuts, SameRange, image_of}
use Rattle.vol_body.proofs.writing_spans.write_direct.Given as goal

abbrev pub invariant-loop-j : goal.invariant-loop-j
invariant-loop-j g l = record {
  rest : l.rest ≡ drop (512 * l.j - l.piece.offset) l.bytes;
  few : l.j - l.from ≤ l.to - l.from;
  working : has_failed l.log ≡ false;
  room : room_of l.fn.log ≤ room_of l.log + (l.j - l.from);
  puts : OnlyPuts l.fn.log l.log;
  range : SameRange l.fn.sectors l.sectors;
  keeps : (n : ℕ) → taken_of l.fn.sectors n ≡ true → taken_of l.sectors n ≡ true;
  entry : l.entry ≡ record l.fn.entry { pointers = l.entry.pointers };
  written : IsReady l.fn.sectors (view l.fn.log) l.fn.entry → l.to ≤ blocks_for_size l.fn.entry.size
      → ChangesPositions l.fn.sectors l.sectors (view l.fn.log) (view l.log) l.fn.entry l.entry (IsBlockIn l.from l.j)
      × HasBlocks (view l.log) l.entry l.from l.j (image_of l.piece.offset l.bytes l.piece.first l.piece.last);
}
