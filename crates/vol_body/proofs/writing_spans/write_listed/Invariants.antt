use Rattle.std.proofs.Common.{◌≡◌, ◌⊎◌, ◌≤◌, ◌+◌, ◌-◌, ◌*◌, ℕ, true, false, drop}
use Rattle.vol_log.specs.Log.{view, room_of, has_failed}
use Rattle.vol_alloc.specs.Alloc.{taken_of}
use Rattle.vol_inode.specs.Space.{blocks_for_size}
use Rattle.vol_inode.specs.declared.entry.Entry.{Entry}
use Rattle.vol_body.specs.internal.Writing.{IsReady, Mirrors, ChangesPositions, IsBlockIn, HasBlocks, OnlyPuts, SameRange, segment, staged_count, image_of}
use Rattle.vol_body.proofs.writing_spans.write_listed.Given as goal

abbrev pub invariant-loop-j : goal.invariant-loop-j
invariant-loop-j g l = record {
  rest : l.rest ≡ drop (512 * l.j - l.piece.offset) l.bytes;
  few : l.j - l.from ≤ l.to - l.from;
  working : has_failed l.log ≡ false;
  number : l.above.number ≡ l.fn.above.number;
  room : room_of l.fn.log + staged_count l.fn.log l.fn.above.number ≤ room_of l.log + staged_count l.log l.fn.above.number + (l.j - l.from);
  puts : OnlyPuts l.fn.log l.log;
  range : SameRange l.fn.sectors l.sectors;
  keeps : (n : ℕ) → taken_of l.fn.sectors n ≡ true → taken_of l.sectors n ≡ true;
  written : (e : Entry) (s : ℕ) → l.start ≡ 58 + 128 * s → l.to ≤ blocks_for_size e.size → IsReady l.fn.sectors (view l.fn.log) e
      → Mirrors (view l.fn.log) e (segment s) l.fn.above.number l.fn.above.image
      → ChangesPositions l.fn.sectors l.sectors (view l.fn.log) (view l.log) e e (λ p. IsBlockIn l.from l.j p ⊎ (p ≡ segment s))
      × HasBlocks (view l.log) e l.from l.j (image_of l.piece.offset l.bytes l.piece.first l.piece.last)
      × Mirrors (view l.log) e (segment s) l.above.number l.above.image;
}
