use Rattle.std.proofs.Common.{◌≡◌, ◌≤◌, ◌||◌, drop}
use Rattle.path_walk.specs.internal.Runs.{is_long}
use Rattle.path_walk.proofs.path.has_long_part.Given as goal

-- the answer so far, or that of the rest
abbrev pub invariant-loop-byte : goal.invariant-loop-byte
invariant-loop-byte l = record {
  short : l.run ≤ l.byte-index;
  told : (l.found || is_long l.run (drop l.byte-index l.text)) ≡ is_long 0 l.text;
}
