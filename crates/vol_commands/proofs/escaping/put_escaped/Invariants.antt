use Rattle.std.proofs.Common.{◌≡◌, ◌≤◌, ◌+◌, ◌*◌, ◌++◌, length, take}
use Rattle.std.specs.List.{flat_map}
use Rattle.vol_commands.specs.Listing.{escaped_byte}
use Rattle.vol_commands.proofs.escaping.put_escaped.Given as goal

-- the bytes so far are put
abbrev pub invariant-loop-byte : goal.invariant-loop-byte
invariant-loop-byte l = record {
  items : l.line.items ≡ l.fn.line.items ++ flat_map escaped_byte (take l.byte-index l.name);
  len : length l.line.items ≤ length l.fn.line.items + 4 * l.byte-index;
}
