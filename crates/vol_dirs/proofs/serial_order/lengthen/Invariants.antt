use Rattle.std.proofs.Common.{◌≡◌, ◌≤◌, ◌<◌, ◌-◌, ℕ, [], get_or}
use Rattle.std.specs.Prelude.{vec_len, vec_capacity}
use Rattle.vol_dirs.proofs.serial_order.lengthen.Given as goal

abbrev pub invariant-loop-keys : goal.invariant-loop-keys
invariant-loop-keys g l = record {
  within : vec_len l.keys ≤ l.count;
  longer : vec_len l.initial.keys ≤ vec_len l.keys;
  kept : (k : ℕ) → k < vec_len l.initial.keys → get_or l.keys.items k [] ≡ get_or l.initial.keys.items k [];
  capacity : vec_capacity l.keys ≡ vec_capacity l.initial.keys;
}

abbrev pub decreases-loop-keys : goal.decreases-loop-keys
decreases-loop-keys g l = l.count - vec_len l.keys
