-- What the invariant of `Dirs` says of its keys and children, and of its flags of used slots. The keys say all, and
-- children and flags only repeat it: `lookup` searches the keys, `next_child` the children.
use Rattle.std.specs.Prelude.{◌≡◌, ◌≤◌, ◌-◌, ℕ, List, Bool, true, false, length, take, slice_index_or}
use Rattle.std.specs.List.{Contains}
use Rattle.std.specs.declared.cmp.Ordering.{Ordering}
use Rattle.std.specs.Ordering.{ordering_then, nat_cmp}
use Rattle.std.specs.Cmp.Lexicographic.{slice_cmp}
use Rattle.vol_dirs.specs.internal.Key.{IsKey}

-- keys go by their bytes, and then by their serials
abbrev pub key_order : List ℕ × ℕ → List ℕ × ℕ → Ordering
key_order a b = ordering_then (slice_cmp nat_cmp a.0 b.0) (nat_cmp a.1 b.1)

-- There is one key for each serial in use, and the children are those of the keys: the directories, which are the first
-- four bytes, with the serials.
pub record IsListing (slots : ℕ) (keys children : List (List ℕ × ℕ)) : Type 0 where
  pub numbered : (key : List ℕ) (s : ℕ) → Contains keys (key, s) → (1 ≤ s) × (s ≤ slots)
  pub formed : (key : List ℕ) (s : ℕ) → Contains keys (key, s) → IsKey key
  pub one_each : (key other : List ℕ) (s : ℕ) → Contains keys (key, s) → Contains keys (other, s) → key ≡ other
  pub no_more : (child : List ℕ) (s : ℕ) → Contains children (child, s) → ((key : List ℕ) → Contains keys (key, s) → take 4 key ≡ child → ⊥) → ⊥
  pub no_fewer : (key : List ℕ) (s : ℕ) → Contains keys (key, s) → (Contains children (take 4 key, s) → ⊥) → ⊥

-- There is a flag for each slot, which says whether a key is held for its serial.
pub record AreMarked (slots : ℕ) (keys : List (List ℕ × ℕ)) (flags : List Bool) : Type 0 where
  pub count : length flags ≡ slots
  pub held : (key : List ℕ) (s : ℕ) → Contains keys (key, s) → slice_index_or flags (s - 1) false ≡ true
  pub only : (s : ℕ) → 1 ≤ s → slice_index_or flags (s - 1) false ≡ true → ((key : List ℕ) → Contains keys (key, s) → ⊥) → ⊥
