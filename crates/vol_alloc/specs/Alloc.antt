-- What callers see of the allocator: the range of data sectors, and which are taken (`docs/VOLUME.md`, "Sectors").
-- Public contracts see flags and a count, and no list of free sectors, so which one `take` gives is left open.
use Rattle.std.specs.Prelude.{ℕ, ◌-◌, Bool, false, not, count_by, nat_lt, slice_index_or, if◌then◌else◌}
use Rattle.vol_alloc.specs.declared.sectors.Alloc.{Alloc}

-- the first sector of the range
abbrev pub first_of : Alloc → ℕ
first_of a = a.first

-- the sector after the range
abbrev pub end_of : Alloc → ℕ
end_of a = a.end

-- is the sector one of the range that is taken?
abbrev pub taken_of : Alloc → ℕ → Bool
taken_of a n = if nat_lt n a.first then false else slice_index_or a.taken.items (n - a.first) false

-- how many sectors of the range are free
abbrev pub free_of : Alloc → ℕ
free_of a = count_by not a.taken.items
