-- How the bytes of a stream are counted and bounded. `Counted` has these in the contracts of `read` and `write`; the report takes
-- from there its numbers of bytes, which streams were cut, and who is to blame.
use Rattle.std.specs.Prelude.{◌≡◌, ◌⊎◌, ◌==◌, ◌&&◌, ◌||◌, ◌+◌, ◌-◌, ◌^◌, ℕ, Bool, List, true, min, nat_lt, Result, Ok, Err, MatchResult, if◌then◌else◌}
use Rattle.sandbox_report.specs.declared.counted.Counted.{Counted}

-- a read or a write adds the bytes that it moved, up to the greatest count, and a refused one none
abbrev pub Counts : {E : Type 0} → ℕ → ℕ → Result ℕ E → Type 0
Counts old new result = MatchResult result (λ n. new ≡ min (old + n) (2 ^ 64 - 1)) (λ e. new ≡ old)

-- a stream has failed once it refused a read or a write
abbrev pub failed_after : {E : Type 0} → Bool → Result ℕ E → Bool
failed_after failed (Ok n) = failed
failed_after failed (Err e) = true

-- a write of so many bytes comes when there is no room
abbrev pub is_past : ℕ → ℕ → Bool
is_past room asked = room == 0 && nat_lt 0 asked

-- a stream is full once a write of some bytes came when there was no room
abbrev pub is_full_after : Bool → ℕ → ℕ → Bool
is_full_after full room asked = full || is_past room asked

-- and such a write isn't the stream's failure
abbrev pub failed_after_write : {E : Type 0} → Bool → ℕ → ℕ → Result ℕ E → Bool
failed_after_write failed room asked result = if is_past room asked then failed else failed_after failed result

-- ---- what a counted stream tells of its calls

-- it moved the bytes that the stream moved, and isn't noted as failed for that
abbrev pub counted_moved : {S : Type 0} → (S → List ℕ → S → Type 0) → Counted S → List ℕ → Counted S → Type 0
counted_moved moved before bytes after = moved before.stream bytes after.stream × (after.failed ≡ before.failed)

-- the stream refused, and is noted as failed
abbrev pub counted_refused : {S : Type 0} → (S → S → Type 0) → Counted S → Counted S → Type 0
counted_refused refused before after = refused before.stream after.stream × (after.failed ≡ true)

-- so did an output; or it has all that it takes, and isn't asked
abbrev pub counted_refused_or_full : {S : Type 0} → (S → S → Type 0) → Counted S → Counted S → Type 0
counted_refused_or_full refused before after = (refused before.stream after.stream × (after.failed ≡ true))
    ⊎ ((after.stream ≡ before.stream) × (after.full ≡ true) × (after.failed ≡ before.failed))
