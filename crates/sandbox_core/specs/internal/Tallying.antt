-- A tally with one pause more. Only a pause that tells of an answered call adds to it.
use Rattle.std.specs.Prelude.{◌≡◌, ◌+◌, ◌-◌, ◌<◌, ◌^◌, ℕ, Bool, length, min, slice_index, if◌then◌else◌}
use Rattle.wasm_steps.specs.declared.pause.Pause.{Pause}
use Rattle.sandbox_core.specs.declared.tally.Tally.{Tally}
use Rattle.sandbox_core.specs.Session.{is_answered, is_called, is_synced}

-- a count with one more, where it is so
abbrev pub counted : Bool → ℕ → ℕ
counted is_so n = if is_so then min (n + 1) (2 ^ 64 - 1) else n

pub record TalliesPause (p : Pause) (old new : Tally) : Type 0 where
  pub calls : new.calls ≡ min (old.calls + (if is_called p then 1 else 0)) (2 ^ 64 - 1)
  pub syncs : new.syncs ≡ min (old.syncs + (if is_synced p then 1 else 0)) (2 ^ 64 - 1)
  pub errnos : length new.answers ≡ length old.answers
  pub answers : (k : ℕ) → k < length old.answers
      → slice_index new.answers k ≡ counted (is_answered k p) (slice_index old.answers k)
