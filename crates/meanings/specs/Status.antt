-- The status of the process (`docs/USING.md`, "How a run ends").
use Rattle.std.specs.Prelude.{◌==◌, ℕ, if◌then◌else◌}

-- 40 is memory that was refused
abbrev pub status_of_fault : ℕ → ℕ
status_of_fault number = if number == 40 then 122 else 124
