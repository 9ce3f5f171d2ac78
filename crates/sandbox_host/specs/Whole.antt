-- What a run in one call tells, and why formatting is refused. Neither call keeps anything behind a handle: `Ran` is
-- for `run` where it answers 0, `IsUnformatted` for `format` where it doesn't.
use Rattle.std.specs.Prelude.{◌≡◌, ◌⊎◌, ℕ, List, length}
use Rattle.vol_tree.specs.declared.superblock.Superblock.{Superblock}
use Rattle.vol_tree.specs.Superblock.{HasRanges}
use Rattle.sandbox_host.specs.declared.numbers.Told.{Told}
use Rattle.sandbox_host.specs.declared.supplies.Supplies.{Supplies}
use Rattle.sandbox_host.specs.declared.volumes.Origin.TheVariants.{Fresh}
use Rattle.sandbox_host.specs.Numbers.{told_end}
use Rattle.sandbox_host.specs.Host.{State, HostReport, Reports}
use Rattle.sandbox_host.specs.Sessions.{BeginsFrom, IsShown}

-- A session of the module that the bytes spell, over a fresh volume, ran with this fuel and ended so; what it wrote is shown.
pub record Ran (bytes : List ℕ) (supplies : Supplies) (fuel : ℕ) (told : Told) (length_told : ℕ) (before after : List ℕ) : Type 0 where
  pub session : State
  pub begins : BeginsFrom bytes supplies Fresh session
  pub report : HostReport
  pub reports : Reports session fuel report
  pub tells : told ≡ told_end report.outcome report.used
  pub counted : length_told ≡ length report.out.bytes.items
  pub shown : IsShown report.out.bytes.items before after

-- Why sectors aren't made a volume with these numbers: a number is out of its range, or memory was refused.
abbrev pub IsUnformatted : Superblock → ℕ → Type 0
IsUnformatted numbers number = ((number ≡ 36) × (HasRanges numbers → ⊥)) ⊎ (number ≡ 40)
