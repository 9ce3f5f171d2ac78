-- What a commit's steps leave on the disk, and which sectors they may change. At Ok `log_batch` goes from `Settled` to
-- `Logged`, and `apply_batch` back; what `install` writes, also where it fails, the batch hides (`Under`).
use Rattle.std.specs.Prelude.{◌≡◌, ◌⊎◌, ◌≤◌, ◌<◌, ℕ, List}
use Rattle.vol_sector.specs.Disk.{Image, Disk, Only}
use Rattle.vol_log.specs.Header.{IsHeader}
use Rattle.vol_log.specs.declared.staged.Staged.{Staged}
use Rattle.vol_log.specs.Batch.{over, logged, IsContent}
use Rattle.vol_log.specs.internal.Batch.{numbers}
use Rattle.vol_log.specs.declared.layout.TheConstants.{FIRST_AFTER_LOG}

-- everything is on the disk and the log holds the batch
pub record Logged (sectors : ℕ) (batch : List Staged) (disk : Disk) : Type 0 where
  pub durable : Only disk.seen disk.may_leave
  pub header : IsHeader sectors (disk.seen 1) (numbers batch)
  pub images : logged (numbers batch) 2 disk.seen ≡ batch

-- a step that changes nothing outside the log's images
abbrev pub OnlyImagesChange : Image → Image → Type 0
OnlyImagesChange before after = (k : ℕ) → (k < 2) ⊎ (FIRST_AFTER_LOG ≤ k) → after k ≡ before k

-- a step that changes nothing outside the log
abbrev pub OutsideLog : Image → Image → Type 0
OutsideLog before after = (k : ℕ) → IsContent k → after k ≡ before k

-- a step that the batch hides
abbrev pub Under : List Staged → Image → Image → Type 0
Under batch before after = over batch after ≡ over batch before
