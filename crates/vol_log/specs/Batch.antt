-- What a log stands for: a batch (sectors with their new images) put over an image, and the content of an image once
-- its log is installed (`docs/VOLUME.md`, "Log"). `HasContent` asks for a right header, and compares all sectors but
-- the log's own, which are no content.
use Rattle.std.specs.Prelude.{◌≡◌, ◌⊎◌, ◌+◌, ◌≤◌, ◌<◌, ◌==◌, ℕ, List, [], ◌∷◌, Bool, true, false, if◌then◌else◌}
use Rattle.vol_sector.specs.Disk.{Image, Disk, Only}
use Rattle.vol_log.specs.Header.{IsHeader}
use Rattle.vol_log.specs.declared.staged.Staged.{Staged}
use Rattle.vol_log.specs.declared.layout.TheConstants.{FIRST_AFTER_LOG}

-- the batch put over an image
abbrev pub over : List Staged → Image → Image
over [] image k = image k
over (s ∷ batch) image k = if k == s.sector then s.image else over batch image k

-- is the sector in the batch?
abbrev pub holds : List Staged → ℕ → Bool
holds [] n = false
holds (s ∷ batch) n = if n == s.sector then true else holds batch n

-- what the log's sectors, from one on, hold for these sectors
abbrev pub logged : List ℕ → ℕ → Image → List Staged
logged [] at image = []
logged (n ∷ ns) at image = record { sector = n; image = image at } ∷ logged ns (at + 1) image

-- all sectors but the log's own
abbrev pub IsContent : ℕ → Type 0
IsContent k = (k < 1) ⊎ (FIRST_AFTER_LOG ≤ k)

abbrev pub SameContent : Image → Image → Type 0
SameContent one other = (k : ℕ) → IsContent k → one k ≡ other k

-- the image, with its header's images put in their places, has this content
pub record HasContent (sectors : ℕ) (image content : Image) : Type 0 where
  pub log : List ℕ
  pub header : IsHeader sectors (image 1) log
  pub same : SameContent (over (logged log 2 image) image) content

-- everything is on the disk and the log is empty
pub record Settled (sectors : ℕ) (disk : Disk) : Type 0 where
  pub durable : Only disk.seen disk.may_leave
  pub empty : IsHeader sectors (disk.seen 1) []

-- the image has one of these contents
abbrev pub HasEither : ℕ → Image → Image → Image → Type 0
HasEither sectors one other image = HasContent sectors image one ⊎ HasContent sectors image other
