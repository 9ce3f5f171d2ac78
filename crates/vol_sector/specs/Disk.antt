-- A disk as contracts see it: what reads give, and what a crash may leave (`docs/VOLUME.md`, "The device"). The trait
-- `Device` is stated by it, and each `crash` clause there is a `Leaves`, on an honest device: a crash leaves what it
-- could leave before, or an image with the property `P` that the clause gives.
use Rattle.std.specs.Prelude.{◌≡◌, ◌⊎◌, ◌+◌, ◌-◌, ◌^◌, ◌≤◌, ◌==◌, ℕ, List, Bool, min, if◌then◌else◌}

-- the bytes of each sector
abbrev pub Image : Type 0
Image = ℕ → List ℕ

-- the image with this sector rewritten
abbrev pub put : ℕ → List ℕ → Image → Image
put n bytes image k = if k == n then bytes else image k

-- What is known of a disk. Moments are told apart by the count of operations tried, failed ones among them.
pub record Disk : Type 1 where
  -- what reads give
  pub seen : Image
  -- what a crash now may leave
  pub may_leave : Image → Type 0
  -- how many operations were tried
  pub operation_count : ℕ
  -- what a crash may have left at some moment from that count on
  pub left_since : ℕ → Image → Type 0

-- what may stand after a step from what may stand before it
abbrev pub After : (Image → Image → Type 0) → (Image → Type 0) → Image → Type 0
After step before c = (d : Image) × before d × step d c

-- a crash around a write: the sector is as it was or rewritten
abbrev pub Wrote : ℕ → List ℕ → Image → Image → Type 0
Wrote n bytes before after = (after ≡ before) ⊎ (after ≡ put n bytes before)

-- a crash leaves this and nothing else
abbrev pub Only : Image → (Image → Type 0) → Type 0
Only image may_leave = (c : Image) → may_leave c → c ≡ image

-- Each image that a crash since the old count may leave could be left before, or has P.
pub record Leaves (old new : Disk) (P : Image → Type 0) : Type 0 where
  pub later : old.operation_count ≤ new.operation_count
  pub since : (t : ℕ) (c : Image) → t ≤ old.operation_count → new.left_since t c → old.left_since t c ⊎ P c
  pub now : (c : Image) → new.may_leave c → old.may_leave c ⊎ P c

-- what might have been left might still have been
abbrev pub Keeps : Disk → Disk → Type 0
Keeps old new = (t : ℕ) (c : Image) → t ≤ old.operation_count → old.left_since t c → new.left_since t c

-- one operation was tried
abbrev pub OneMore : Disk → Disk → Type 0
OneMore old new = new.operation_count ≡ old.operation_count + 1

-- one operation was tried, and a crash may leave what has P, too
abbrev pub OneOperation : Disk → Disk → (Image → Type 0) → Type 0
OneOperation old new P = Leaves old new P × Keeps old new × OneMore old new

-- the count of failed operations after one more, where it has room for it
abbrev pub counted : Bool → ℕ → ℕ
counted failed before = if failed then min (before + 1) (2 ^ 64 - 1) else before

-- the failed operations of two counts, where one count has room for them
abbrev pub both_counts : ℕ → ℕ → ℕ
both_counts one other = min (one + other) (2 ^ 64 - 1)
