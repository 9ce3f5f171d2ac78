-- Steps that only ask a volume.
use Rattle.std.proofs.Common.{ℕ, Bool, false, OnOk, Result, Ok, Err, IsErrAnd, ◌≡◌, sym, subst}
use Rattle.vol_sector.specs.Disk.{Disk}
use Rattle.vol_tree.specs.declared.superblock.Superblock.{Superblock}
use Rattle.vol_tree.specs.Superblock.{HasRanges}
use Rattle.vol_tree.specs.Opened.{Opened, Keeps}
use Rattle.path_walk.specs.Walk.{Asked}
use Rattle.vol_commands.specs.internal.Working.{IsWorking}

module _ {D : Type 0} (honest : D → Type 0) (disk : D → Disk) (size failures : D → ℕ) (goes_on : ℕ → D → D → Type 0) where
  -- a volume still works after a step in which no operation failed
  pub works_on : (a b : Opened D) → IsWorking a → Asked honest disk size failures goes_on a b false → IsWorking b
  works_on a b working asked = record {
    working = asked.kept.failed;
    ranges = subst (λ (v : Superblock). HasRanges v) (sym asked.kept.numbers) working.ranges;
  }

pub on_ok : {X E : Type 0} (r : Result X E) (P Q : Type 0) → (P → Q) → OnOk r P → OnOk r Q
on_ok (Ok x) P Q f p = f p
on_ok (Err e) P Q f p = tt

module _ {D : Type 0} (honest : D → Type 0) (size failures : D → ℕ) where
  -- and after one that changed the tree
  pub works_after : (a b : Opened D) → IsWorking a → Keeps honest size failures a b false → IsWorking b
  works_after a b working kept = record {
    working = kept.failed;
    ranges = subst (λ (v : Superblock). HasRanges v) (sym kept.numbers) working.ranges;
  }

-- whom a refusal blames, where it goes on as an error
module _ {D : Type 0} (honest : D → Type 0) (disk : D → Disk) (size failures : D → ℕ) (goes_on : ℕ → D → D → Type 0) {X E : Type 0} (blames : Result X E → Bool) where
  pub asked_on : (r : Result X E) (f : E) → IsErrAnd r (λ e. e ≡ f) → (a b : Opened D) → Asked honest disk size failures goes_on a b (blames (Err f)) → Asked honest disk size failures goes_on a b (blames r)
  asked_on (Ok x) f is a b asked = absurd is
  asked_on (Err e) f is a b asked = subst (λ (x : E). Asked honest disk size failures goes_on a b (blames (Err x))) (sym is) asked
