-- What the steps of formatting change, and what a crash leaves of them.
use Rattle.std.proofs.Common.{◌≡◌, ◌≢◌, ⊎_elim, inl, inr, ℕ, ◌+◌, ◌≤◌, List, [], get_or, take, replicate, Result, Ok, Err, OnOk, sym, ◌∙◌, ap, subst, arith}
use Rattle.std.proofs.lemmas.Bool.{cases_eq}
use Rattle.vol_sector.specs.Disk.{Image, Disk, put, Wrote, After, Leaves}
use Rattle.vol_log.specs.Header.{header_bytes}
use Rattle.vol_log.proofs.Images.{put_same, put_other, at_once, wrote_other}
use Rattle.vol_tree.specs.declared.superblock.Superblock.{Superblock}
use Rattle.vol_tree.specs.Superblock.{superblock, HasRanges}
use Rattle.vol_tree.specs.Stands.{StandsAs, IsNoVolume, empty_tree}
use Rattle.vol_tree.specs.Fresh.{IsNoneOrEmpty}
use Rattle.vol_tree.specs.internal.Formatting.{fresh_slot, HasFreshSlots, IsFresh, OnlyAfterLogChanges, OnlyAfterFrontChanges}
use Rattle.vol_tree.proofs.Empty.{stands_empty}
use Rattle.vol_log.specs.declared.layout.TheConstants.{FIRST_AFTER_LOG}
use Rattle.vol_dirs.specs.Slots.{slot_sector}

-- a write after the log
pub wrote_after_log : (n : ℕ) (bytes : List ℕ) → FIRST_AFTER_LOG ≤ n → (x y : Image) → Wrote n bytes x y → OnlyAfterLogChanges x y
wrote_after_log n bytes after_log x y wrote k low = let other : k ≢ n = omega arith in wrote_other n k bytes x y wrote other

pub after_log_joins : (x y z : Image) → OnlyAfterLogChanges x y → OnlyAfterLogChanges y z → OnlyAfterLogChanges x z
after_log_joins x y z one two k low = two k low ∙ one k low

-- one slot more
pub slots_more : (s : ℕ) (bytes : List ℕ) (x y : Image) → y ≡ put (slot_sector (s + 1)) bytes x → bytes ≡ fresh_slot s → HasFreshSlots s x → HasFreshSlots (s + 1) y
slots_more s bytes x y written spelled so_far t lt = at_once (slot_sector (t + 1)) y (put (slot_sector (s + 1)) bytes x) written ∙ elim (cases_eq t s) [
  | inl same ↦ ap (λ (k : ℕ). put (slot_sector (s + 1)) bytes x (slot_sector (k + 1))) same ∙ put_same (slot_sector (s + 1)) bytes x ∙ spelled ∙ ap fresh_slot (sym same)
  | inr other ↦ let apart : slot_sector (t + 1) ≢ slot_sector (s + 1) = omega arith in put_other (slot_sector (s + 1)) (slot_sector (t + 1)) bytes x apart ∙ so_far t (omega arith)
]

-- steps that leave the first sector
pub header_leaves_first : (bytes : List ℕ) (x y : Image) → Wrote 1 bytes x y → OnlyAfterFrontChanges x y
header_leaves_first bytes x y wrote = let other : 0 ≢ 1 = omega arith in wrote_other 1 0 bytes x y wrote other

pub after_log_leaves_first : (x y : Image) → OnlyAfterLogChanges x y → OnlyAfterFrontChanges x y
after_log_leaves_first x y step = step 0 (omega arith)

pub first_joins : (x y z : Image) → OnlyAfterFrontChanges x y → OnlyAfterFrontChanges y z → OnlyAfterFrontChanges x z
first_joins x y z one two = two ∙ one

-- an empty log in front of new slots
pub is_fresh : (slots : ℕ) (bytes : List ℕ) (a b c : Image) → b ≡ put 1 bytes a → bytes ≡ header_bytes [] → OnlyAfterLogChanges b c → HasFreshSlots slots c → IsFresh slots c
is_fresh slots bytes a b c written spelled after_log entries = record {
  log = after_log 1 (omega arith) ∙ at_once 1 b (put 1 bytes a) written ∙ put_same 1 bytes a ∙ spelled;
  entries = entries;
}

-- the first sector is written in front of it
pub still_fresh : (slots : ℕ) (bytes : List ℕ) (a b : Image) → b ≡ put 0 bytes a → IsFresh slots a → IsFresh slots b
still_fresh slots bytes a b written fresh = record {
  log = let other : 1 ≢ 0 = omega arith in at_once 1 b (put 0 bytes a) written ∙ put_other 0 1 bytes a other ∙ fresh.log;
  entries = λ s lt. let other : slot_sector (s + 1) ≢ 0 = omega arith in at_once (slot_sector (s + 1)) b (put 0 bytes a) written ∙ put_other 0 (slot_sector (s + 1)) bytes a other ∙ fresh.entries s lt;
}

-- ---- no volume, or the empty one

pub zeros_are_none : (m : Image) → m 0 ≡ replicate 512 0 → IsNoVolume m
zeros_are_none m is begins =
    let first : ◌≡◌ {A = ℕ} 0 87 = ap (λ (l : List ℕ). get_or l 0 0) (ap (take 8) (sym is) ∙ begins) in
    omega arith

-- a write that leaves what was before, or has P
pub leaves_first : (a b : Disk) (bytes : List ℕ) (P : Image → Type 0) → ((t : ℕ) (c : Image) → t ≤ a.operation_count → a.may_leave c → a.left_since t c) → ((c : Image) → P (put 0 bytes c)) → Leaves a b (After (Wrote 0 bytes) a.may_leave) → Leaves a b P
leaves_first a b bytes P counts here leaves = record {
  later = leaves.later;
  since = λ t c le left. ⊎_elim (λ was. inl was) (λ after. elim after.2 [
    | inl same ↦ inl (counts t c le (subst a.may_leave (sym same) after.1))
    | inr written ↦ inr (subst P (sym written) (here after.0))
  ]) (leaves.since t c le left);
  now = λ c may. ⊎_elim (λ was. inl was) (λ after. elim after.2 [
    | inl same ↦ inl (subst a.may_leave (sym same) after.1)
    | inr written ↦ inr (subst P (sym written) (here after.0))
  ]) (leaves.now c may);
}

pub zeros_first : (v : Superblock) (bytes : List ℕ) (c : Image) → bytes ≡ replicate 512 0 → IsNoneOrEmpty v (put 0 bytes c)
zeros_first v bytes c zeros = inl (zeros_are_none (put 0 bytes c) (put_same 0 bytes c ∙ zeros))

pub cleared : (bytes : List ℕ) (a b : Image) → b ≡ put 0 bytes a → bytes ≡ replicate 512 0 → b 0 ≡ replicate 512 0
cleared bytes a b written zeros = at_once 0 b (put 0 bytes a) written ∙ put_same 0 bytes a ∙ zeros

-- the superblock in front of an empty volume
pub named_empty : (v : Superblock) (bytes : List ℕ) (a b : Image) → HasRanges v → bytes ≡ superblock v → IsFresh v.slots a → b ≡ put 0 bytes a → StandsAs b v (empty_tree v.slots)
named_empty v bytes a b ranges spelled fresh written =
    stands_empty v b ranges (at_once 0 b (put 0 bytes a) written ∙ put_same 0 bytes a ∙ spelled) (still_fresh v.slots bytes a b written fresh)

pub named_or_none : (v : Superblock) (bytes : List ℕ) (a b : Image) → HasRanges v → bytes ≡ superblock v → IsFresh v.slots a → a 0 ≡ replicate 512 0 → Wrote 0 bytes a b → IsNoneOrEmpty v b
named_or_none v bytes a b ranges spelled fresh zeros (inl same) = inl (zeros_are_none b (at_once 0 b a same ∙ zeros))
named_or_none v bytes a b ranges spelled fresh zeros (inr written) = inr (named_empty v bytes a b ranges spelled fresh written)

-- what holds anyway holds at Ok
pub at_ok : {T E : Type 0} (r : Result T E) (P : Type 0) → P → OnOk r P
at_ok (Ok x) P p = p
at_ok (Err e) P p = tt
