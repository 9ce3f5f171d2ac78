-- One operation more on a disk in a file.
use Rattle.std.proofs.Common.{◌≡◌, ◌≢◌, ◌⊎◌, ◌==◌, ◌-◌, ◌≤◌, if◌then◌else◌, inl, inr, ⊎_elim, ℕ, suc, List, [], ◌∷◌, length, take, refl, sym, ◌∙◌, ap, subst, arith}
use Rattle.std.proofs.lemmas.Bool.{cases_eq}
use Rattle.std.proofs.lemmas.Bool.Decides.{nat_tests}
use Rattle.vol_sector.specs.Disk.{Image, put, Wrote, After, Leaves, Keeps, Only}
use Rattle.vol_sector.specs.Record.{image_of}
use Rattle.sandbox_device.specs.Ram.{Sectors}
use Rattle.sandbox_device.specs.File.{IsIn, IsMixed, IsMixedAt, kept}

-- what might have been left since an earlier time, after one operation more
since_more : (moments was : List Sectors) (times : List (List Sectors)) (t : ℕ) (c : Image) → t ≤ length times → IsMixedAt (moments ∷ take (length (was ∷ times) - t) (was ∷ times)) c
    → IsMixed moments c ⊎ IsMixedAt (was ∷ take (length times - t) times) c
since_more moments was times t c le left =
    let longer : length (was ∷ times) - t ≡ suc (length times - t) = omega arith in
    subst (λ (k : ℕ). IsMixedAt (moments ∷ take k (was ∷ times)) c) longer left

pub keeps_more : (new now : Sectors) (unsynced old : List Sectors) (times : List (List Sectors)) → Keeps (kept now old times) (kept new unsynced ((now ∷ old) ∷ times))
keeps_more new now unsynced old times t c le left =
    let was : List Sectors = now ∷ old in
    let longer : length (was ∷ times) - t ≡ suc (length times - t) = omega arith in
    subst (λ (k : ℕ). IsMixedAt ((new ∷ unsynced) ∷ take k (was ∷ times)) c) (sym longer) (inr left)

-- an operation after which a crash leaves nothing that it couldn't leave before
quiet : (now : Sectors) (unsynced old : List Sectors) (times : List (List Sectors)) → ((c : Image) → IsMixed (now ∷ unsynced) c → IsMixed (now ∷ old) c)
    → Leaves (kept now old times) (kept now unsynced ((now ∷ old) ∷ times)) (λ c. ⊥)
quiet now unsynced old times among = record {
  later = omega arith;
  since = λ t c le left. inl (⊎_elim (λ is. inl (among c is)) (λ was. was) (since_more (now ∷ unsynced) (now ∷ old) times t c le left));
  now = λ c is. inl (among c is);
}

pub leaves_kept : (now : Sectors) (unsynced : List Sectors) (times : List (List Sectors)) → Leaves (kept now unsynced times) (kept now unsynced ((now ∷ unsynced) ∷ times)) (λ c. ⊥)
leaves_kept now unsynced times = quiet now unsynced unsynced times (λ c is. is)

-- a sync leaves the sectors as they are now
now_alone : (now : Sectors) (c : Image) (n : ℕ) → IsIn (now ∷ []) n (c n) → c n ≡ image_of now n
now_alone now c n (inl is) = is
now_alone now c n (inr none) = absurd none

pub only_now : (now : Sectors) → Only (image_of now) (IsMixed (now ∷ []))
only_now now c is = λ j n. now_alone now c n (is n) j

pub leaves_synced : (now : Sectors) (old : List Sectors) (times : List (List Sectors)) → Leaves (kept now old times) (kept now [] ((now ∷ old) ∷ times)) (λ c. ⊥)
leaves_synced now old times = quiet now [] old times (λ c is n. inl (now_alone now c n (is n)))

-- a write
module _ (now new : Sectors) (old : List Sectors) (n : ℕ) (bytes : List ℕ) (put_is : image_of new ≡ put n bytes (image_of now)) where
  hit : (k : ℕ) (x y : List ℕ) → k ≡ n → (if k == n then x else y) ≡ x
  hit k x y is = grind (arith, nat_tests)

  miss : (k : ℕ) (x y : List ℕ) → k ≢ n → (if k == n then x else y) ≡ y
  miss k x y ne = grind (arith, nat_tests)

  -- another sector is as it was
  beside : (c : Image) → IsMixed (new ∷ now ∷ old) c → (k : ℕ) → k ≢ n → IsIn (now ∷ old) k (c k)
  beside c is k other =
      ⊎_elim (λ same. inl (same ∙ (ap (λ (image : Image). image k) put_is ∙ miss k bytes (image_of now k) other))) (λ before. before) (is k)

  mixed_write : (c : Image) → IsMixed (new ∷ now ∷ old) c → After (Wrote n bytes) (IsMixed (now ∷ old)) c
  mixed_write c is = elim (is n) [
    | inl written ↦ (
      put n (image_of now n) c,
      (λ k. elim (cases_eq k n) [
        | inl here ↦ inl (hit k (image_of now n) (c k) here ∙ ap (image_of now) (sym here))
        | inr other ↦ subst (IsIn (now ∷ old) k) (sym (miss k (image_of now n) (c k) other)) (beside c is k other)
      ]),
      inr (λ j k. whole written k j),
    )
    | inr before ↦ (
      c,
      (λ k. elim (cases_eq k n) [
        | inl here ↦ subst (λ (m : ℕ). IsIn (now ∷ old) m (c m)) (sym here) before
        | inr other ↦ beside c is k other
      ]),
      inl refl,
    )
  ]
    where
      whole : c n ≡ image_of new n → (k : ℕ) → c k ≡ put n bytes (put n (image_of now n) c) k
      whole written k = elim (cases_eq k n) [
        | inl here ↦ ap c here ∙ written ∙ ap (λ (image : Image). image n) put_is ∙ hit n bytes (image_of now n) refl ∙ sym (hit k bytes (put n (image_of now n) c k) here)
        | inr other ↦ sym (miss k bytes (put n (image_of now n) c k) other ∙ miss k (image_of now n) (c k) other)
      ]

  pub leaves_written : (times : List (List Sectors)) → Leaves (kept now old times) (kept new (now ∷ old) ((now ∷ old) ∷ times)) (After (Wrote n bytes) (IsMixed (now ∷ old)))
  leaves_written times = record {
    later = omega arith;
    since = λ t c le left. ⊎_elim (λ is. inr (mixed_write c is)) (λ was. inl was) (since_more (new ∷ now ∷ old) (now ∷ old) times t c le left);
    now = λ c is. inr (mixed_write c is);
  }
