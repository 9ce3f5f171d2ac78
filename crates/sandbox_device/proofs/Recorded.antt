-- One operation more on a disk that is recorded.
use Rattle.std.proofs.Common.{◌≡◌, ◌≤◌, ◌-◌, List, [], ◌∷◌, ◌++◌, Bool, true, false, ℕ, length, refl, ap, sym, ◌∙◌, subst, inl, inr, arith}
use Rattle.std.specs.Prelude.{count_by, cond}
use Rattle.std.proofs.lemmas.List.Sums.{sum_by-cons}
use Rattle.std.proofs.lemmas.List.{length_push, take_all}
use Rattle.vol_sector.specs.Disk.{Image, Leaves, Keeps, Only, After, Wrote}
use Rattle.vol_sector.specs.Counting.{counting, passed_since}
use Rattle.vol_sector.specs.Record.{newest, recorded, choices, Among, LeftBy, image_of}
use Rattle.vol_sector.specs.declared.record.Operation.{Operation}
use Rattle.vol_sector.specs.declared.record.Operation.TheVariants.{Write, Sync}
use Rattle.vol_sector.proofs.Counting.{leaves_passed, leaves_kept, keeps_passed, keeps_kept}
use Rattle.vol_sector.proofs.Records.{keeps_push, leaves_write, leaves_sync, only_sync}
use Rattle.sandbox_device.specs.Ram.{Sectors}
use Rattle.sandbox_device.specs.Recorded.{written_by}
use Rattle.sandbox_device.specs.internal.RecordedLaws.{now_is_all}
use Rattle.sandbox_device.specs.declared.recorded_device.RecordedDevice.{RecordedDevice}
use Rattle.sandbox_device.specs.Followed.{IsFollowed, GoesOn, done_on, followed_disk}
use Rattle.vol_sector.specs.Past.{LeavesPast, StillGoesOn}
use Rattle.vol_sector.specs.internal.PastLaws.{past_then}
use Rattle.vol_sector.specs.internal.RecordLaws.{begins_further}

-- what reads give says nothing of what a crash leaves
with_seen : (now new first : Sectors) (done more : List Operation) (outcomes tried : List Bool) (P : Image → Type 0)
    → Leaves (counting outcomes (recorded (image_of first) done)) (counting tried (recorded (image_of first) more)) P
    → Leaves (written_by now first done outcomes) (written_by new first more tried) P
with_seen now new first done more outcomes tried P leaves = record { later = leaves.later; since = leaves.since; now = leaves.now }

module _ (now first : Sectors) (done : List Operation) (outcomes : List Bool) where
  abbrev start : Image
  start = image_of first

  pub keeps_quiet : Keeps (written_by now first done outcomes) (written_by now first done (false ∷ outcomes))
  keeps_quiet = keeps_kept outcomes (false ∷ outcomes) (recorded start done) refl

  pub leaves_quiet : Leaves (written_by now first done outcomes) (written_by now first done (false ∷ outcomes)) (λ c. ⊥)
  leaves_quiet = with_seen now now first done done outcomes (false ∷ outcomes) (λ c. ⊥) (leaves_kept outcomes (false ∷ outcomes) (recorded start done) (λ c. ⊥) refl)

  pub keeps_more : (new : Sectors) (o : Operation) → Keeps (written_by now first done outcomes) (written_by new first (done ++ o ∷ []) (true ∷ outcomes))
  keeps_more new o = keeps_passed outcomes (true ∷ outcomes) (recorded start done) (recorded start (done ++ o ∷ [])) refl (length_push done o) (keeps_push start done o)

  pub leaves_synced : Leaves (written_by now first done outcomes) (written_by now first (done ++ Sync ∷ []) (true ∷ outcomes)) (λ c. ⊥)
  leaves_synced = with_seen now now first done (done ++ Sync ∷ []) outcomes (true ∷ outcomes) (λ c. ⊥)
      (leaves_passed outcomes (true ∷ outcomes) (recorded start done) (recorded start (done ++ Sync ∷ [])) (λ c. ⊥) refl (length_push done Sync) (leaves_sync start done))

  pub only_synced : ((n : ℕ) → image_of now n ≡ newest n (start n) done) → Only (image_of now) (LeftBy start (done ++ Sync ∷ []))
  only_synced agrees c left = λ j n. (ap (λ (i : Image). i n) (only_sync start done c left) ∙ sym (agrees n)) j

  pub leaves_written : (new : Sectors) (n : ℕ) (bytes : List ℕ)
      → Leaves (written_by now first done outcomes) (written_by new first (done ++ Write n bytes ∷ []) (true ∷ outcomes)) (After (Wrote n bytes) (LeftBy start done))
  leaves_written new n bytes = with_seen now new first done (done ++ Write n bytes ∷ []) outcomes (true ∷ outcomes) (After (Wrote n bytes) (LeftBy start done))
      (leaves_passed outcomes (true ∷ outcomes) (recorded start done) (recorded start (done ++ Write n bytes ∷ [])) (After (Wrote n bytes) (LeftBy start done)) refl
      (length_push done (Write n bytes)) (leaves_write start done n bytes))

-- how many of the operations tried were writes and syncs
pub counts_more : (outcomes : List Bool) (done : List Operation) (o : Operation) → count_by (λ (passed : Bool). passed) outcomes ≡ length done
    → count_by (λ (passed : Bool). passed) (true ∷ outcomes) ≡ length (done ++ o ∷ [])
counts_more outcomes done o is = omega (arith, is, sum_by-cons (λ (passed : Bool). cond passed 1 0) true outcomes, length_push done o)

pub counts_quiet : (outcomes : List Bool) (done : List Operation) → count_by (λ (passed : Bool). passed) outcomes ≡ length done
    → count_by (λ (passed : Bool). passed) (false ∷ outcomes) ≡ length done
counts_quiet outcomes done is = omega (arith, is, sum_by-cons (λ (passed : Bool). cond passed 1 0) false outcomes)

-- ---- a disk that follows

pub followed : (d : RecordedDevice) → IsFollowed d
followed d = record {
  ends = λ n. sym (d.agrees n);
  stops = λ k c le left. (k, start le, le, left);
}
  where
    start : {k : ℕ} → k ≤ length (done_on d) → length (done_on d) - passed_since d.history.outcomes 0 ≤ k
    start {k} le =
        let all : passed_since d.history.outcomes 0 ≡ length (done_on d) = ap (λ (l : List Bool). count_by (λ (passed : Bool). passed) l) (take_all (length d.history.outcomes - 0) d.history.outcomes (omega arith)) ∙ d.counted in
        omega (arith, all)

-- ---- a device on which nothing was done yet

alone : (first c : Image) (n : ℕ) → Among (choices n (first n) (first n ∷ []) []) (c n) → c n ≡ first n
alone first c n (inl is) = is
alone first c n (inr none) = absurd none

pub unused_leaves : (d : RecordedDevice) → d.history.done ≡ [] → d.history.outcomes ≡ [] → (c : Image) → (followed_disk d).left_since 0 c → c ≡ image_of d.sectors
unused_leaves d none quiet c left = λ j n. at n j
  where
    now : LeftBy (image_of d.history.first) d.history.done c
    now = now_is_all d.sectors d.history.first d.history.done d.history.outcomes c (subst (λ (t : ℕ). (followed_disk d).left_since t c) (sym (ap length quiet)) left)

    at : (n : ℕ) → c n ≡ image_of d.sectors n
    at n = alone (image_of d.history.first) c n (subst (λ (l : List Operation). LeftBy (image_of d.history.first) l c) none now n)
        ∙ sym (d.agrees n ∙ ap (λ (l : List Operation). newest n (image_of d.history.first n) l) none)

-- ---- it goes on, one operation more

pub goes_on : (end : ℕ) (a b : RecordedDevice) (more : List Operation) → b.history.first ≡ a.history.first → b.is_recorded ≡ a.is_recorded → done_on b ≡ done_on a ++ more
    → LeavesPast end (followed_disk a) (followed_disk b) → StillGoesOn (GoesOn end) a b
goes_on end a b more began kept recorded past first from = record {
  began = began ∙ from.began;
  is_recorded = kept ∙ from.is_recorded;
  more = from.more ++ more;
  recorded = begins_further (done_on first) (done_on a) (done_on b) from.more more from.recorded recorded;
  past = past_then end (followed_disk first) (followed_disk a) (followed_disk b) from.past past;
}
