-- One turn after another.
use Rattle.std.proofs.Common.{◌≡◌, ◌⊎◌, ℕ, ◌+◌, ◌-◌, ◌≤◌, ◌<◌, Bool, true, false, not, cond, List, [], ◌∷◌, ◌++◌, length, get_or, is_err, refl, sym, ◌∙◌, ap, subst, inl, inr, arith}
use Rattle.std.proofs.lemmas.List.{get_or_push, length_push}
use Rattle.vol_sector.specs.Disk.{Image, Disk, Leaves}
use Rattle.vol_tree.specs.Tree.{Tree}
use Rattle.vol_tree.specs.Stands.{StandsAs}
use Rattle.vol_tree.specs.declared.superblock.Superblock.{Superblock}
use Rattle.vol_tree.specs.Opened.{Opened, ReflectsOr}
use Rattle.vol_tree.proofs.OneTree.{one_tree}
use Rattle.wasi_bodies.specs.laws.Moments.{CountsMoments, IsTurn, Kept, Turn, IsSafe}
use Rattle.wasi_calls.proofs.runs.Moments.{keeps_all}
use Rattle.sandbox_core.specs.Devices.{Devices}
use Rattle.sandbox_core.specs.Session.{is_synced}
use Rattle.sandbox_core.specs.Safety.{TurnsAreSafe}
use Rattle.sandbox_core.proofs.Headline.{synced_by}

either : (b : Bool) → (b ≡ true) ⊎ (b ≡ false)
either true = inl refl
either false = inr refl

not_refused : (b : Bool) → not b ≡ true → b ≡ false
not_refused true is = cc
not_refused false is = refl

module _ {D : Type 0} (disk : D → Disk) where
  abbrev disk_at : Opened D → Disk
  disk_at v = disk v.device

  abbrev numbers_at : Opened D → Superblock
  numbers_at v = v.numbers

  abbrev tree_at : Opened D → Tree
  tree_at v = v.tree

  abbrev Safe : Opened D → List Tree → ℕ → Type 0
  Safe v trees from = IsSafe disk_at numbers_at tree_at v trees from

  -- an image that stands for a tree that a crash could leave, or for the volume's
  kept_still : (v : Opened D) (trees : List Tree) (from : ℕ) → Safe v trees from → (image : Image) → ReflectsOr (disk v.device) v.numbers v.tree image → Kept image v.numbers trees from (length trees - 1)
  kept_still v trees from safe image (inl r) =
      let kept = safe.each r.earlier r.could in
      let same : get_or trees kept.count [] ≡ r.tree = one_tree r.earlier v.numbers (get_or trees kept.count []) r.tree kept.stands r.stood in
      record { count = kept.count; after = kept.after; before = kept.before; there = kept.there; stands = subst (λ (T : Tree). StandsAs image v.numbers T) (sym same) r.stands }
  kept_still v trees from safe image (inr stands) =
      let some : from < length trees = safe.some in
      record { count = length trees - 1; after = omega arith; before = omega arith; there = omega arith; stands = subst (λ (T : Tree). StandsAs image v.numbers T) (sym safe.now) stands }

  -- the last tree, and no other
  kept_last : (v : Superblock) (trees : List Tree) (T : Tree) (from : ℕ) → from < length trees → get_or trees (length trees - 1) [] ≡ T → (image : Image) → StandsAs image v T → Kept image v trees (length trees - 1) (length trees - 1)
  kept_last v trees T from some last image stands =
      record { count = length trees - 1; after = omega arith; before = omega arith; there = omega arith; stands = subst (λ (U : Tree). StandsAs image v U) (sym last) stands }

  -- a turn with no tree more
  rests : (old new : Opened D) (synced : Bool) (trees : List Tree) (from : ℕ) → Safe old trees from → CountsMoments (disk new.device) → new.numbers ≡ old.numbers → new.tree ≡ old.tree
      → Leaves (disk old.device) (disk new.device) (ReflectsOr (disk old.device) old.numbers old.tree)
      → (synced ≡ true → (image : Image) → (disk new.device).may_leave image → StandsAs image old.numbers old.tree)
      → ((image : Image) → (disk new.device).left_since (disk old.device).operation_count image → Kept image old.numbers trees from (length trees - 1)) × Safe new trees (cond synced (length trees - 1) from)
  rests old new synced trees from safe counts numbered tree turn at_sync =
      let some : from < length trees = safe.some in
      let during = λ (image : Image) (left : (disk new.device).left_since (disk old.device).operation_count image).
      let given : Kept image old.numbers trees from (length trees - 1) = elim (turn.since (disk old.device).operation_count image (omega arith) left) [
        | inl before ↦ safe.each image (safe.counts.only_now image before)
        | inr left ↦ kept_still old trees from safe image left
      ] in given in
      let renumbered = λ (image : Image) (low to : ℕ) (k : Kept image old.numbers trees low to). subst (λ (v : Superblock). Kept image v trees low to) (sym numbered) k in
      let each = λ (image : Image) (may : (disk new.device).may_leave image).
      renumbered image from (length trees - 1) (during image (counts.counts_now (disk old.device).operation_count image turn.later may)) in
      let last : get_or trees (length trees - 1) [] ≡ new.tree = safe.now ∙ sym tree in (
        during,
        elim (either synced) [
          | inl is ↦ subst (λ (b : Bool). Safe new trees (cond b (length trees - 1) from)) (sym is) (record {
            some = omega arith;
            now = last;
            counts = counts;
            each = λ image may. renumbered image (length trees - 1) (length trees - 1) (kept_last old.numbers trees old.tree from some safe.now image (at_sync is image may));
          })
          | inr none ↦ subst (λ (b : Bool). Safe new trees (cond b (length trees - 1) from)) (sym none) (record { some = some; now = last; counts = counts; each = each })
        ],
      )

  -- a turn with one tree more
  stays : (old new : Opened D) (synced : Bool) (trees : List Tree) (from : ℕ) → Safe old trees from → CountsMoments (disk new.device) → new.numbers ≡ old.numbers
      → IsTurn (disk old.device) (disk new.device) old.numbers old.tree new.tree
      → (synced ≡ true → (image : Image) → (disk new.device).may_leave image → StandsAs image new.numbers new.tree)
      → ((image : Image) → (disk new.device).left_since (disk old.device).operation_count image → Kept image old.numbers (trees ++ new.tree ∷ []) from (length trees))
      × Safe new (trees ++ new.tree ∷ []) (cond synced (length trees) from)
  stays old new synced trees from safe counts numbered turn at_sync =
      let t : Turn (Opened D) = record { old = old; new = new; synced = synced } in
      let kept = keeps_all disk_at numbers_at tree_at (t ∷ []) old trees from safe (refl, numbered, turn, at_sync, counts, tt) in
      let more : List Tree = trees ++ new.tree ∷ [] in
      let some : from < length trees = safe.some in
      let long : length more ≡ length trees + 1 = length_push trees new.tree in
      let here : length more - 1 ≡ length trees = omega (arith, long) in
      let last : get_or more (length more - 1) [] ≡ new.tree = ap (λ (n : ℕ). get_or more n []) here ∙ get_or_push trees new.tree [] (length trees) refl in
      let at_end = λ (n : ℕ) (image : Image) (k : Kept image old.numbers more n (length trees)).
      subst (λ (v : Superblock). Kept image v more n (length more - 1)) (sym numbered) (subst (λ (to : ℕ). Kept image old.numbers more n to) (sym here) k) in (
        kept.0,
        elim (either synced) [
          | inl is ↦ subst (λ (b : Bool). Safe new more (cond b (length trees) from)) (sym is) (record {
            some = omega (arith, long);
            now = last;
            counts = counts;
            each = λ image may. at_end (length trees) image (kept.1 is image may);
          })
          | inr none ↦ subst (λ (b : Bool). Safe new more (cond b (length trees) from)) (sym none) (record {
            some = omega (arith, long);
            now = last;
            counts = counts;
            each = λ image may. at_end from image (kept.0 image (counts.counts_now (disk old.device).operation_count image turn.later may));
          })
        ],
      )

module _ {D R W1 W2 : Type 0} (on : Devices D R W1 W2)
    (now : (d : D) (t : ℕ) (image : Image) → on.device.honest d → t ≤ (on.device.disk d).operation_count → (on.device.disk d).may_leave image → (on.device.disk d).left_since t image)
    (only : (d : D) (image : Image) → on.device.honest d → (on.device.disk d).left_since (on.device.disk d).operation_count image → (on.device.disk d).may_leave image) where
  counting : (d : D) → on.device.honest d → CountsMoments (on.device.disk d)
  counting d is = record { counts_now = λ t image low may. now d t image is low may; only_now = λ image left. only d image is left }

  pub turns_are_safe : TurnsAreSafe on
  turns_are_safe = record {
    opened = λ v is durable. record {
      some = omega arith;
      now = refl;
      counts = counting v.device is;
      each = λ image may. record { count = 0; after = omega arith; before = omega arith; there = omega arith; stands = durable image may };
    };
    begins = λ parts s trees from is shares safe.
        let still = shares.reads.kept.honest.0 is in
        let crash = shares.reads.crash is in
        let turn : Leaves (on.device.disk parts.volume.device) (on.device.disk s.host.volume.device) (ReflectsOr (on.device.disk parts.volume.device) parts.volume.numbers parts.volume.tree) = record {
          later = crash.later;
          since = λ t image low left. elim (crash.since t image low left) [ inl before ↦ inl before | inr never ↦ absurd never ];
          now = λ image may. elim (crash.now image may) [ inl before ↦ inl before | inr never ↦ absurd never ];
        } in
        let both = rests on.device.disk parts.volume s.host.volume false trees from safe (counting s.host.volume.device still) shares.reads.kept.numbers (shares.reads.tree is) turn (λ never. cc) in
        record { still_honest = still; numbers = shares.reads.kept.numbers; size = shares.reads.kept.size; during = both.0; after = both.1 };
    resumes = λ s s' units p trees from is resumes safe.
        let still = resumes.honest_after is in
        let both = stays on.device.disk s.host.volume s'.host.volume (is_synced p) trees from safe (counting s'.host.volume.device still) resumes.numbers (resumes.crash is)
        (λ synced image may. synced_by on p s'.host (resumes.synced is) synced image may) in
        record { still_honest = still; numbers = resumes.numbers; size = resumes.size; during = both.0; after = both.1 };
    finishes = λ s f trees from is all safe.
        let volume = all.volume in
        let still = volume.kept.honest.0 is in
        let both = rests on.device.disk s.host.volume volume.new (not (is_err f.volume)) trees from safe (counting volume.new.device still) volume.kept.numbers (volume.tree is) (volume.crash is)
        (λ back image may. volume.durable is (not_refused _ back) image may) in
        record { still_honest = still; numbers = volume.kept.numbers; size = volume.kept.size; during = both.0; after = both.1 };
  }
