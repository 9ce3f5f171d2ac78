-- What a host says of its calls: they are rows, and tell what a crash may leave.
use Rattle.std.proofs.Common.{◌≡◌, ℕ, ◌≤◌, List, Option, refl, sym, ◌∙◌, ap, inl, inr}
use Rattle.vol_sector.specs.Disk.{Image, Disk}
use Rattle.vol_tree.specs.Opened.{Opened}
use Rattle.wasi_fd.specs.Table.{table_of}
use Rattle.wasi_bodies.specs.World.{World}
use Rattle.wasi_bodies.specs.laws.Confined.{IsHostOf}
use Rattle.wasi_bodies.specs.host.Worlds.{HostState, Shows, before_moving, after_moving, VolumeStep, HostCalls, Hearing}
use Rattle.wasi_bodies.proofs.bodies.Resting.{nothing}
use Rattle.wasi_bodies.specs.laws.Moments.{IsTurn, CallsKeepMoments}

module _ {D R W1 W2 : Type 0} (honest : D → Type 0) (disk : D → Disk) (sectors_on failures : D → ℕ) (goes_on : ℕ → D → D → Type 0)
    (remaining : R → Option (List ℕ)) (out_contents : W1 → Option (List ℕ)) (err_contents : W2 → Option (List ℕ)) (ear : Hearing R W1 W2) where
  pub are_rows : IsHostOf {H = HostState D R W1 W2} (HostCalls honest disk sectors_on failures goes_on remaining out_contents err_contents ear) Shows (λ h. honest h.volume.device)
  are_rows = record {
    tree = λ h v w is also.
        let first : v.tree ≡ h.volume.tree = ap (λ (w : World). w.tree) is.1 in
        let second : w.tree ≡ h.volume.tree = ap (λ (w : World). w.tree) also.1 in
        first ∙ sym second;
    table = λ h v w is also.
        let first : v.table ≡ table_of h.descriptors = ap (λ (w : World). w.table) is.1 in
        let second : w.table ≡ table_of h.descriptors = ap (λ (w : World). w.table) also.1 in
        first ∙ sym second;
    answers = λ h h' m m' used x args answer is_honest a.
        let (moved, moves, meaning) = a.row (λ _. is_honest) in
        (a.volume.kept.honest.0 is_honest, (_, _, (before_moving moved nothing, refl), (after_moving moved nothing, refl), meaning nothing (λ _. refl)));
  }

  -- what a crash may have left since
  pub since : (old new : Opened D) → VolumeStep honest disk sectors_on failures goes_on old new → honest old.device
      → IsTurn (disk old.device) (disk new.device) old.numbers old.tree new.tree
  since old new step is_honest = let crash = step.crash is_honest in record {
    later = crash.later;
    since = λ t image before left. elim (crash.since t image before left) [
      | inl could ↦ inl could
      | inr (inl reflects) ↦ inr (inl reflects)
      | inr (inr stands) ↦ inr (inr (inl stands))
    ];
    now = λ image may. elim (crash.now image may) [
      | inl could ↦ inl could
      | inr (inl reflects) ↦ inr (inl reflects)
      | inr (inr stands) ↦ inr (inr (inl stands))
    ];
  }

  pub keep_moments : ((d : D) (t : ℕ) (image : Image) → honest d → t ≤ (disk d).operation_count → (disk d).may_leave image → (disk d).left_since t image)
      → ((d : D) (image : Image) → honest d → (disk d).left_since (disk d).operation_count image → (disk d).may_leave image)
      → CallsKeepMoments {H = HostState D R W1 W2} (λ h. disk h.volume.device) (λ h. h.volume.numbers) (λ h. h.volume.tree) (λ h. honest h.volume.device)
      (HostCalls honest disk sectors_on failures goes_on remaining out_contents err_contents ear)
  keep_moments now only = record {
    turn = λ h h' m m' used x args e a is_honest. since h.volume h'.volume a.volume is_honest;
    synced = λ h h' m m' used x args e a is_honest. a.synced is_honest e refl;
    same_numbers = λ h h' m m' used x args e a. a.volume.kept.numbers;
    exits = λ h h' m m' used x args status a. a.exits status refl;
    stays_honest = λ h h' m m' used x args e a is_honest. a.volume.kept.honest.0 is_honest;
    counts = λ h is_honest. record { counts_now = λ t image low may. now h.volume.device t image is_honest low may; only_now = λ image left. only h.volume.device image is_honest left };
  }
