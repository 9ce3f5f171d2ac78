-- `path_rename`: its walks, and the whole row.
use Rattle.std.proofs.Common.{◌≡◌, ◌≢◌, ◌==◌, ℕ, Bool, false, not, List, Result, Ok, Err, refl, sym, ◌∙◌, ap, subst, arith}
use Rattle.vol_tree.specs.Tree.{Tree}
use Rattle.vol_tree.specs.Opened.{Opened as OpenedVolume}
use Rattle.wasm_store.specs.declared.call.Errno.{Errno as Number}
use Rattle.path_walk.specs.Paths.{Reached, wants_directory}
use Rattle.wasm_store.specs.Bytes.{bytes_at}
use Rattle.wasi_fd.specs.declared.descriptor.Opened.{Opened}
use Rattle.wasi_bodies.specs.World.{World, with_volume_failed}
use Rattle.wasi_bodies.specs.Checks.{Checked, Done, and_then, guard, found, only_world}
use Rattle.wasi_bodies.specs.paths.Rows.{path_at, path_rename, rename_to}
use Rattle.wasi_bodies.specs.Calls.{Answered, by_row}
use Rattle.wasi_paths.specs.declared.paths.renaming.RenameCall.{RenameCall}
use Rattle.wasi_bodies.specs.internal.Entries.{with_volume, errno_of}
use Rattle.wasi_bodies.specs.internal.Asking.{Passes, Stops, StopsNext}
use Rattle.wasi_paths.specs.internal.paths.Renaming.{rename_entered, rename_part, source_checked, RenamesTo}
use Rattle.wasi_bodies.proofs.checks.Chains.{goes_on, stops}
use Rattle.wasi_bodies.proofs.bodies.Answering.{answers_done}
use Rattle.wasi_bodies.proofs.bodies.VolumeCalls.{never_after, never_guard}
use Rattle.wasi_paths.proofs.paths.Walks.{found_never, walk_never}
use Rattle.wasi_paths.proofs.paths.RenameCalls.{rename_never}
use Rattle.wasi_bodies.proofs.bodies.AskingCalls.{and_then_assoc, ok_then, ends_call, ends_part, next_stops, passes_as, passes_on, refuses_on, stops_as, stops_on}

-- the part from the first walk on, and that from the second on
abbrev pub after_second : Opened × Opened → Reached → Reached → Checked (ℕ × Reached)
after_second both moved target = and_then (source_checked both.0.serial moved) (λ s. Ok (s, target))

abbrev pub after_first : World → List ℕ → RenameCall → Opened × Opened → Reached → Checked (ℕ × Reached)
after_first w m a both moved = and_then (path_at w m both.1 a.to_path a.to_len) (after_second both moved)

cut_source : (w : World) (m : List ℕ) (a : RenameCall) (both : Opened × Opened)
    → and_then (path_at w m both.0 a.from_path a.from_len) (λ moved. and_then (path_at w m both.1 a.to_path a.to_len) (λ target. and_then (found moved) (λ source. and_then (guard (not (source == both.0.serial)) 10) (λ _. Ok (source, target)))))
    ≡ and_then (path_at w m both.0 a.from_path a.from_len) (after_first w m a both)
cut_source w m a both =
    let cut : and_then (path_at w m both.0 a.from_path a.from_len) (λ moved. and_then (path_at w m both.1 a.to_path a.to_len) (λ target. and_then (and_then (found moved) (λ source. and_then (guard (not (source == both.0.serial)) 10) (λ _. Ok source))) (λ s. Ok (s, target))))
    ≡ and_then (path_at w m both.0 a.from_path a.from_len) (λ moved. and_then (path_at w m both.1 a.to_path a.to_len) (λ target. and_then (found moved) (λ source. and_then (guard (not (source == both.0.serial)) 10) (λ _. Ok (source, target))))) =
    simp (and_then_assoc, ok_then) in
    sym cut

pub entered_both : (w : World) (m : List ℕ) (a : RenameCall) (both : Opened × Opened) → rename_entered w m a ≡ Ok both → rename_part w m a ≡ and_then (path_at w m both.0 a.from_path a.from_len) (after_first w m a both)
entered_both w m a both is = goes_on _ _ both is ∙ cut_source w m a both

pub source_never : (directory : ℕ) (r : Reached) → source_checked directory r ≢ Err 29
source_never directory r =
    never_after (found r) _ (found_never r) (λ s _. never_after (guard (not (s == directory)) 10) _ (never_guard _ 10 (λ is. absurd (omega (arith, is)))) (λ _ _ is. cc))

pub second_never : (both : Opened × Opened) (moved target : Reached) → ◌≢◌ {A = Checked (ℕ × Reached)} (after_second both moved target) (Err 29)
second_never both moved target = never_after {B = ℕ × Reached} (source_checked both.0.serial moved) (λ s. Ok (s, target)) (source_never both.0.serial moved) (λ s _ is. cc)

pub first_never : (w : World) (m : List ℕ) (a : RenameCall) (both : Opened × Opened) (moved : Reached) → w.volume_failed ≡ false → after_first w m a both moved ≢ Err 29
first_never w m a both moved alive =
    never_after (path_at w m both.1 a.to_path a.to_len) (after_second both moved) (walk_never w both.1 (bytes_at m a.to_path a.to_len) alive) (λ target _. second_never both moved target)

-- ---- both walks

module _ {D : Type 0} (mid new : OpenedVolume D) (w : World) (m : List ℕ) (a : RenameCall) (both : Opened × Opened) (enters : (v : World) → v.table ≡ w.table → rename_entered v m a ≡ Ok both)
    (moved : Reached) (one : Passes (λ v. path_at v m both.0 a.from_path a.from_len) w mid moved) where
  abbrev second : World → Checked Reached
  second v = path_at v m both.1 a.to_path a.to_len

  as_both : (v : World) → v.table ≡ w.table → rename_part v m a ≡ and_then (path_at v m both.0 a.from_path a.from_len) (after_first v m a both)
  as_both v same = entered_both v m a both (enters v same)

  stops_rename : (e : ℕ) → Stops (λ v. after_first v m a both moved) w new e → Stops (λ v. rename_part v m a) w new e
  stops_rename e stop =
      stops_as w (λ v. rename_part v m a) (λ v. and_then (path_at v m both.0 a.from_path a.from_len) (after_first v m a both)) new e (as_both w refl) (as_both (with_volume_failed w) refl)
      (stops_on w (λ v. path_at v m both.0 a.from_path a.from_len) (λ v. after_first v m a both) mid new moved e one stop)

  pub second_stops : (e : ℕ) → Stops second w new e → Stops (λ v. rename_part v m a) w new e
  second_stops e stop = stops_rename e (ends_part w second (λ v. after_second both moved) new e (λ alive r. second_never both moved r) stop)

  module _ (target : Reached) (two : Passes second w new target) where
    pub source_stops : (e : ℕ) → source_checked both.0.serial moved ≡ Err e → Stops (λ v. rename_part v m a) w new e
    source_stops e is = stops_rename e (refuses_on w second (λ v. after_second both moved) new target two new e two.same (stops _ _ e is))

    pub both_walked : (source : ℕ) → source_checked both.0.serial moved ≡ Ok source → Passes (λ v. rename_part v m a) w new (source, target)
    both_walked source is =
        passes_as w (λ v. rename_part v m a) (λ v. and_then (path_at v m both.0 a.from_path a.from_len) (after_first v m a both)) new (source, target) (as_both w refl) (as_both (with_volume_failed w) refl)
        (passes_on w (λ v. path_at v m both.0 a.from_path a.from_len) (λ v. after_first v m a both) mid moved one new (source, target) two.same
        (goes_on _ _ target two.is ∙ goes_on _ _ source is))

-- ---- the whole row

abbrev pub rename_by : World → List ℕ → RenameCall → Checked Done
rename_by w m a = path_rename w m a.from_fd a.from_path a.from_len a.to_fd a.to_path a.to_len

abbrev pub after_walks : World → List ℕ → RenameCall → ℕ × Reached → Checked Done
after_walks w m a p = and_then (rename_to w p.0 (wants_directory (bytes_at m a.to_path a.to_len)) p.1) (λ T. Ok (only_world (record w { tree = T })))

pub to_renaming : (w : World) (m : List ℕ) (a : RenameCall) → rename_by w m a ≡ and_then (rename_part w m a) (after_walks w m a)
to_renaming w m a = sym (simp (and_then_assoc, ok_then))

pub renames_answered : {D : Type 0} (w : World) (m : List ℕ) (a : RenameCall) (between new : OpenedVolume D) (source : ℕ) (target : Reached) (slash : Bool) (result : Result (Unit {0}) Number)
    → Passes (λ v. rename_part v m a) w between (source, target) → slash ≡ wants_directory (bytes_at m a.to_path a.to_len) → RenamesTo source slash target w new result
    → Answered (λ v. rename_by v m a) w m (with_volume new w) m (errno_of result)
renames_answered w m a between new source target slash (Ok u) p same h =
    let done : Done = only_world (record w { tree = new.tree }) in
    by_row (answers_done (rename_by w m a) w m (with_volume new w) m done
    (to_renaming w m a ∙ (goes_on _ _ (source, target) p.is ∙ goes_on _ _ new.tree (ap (λ (b : Bool). rename_to w source b target) (sym same) ∙ h.0))) h.1 refl)
renames_answered w m a between new source target slash (Err e) p same h =
    let meant : World → ℕ × Reached → Checked Tree = λ v p. rename_to v p.0 (wants_directory (bytes_at m a.to_path a.to_len)) p.1 in
    let rest : World → Tree → Checked Done = λ v T. Ok (only_world (record v { tree = T })) in
    ends_call w m (λ v. rename_by v m a) (λ v. and_then (rename_part v m a) (meant v)) rest new e.0
    (λ v. to_renaming v m a ∙ sym (and_then_assoc (rename_part v m a) (meant v) (rest v)))
    (λ alive T is. cc)
    (next_stops w (λ v. rename_part v m a) meant between new (source, target) e.0 p
    (subst (λ (b : Bool). StopsNext (λ v. rename_to v source b target) w new e.0) same h))

pub after_walks_never : (w : World) (m : List ℕ) (a : RenameCall) (p : ℕ × Reached) → w.volume_failed ≡ false → after_walks w m a p ≢ Err 29
after_walks_never w m a p alive =
    never_after (rename_to w p.0 (wants_directory (bytes_at m a.to_path a.to_len)) p.1) (λ T. Ok (only_world (record w { tree = T })))
    (rename_never w p.0 (wants_directory (bytes_at m a.to_path a.to_len)) p.1 alive) (λ T _ is. cc)
