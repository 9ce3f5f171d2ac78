-- Calls that read a file: the volume is asked, and what it tells is dealt out.
use Rattle.std.proofs.Common.{◌≡◌, ℕ, ◌+◌, true, false, List, [], ◌∷◌, length, Ok, Err, refl, sym, ap, ◌∙◌, subst, inl, inr}
use Rattle.vol_sector.specs.Disk.{Disk}
use Rattle.vol_tree.specs.Opened.{Opened}
use Rattle.byteorder.specs.Endian.{little_bytes}
use Rattle.wasi_fd.specs.declared.descriptor.Opened.{Opened as Opened'}
use Rattle.wasi_bodies.specs.World.{World, with_volume_failed, with_descriptor, moved_to}
use Rattle.wasi_bodies.specs.Checks.{Checked, Done, Buffer, and_then, put, tree_call, scattered}
use Rattle.wasi_bodies.specs.Calls.{Answered, IsMixed, filled, by_row, volume_fails}
use Rattle.wasi_bodies.specs.internal.Entries.{with_volume}
use Rattle.path_walk.specs.Walk.{Asked}
use Rattle.wasi_bodies.specs.internal.files.Reading.{wanted, read_file_to}
use Rattle.wasi_bodies.proofs.checks.Chains.{goes_on, stops}
use Rattle.wasi_bodies.proofs.bodies.Answering.{answers_done, answers_refused}
use Rattle.wasi_bodies.proofs.bodies.VolumeCalls.{was_working, is_no_err, tree_called_alive, tree_called_gone}
use Rattle.wasi_bodies.proofs.bodies.AskingCalls.{asked_gone}
use Rattle.wasi_bodies.proofs.files.WriteCalls.{one_after}
use Rattle.wasi_bodies.proofs.files.OverlappingBuffers.{either}

-- a row that asks for bytes, and what it makes of them
abbrev pub asking : (World → List ℕ) → (World → List ℕ → Done) → World → Checked Done
asking bytes k u = and_then (tree_call u (Ok (bytes u))) (λ xs. Ok (k u xs))

module _ {D : Type 0} (honest : D → Type 0) (disk : D → Disk) (sectors_on failures : D → ℕ) (device_goes_on : ℕ → D → D → Type 0) (w : World) (m : List ℕ) (run : World → Checked Done) (bytes : World → List ℕ) (k : World → List ℕ → Done)
    (old new : Opened D) (shown : w ≡ with_volume old w) (same : (u : World) → run u ≡ asking bytes k u) where
  row_told : w.volume_failed ≡ false → run w ≡ Ok (k w (bytes w))
  row_told alive = same w ∙ goes_on _ _ (bytes w) (tree_called_alive w (Ok (bytes w)) alive)

  row_gone : run (with_volume_failed w) ≡ Err 29
  row_gone = same (with_volume_failed w) ∙ stops _ _ 29 (tree_called_gone w (Ok (bytes (with_volume_failed w))))

  -- the bytes are told
  pub told_bytes : Asked honest disk sectors_on failures device_goes_on old new false → (w' : World) (m' : List ℕ) → w' ≡ (k w (bytes w)).world → m' ≡ put (put m (k w (bytes w)).fills) (k w (bytes w)).results
      → Answered run w m w' m' 0
  told_bytes asked w' m' world is =
      let working : old.failed ≡ false = was_working honest sectors_on failures old new false asked.kept refl in
      let alive : w.volume_failed ≡ false = ap (λ (w : World). w.volume_failed) shown ∙ working in
      by_row (answers_done (run w) w m w' m' (k w (bytes w)) (row_told alive) world is)

  -- The volume failed. If it had failed before, memory is the old one.
  pub broke_off : honest old.device → Asked honest disk sectors_on failures device_goes_on old new true → (m' : List ℕ) → (old.failed ≡ true → m' ≡ m) → IsMixed m (put m (k w (bytes w)).fills) m'
      → Answered run w m (with_volume new w) m' 29
  broke_off h asked m' idle mixed =
      let after : with_volume new w ≡ with_volume_failed w = asked_gone honest disk sectors_on failures device_goes_on w old new shown h asked in
      elim (either w.volume_failed) [
        | inl before ↦
            let same_w : with_volume_failed w ≡ w = λ i. record w { volume_failed = sym before i } in
            by_row (answers_refused (run w) w m (with_volume new w) m' 29 (ap run (sym same_w) ∙ row_gone) (after ∙ same_w) (idle (sym (ap (λ (w : World). w.volume_failed) shown) ∙ before)))
        | inr alive ↦ volume_fails (record {
          reaches = record { refused = row_gone; only_so = is_no_err (run w) (k w (bytes w)) 29 (row_told alive) };
          answer = refl;
          after = after;
          bytes = subst (λ (r : Checked Done). IsMixed m (filled r m) m') (sym (row_told alive)) mixed;
        })
      ]

-- ---- a file that is read where it stands

abbrev pub done_file : ℕ → Opened' → List Buffer → ℕ → World → List ℕ → Done
done_file fd o bs result v xs = record { world = with_descriptor fd (moved_to o (o.position + length xs)) v; fills = scattered xs bs; results = (result, little_bytes 4 (length xs)) ∷ [] }

pub row_file : (fd : ℕ) (o : Opened') (bs : List Buffer) (result : ℕ) (v : World) → read_file_to v fd o bs result ≡ asking (λ v. wanted v.tree o.serial o.position bs) (done_file fd o bs result) v
row_file fd o bs result v =
    one_after (tree_call v (Ok (wanted v.tree o.serial o.position bs))) (λ xs. (with_descriptor fd (moved_to o (o.position + length xs)) v, xs))
    (λ r. record { world = r.0; fills = scattered r.1 bs; results = (result, little_bytes 4 (length r.1)) ∷ [] })
