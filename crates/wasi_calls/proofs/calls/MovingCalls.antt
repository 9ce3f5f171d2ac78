-- Calls that reach the volume and move a position.
use Rattle.std.proofs.Common.{◌≡◌, ◌≤◌, ℕ, IsTrue, true, refl, List, Option, sym, ap, ◌∙◌, vec_capacity, subst}
use Rattle.vol_sector.specs.Disk.{Disk}
use Rattle.vol_tree.specs.declared.superblock.Superblock.{Superblock}
use Rattle.vol_tree.specs.Opened.{Opened, IsSerial}
use Rattle.wasi_fd.specs.declared.table.Descriptors.{Descriptors}
use Rattle.wasi_fd.specs.Table.{table_of}
use Rattle.wasi_calls.specs.declared.host.inner.Inner.{Inner}
use Rattle.wasi_bodies.specs.World.{World}
use Rattle.wasi_bodies.specs.Checks.{Checked, Done}
use Rattle.wasm_store.specs.declared.call.HostCall.{HostCall}
use Rattle.wasi_bodies.specs.Calls.{row, reaches_volume, Answered}
use Rattle.wasi_bodies.specs.host.Worlds.{HostState, HasFailed, StreamsMove, StreamBytes, world_of, VolumeStep, Hearing}
use Rattle.wasi_bodies.specs.internal.Entries.{NoMoreEntries, with_volume, with_table}
use Rattle.wasi_calls.specs.internal.Bodies.{state_of, IsSetUp, Serves}
use Rattle.std.specs.Io.KnownBytes.{IsAtEnd}
use Rattle.wasi_bodies.specs.host.Settings.{settings_fit}
use Rattle.wasi_bodies.specs.declared.checks.buffers.TheConstants.{MOST_BUFFERS}
use Rattle.wasi_bodies.specs.declared.streams.inputs.TheConstants.{INPUT_PIECE}
use Rattle.wasi_bodies.proofs.bodies.Resting.{nothing, same_after, settings_rest}
use Rattle.wasi_calls.proofs.calls.PlainCalls.{streams_rest}
use Rattle.wasi_calls.proofs.bodies.StreamsHeard.{unheard}

module _ {D R W1 W2 : Type 0} (honest : D → Type 0) (disk : D → Disk) (sectors_on failures : D → ℕ) (goes_on : ℕ → D → D → Type 0)
    (remaining : R → Option (List ℕ)) (out_contents : W1 → Option (List ℕ)) (err_contents : W2 → Option (List ℕ)) (ear : Hearing R W1 W2) where
  pub moved_set_up : (old : Inner D R W1 W2) (v : Opened D) (d : Descriptors) → IsSetUp remaining old → VolumeStep honest disk sectors_on failures goes_on old.volume v
      → NoMoreEntries (table_of old.descriptors) (table_of d) → IsSetUp remaining (record old { volume = v; descriptors = d })
  moved_set_up old v d h step entries = record {
    settings = h.settings;
    buffers = h.buffers;
    piece = h.piece;
    ended = h.ended;
    serials = λ fd o is.
        let before = entries fd o is in
        let same : IsSerial old.volume.numbers o.serial = subst (λ (n : ℕ). IsSerial old.volume.numbers n) (sym before.2) (h.serials fd before.0 before.1) in
        subst (λ (n : Superblock). IsSerial n o.serial) (sym step.kept.numbers) same;
  }

  -- A call that changes the volume, if it reaches it, and a position.
  pub serves_moved : (c : HostCall) (used : ℕ) (args : List ℕ) (r : World → Checked Done) (old : Inner D R W1 W2) (v : Opened D) (d : Descriptors) (m m' : List ℕ) (e : ℕ)
      → (e ≡ 29 → HasFailed c (state_of (record old { volume = v; descriptors = d })))
      → IsSetUp remaining old → VolumeStep honest disk sectors_on failures goes_on old.volume v → NoMoreEntries (table_of old.descriptors) (table_of d)
      → ((w : World) → row c w m used args ≡ r w)
      → ((IsTrue (reaches_volume c (table_of old.descriptors) args) → honest old.volume.device) → (b : StreamBytes)
      → Answered r (world_of (state_of old) b) m (with_table (table_of d) (with_volume v (world_of (state_of old) b))) m' e)
      → Serves honest disk sectors_on failures goes_on remaining out_contents err_contents ear c used args old m (record old { volume = v; descriptors = d }) m' e
  serves_moved c used args r old v d m m' e io h step entries same answers =
      let new : Inner D R W1 W2 = record old { volume = v; descriptors = d } in
      let same_run : (λ (w : World). row c w m used args) ≡ r = λ i w. same w i in
      record {
        set_up = moved_set_up old v d h step entries;
        row = λ known. (
          nothing,
          streams_rest honest disk sectors_on failures goes_on remaining out_contents err_contents ear old v d old.settings old.generator,
          λ others end. subst (λ (b' : StreamBytes). Answered (λ w. row c w m used args) (world_of (state_of old) others) m (world_of (state_of new) b') m' e) (sym (same_after others))
              (subst (λ (x : World → Checked Done). Answered x (world_of (state_of old) others) m (world_of (state_of new) others) m' e) (sym same_run) (answers known others)),
        );
        volume = step;
        settings = refl;
        io = io;
        heard = unheard ear (state_of old) (state_of new) refl refl refl;
      }

  -- A call that changes the volume and positions, and leaves what it likes in the room for its bytes.
  pub serves_roomy : (c : HostCall) (used : ℕ) (args : List ℕ) (old new : Inner D R W1 W2) (m m' : List ℕ) (e : ℕ)
      → (e ≡ 29 → HasFailed c (state_of new))
      → IsSetUp remaining old → MOST_BUFFERS ≤ vec_capacity new.buffers → INPUT_PIECE ≤ vec_capacity new.piece
      → state_of new ≡ state_of (record old { volume = new.volume; descriptors = new.descriptors })
      → VolumeStep honest disk sectors_on failures goes_on old.volume new.volume → NoMoreEntries (table_of old.descriptors) (table_of new.descriptors)
      → ((IsTrue (reaches_volume c (table_of old.descriptors) args) → honest old.volume.device) → (b : StreamBytes)
      → Answered (λ w. row c w m used args) (world_of (state_of old) b) m (with_table (table_of new.descriptors) (with_volume new.volume (world_of (state_of old) b))) m' e)
      → Serves honest disk sectors_on failures goes_on remaining out_contents err_contents ear c used args old m new m' e
  serves_roomy c used args old new m m' e io h buffers piece state step entries answers =
      let moved = moved_set_up old new.volume new.descriptors h step entries in
      record {
        set_up = record {
          settings = ap (λ (s : HostState D R W1 W2). settings_fit s.settings) state ∙ h.settings;
          buffers = buffers;
          piece = piece;
          ended = subst (λ (s : HostState D R W1 W2). s.input.ended ≡ true → IsAtEnd (remaining s.input.reader)) (sym state) h.ended;
          serials = moved.serials;
        };
        row = λ known. (
          nothing,
          subst (λ (s : HostState D R W1 W2). StreamsMove remaining out_contents err_contents (state_of old) s nothing) (sym state)
              (streams_rest honest disk sectors_on failures goes_on remaining out_contents err_contents ear old new.volume new.descriptors old.settings old.generator),
          λ others end. subst (λ (b' : StreamBytes). Answered (λ w. row c w m used args) (world_of (state_of old) others) m (world_of (state_of new) b') m' e) (sym (same_after others))
              (subst (λ (s : HostState D R W1 W2). Answered (λ w. row c w m used args) (world_of (state_of old) others) m (world_of s others) m' e) (sym state) (answers known others)),
        );
        volume = step;
        settings = settings_rest old.settings new.settings (ap (λ (s : HostState D R W1 W2). s.settings) state);
        io = io;
        heard = unheard ear (state_of old) (state_of new) (ap (λ (s : HostState D R W1 W2). s.input) state) (ap (λ (s : HostState D R W1 W2). s.out) state) (ap (λ (s : HostState D R W1 W2). s.err) state);
      }
