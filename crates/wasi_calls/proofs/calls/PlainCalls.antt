-- Calls that reach neither the volume nor a stream.
use Rattle.std.proofs.Common.{◌≡◌, ◌≢◌, Err, ℕ, IsTrue, true, false, List, [], append-nil, Option, Some, refl, sym, subst, inl}
use Rattle.std.proofs.KnownBytes.{Consumes-nil, Appends-nil}
use Rattle.vol_sector.specs.Disk.{Disk}
use Rattle.vol_tree.specs.declared.superblock.Superblock.{Superblock}
use Rattle.vol_tree.specs.Opened.{Opened, IsSerial}
use Rattle.rand_chacha.specs.ChaCha.{ChaCha}
use Rattle.wasi_fd.specs.declared.descriptor.Descriptor.TheVariants.{Entry}
use Rattle.wasi_fd.specs.declared.descriptor.Opened.{Opened as OpenedEntry}
use Rattle.wasi_fd.specs.declared.table.Descriptors.{Descriptors}
use Rattle.wasi_fd.specs.Table.{table_of}
use Rattle.wasi_bodies.specs.declared.settings.Settings.{Settings}
use Rattle.wasi_calls.specs.declared.host.inner.Inner.{Inner}
use Rattle.wasi_bodies.specs.host.Settings.{settings_fit}
use Rattle.wasi_bodies.specs.World.{World}
use Rattle.wasi_bodies.specs.Checks.{Checked, Done}
use Rattle.wasm_store.specs.declared.call.HostCall.{HostCall}
use Rattle.wasi_bodies.specs.Calls.{Answers, Answered, by_row, row, reaches_volume}
use Rattle.wasi_bodies.specs.host.Worlds.{StreamBytes, HasFailed, StreamsMove, after_moving, world_of, VolumeStep, Hearing}
use Rattle.wasi_bodies.specs.internal.Entries.{NoMoreEntries, with_volume}
use Rattle.wasi_calls.specs.internal.Bodies.{state_of, IsSetUp, Serves}
use Rattle.wasi_paths.specs.internal.paths.Opening.{AreSerials, with_both}
use Rattle.wasi_bodies.proofs.checks.PlainRowsNever29.{plain_never, answers_never}
use Rattle.wasi_calls.proofs.bodies.StreamsHeard.{unheard}
use Rattle.wasi_bodies.proofs.bodies.Resting.{nothing, same_after, volume_rests}

module _ {D R W1 W2 : Type 0} (honest : D → Type 0) (disk : D → Disk) (sectors_on failures : D → ℕ) (goes_on : ℕ → D → D → Type 0)
    (remaining : R → Option (List ℕ)) (out_contents : W1 → Option (List ℕ)) (err_contents : W2 → Option (List ℕ)) (ear : Hearing R W1 W2) where
  -- the streams are not touched
  pub streams_rest : (old : Inner D R W1 W2) (v : Opened D) (d : Descriptors) (s : Settings) (g : Option ChaCha)
      → StreamsMove remaining out_contents err_contents (state_of old) (state_of (record old { volume = v; descriptors = d; settings = s; generator = g })) nothing
  streams_rest old v d s g = record {
    input = Consumes-nil (remaining old.input.reader);
    output = Appends-nil (out_contents old.out.writer);
    errors = Appends-nil (err_contents old.err.writer);
    ended = λ is. (refl, is);
    end = λ is. inl is;
    pieces = λ is. (refl, is);
  }

  pub still_set_up : (old : Inner D R W1 W2) (d : Descriptors) (s : Settings) (g : Option ChaCha) → IsSetUp remaining old → settings_fit s ≡ true
      → NoMoreEntries (table_of old.descriptors) (table_of d) → IsSetUp remaining (record old { descriptors = d; settings = s; generator = g })
  still_set_up old d s g h fits entries = record {
    settings = fits;
    buffers = h.buffers;
    piece = h.piece;
    ended = h.ended;
    serials = λ fd o is. let before = entries fd o is in subst (λ (n : ℕ). IsSerial old.volume.numbers n) (sym before.2) (h.serials fd before.0 before.1);
  }

  -- The call's row, `r` by the values that the code has.
  pub serves_supplied : (c : HostCall) (used : ℕ) (args : List ℕ) (r : StreamBytes → Checked Done) (old : Inner D R W1 W2) (d : Descriptors) (s : Settings) (g : Option ChaCha) (m m' : List ℕ) (e : ℕ)
      → ((o : OpenedEntry) → reaches_volume c (λ _. Some (Entry o)) args ≡ false)
      → IsSetUp remaining old → settings_fit s ≡ true → s ≡ record old.settings { random = s.random } → NoMoreEntries (table_of old.descriptors) (table_of d)
      → ((b : StreamBytes) → row c (world_of (state_of old) b) m used args ≡ r b)
      → ((b : StreamBytes) → Answers (r b) (world_of (state_of old) b) m (world_of (state_of (record old { descriptors = d; settings = s; generator = g })) b) m' e)
      → Serves honest disk sectors_on failures goes_on remaining out_contents err_contents ear c used args old m (record old { descriptors = d; settings = s; generator = g }) m' e
  serves_supplied c used args r old d s g m m' e plain h fits kept entries same answers =
      let new : Inner D R W1 W2 = record old { descriptors = d; settings = s; generator = g } in
      let b : StreamBytes = nothing in
      record {
        set_up = still_set_up old d s g h fits entries;
        row = λ _. (
          nothing,
          streams_rest old old.volume d s g,
          λ others end. subst (λ (b' : StreamBytes). Answered (λ w. row c w m used args) (world_of (state_of old) others) m (world_of (state_of new) b') m' e) (sym (same_after others))
              (by_row (subst (λ (x : Checked Done). Answers x (world_of (state_of old) others) m (world_of (state_of new) others) m' e) (sym (same others)) (answers others))),
        );
        volume = volume_rests honest disk sectors_on failures goes_on old.volume;
        settings = kept;
        io = λ is. answers_never (r b) (world_of (state_of old) b) m (world_of (state_of new) b) m' e (answers b)
            (subst (λ (x : Checked Done). x ≢ Err 29) (same b) (plain_never c (world_of (state_of old) b) m used args plain)) is;
        heard = unheard ear (state_of old) (state_of new) refl refl refl;
      }

  -- the same where no generator is asked
  pub serves_plain : (c : HostCall) (used : ℕ) (args : List ℕ) (r : StreamBytes → Checked Done) (old : Inner D R W1 W2) (d : Descriptors) (s : Settings) (m m' : List ℕ) (e : ℕ)
      → ((o : OpenedEntry) → reaches_volume c (λ _. Some (Entry o)) args ≡ false)
      → IsSetUp remaining old → settings_fit s ≡ true → s ≡ record old.settings { random = s.random } → NoMoreEntries (table_of old.descriptors) (table_of d)
      → ((b : StreamBytes) → row c (world_of (state_of old) b) m used args ≡ r b)
      → ((b : StreamBytes) → Answers (r b) (world_of (state_of old) b) m (world_of (state_of (record old { descriptors = d; settings = s })) b) m' e)
      → Serves honest disk sectors_on failures goes_on remaining out_contents err_contents ear c used args old m (record old { descriptors = d; settings = s }) m' e
  serves_plain c used args r old d s m m' e plain h fits kept entries same answers =
      serves_supplied c used args r old d s old.generator m m' e plain h fits kept entries same answers

  -- A call that changes only the volume, if it reaches it.
  pub serves_reaching : (c : HostCall) (used : ℕ) (args : List ℕ) (r : World → Checked Done) (old : Inner D R W1 W2) (v : Opened D) (m m' : List ℕ) (e : ℕ)
      → (e ≡ 29 → HasFailed c (state_of (record old { volume = v })))
      → IsSetUp remaining old → VolumeStep honest disk sectors_on failures goes_on old.volume v
      → ((w : World) → row c w m used args ≡ r w)
      → ((IsTrue (reaches_volume c (table_of old.descriptors) args) → honest old.volume.device) → (b : StreamBytes) → Answered r (world_of (state_of old) b) m (with_volume v (world_of (state_of old) b)) m' e)
      → Serves honest disk sectors_on failures goes_on remaining out_contents err_contents ear c used args old m (record old { volume = v }) m' e
  serves_reaching c used args r old v m m' e io h step same answers =
      let new : Inner D R W1 W2 = record old { volume = v } in
      let same_run : (λ (w : World). row c w m used args) ≡ r = λ i w. same w i in
      let set_up : IsSetUp remaining new = record {
        settings = h.settings;
        buffers = h.buffers;
        piece = h.piece;
        ended = h.ended;
        serials = λ fd o is. subst (λ (n : Superblock). IsSerial n o.serial) (sym step.kept.numbers) (h.serials fd o is);
      } in
      record {
        set_up = set_up;
        row = λ known. (
          nothing,
          streams_rest old v old.descriptors old.settings old.generator,
          λ others end. subst (λ (b' : StreamBytes). Answered (λ w. row c w m used args) (world_of (state_of old) others) m (world_of (state_of new) b') m' e) (sym (same_after others))
              (subst (λ (x : World → Checked Done). Answered x (world_of (state_of old) others) m (world_of (state_of new) others) m' e) (sym same_run) (answers known others)),
        );
        volume = step;
        settings = refl;
        io = io;
        heard = unheard ear (state_of old) (state_of new) refl refl refl;
      }

  -- a call that reaches it always
  pub serves_volume : (c : HostCall) (used : ℕ) (args : List ℕ) (r : World → Checked Done) (old : Inner D R W1 W2) (v : Opened D) (m m' : List ℕ) (e : ℕ)
      → IsTrue (reaches_volume c (table_of old.descriptors) args) → (e ≡ 29 → HasFailed c (state_of (record old { volume = v })))
      → IsSetUp remaining old → VolumeStep honest disk sectors_on failures goes_on old.volume v
      → ((w : World) → row c w m used args ≡ r w)
      → (honest old.volume.device → (b : StreamBytes) → Answered r (world_of (state_of old) b) m (with_volume v (world_of (state_of old) b)) m' e)
      → Serves honest disk sectors_on failures goes_on remaining out_contents err_contents ear c used args old m (record old { volume = v }) m' e
  serves_volume c used args r old v m m' e reaches io h step same answers = serves_reaching c used args r old v m m' e io h step same (λ known. answers (known reaches))

-- ---- the input gives bytes, and in an interactive run a piece

abbrev pub from_in : List ℕ → List ℕ → StreamBytes
from_in bytes pieces = record { input = bytes; pieces = pieces; output = []; errors = [] }

pub after_in : (bytes pieces : List ℕ) (others : StreamBytes) → after_moving (from_in bytes pieces) others ≡ others
after_in bytes pieces others = λ i. record { input = others.input; pieces = others.pieces; output = append-nil others.output i; errors = append-nil others.errors i }

-- ---- calls that change the volume and the descriptors

module _ {D R W1 W2 : Type 0} (honest : D → Type 0) (disk : D → Disk) (sectors_on failures : D → ℕ) (goes_on : ℕ → D → D → Type 0)
    (remaining : R → Option (List ℕ)) (out_contents : W1 → Option (List ℕ)) (err_contents : W2 → Option (List ℕ)) (ear : Hearing R W1 W2) where
  pub serves_both : (c : HostCall) (used : ℕ) (args : List ℕ) (r : World → Checked Done) (old : Inner D R W1 W2) (v : Opened D) (d : Descriptors) (m m' : List ℕ) (e : ℕ)
      → IsTrue (reaches_volume c (table_of old.descriptors) args) → (e ≡ 29 → HasFailed c (state_of (record old { volume = v; descriptors = d })))
      → IsSetUp remaining old → VolumeStep honest disk sectors_on failures goes_on old.volume v → AreSerials v.numbers (table_of d)
      → ((w : World) → row c w m used args ≡ r w)
      → (honest old.volume.device → (b : StreamBytes) → Answered r (world_of (state_of old) b) m (with_both v (table_of d) (world_of (state_of old) b)) m' e)
      → Serves honest disk sectors_on failures goes_on remaining out_contents err_contents ear c used args old m (record old { volume = v; descriptors = d }) m' e
  serves_both c used args r old v d m m' e reaches io h step serials same answers =
      let new : Inner D R W1 W2 = record old { volume = v; descriptors = d } in
      let same_run : (λ (w : World). row c w m used args) ≡ r = λ i w. same w i in
      record {
        set_up = record { settings = h.settings; buffers = h.buffers; piece = h.piece; ended = h.ended; serials = serials };
        row = λ known. (
          nothing,
          streams_rest honest disk sectors_on failures goes_on remaining out_contents err_contents ear old v d old.settings old.generator,
          λ others end. subst (λ (b' : StreamBytes). Answered (λ w. row c w m used args) (world_of (state_of old) others) m (world_of (state_of new) b') m' e) (sym (same_after others))
              (subst (λ (x : World → Checked Done). Answered x (world_of (state_of old) others) m (world_of (state_of new) others) m' e) (sym same_run) (answers (known reaches) others)),
        );
        volume = step;
        settings = refl;
        io = io;
        heard = unheard ear (state_of old) (state_of new) refl refl refl;
      }

-- a call by the name that it has
pub serves_as : {D R W1 W2 : Type 0} (honest : D → Type 0) (disk : D → Disk) (sectors_on failures : D → ℕ) (goes_on : ℕ → D → D → Type 0)
    (remaining : R → Option (List ℕ)) (out_contents : W1 → Option (List ℕ)) (err_contents : W2 → Option (List ℕ)) (ear : Hearing R W1 W2)
    (m : List ℕ) (used : ℕ) (args : List ℕ) (call named : HostCall) → call ≡ named → (old new : Inner D R W1 W2) (m' : List ℕ) (e : ℕ)
    → Serves honest disk sectors_on failures goes_on remaining out_contents err_contents ear named used args old m new m' e
    → Serves honest disk sectors_on failures goes_on remaining out_contents err_contents ear call used args old m new m' e
serves_as honest disk sectors_on failures goes_on remaining out_contents err_contents ear m used args call named is old new m' e served =
    subst (λ (x : HostCall). Serves honest disk sectors_on failures goes_on remaining out_contents err_contents ear x used args old m new m' e) (sym is) served
