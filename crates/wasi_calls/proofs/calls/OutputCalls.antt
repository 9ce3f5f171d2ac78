-- Calls that write to a stream.
use Rattle.std.proofs.Common.{◌≡◌, ◌≤◌, ◌⊎◌, inl, inr, Bool, Result, OnOk, OnErr, IfErr, ℕ, true, false, not, List, [], ◌++◌, length, take, Option, Some, Ok, Err, vec_capacity, refl, sym, ap, ◌∙◌, subst, append-nil, append_assoc, arith}
use Rattle.std.proofs.lemmas.List.{length-append}
use Rattle.std.proofs.Math.Seq.{take-append_seam}
use Rattle.std.specs.Io.KnownBytes.{Appends, IsAtEnd}
use Rattle.std.proofs.KnownBytes.{Consumes-nil, Appends-nil}
use Rattle.byteorder.specs.Endian.{little_bytes}
use Rattle.wasm_store.specs.Bytes.{written}
use Rattle.wasm_store.specs.declared.call.Errno.{Errno}
use Rattle.vol_sector.specs.Disk.{Disk}
use Rattle.vol_tree.specs.Opened.{IsSerial}
use Rattle.wasi_fd.specs.declared.descriptor.Stream.{Stream as StreamValue}
use Rattle.wasi_fd.specs.declared.descriptor.Stream.TheVariants.{Output, Error}
use Rattle.wasi_fd.specs.declared.descriptor.Descriptor.TheVariants.{Stream, Entry}
use Rattle.wasi_fd.specs.declared.descriptor.Opened.{Opened as OpenedEntry}
use Rattle.wasi_fd.specs.Table.{table_of}
use Rattle.wasi_calls.specs.declared.host.inner.Inner.{Inner}
use Rattle.wasi_bodies.specs.host.Settings.{settings_fit}
use Rattle.wasi_bodies.specs.World.{World, has_stream_failed, with_stream_failed, with_output}
use Rattle.wasi_bodies.specs.Checks.{Checked, Done, with_result}
use Rattle.wasm_store.specs.declared.call.HostCall.{HostCall}
use Rattle.wasi_bodies.specs.Calls.{row, Answered, OutputFails, by_row, output_fails, errors_fail, output_of, output_after, with_all}
use Rattle.wasi_bodies.specs.host.Worlds.{HostState, StreamBytes, HasFailed, StreamsMove, after_moving, world_of, VolumeStep, Hearing, HearsStreams}
use Rattle.wasi_bodies.specs.internal.Entries.{errno_of}
use Rattle.wasi_calls.specs.internal.Bodies.{state_of, IsSetUp, Serves}
use Rattle.wasi_bodies.specs.internal.files.Writing.{written_to}
use Rattle.wasi_bodies.specs.internal.streams.Outputs.{AppendsSome}
use Rattle.wasi_bodies.proofs.checks.Chains.{guard_passes, guard_fails, goes_on, stops}
use Rattle.wasi_bodies.proofs.bodies.Answering.{answers_done, answers_refused}
use Rattle.wasi_bodies.proofs.bodies.Resting.{nothing, same_after, volume_rests, settings_rest}
use Rattle.wasi_calls.proofs.calls.PlainCalls.{streams_rest}
use Rattle.wasi_bodies.proofs.bodies.VolumeCalls.{is_no_err}
use Rattle.wasi_bodies.proofs.checks.CausesOf29.{no_29_at_0}
use Rattle.wasi_bodies.specs.declared.streams.Output.{Output as OutputValue}
use Rattle.wasi_bodies.specs.declared.checks.buffers.TheConstants.{MOST_BUFFERS}
use Rattle.wasi_bodies.specs.declared.streams.inputs.TheConstants.{INPUT_PIECE}

either : (b : Bool) → (b ≡ true) ⊎ (b ≡ false)
either true = inl refl
either false = inr refl

-- what a writer took is the beginning of what the output would have
beginning : (had taken missing all : List ℕ) → all ≡ taken ++ missing → had ++ taken ≡ take (length (had ++ taken)) (had ++ all)
beginning had taken missing all parts = sym (ap (λ (l : List ℕ). take (length (had ++ taken)) (had ++ l)) parts
    ∙ (ap (λ (l : List ℕ). take (length (had ++ taken)) l) (sym (append_assoc had taken missing)) ∙ take-append_seam (had ++ taken) missing))

-- One of a host's outputs takes bytes, and nothing else of the host changes. Of these bytes `out` and `err` are what each output gets.
pub record DescriptorKinds {D R W1 W2 W : Type 0} (remaining : R → Option (List ℕ)) (out_contents : W1 → Option (List ℕ)) (err_contents : W2 → Option (List ℕ)) (contents : W → Option (List ℕ))
    (s : StreamValue) (old new : HostState D R W1 W2) (before after : OutputValue W) : Type 0 where
  out : List ℕ → List ℕ
  err : List ℕ → List ℕ
  rests : after ≡ before → new ≡ old
  moves : (taken : List ℕ) → Appends (contents before.writer) (contents after.writer) taken
      → StreamsMove remaining out_contents err_contents old new (record { input = []; pieces = []; output = out taken; errors = err taken })
  mark : (b : StreamBytes) → has_stream_failed (world_of old b) s ≡ before.failed
  done : (b : StreamBytes) (taken : List ℕ) → after.failed ≡ before.failed
      → world_of new (after_moving (record { input = []; pieces = []; output = out taken; errors = err taken }) b) ≡ with_output (world_of old b) s taken
  broken : (b : StreamBytes) (taken bytes : List ℕ) → after.failed ≡ true → output_of s (world_of old b) ++ taken ≡ bytes
      → world_of new (after_moving (record { input = []; pieces = []; output = out taken; errors = err taken }) b) ≡ with_stream_failed s (with_all s (world_of old b) bytes)
  has : (w : World) (bytes : List ℕ) → output_of s w ++ bytes ≡ output_of s (with_output w s bytes)
  marked : (w : World) → has_stream_failed (with_stream_failed s w) s ≡ true
  table : (w : World) → (with_stream_failed s w).table ≡ w.table
  fails : (run : World → Checked Done) (w : World) (m : List ℕ) (w' : World) (m' : List ℕ) (e : ℕ) → OutputFails s run w m w' m' e → Answered run w m w' m' e

module _ {D R W1 W2 : Type 0} (remaining : R → Option (List ℕ)) (out_contents : W1 → Option (List ℕ)) (err_contents : W2 → Option (List ℕ)) (old : HostState D R W1 W2) where
  pub out_takes : (o : OutputValue W1) → DescriptorKinds remaining out_contents err_contents out_contents Output old (record old { out = o }) old.out o
  out_takes o = record {
    out = λ taken. taken;
    err = λ taken. [];
    rests = λ is i. record old { out = is i };
    moves = λ taken more. record { input = Consumes-nil (remaining old.input.reader); output = more; errors = Appends-nil (err_contents old.err.writer); ended = λ is. (refl, is); end = λ is. inl is; pieces = λ is. (refl, is) };
    mark = λ b. refl;
    done = λ b taken same i. record (world_of old b) { output = b.output ++ taken; errors = append-nil b.errors i; output_failed = same i };
    broken = λ b taken bytes failed is i. record (world_of old b) { output = is i; errors = append-nil b.errors i; output_failed = failed i };
    has = λ w bytes. refl;
    marked = λ w. refl;
    table = λ w. refl;
    fails = λ run w m w' m' e h. output_fails h;
  }

  pub err_takes : (o : OutputValue W2) → DescriptorKinds remaining out_contents err_contents err_contents Error old (record old { err = o }) old.err o
  err_takes o = record {
    out = λ taken. [];
    err = λ taken. taken;
    rests = λ is i. record old { err = is i };
    moves = λ taken more. record { input = Consumes-nil (remaining old.input.reader); output = Appends-nil (out_contents old.out.writer); errors = more; ended = λ is. (refl, is); end = λ is. inl is; pieces = λ is. (refl, is) };
    mark = λ b. refl;
    done = λ b taken same i. record (world_of old b) { output = append-nil b.output i; errors = b.errors ++ taken; errors_failed = same i };
    broken = λ b taken bytes failed is i. record (world_of old b) { output = append-nil b.output i; errors = is i; errors_failed = failed i };
    has = λ w bytes. refl;
    marked = λ w. refl;
    table = λ w. refl;
    fails = λ run w m w' m' e h. errors_fail h;
  }

module _ {D R W1 W2 W : Type 0} (honest : D → Type 0) (disk : D → Disk) (sectors_on failures : D → ℕ) (device_goes_on : ℕ → D → D → Type 0)
    (remaining : R → Option (List ℕ)) (out_contents : W1 → Option (List ℕ)) (err_contents : W2 → Option (List ℕ)) (ear : Hearing R W1 W2) (contents : W → Option (List ℕ))
    (c : HostCall) (used : ℕ) (args : List ℕ) (old new : Inner D R W1 W2) (m m' : List ℕ) (fd : ℕ) (all : List ℕ) (result : ℕ)
    (h : IsSetUp remaining old) (buffers : MOST_BUFFERS ≤ vec_capacity new.buffers) (piece : INPUT_PIECE ≤ vec_capacity new.piece)
    (state : state_of new ≡ state_of (record old { out = new.out; err = new.err }))
    (s : StreamValue) (before after : OutputValue W) (takes : DescriptorKinds remaining out_contents err_contents contents s (state_of old) (state_of new) before after)
    (same : (v : World) → v.table ≡ table_of old.descriptors → row c v m used args ≡ written_to v fd (Stream s) all result)
    (cause : after.failed ≡ true → HasFailed c (state_of new)) (hears : HearsStreams ear (state_of old) (state_of new)) where
  abbrev run : World → Checked Done
  run w = row c w m used args

  set_up : IsSetUp remaining new
  set_up = record {
    settings = ap (λ (s : HostState D R W1 W2). settings_fit s.settings) state ∙ h.settings;
    buffers = buffers;
    piece = piece;
    ended = subst (λ (s : HostState D R W1 W2). s.input.ended ≡ true → IsAtEnd (remaining s.input.reader)) (sym state) h.ended;
    serials = subst (λ (s : HostState D R W1 W2). (fd : ℕ) (o : OpenedEntry) → table_of s.descriptors fd ≡ Some (Entry o) → IsSerial s.volume.numbers o.serial) (sym state) h.serials;
  }

  -- what the call leaves, by the bytes that its outputs take
  leaves : (out err : List ℕ) (e : ℕ) → (e ≡ 29 → HasFailed c (state_of new))
      → StreamsMove remaining out_contents err_contents (state_of old) (state_of new) (record { input = []; pieces = []; output = out; errors = err })
      → ((b : StreamBytes) → Answered run (world_of (state_of old) b) m (world_of (state_of new) (after_moving (record { input = []; pieces = []; output = out; errors = err }) b)) m' e)
      → Serves honest disk sectors_on failures device_goes_on remaining out_contents err_contents ear c used args old m new m' e
  leaves out err e io moves answered = record {
    set_up = set_up;
    row = λ _. (record { input = []; pieces = []; output = out; errors = err }, moves, λ b end. answered b);
    volume = subst (λ (s : HostState D R W1 W2). VolumeStep honest disk sectors_on failures device_goes_on old.volume s.volume) (sym state) (volume_rests honest disk sectors_on failures device_goes_on old.volume);
    settings = settings_rest old.settings new.settings (ap (λ (s : HostState D R W1 W2). s.settings) state);
    io = io;
    heard = hears;
  }

  idle : before.failed ≡ true → after ≡ before → m' ≡ m → Serves honest disk sectors_on failures device_goes_on remaining out_contents err_contents ear c used args old m new m' 29
  idle failed none bytes =
      let still : state_of new ≡ state_of old = takes.rests none in
      leaves [] [] 29 (λ _. cause (ap (λ (o : OutputValue W). o.failed) none ∙ failed))
      (subst (λ (s : HostState D R W1 W2). StreamsMove remaining out_contents err_contents (state_of old) s nothing) (sym still)
      (streams_rest honest disk sectors_on failures device_goes_on remaining out_contents err_contents ear old old.volume old.descriptors old.settings old.generator))
      (λ b.
      let w = world_of (state_of old) b in
      by_row (answers_refused (run w) w m (world_of (state_of new) (after_moving nothing b)) m' 29
      (same w refl ∙ stops _ _ 29 (stops _ _ 29 (guard_fails _ 29 (ap not (takes.mark b ∙ failed))))) (λ i. world_of (still i) (same_after b i)) bytes))

  abbrev done : World → Done
  done w = with_result (with_output w s all) result (little_bytes 4 (length all))

  writes : (b : StreamBytes) → before.failed ≡ false → run (world_of (state_of old) b) ≡ Ok (done (world_of (state_of old) b))
  writes b works =
      let w = world_of (state_of old) b in
      same w refl ∙ goes_on _ _ (with_output w s all, length all) (goes_on _ _ tt (guard_passes _ 29 (ap not (takes.mark b ∙ works))))

  took : before.failed ≡ false → after.failed ≡ false → Appends (contents before.writer) (contents after.writer) all → m' ≡ written m result (little_bytes 4 (length all))
      → Serves honest disk sectors_on failures device_goes_on remaining out_contents err_contents ear c used args old m new m' 0
  took works working more bytes =
      leaves (takes.out all) (takes.err all) 0 no_29_at_0 (takes.moves all more)
      (λ b.
      let w = world_of (state_of old) b in
      by_row (answers_done (run w) w m _ m' (done w) (writes b works) (takes.done b all (working ∙ sym works)) bytes))

  broke : before.failed ≡ false → after.failed ≡ true → AppendsSome (contents before.writer) (contents after.writer) all → m' ≡ m
      → Serves honest disk sectors_on failures device_goes_on remaining out_contents err_contents ear c used args old m new m' 29
  broke works failed some bytes =
      let taken = some.taken in
      leaves (takes.out taken) (takes.err taken) 29 (λ _. cause failed) (takes.moves taken some.appended)
      (λ b.
      let w = world_of (state_of old) b in
      let had = output_of s w in
      takes.fails run w m _ m' 29 (record {
        reaches = record {
          refused = same (with_stream_failed s w) (takes.table w) ∙ stops _ _ 29 (stops _ _ 29 (guard_fails _ 29 (ap not (takes.marked w))));
          only_so = is_no_err (run w) (done w) 29 (writes b works);
        };
        answer = refl;
        count = length (had ++ taken);
        at_least = omega (arith, length-append had taken);
        after = takes.broken b taken _ failed (beginning had taken some.missing all some.parts
            ∙ (ap (take (length (had ++ taken))) (takes.has w all) ∙ ap (λ (x : Checked Done). take (length (had ++ taken)) (output_after s x w)) (sym (writes b works))));
        bytes = bytes;
      }))

  pub served : (r : Result (Unit {0}) Errno) → (before.failed ≡ true → after ≡ before)
      → OnOk r ((before.failed ≡ false) × (after.failed ≡ false) × Appends (contents before.writer) (contents after.writer) all × (m' ≡ written m result (little_bytes 4 (length all))))
      → OnErr r (before.failed ≡ false → (after.failed ≡ true) × AppendsSome (contents before.writer) (contents after.writer) all)
      → IfErr r (λ e. (e.0 ≡ 29) × (m' ≡ m)) → Serves honest disk sectors_on failures device_goes_on remaining out_contents err_contents ear c used args old m new m' (errno_of r)
  served (Ok u) rests takes_all breaks answer = took takes_all.0 takes_all.1 takes_all.2 takes_all.3
  served (Err e) rests takes_all breaks answer =
      subst (λ (n : ℕ). Serves honest disk sectors_on failures device_goes_on remaining out_contents err_contents ear c used args old m new m' n) (sym answer.0)
      (elim (either before.failed) [
        | inl is ↦ idle is (rests is) answer.1
        | inr works ↦ let b = breaks works in broke works b.0 b.1 answer.1
      ])
