-- From the body of a call to what the host says of it.
use Rattle.std.proofs.Common.{◌≡◌, ◌≢◌, ℕ, List, Option, refl, sym, ◌∙◌, ap, subst}
use Rattle.vol_sector.specs.Disk.{Disk}
use Rattle.vol_tree.specs.Tree.{IsTree}
use Rattle.wasm_store.specs.declared.call.HostCall.{HostCall}
use Rattle.wasm_store.specs.declared.call.HostCall.TheVariants as call
use Rattle.wasm_store.specs.declared.call.Errno.{Errno}
use Rattle.wasm_store.specs.declared.call.Answer.{Answer}
use Rattle.wasm_store.specs.declared.call.Answer.TheVariants.{Value as value, Exit as exit}
use Rattle.wasi_fd.specs.Table.{table_of}
use Rattle.wasi_calls.specs.declared.host.inner.Inner.{Inner}
use Rattle.wasi_bodies.specs.World.{World}
use Rattle.wasi_bodies.specs.Calls.{row, word, Answered, Calls}
use Rattle.wasi_bodies.specs.host.Worlds.{StreamBytes, before_moving, after_moving, world_of, HostCalls, Hearing}
use Rattle.wasi_bodies.specs.laws.Moments.{IsSynced}
use Rattle.wasi_bodies.specs.internal.Entries.{KnowsEntries}
use Rattle.wasi_calls.specs.internal.Bodies.{state_of, IsSetUp, IsReadyForCalls, Serves}
use Rattle.wasi_bodies.proofs.bodies.Resting.{nothing, same_after, volume_rests}
use Rattle.wasi_calls.proofs.calls.PlainCalls.{streams_rest}
use Rattle.wasi_calls.proofs.runs.EntriesStay.{still_there, few_open}
use Rattle.wasi_calls.proofs.bodies.StreamsHeard.{unheard}

-- a call that doesn't end the guest means its row
by_row_of : (c : HostCall) (w : World) (m : List ℕ) (used : ℕ) (args : List ℕ) (w' : World) (m' : List ℕ) (e : Errno) (answer : Answer) → c ≢ call.ProcExit → answer ≡ value e
    → Answered (λ v. row c v m used args) w m w' m' e.0 → Calls w m used c args w' m' answer
by_row_of call.ProcExit w m used args w' m' e answer goes_on is a = absurd (goes_on refl)
by_row_of other w m used args w' m' e answer goes_on is a = (e, is, a)

number_in : Answer → ℕ
number_in (value e) = e.0
number_in (exit status) = status

value_exit : (e : Errno) (status : ℕ) → value e ≡ exit status → ⊥
value_exit e status is = cc

module _ {D R W1 W2 : Type 0} (honest : D → Type 0) (disk : D → Disk) (sectors_on failures : D → ℕ) (goes_on : ℕ → D → D → Type 0)
    (remaining : R → Option (List ℕ)) (out_contents : W1 → Option (List ℕ)) (err_contents : W2 → Option (List ℕ)) (ear : Hearing R W1 W2) where
  pub called : (c : HostCall) (old new : Inner D R W1 W2) (m m' : List ℕ) (used : ℕ) (args : List ℕ) (e : Errno) (answer : Answer) → c ≢ call.ProcExit → answer ≡ value e
      → Serves honest disk sectors_on failures goes_on remaining out_contents err_contents ear c used args old m new m' e.0
      → (honest old.volume.device → IsSynced c e.0 (disk new.volume.device) new.volume.numbers new.volume.tree)
      → HostCalls honest disk sectors_on failures goes_on remaining out_contents err_contents ear (state_of old) m used c args (state_of new) m' answer
  unfolding number_in
  called c old new m m' used args e answer goes_on is serves synced = record {
    row = λ h.
        let (moved, moves, answered) = serves.row h in
        (moved, moves, λ others last. by_row_of c (world_of (state_of old) (before_moving moved others)) m used args (world_of (state_of new) (after_moving moved others)) m' e answer goes_on is (answered others last));
    volume = serves.volume;
    settings = serves.settings;
    io = λ other told is29.
        let same : e.0 ≡ other.0 = ap number_in (sym is ∙ told) in
        serves.io (same ∙ is29);
    synced = λ h other told.
        let same : e.0 ≡ other.0 = ap number_in (sym is ∙ told) in
        subst (λ (n : ℕ). IsSynced c n (disk new.volume.device) new.volume.numbers new.volume.tree) same (synced h);
    exits = λ status told. absurd (value_exit e status (sym is ∙ told));
    ends = λ status told. absurd (value_exit e status (sym is ∙ told));
    heard = serves.heard;
  }

  -- the guest ends, and the host stays
  pub ends : (old : Inner D R W1 W2) (m : List ℕ) (used : ℕ) (args : List ℕ) (status : ℕ) → IsSetUp remaining old → status ≡ word args 0
      → HostCalls honest disk sectors_on failures goes_on remaining out_contents err_contents ear (state_of old) m used call.ProcExit args (state_of old) m (exit status)
  ends old m used args status set_up is =
      record {
        row = λ h. (nothing, streams_rest honest disk sectors_on failures goes_on remaining out_contents err_contents ear old old.volume old.descriptors old.settings old.generator, λ others last. (ap exit is, ap (λ (b : StreamBytes). world_of (state_of old) b) (same_after others), refl));
        volume = volume_rests honest disk sectors_on failures goes_on old.volume;
        settings = refl;
        io = λ e told. absurd (value_exit e status (sym told));
        synced = λ h e told. absurd (value_exit e status (sym told));
        exits = λ other told. refl;
        ends = λ other told. refl;
        heard = unheard ear (state_of old) (state_of old) refl refl refl;
      }

  -- after a call the host is ready for the next
  pub still_ready : (c : HostCall) (old new : Inner D R W1 W2) (m m' : List ℕ) (used : ℕ) (args : List ℕ) (errno : ℕ) → (honest old.volume.device → IsTree old.volume.tree)
      → KnowsEntries honest old.volume (table_of old.descriptors)
      → Serves honest disk sectors_on failures goes_on remaining out_contents err_contents ear c used args old m new m' errno → IsReadyForCalls honest remaining new
  still_ready c old new m m' used args errno tree known serves = record {
    set_up = serves.set_up;
    known = record {
      numbers = serves.set_up.serials;
      there = λ h'.
          let h = serves.volume.kept.honest.1 h' in
          let (moved, moves, answered) = serves.row (λ _. h) in
          still_there old.volume.tree (tree h) c (world_of (state_of old) (before_moving moved nothing)) (world_of (state_of new) (after_moving moved nothing)) m m' used args errno refl (few_open old.descriptors) (known.there h)
          (answered nothing (λ _. refl));
    };
  }
