-- Calls on buffers: what their first checks refuse, and what is left of their rows after these.
use Rattle.std.proofs.Common.{◌≡◌, ◌≢◌, ◌≤◌, ℕ, List, Option, Ok, Err, true, false, refl, sym, ap, ◌∙◌, subst, vec_capacity}
use Rattle.std.proofs.lemmas.Bool.{false≢true}
use Rattle.vol_sector.specs.Disk.{Disk}
use Rattle.vol_body.specs.declared.source.MemorySpan.{MemorySpan}
use Rattle.wasi_fd.specs.declared.descriptor.Descriptor.{Descriptor}
use Rattle.wasi_fd.specs.Table.{Table, table_of}
use Rattle.wasm_store.specs.declared.call.HostCall.{HostCall}
use Rattle.wasi_bodies.specs.declared.checks.buffers.Request.{Request}
use Rattle.wasi_bodies.specs.declared.checks.buffers.TheConstants.{MOST_BUFFERS}
use Rattle.wasi_calls.specs.declared.host.inner.Inner.{Inner}
use Rattle.wasi_bodies.specs.World.{World}
use Rattle.wasi_bodies.specs.Checks.{Checked, Done, Buffer, Refusals, and_then, buffers, descriptor, has, range}
use Rattle.wasi_bodies.specs.Calls.{row}
use Rattle.wasi_bodies.specs.host.Worlds.{HasFailed, world_of, Hearing}
use Rattle.wasi_calls.specs.internal.Bodies.{IsSetUp, Serves, state_of}
use Rattle.wasi_bodies.specs.internal.checks.Buffers.{usable, list_of, AreUsable}
use Rattle.wasi_bodies.proofs.checks.AfterBuffers.{has_right, usable_row}
use Rattle.wasi_bodies.proofs.checks.CausesOf29.{check_not_29, not_29}
use Rattle.wasi_bodies.proofs.checks.Chains.{goes_on, stops}
use Rattle.wasi_bodies.proofs.checks.NoneAnswers29.{usable_never}
use Rattle.wasi_bodies.proofs.OpenEntries.{some_world}
use Rattle.wasi_bodies.proofs.bodies.Resting.{no_more, volume_rests}
use Rattle.wasi_bodies.proofs.bodies.VolumeCalls.{refused_first}
use Rattle.wasi_calls.proofs.calls.MovingCalls.{serves_roomy}

module _ {D R W1 W2 X : Type 0} (honest : D → Type 0) (disk : D → Disk) (sectors_on failures : D → ℕ) (device_goes_on : ℕ → D → D → Type 0)
    (remaining : R → Option (List ℕ)) (out_contents : W1 → Option (List ℕ)) (err_contents : W2 → Option (List ℕ)) (ear : Hearing R W1 W2)
    (c : HostCall) (used : ℕ) (args : List ℕ) (old : Inner D R W1 W2) (h : IsSetUp remaining old) (m : List ℕ) (q : Request)
    (check : World → Checked X) (rest : World → X → List Buffer → Checked Done)
    (same : (w : World) → row c w m used args ≡ and_then (check w) (λ x. and_then (buffers m q.iovs q.count) (λ bs. and_then (range m q.result_at 4) (λ _. rest w x bs)))) where
  -- a check refuses, whatever the room for the buffers has by then
  refused : (room : _) (e : ℕ) → MOST_BUFFERS ≤ vec_capacity room → (e ≡ 29 → HasFailed c (state_of old)) → ((w : World) → w.table ≡ table_of old.descriptors → row c w m used args ≡ Err e)
      → Serves honest disk sectors_on failures device_goes_on remaining out_contents err_contents ear c used args old m (record old { buffers = room }) m e
  refused room e place io is =
      serves_roomy honest disk sectors_on failures device_goes_on remaining out_contents err_contents ear c used args old (record old { buffers = room }) m m e io h place h.piece refl
      (volume_rests honest disk sectors_on failures device_goes_on old.volume) (no_more (table_of old.descriptors))
      (λ known b. let w = world_of (state_of old) b in refused_first w m (λ v. row c v m used args) old.volume e refl (is w refl))

  pub refused_check : (e : ℕ) → ((w : World) → check w ≢ Err 29) → ((w : World) → w.table ≡ table_of old.descriptors → check w ≡ Err e)
      → Serves honest disk sectors_on failures device_goes_on remaining out_contents err_contents ear c used args old m old m e
  refused_check e never is =
      refused old.buffers e h.buffers (check_not_29 (table_of old.descriptors) check e never is) (λ w table. same w ∙ stops _ _ e (is w table))

  module _ (x : X) (passes : (w : World) → w.table ≡ table_of old.descriptors → check w ≡ Ok x) where
    pub refused_buffers : (room : _) (e : ℕ) → MOST_BUFFERS ≤ vec_capacity room → usable m q.iovs q.count q.result_at ≡ Err e
        → Serves honest disk sectors_on failures device_goes_on remaining out_contents err_contents ear c used args old m (record old { buffers = room }) m e
    refused_buffers room e place is =
        refused room e place (not_29 (usable m q.iovs q.count q.result_at) e (usable_never m q.iovs q.count q.result_at) is)
        (λ w table. same w ∙ (goes_on _ _ x (passes w table) ∙ (usable_row m q.iovs q.count q.result_at (rest w x) ∙ stops _ _ e is)))

    pub after_buffers : (found shown : List MemorySpan) → shown ≡ found → usable m q.iovs q.count q.result_at ≡ Ok (list_of found)
        → (w : World) → w.table ≡ table_of old.descriptors → row c w m used args ≡ rest w x (list_of shown)
    after_buffers found shown whole is w table =
        same w ∙ (goes_on _ _ x (passes w table) ∙ (usable_row m q.iovs q.count q.result_at (rest w x) ∙ goes_on _ _ (list_of shown) (is ∙ ap Ok (ap list_of (sym whole)))))

-- the buffers that were found, as a slice of the room shows them
pub shown_usable : (m : List ℕ) (found shown : List MemorySpan) (at : ℕ) → shown ≡ found → AreUsable m (list_of found) at → AreUsable m (list_of shown) at
shown_usable m found shown at whole usable = subst (λ (bs : List MemorySpan). AreUsable m (list_of bs) at) (sym whole) usable

-- a descriptor that passed its check has the rights
pub lacks_right : {P : Type 0} (table : Table) (fd : ℕ) (r : Refusals) (rights : ℕ) (d e : Descriptor) → ((w : World) → w.table ≡ table → descriptor w fd r rights ≡ Ok d) → d ≡ e → has e rights ≡ false → P
unfolding some_world
lacks_right table fd r rights d e passes is lacks =
    absurd (false≢true (sym lacks ∙ subst (λ (d : Descriptor). has d rights ≡ true) is (has_right (some_world table) fd r rights d (passes (some_world table) refl))))
