use Rattle.std.proofs.Common.{◌≡◌, ◌≤◌, ◌⊎◌, ℕ, Bool, true, false, Result, Ok, Err, length, IsTrue, if◌then◌else◌, inl, inr, refl, sym, ap, ◌∙◌, subst}
use Rattle.std.proofs.lemmas.Bool.{cond-true, cond-false}
use Rattle.vol_tree.specs.declared.errno.Errno.{Errno}
use Rattle.vol_tree.specs.declared.superblock.Superblock.{Superblock}
use Rattle.vol_tree.specs.Numbers.{number_of}
use Rattle.vol_tree.specs.Tree.{Tree}
use Rattle.vol_tree.specs.Clauses.{is_io}
use Rattle.vol_tree.specs.Opened.{Opened}
use Rattle.vol_tree.specs.Calls.{bytes_at, is_file_at}
use Rattle.wasi_fd.specs.declared.descriptor.Opened.{Opened as OpenedEntry}
use Rattle.wasi_fd.specs.declared.descriptor.Descriptor.TheVariants.{Entry}
use Rattle.wasi_fd.specs.Table.{table_of}
use Rattle.wasi_bodies.proofs.checks.CausesOf29.{asked_29}
use Rattle.wasi_bodies.specs.World.{World}
use Rattle.wasi_bodies.specs.Checks.{gathered}
use Rattle.wasi_bodies.specs.Calls.{Answered}
use Rattle.wasi_bodies.specs.host.Worlds.{VolumeStep}
use Rattle.wasi_bodies.specs.internal.Entries.{IsFileOf, with_volume, with_table}
use Rattle.wasi_bodies.specs.internal.checks.Buffers.{list_of}
use Rattle.wasi_bodies.specs.internal.files.Writing.{written_on, written_to}
use Rattle.wasi_bodies.proofs.checks.Chains.{stops}
use Rattle.wasi_bodies.proofs.bodies.VolumeCalls.{was_working, same_volume, failed_by, steps_after, tree_called_gone}
use Rattle.wasi_bodies.proofs.descriptors.Shifts.{in_table}
use Rattle.wasi_bodies.proofs.checks.AfterBuffers.{answered_so}
use Rattle.wasi_bodies.proofs.files.WriteCalls.{part_of, tree_on, done_on, row_on, row_to, leaving_never, written_never}
use Rattle.wasi_bodies.proofs.files.writing.write_file.Goals as goal

either : (b : Bool) → (b ≡ true) ⊎ (b ≡ false)
either true = inl refl
either false = inr refl

same_Ok : (a b : OpenedEntry) → ◌≡◌ {A = Result OpenedEntry Errno} (Ok a) (Ok b) → a ≡ b
same_Ok a b h = cc

no_Ok : (e : Errno) (b : OpenedEntry) → ◌≡◌ {A = Result OpenedEntry Errno} (Err e) (Ok b) → ⊥
no_Ok e b h = cc

pub write_on-requires-clause-file : goal.write_on-requires-clause-file
write_on-requires-clause-file g c =
    let honest = g.D.Device.honest in
    let old = c.args.volume.now in
    let new = c.where_it_writes.new.volume in
    let o = c.args.opened.now in
    let file = c.requires.file in
    let there : IsFileOf honest new o.serial = elim (either o.append) [
      | inl is ↦
          let k = c.in-Ok.ensures.kept is in
          record {
            first = file.first;
            last = subst (λ (n : Superblock). o.serial ≤ n.slots) (sym k.numbers) file.last;
            used = λ h. subst (λ (T : Tree). IsTrue (is_file_at T o.serial)) (sym (c.in-Ok.ensures.at_end is (k.honest.1 h)).1) (file.used (k.honest.1 h));
          }
      | inr is ↦ subst (λ (v : Opened g.row.D.Denot). IsFileOf honest v o.serial) (sym (c.in-Ok.ensures.stays is).0) file
    ] in
    subst (λ (n : ℕ). IsFileOf honest new n) (sym (ap (λ (o : OpenedEntry). o.serial) c.in-Ok.ensures.moved)) there

pub write_on-requires-clause-open : goal.write_on-requires-clause-open
write_on-requires-clause-open g c = record { open_as = c.args.opened.now; is = c.requires.open; moved = c.in-Ok.ensures.moved }

pub returns-in-Ok-clause-step : goal.returns-in-Ok-clause-step
returns-in-Ok-clause-step g c =
    let last = c.write_on.new.volume in
    elim (either c.args.opened.now.append) [
      | inl is ↦ steps_after g.D.Device.honest g.D.Device.disk g.D.Device.size g.D.Device.failures g.D.Device.goes_on c.args.volume.now c.where_it_writes.new.volume last
          (record { kept = c.in-Ok.ensures.kept is; tree = λ h. (c.in-Ok.ensures.at_end is h).1; crash = c.in-Ok.ensures.asked is; goes = c.in-Ok.ensures.step.goes }) c.write_on.ensures.step
      | inr is ↦ subst (λ (v : Opened g.row.D.Denot). VolumeStep g.D.Device.honest g.D.Device.disk g.D.Device.size g.D.Device.failures g.D.Device.goes_on v last) (c.in-Ok.ensures.stays is).0 c.write_on.ensures.step
    ]

pub returns-in-Ok-clause-answered : goal.returns-in-Ok-clause-answered
returns-in-Ok-clause-answered g c = λ h w table shown.
    let honest = g.D.Device.honest in
    let m = c.args.memory.now in
    let old = c.args.volume.now in
    let new = c.where_it_writes.new.volume in
    let o = c.args.opened.now in
    let s = c.in-Ok.standing in
    let fd = c.args.request.now.fd in
    let result = c.args.request.now.result_at in
    let all = gathered m (list_of c.args.buffers.now) in
    let told = c.in-Ok.ensures in
    let still : honest new.device = elim (either o.append) [
      | inl is ↦ (told.kept is).honest.0 h
      | inr is ↦ subst (λ (v : Opened g.row.D.Denot). honest v.device) (sym (told.stays is).0) h
    ] in
    let shows : w ≡ with_volume new w = elim (either o.append) [
      | inl is ↦
          let k = told.kept is in
          let working : old.failed ≡ false = was_working honest g.D.Device.size g.D.Device.failures old new false k refl in
          sym (same_volume w m old new shown k.numbers (told.at_end is h).1 (k.failed ∙ sym working))
      | inr is ↦ shown ∙ ap (λ (v : Opened g.row.D.Denot). with_volume v w) (sym (told.stays is).0)
    ] in
    let at : (if o.append then length (bytes_at w.tree o.serial) else o.position) ≡ s.position = elim (either o.append) [
      | inl is ↦ cond-true o.append _ _ is ∙ (ap (λ (w : World). length (bytes_at w.tree o.serial)) shown ∙ sym (ap (λ (o : OpenedEntry). o.position) (told.at_end is h).0))
      | inr is ↦ cond-false o.append _ _ is ∙ sym (ap (λ (o : OpenedEntry). o.position) (same_Ok s o (told.stays is).1))
    ] in
    answered_so (λ v. written_to v fd (Entry o) all result) (λ v. written_on v fd s all result) w
    (λ v _ tree. row_to fd o all result v s.position (ap (λ (T : Tree). if o.append then length (bytes_at T o.serial) else o.position) tree ∙ at)
    ∙ ap (λ (o : OpenedEntry). written_on v fd o all result) (sym told.moved))
    m _ _ _ (c.write_on.ensures.answered still w table shows)

pub returns-in-Err-clause-answered : goal.returns-in-Err-clause-answered
returns-in-Err-clause-answered g c = λ h w table shown.
    let m = c.args.memory.now in
    let old = c.args.volume.now in
    let new = c.where_it_writes.new.volume in
    let o = c.args.opened.now in
    let fd = c.args.request.now.fd in
    let result = c.args.request.now.result_at in
    let all = gathered m (list_of c.args.buffers.now) in
    let run = λ (v : World). written_to v fd (Entry o) all result in
    let appends : o.append ≡ true = elim (either o.append) [
      | inl is ↦ is
      | inr is ↦ absurd (no_Ok c.in-Err.errno o (c.in-Err.ensures.stays is).1)
    ] in
    let (io, tree) = c.in-Err.ensures.at_end appends h in
    let k = c.in-Err.ensures.kept appends in
    let p = if o.append then length (bytes_at w.tree o.serial) else o.position in
    let on : OpenedEntry = record o { position = p } in
    subst (λ (n : ℕ). Answered run w m (with_table (table_of c.args.descriptors.now) (with_volume new w)) m n) (sym (c.refused.ensures ∙ ap number_of io))
    (in_table run w m (with_volume new w) m 29 _ table
    (failed_by w m run old new shown k.numbers tree (k.failed ∙ ap (λ (e : Errno). is_io {X = ℕ} (Err e)) io)
    (stops _ _ 29 (stops _ _ 29 (stops _ _ 29 (tree_called_gone w _))))
    (λ alive is. leaving_never (tree_on on all) (done_on fd on all result) w alive (written_never w.volume w.tree o.serial p (part_of all))
    (sym (row_to fd o all result w p refl ∙ row_on fd on all result w) ∙ is))))

pub returns-in-Err-clause-io : goal.returns-in-Err-clause-io
returns-in-Err-clause-io g c = asked_29 OpenedEntry c.in-Err.errno _ c.in-Err.ensures.io c.refused.ensures
