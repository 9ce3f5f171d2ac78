use Rattle.std.proofs.Common.{◌≡◌, inl, inr, ◌^◌, IsTrue, Option, Some, Ok, refl, sym, ap, ◌∙◌, subst, arith}
use Rattle.wasi_fd.specs.declared.descriptor.Stream.TheVariants.{Input, Output, Error}
use Rattle.wasi_fd.specs.declared.descriptor.Descriptor.{Descriptor}
use Rattle.wasi_fd.specs.declared.descriptor.Descriptor.TheVariants.{Stream, Entry}
use Rattle.wasi_fd.specs.Table.{table_of}
use Rattle.wasm_store.specs.declared.call.HostCall.TheVariants as call
use Rattle.wasi_bodies.specs.declared.checks.DescriptorKinds.TheVariants as takes
use Rattle.wasi_bodies.proofs.checks.NoneAnswers29.{descriptor_never}
use Rattle.wasi_bodies.specs.Checks.{descriptor, no_directories, gathered}
use Rattle.wasi_bodies.specs.files.Rows.{fd_write}
use Rattle.wasi_bodies.specs.Calls.{word, is_entry, row}
use Rattle.wasi_bodies.specs.host.Worlds.{world_of, hearing}
use Rattle.wasi_bodies.specs.internal.Entries.{errno_of}
use Rattle.wasi_calls.specs.internal.Bodies.{state_of}
use Rattle.wasi_bodies.specs.internal.checks.Buffers.{list_of}
use Rattle.wasi_bodies.specs.internal.files.Writing.{written_to}
use Rattle.wasi_bodies.proofs.checks.Chains.{goes_on}
use Rattle.wasi_bodies.proofs.OpenEntries.{at_descriptor, file_of}
use Rattle.wasi_calls.proofs.calls.BufferCalls.{after_buffers, lacks_right, refused_buffers, refused_check, shown_usable}
use Rattle.wasi_calls.proofs.calls.MovingCalls.{serves_roomy}
use Rattle.wasi_calls.proofs.calls.OutputCalls.{err_takes, out_takes, served}
use Rattle.wasi_bodies.proofs.checks.AfterBuffers.{answered_so}
use Rattle.wasi_calls.proofs.bodies.StreamsHeard.{input_unheard, output_unheard}
use Rattle.wasi_calls.proofs.host.inner.Inner.fd_write.Goals as goal

pub returns-in-Err : goal.returns-in-Err
returns-in-Err g c = λ used.
    let m = c.args.memory.now in
    let q = c.new-request.result in
    let asked = c.new-request.ensures in
    refused_check g.D.Device.honest g.D.Device.disk g.D.Device.size g.D.Device.failures g.D.Device.goes_on g.R.Read.remaining g.W1.Write.contents g.W2.Write.contents (hearing g.R.Inlet.gave g.R.Inlet.refused g.W1.Outlet.took g.W1.Outlet.refused g.W2.Outlet.took g.W2.Outlet.refused)
    call.FdWrite used c.args.arguments.now c.args.self.now c.requires.set_up m q (λ w. descriptor w q.fd no_directories (2 ^ 6)) (λ w d bs. written_to w q.fd d (gathered m bs) q.result_at)
    (λ w i. fd_write w m (sym asked.fd i) (sym asked.iovs i) (sym asked.count i) (sym asked.result_at i))
    _ (descriptor_never q.fd takes.NoDirectories (2 ^ 6)) c.in-Err.ensures

pub returns-in-Err-find_buffers : goal.returns-in-Err-find_buffers
returns-in-Err-find_buffers g c = λ used.
    let m = c.args.memory.now in
    let q = c.new-request.result in
    let asked = c.new-request.ensures in
    refused_buffers g.D.Device.honest g.D.Device.disk g.D.Device.size g.D.Device.failures g.D.Device.goes_on g.R.Read.remaining g.W1.Write.contents g.W2.Write.contents (hearing g.R.Inlet.gave g.R.Inlet.refused g.W1.Outlet.took g.W1.Outlet.refused g.W2.Outlet.took g.W2.Outlet.refused)
    call.FdWrite used c.args.arguments.now c.args.self.now c.requires.set_up m q (λ w. descriptor w q.fd no_directories (2 ^ 6)) (λ w d bs. written_to w q.fd d (gathered m bs) q.result_at)
    (λ w i. fd_write w m (sym asked.fd i) (sym asked.iovs i) (sym asked.count i) (sym asked.result_at i))
    c.in-Ok.target c.in-Ok.ensures c.find_buffers.new.room _ c.find_buffers.ensures.place c.in-Err-find_buffers.ensures.found

pub write_stream-requires-clause-usable : goal.write_stream-requires-clause-usable
write_stream-requires-clause-usable g c =
    shown_usable _ _ _ _ c.as_slice-buffers.ensures.value c.in_default.ensures.usable

pub write_stream-requires-in-Stream-Error-clause-usable : goal.write_stream-requires-in-Stream-Error-clause-usable
write_stream-requires-in-Stream-Error-clause-usable g c =
    shown_usable _ _ _ _ c.as_slice-buffers.ensures.value c.in_default.ensures.usable

pub write_file-requires-clause-usable : goal.write_file-requires-clause-usable
write_file-requires-clause-usable g c =
    shown_usable _ _ _ _ c.as_slice-buffers.ensures.value c.in_default.ensures.usable

pub write_file-requires-clause-open : goal.write_file-requires-clause-open
write_file-requires-clause-open g c =
    let is : c.in-Ok.target ≡ Entry c.in-Entry.opened = c.in-Entry.is in
    at_descriptor (table_of c.args.self.now.descriptors) c.new-request.result.fd no_directories (2 ^ 6) c.in-Ok.target c.in-Ok.ensures ∙ ap Some is

pub write_file-requires-clause-file : goal.write_file-requires-clause-file
write_file-requires-clause-file g c =
    let s = c.args.self.now in
    file_of g.D.Device.honest s.volume (table_of s.descriptors) c.requires.known c.new-request.result.fd no_directories 31 (2 ^ 6) c.in-Entry.opened refl
    (λ w table. goes_on _ _ (Entry c.in-Entry.opened) (c.in-Ok.ensures w table ∙ ap Ok c.in-Entry.is))

pub returns-in-Stream-Input : goal.returns-in-Stream-Input
returns-in-Stream-Input g c = λ used.
    let one : c.in-Stream-Input.field-0 ≡ Input = rw c.in-Stream-Input.is at c.in-Stream-Input.field-0-is in
    lacks_right (table_of c.args.self.now.descriptors) c.new-request.result.fd no_directories (2 ^ 6) c.in-Ok.target (Stream Input) c.in-Ok.ensures (c.in-Stream-Input.is ∙ ap Stream one) refl

pub returns-in-Stream-Output : goal.returns-in-Stream-Output
returns-in-Stream-Output g c = λ used.
    let s = c.args.self.now in
    let m = c.args.memory.now in
    let q = c.new-request.result in
    let asked = c.new-request.ensures in
    let told = c.write_stream.ensures in
    let one : c.in-Stream-Output.field-0 ≡ Output = rw c.in-Stream-Output.is at c.in-Stream-Output.field-0-is in
    let is : c.in-Ok.target ≡ Stream Output = c.in-Stream-Output.is ∙ ap Stream one in
    let bs = list_of c.as_slice-buffers.result.now in
    let ear = hearing g.R.Inlet.gave g.R.Inlet.refused g.W1.Outlet.took g.W1.Outlet.refused g.W2.Outlet.took g.W2.Outlet.refused in
    let same = after_buffers g.D.Device.honest g.D.Device.disk g.D.Device.size g.D.Device.failures g.D.Device.goes_on g.R.Read.remaining g.W1.Write.contents g.W2.Write.contents ear
    call.FdWrite used c.args.arguments.now s c.requires.set_up m q (λ w. descriptor w q.fd no_directories (2 ^ 6)) (λ w d bs. written_to w q.fd d (gathered m bs) q.result_at)
    (λ w i. fd_write w m (sym asked.fd i) (sym asked.iovs i) (sym asked.count i) (sym asked.result_at i))
    (Stream Output) (λ w table. c.in-Ok.ensures w table ∙ ap Ok is) c.find_buffers.new.room.items _ c.as_slice-buffers.ensures.value c.in_default.ensures.found in
    let new = record s { out = c.write_stream.new.output; buffers = c.find_buffers.new.room } in
    served g.D.Device.honest g.D.Device.disk g.D.Device.size g.D.Device.failures g.D.Device.goes_on g.R.Read.remaining g.W1.Write.contents g.W2.Write.contents ear g.W1.Write.contents
    call.FdWrite used c.args.arguments.now s new m c.write_stream.new.memory q.fd (gathered m bs) q.result_at c.requires.set_up c.find_buffers.ensures.place c.requires.set_up.piece refl
    Output s.out c.write_stream.new.output (out_takes g.R.Read.remaining g.W1.Write.contents g.W2.Write.contents (state_of s) c.write_stream.new.output) same (λ is. inr (inl is))
    (record { input = input_unheard ear.input s.input; out = (λ failed. (told.idle failed).0, told.heard); err = output_unheard ear.err s.err })
    c.write_stream.result (λ failed. (told.idle failed).0) told.took told.broke told.answer

pub returns-in-Stream-Error : goal.returns-in-Stream-Error
returns-in-Stream-Error g c = λ used.
    let s = c.args.self.now in
    let m = c.args.memory.now in
    let q = c.new-request.result in
    let asked = c.new-request.ensures in
    let told = c.write_stream-in-Stream-Error.ensures in
    let one : c.in-Stream-Error.field-0 ≡ Error = rw c.in-Stream-Error.is at c.in-Stream-Error.field-0-is in
    let is : c.in-Ok.target ≡ Stream Error = c.in-Stream-Error.is ∙ ap Stream one in
    let bs = list_of c.as_slice-buffers.result.now in
    let ear = hearing g.R.Inlet.gave g.R.Inlet.refused g.W1.Outlet.took g.W1.Outlet.refused g.W2.Outlet.took g.W2.Outlet.refused in
    let same = after_buffers g.D.Device.honest g.D.Device.disk g.D.Device.size g.D.Device.failures g.D.Device.goes_on g.R.Read.remaining g.W1.Write.contents g.W2.Write.contents ear
    call.FdWrite used c.args.arguments.now s c.requires.set_up m q (λ w. descriptor w q.fd no_directories (2 ^ 6)) (λ w d bs. written_to w q.fd d (gathered m bs) q.result_at)
    (λ w i. fd_write w m (sym asked.fd i) (sym asked.iovs i) (sym asked.count i) (sym asked.result_at i))
    (Stream Error) (λ w table. c.in-Ok.ensures w table ∙ ap Ok is) c.find_buffers.new.room.items _ c.as_slice-buffers.ensures.value c.in_default.ensures.found in
    let new = record s { err = c.write_stream-in-Stream-Error.new.output; buffers = c.find_buffers.new.room } in
    served g.D.Device.honest g.D.Device.disk g.D.Device.size g.D.Device.failures g.D.Device.goes_on g.R.Read.remaining g.W1.Write.contents g.W2.Write.contents ear g.W2.Write.contents
    call.FdWrite used c.args.arguments.now s new m c.write_stream-in-Stream-Error.new.memory q.fd (gathered m bs) q.result_at c.requires.set_up c.find_buffers.ensures.place c.requires.set_up.piece refl
    Error s.err c.write_stream-in-Stream-Error.new.output (err_takes g.R.Read.remaining g.W1.Write.contents g.W2.Write.contents (state_of s) c.write_stream-in-Stream-Error.new.output) same (λ is. inr (inr is))
    (record { input = input_unheard ear.input s.input; out = output_unheard ear.out s.out; err = (λ failed. (told.idle failed).0, told.heard) })
    c.write_stream-in-Stream-Error.result (λ failed. (told.idle failed).0) told.took told.broke told.answer

pub returns-in-Entry : goal.returns-in-Entry
returns-in-Entry g c = λ used.
    let s = c.args.self.now in
    let m = c.args.memory.now in
    let a = c.args.arguments.now in
    let q = c.new-request.result in
    let asked = c.new-request.ensures in
    let o = c.in-Entry.opened in
    let is : c.in-Ok.target ≡ Entry o = c.in-Entry.is in
    let open_there : table_of s.descriptors (word a 0) ≡ Some (Entry o) =
    ap (table_of s.descriptors) (sym asked.fd) ∙ (at_descriptor (table_of s.descriptors) q.fd no_directories (2 ^ 6) c.in-Ok.target c.in-Ok.ensures ∙ ap Some is) in
    let reaches : IsTrue (is_entry (table_of s.descriptors (word a 0))) = subst (λ (d : Option Descriptor). IsTrue (is_entry d)) (sym open_there) refl in
    let bs = list_of c.as_slice-buffers.result.now in
    let same = after_buffers g.D.Device.honest g.D.Device.disk g.D.Device.size g.D.Device.failures g.D.Device.goes_on g.R.Read.remaining g.W1.Write.contents g.W2.Write.contents (hearing g.R.Inlet.gave g.R.Inlet.refused g.W1.Outlet.took g.W1.Outlet.refused g.W2.Outlet.took g.W2.Outlet.refused)
    call.FdWrite used a s c.requires.set_up m q (λ w. descriptor w q.fd no_directories (2 ^ 6)) (λ w d bs. written_to w q.fd d (gathered m bs) q.result_at)
    (λ w i. fd_write w m (sym asked.fd i) (sym asked.iovs i) (sym asked.count i) (sym asked.result_at i))
    (Entry o) (λ w table. c.in-Ok.ensures w table ∙ ap Ok is) c.find_buffers.new.room.items _ c.as_slice-buffers.ensures.value c.in_default.ensures.found in
    let new = record s {
      volume = c.write_file.new.volume;
      descriptors = c.write_file.new.descriptors;
      buffers = c.find_buffers.new.room;
    } in
    serves_roomy g.D.Device.honest g.D.Device.disk g.D.Device.size g.D.Device.failures g.D.Device.goes_on g.R.Read.remaining g.W1.Write.contents g.W2.Write.contents (hearing g.R.Inlet.gave g.R.Inlet.refused g.W1.Outlet.took g.W1.Outlet.refused g.W2.Outlet.took g.W2.Outlet.refused)
    call.FdWrite used a s new m c.write_file.new.memory (errno_of c.write_file.result) (λ is. inl (c.write_file.ensures.io is)) c.requires.set_up c.find_buffers.ensures.place c.requires.set_up.piece refl
    c.write_file.ensures.step c.write_file.ensures.entries
    (λ h b.
    let w = world_of (state_of s) b in
    answered_so (λ v. row call.FdWrite v m used a) (λ v. written_to v q.fd (Entry o) (gathered m bs) q.result_at) w (λ v table tree. same v table) m _ _ _ (c.write_file.ensures.answered (h reaches) w refl refl))

pub write_file-requires-clause-few : goal.write_file-requires-clause-few
write_file-requires-clause-few g c = omega (arith, c.as_slice-buffers.ensures.len, c.in_default.ensures.few)

pub write_stream-requires-in-Stream-Error-clause-few : goal.write_stream-requires-in-Stream-Error-clause-few
write_stream-requires-in-Stream-Error-clause-few g c = omega (arith, c.as_slice-buffers.ensures.len, c.in_default.ensures.few)

pub write_stream-requires-clause-few : goal.write_stream-requires-clause-few
write_stream-requires-clause-few g c = omega (arith, c.as_slice-buffers.ensures.len, c.in_default.ensures.few)
