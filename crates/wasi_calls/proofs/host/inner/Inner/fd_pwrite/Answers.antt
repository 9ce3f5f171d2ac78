use Rattle.std.proofs.Common.{◌+◌, ◌^◌, refl, sym, arith}
use Rattle.wasi_fd.specs.Table.{table_of}
use Rattle.wasm_store.specs.declared.call.HostCall.TheVariants as call
use Rattle.wasi_bodies.specs.declared.checks.DescriptorKinds.TheVariants as takes
use Rattle.wasi_bodies.proofs.checks.NoneAnswers29.{entry_never}
use Rattle.wasi_bodies.specs.Checks.{entry_at, only_files, gathered}
use Rattle.wasi_bodies.specs.files.Rows.{fd_pwrite}
use Rattle.wasi_bodies.specs.Calls.{row}
use Rattle.wasi_bodies.specs.host.Worlds.{world_of, hearing}
use Rattle.wasi_bodies.specs.internal.Entries.{errno_of}
use Rattle.wasi_calls.specs.internal.Bodies.{state_of}
use Rattle.wasi_bodies.specs.internal.checks.Buffers.{list_of}
use Rattle.wasi_bodies.specs.internal.files.Writing.{written_at_offset}
use Rattle.wasi_bodies.proofs.OpenEntries.{file_of}
use Rattle.wasi_bodies.proofs.bodies.Resting.{no_more}
use Rattle.wasi_calls.proofs.calls.BufferCalls.{after_buffers, refused_buffers, refused_check, shown_usable}
use Rattle.wasi_calls.proofs.calls.MovingCalls.{serves_roomy}
use Rattle.wasi_bodies.proofs.checks.AfterBuffers.{answered_so}
use Rattle.wasi_calls.proofs.host.inner.Inner.fd_pwrite.Goals as goal

pub returns-in-Err : goal.returns-in-Err
returns-in-Err g c = λ used.
    let m = c.args.memory.now in
    let q = c.new-request.result in
    let asked = c.new-request.ensures in
    refused_check g.D.Device.honest g.D.Device.disk g.D.Device.size g.D.Device.failures g.D.Device.goes_on g.R.Read.remaining g.W1.Write.contents g.W2.Write.contents (hearing g.R.Inlet.gave g.R.Inlet.refused g.W1.Outlet.took g.W1.Outlet.refused g.W2.Outlet.took g.W2.Outlet.refused)
    call.FdPwrite used c.args.arguments.now c.args.self.now c.requires.set_up m q (λ w. entry_at w q.fd only_files (2 ^ 6 + 2 ^ 2)) (λ w o bs. written_at_offset w o c.long-offset.result (gathered m bs) q.result_at)
    (λ w i. fd_pwrite w m (sym asked.fd i) (sym asked.iovs i) (sym asked.count i) (sym c.long-offset.ensures i) (sym asked.result_at i))
    _ (entry_never q.fd takes.Files (2 ^ 6 + 2 ^ 2)) c.in-Err.ensures

pub returns-in-Err-find_buffers : goal.returns-in-Err-find_buffers
returns-in-Err-find_buffers g c = λ used.
    let m = c.args.memory.now in
    let q = c.new-request.result in
    let asked = c.new-request.ensures in
    refused_buffers g.D.Device.honest g.D.Device.disk g.D.Device.size g.D.Device.failures g.D.Device.goes_on g.R.Read.remaining g.W1.Write.contents g.W2.Write.contents (hearing g.R.Inlet.gave g.R.Inlet.refused g.W1.Outlet.took g.W1.Outlet.refused g.W2.Outlet.took g.W2.Outlet.refused)
    call.FdPwrite used c.args.arguments.now c.args.self.now c.requires.set_up m q (λ w. entry_at w q.fd only_files (2 ^ 6 + 2 ^ 2)) (λ w o bs. written_at_offset w o c.long-offset.result (gathered m bs) q.result_at)
    (λ w i. fd_pwrite w m (sym asked.fd i) (sym asked.iovs i) (sym asked.count i) (sym c.long-offset.ensures i) (sym asked.result_at i))
    c.in-Ok.opened c.in-Ok.ensures c.find_buffers.new.room _ c.find_buffers.ensures.place c.in-Err-find_buffers.ensures.found

pub write_at-requires-clause-file : goal.write_at-requires-clause-file
write_at-requires-clause-file g c =
    let s = c.args.self.now in
    file_of g.D.Device.honest s.volume (table_of s.descriptors) c.requires.known c.new-request.result.fd only_files 31 (2 ^ 6 + 2 ^ 2) c.in-Ok.opened refl c.in-Ok.ensures

pub write_at-requires-clause-usable : goal.write_at-requires-clause-usable
write_at-requires-clause-usable g c =
    shown_usable _ _ _ _ c.as_slice-buffers.ensures.value c.in_default.ensures.usable

pub returns : goal.returns
returns g c = λ used.
    let s = c.args.self.now in
    let m = c.args.memory.now in
    let a = c.args.arguments.now in
    let q = c.new-request.result in
    let asked = c.new-request.ensures in
    let o = c.in-Ok.opened in
    let offset = c.long-offset.result in
    let bs = list_of c.as_slice-buffers.result.now in
    let same = after_buffers g.D.Device.honest g.D.Device.disk g.D.Device.size g.D.Device.failures g.D.Device.goes_on g.R.Read.remaining g.W1.Write.contents g.W2.Write.contents (hearing g.R.Inlet.gave g.R.Inlet.refused g.W1.Outlet.took g.W1.Outlet.refused g.W2.Outlet.took g.W2.Outlet.refused)
    call.FdPwrite used a s c.requires.set_up m q (λ w. entry_at w q.fd only_files (2 ^ 6 + 2 ^ 2)) (λ w o bs. written_at_offset w o offset (gathered m bs) q.result_at)
    (λ w i. fd_pwrite w m (sym asked.fd i) (sym asked.iovs i) (sym asked.count i) (sym c.long-offset.ensures i) (sym asked.result_at i))
    o c.in-Ok.ensures c.find_buffers.new.room.items _ c.as_slice-buffers.ensures.value c.in_default.ensures.found in
    let new = record s { volume = c.write_at.new.volume; buffers = c.find_buffers.new.room } in
    serves_roomy g.D.Device.honest g.D.Device.disk g.D.Device.size g.D.Device.failures g.D.Device.goes_on g.R.Read.remaining g.W1.Write.contents g.W2.Write.contents (hearing g.R.Inlet.gave g.R.Inlet.refused g.W1.Outlet.took g.W1.Outlet.refused g.W2.Outlet.took g.W2.Outlet.refused)
    call.FdPwrite used a s new m c.write_at.new.memory (errno_of c.write_at.result) c.write_at.ensures.io c.requires.set_up c.find_buffers.ensures.place c.requires.set_up.piece refl
    c.write_at.ensures.step (no_more (table_of s.descriptors))
    (λ h b.
    let w = world_of (state_of s) b in
    answered_so (λ v. row call.FdPwrite v m used a) (λ v. written_at_offset v o offset (gathered m bs) q.result_at) w (λ v table tree. same v table) m _ _ _ (c.write_at.ensures.answered (h refl) w refl))

pub write_at-requires-clause-few : goal.write_at-requires-clause-few
write_at-requires-clause-few g c = omega (arith, c.as_slice-buffers.ensures.len, c.in_default.ensures.few)
