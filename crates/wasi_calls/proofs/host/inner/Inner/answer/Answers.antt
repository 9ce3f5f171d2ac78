use Rattle.std.proofs.Common.{◌≡◌, false, IsTrue, ap, sym, ◌∙◌, inl, inr}
use Rattle.std.proofs.lemmas.Bool.{false≢true}
use Rattle.wasm_store.specs.declared.call.HostCall.{HostCall}
use Rattle.wasm_store.specs.declared.call.HostCall.TheVariants as call
use Rattle.wasi_bodies.specs.laws.Moments.{is_sync}
use Rattle.wasi_calls.proofs.calls.PlainCalls.{serves_as}
use Rattle.wasi_bodies.specs.host.Worlds.{hearing}
use Rattle.wasi_calls.proofs.host.inner.Inner.answer.Goals as goal

-- nothing is said of the disk after a call that is no sync
no_sync : {X : Type 0} (call : HostCall) → is_sync call ≡ false → IsTrue (is_sync call) → X
no_sync call other sync = absurd (false≢true (sym other ∙ sync))

pub returns-in-ArgsSizesGet : goal.returns-in-ArgsSizesGet
returns-in-ArgsSizesGet g c = record {
  serves = serves_as g.D.Device.honest g.D.Device.disk g.D.Device.size g.D.Device.failures g.D.Device.goes_on g.R.Read.remaining g.W1.Write.contents g.W2.Write.contents (hearing g.R.Inlet.gave g.R.Inlet.refused g.W1.Outlet.took g.W1.Outlet.refused g.W2.Outlet.took g.W2.Outlet.refused)
      c.args.memory.now c.args.used c.args.arguments.now c.args.call call.ArgsSizesGet c.in-ArgsSizesGet.is _ _ _ _ (c.args_sizes_get.ensures c.args.used);
  synced = λ h. no_sync c.args.call (ap is_sync c.in-ArgsSizesGet.is);
}

pub returns-in-ArgsGet : goal.returns-in-ArgsGet
returns-in-ArgsGet g c = record {
  serves = serves_as g.D.Device.honest g.D.Device.disk g.D.Device.size g.D.Device.failures g.D.Device.goes_on g.R.Read.remaining g.W1.Write.contents g.W2.Write.contents (hearing g.R.Inlet.gave g.R.Inlet.refused g.W1.Outlet.took g.W1.Outlet.refused g.W2.Outlet.took g.W2.Outlet.refused)
      c.args.memory.now c.args.used c.args.arguments.now c.args.call call.ArgsGet c.in-ArgsGet.is _ _ _ _ (c.args_get.ensures c.args.used);
  synced = λ h. no_sync c.args.call (ap is_sync c.in-ArgsGet.is);
}

pub returns-in-EnvironSizesGet : goal.returns-in-EnvironSizesGet
returns-in-EnvironSizesGet g c = record {
  serves = serves_as g.D.Device.honest g.D.Device.disk g.D.Device.size g.D.Device.failures g.D.Device.goes_on g.R.Read.remaining g.W1.Write.contents g.W2.Write.contents (hearing g.R.Inlet.gave g.R.Inlet.refused g.W1.Outlet.took g.W1.Outlet.refused g.W2.Outlet.took g.W2.Outlet.refused)
      c.args.memory.now c.args.used c.args.arguments.now c.args.call call.EnvironSizesGet c.in-EnvironSizesGet.is _ _ _ _ (c.environ_sizes_get.ensures c.args.used);
  synced = λ h. no_sync c.args.call (ap is_sync c.in-EnvironSizesGet.is);
}

pub returns-in-EnvironGet : goal.returns-in-EnvironGet
returns-in-EnvironGet g c = record {
  serves = serves_as g.D.Device.honest g.D.Device.disk g.D.Device.size g.D.Device.failures g.D.Device.goes_on g.R.Read.remaining g.W1.Write.contents g.W2.Write.contents (hearing g.R.Inlet.gave g.R.Inlet.refused g.W1.Outlet.took g.W1.Outlet.refused g.W2.Outlet.took g.W2.Outlet.refused)
      c.args.memory.now c.args.used c.args.arguments.now c.args.call call.EnvironGet c.in-EnvironGet.is _ _ _ _ (c.environ_get.ensures c.args.used);
  synced = λ h. no_sync c.args.call (ap is_sync c.in-EnvironGet.is);
}

pub returns-in-ClockResGet : goal.returns-in-ClockResGet
returns-in-ClockResGet g c = record {
  serves = serves_as g.D.Device.honest g.D.Device.disk g.D.Device.size g.D.Device.failures g.D.Device.goes_on g.R.Read.remaining g.W1.Write.contents g.W2.Write.contents (hearing g.R.Inlet.gave g.R.Inlet.refused g.W1.Outlet.took g.W1.Outlet.refused g.W2.Outlet.took g.W2.Outlet.refused)
      c.args.memory.now c.args.used c.args.arguments.now c.args.call call.ClockResGet c.in-ClockResGet.is _ _ _ _ (c.clock_res_get.ensures c.args.used);
  synced = λ h. no_sync c.args.call (ap is_sync c.in-ClockResGet.is);
}

pub returns-in-ClockTimeGet : goal.returns-in-ClockTimeGet
returns-in-ClockTimeGet g c = record {
  serves = serves_as g.D.Device.honest g.D.Device.disk g.D.Device.size g.D.Device.failures g.D.Device.goes_on g.R.Read.remaining g.W1.Write.contents g.W2.Write.contents (hearing g.R.Inlet.gave g.R.Inlet.refused g.W1.Outlet.took g.W1.Outlet.refused g.W2.Outlet.took g.W2.Outlet.refused)
      c.args.memory.now c.args.used c.args.arguments.now c.args.call call.ClockTimeGet c.in-ClockTimeGet.is _ _ _ _ (c.clock_time_get.ensures);
  synced = λ h. no_sync c.args.call (ap is_sync c.in-ClockTimeGet.is);
}

pub returns-in-RandomGet : goal.returns-in-RandomGet
returns-in-RandomGet g c = record {
  serves = serves_as g.D.Device.honest g.D.Device.disk g.D.Device.size g.D.Device.failures g.D.Device.goes_on g.R.Read.remaining g.W1.Write.contents g.W2.Write.contents (hearing g.R.Inlet.gave g.R.Inlet.refused g.W1.Outlet.took g.W1.Outlet.refused g.W2.Outlet.took g.W2.Outlet.refused)
      c.args.memory.now c.args.used c.args.arguments.now c.args.call call.RandomGet c.in-RandomGet.is _ _ _ _ (c.random_get.ensures c.args.used);
  synced = λ h. no_sync c.args.call (ap is_sync c.in-RandomGet.is);
}

pub returns-in-FdClose : goal.returns-in-FdClose
returns-in-FdClose g c = record {
  serves = serves_as g.D.Device.honest g.D.Device.disk g.D.Device.size g.D.Device.failures g.D.Device.goes_on g.R.Read.remaining g.W1.Write.contents g.W2.Write.contents (hearing g.R.Inlet.gave g.R.Inlet.refused g.W1.Outlet.took g.W1.Outlet.refused g.W2.Outlet.took g.W2.Outlet.refused)
      c.args.memory.now c.args.used c.args.arguments.now c.args.call call.FdClose c.in-FdClose.is _ _ _ _ (c.fd_close.ensures c.args.memory.now c.args.used);
  synced = λ h. no_sync c.args.call (ap is_sync c.in-FdClose.is);
}

pub returns-in-FdFdstatGet : goal.returns-in-FdFdstatGet
returns-in-FdFdstatGet g c = record {
  serves = serves_as g.D.Device.honest g.D.Device.disk g.D.Device.size g.D.Device.failures g.D.Device.goes_on g.R.Read.remaining g.W1.Write.contents g.W2.Write.contents (hearing g.R.Inlet.gave g.R.Inlet.refused g.W1.Outlet.took g.W1.Outlet.refused g.W2.Outlet.took g.W2.Outlet.refused)
      c.args.memory.now c.args.used c.args.arguments.now c.args.call call.FdFdstatGet c.in-FdFdstatGet.is _ _ _ _ (c.fd_fdstat_get.ensures c.args.used);
  synced = λ h. no_sync c.args.call (ap is_sync c.in-FdFdstatGet.is);
}

pub returns-in-FdFilestatGet : goal.returns-in-FdFilestatGet
returns-in-FdFilestatGet g c = record {
  serves = serves_as g.D.Device.honest g.D.Device.disk g.D.Device.size g.D.Device.failures g.D.Device.goes_on g.R.Read.remaining g.W1.Write.contents g.W2.Write.contents (hearing g.R.Inlet.gave g.R.Inlet.refused g.W1.Outlet.took g.W1.Outlet.refused g.W2.Outlet.took g.W2.Outlet.refused)
      c.args.memory.now c.args.used c.args.arguments.now c.args.call call.FdFilestatGet c.in-FdFilestatGet.is _ _ _ _ (c.fd_filestat_get.ensures c.args.used);
  synced = λ h. no_sync c.args.call (ap is_sync c.in-FdFilestatGet.is);
}

pub returns-in-FdFilestatSetSize : goal.returns-in-FdFilestatSetSize
returns-in-FdFilestatSetSize g c = record {
  serves = serves_as g.D.Device.honest g.D.Device.disk g.D.Device.size g.D.Device.failures g.D.Device.goes_on g.R.Read.remaining g.W1.Write.contents g.W2.Write.contents (hearing g.R.Inlet.gave g.R.Inlet.refused g.W1.Outlet.took g.W1.Outlet.refused g.W2.Outlet.took g.W2.Outlet.refused)
      c.args.memory.now c.args.used c.args.arguments.now c.args.call call.FdFilestatSetSize c.in-FdFilestatSetSize.is _ _ _ _ (c.fd_filestat_set_size.ensures c.args.memory.now c.args.used);
  synced = λ h. no_sync c.args.call (ap is_sync c.in-FdFilestatSetSize.is);
}

pub returns-in-FdPrestatGet : goal.returns-in-FdPrestatGet
returns-in-FdPrestatGet g c = record {
  serves = serves_as g.D.Device.honest g.D.Device.disk g.D.Device.size g.D.Device.failures g.D.Device.goes_on g.R.Read.remaining g.W1.Write.contents g.W2.Write.contents (hearing g.R.Inlet.gave g.R.Inlet.refused g.W1.Outlet.took g.W1.Outlet.refused g.W2.Outlet.took g.W2.Outlet.refused)
      c.args.memory.now c.args.used c.args.arguments.now c.args.call call.FdPrestatGet c.in-FdPrestatGet.is _ _ _ _ (c.fd_prestat_get.ensures c.args.used);
  synced = λ h. no_sync c.args.call (ap is_sync c.in-FdPrestatGet.is);
}

pub returns-in-FdPrestatDirName : goal.returns-in-FdPrestatDirName
returns-in-FdPrestatDirName g c = record {
  serves = serves_as g.D.Device.honest g.D.Device.disk g.D.Device.size g.D.Device.failures g.D.Device.goes_on g.R.Read.remaining g.W1.Write.contents g.W2.Write.contents (hearing g.R.Inlet.gave g.R.Inlet.refused g.W1.Outlet.took g.W1.Outlet.refused g.W2.Outlet.took g.W2.Outlet.refused)
      c.args.memory.now c.args.used c.args.arguments.now c.args.call call.FdPrestatDirName c.in-FdPrestatDirName.is _ _ _ _ (c.fd_prestat_dir_name.ensures c.args.used);
  synced = λ h. no_sync c.args.call (ap is_sync c.in-FdPrestatDirName.is);
}

pub returns-in-FdRead : goal.returns-in-FdRead
returns-in-FdRead g c = record {
  serves = serves_as g.D.Device.honest g.D.Device.disk g.D.Device.size g.D.Device.failures g.D.Device.goes_on g.R.Read.remaining g.W1.Write.contents g.W2.Write.contents (hearing g.R.Inlet.gave g.R.Inlet.refused g.W1.Outlet.took g.W1.Outlet.refused g.W2.Outlet.took g.W2.Outlet.refused)
      c.args.memory.now c.args.used c.args.arguments.now c.args.call call.FdRead c.in-FdRead.is _ _ _ _ (c.fd_read.ensures c.args.used);
  synced = λ h. no_sync c.args.call (ap is_sync c.in-FdRead.is);
}

pub returns-in-FdPread : goal.returns-in-FdPread
returns-in-FdPread g c = record {
  serves = serves_as g.D.Device.honest g.D.Device.disk g.D.Device.size g.D.Device.failures g.D.Device.goes_on g.R.Read.remaining g.W1.Write.contents g.W2.Write.contents (hearing g.R.Inlet.gave g.R.Inlet.refused g.W1.Outlet.took g.W1.Outlet.refused g.W2.Outlet.took g.W2.Outlet.refused)
      c.args.memory.now c.args.used c.args.arguments.now c.args.call call.FdPread c.in-FdPread.is _ _ _ _ (c.fd_pread.ensures c.args.used);
  synced = λ h. no_sync c.args.call (ap is_sync c.in-FdPread.is);
}

pub returns-in-FdWrite : goal.returns-in-FdWrite
returns-in-FdWrite g c = record {
  serves = serves_as g.D.Device.honest g.D.Device.disk g.D.Device.size g.D.Device.failures g.D.Device.goes_on g.R.Read.remaining g.W1.Write.contents g.W2.Write.contents (hearing g.R.Inlet.gave g.R.Inlet.refused g.W1.Outlet.took g.W1.Outlet.refused g.W2.Outlet.took g.W2.Outlet.refused)
      c.args.memory.now c.args.used c.args.arguments.now c.args.call call.FdWrite c.in-FdWrite.is _ _ _ _ (c.fd_write.ensures c.args.used);
  synced = λ h. no_sync c.args.call (ap is_sync c.in-FdWrite.is);
}

pub returns-in-FdPwrite : goal.returns-in-FdPwrite
returns-in-FdPwrite g c = record {
  serves = serves_as g.D.Device.honest g.D.Device.disk g.D.Device.size g.D.Device.failures g.D.Device.goes_on g.R.Read.remaining g.W1.Write.contents g.W2.Write.contents (hearing g.R.Inlet.gave g.R.Inlet.refused g.W1.Outlet.took g.W1.Outlet.refused g.W2.Outlet.took g.W2.Outlet.refused)
      c.args.memory.now c.args.used c.args.arguments.now c.args.call call.FdPwrite c.in-FdPwrite.is _ _ _ _ (c.fd_pwrite.ensures c.args.used);
  synced = λ h. no_sync c.args.call (ap is_sync c.in-FdPwrite.is);
}

pub returns-in-FdSeek : goal.returns-in-FdSeek
returns-in-FdSeek g c = record {
  serves = serves_as g.D.Device.honest g.D.Device.disk g.D.Device.size g.D.Device.failures g.D.Device.goes_on g.R.Read.remaining g.W1.Write.contents g.W2.Write.contents (hearing g.R.Inlet.gave g.R.Inlet.refused g.W1.Outlet.took g.W1.Outlet.refused g.W2.Outlet.took g.W2.Outlet.refused)
      c.args.memory.now c.args.used c.args.arguments.now c.args.call call.FdSeek c.in-FdSeek.is _ _ _ _ (c.fd_seek.ensures c.args.used);
  synced = λ h. no_sync c.args.call (ap is_sync c.in-FdSeek.is);
}

pub returns-in-FdTell : goal.returns-in-FdTell
returns-in-FdTell g c = record {
  serves = serves_as g.D.Device.honest g.D.Device.disk g.D.Device.size g.D.Device.failures g.D.Device.goes_on g.R.Read.remaining g.W1.Write.contents g.W2.Write.contents (hearing g.R.Inlet.gave g.R.Inlet.refused g.W1.Outlet.took g.W1.Outlet.refused g.W2.Outlet.took g.W2.Outlet.refused)
      c.args.memory.now c.args.used c.args.arguments.now c.args.call call.FdTell c.in-FdTell.is _ _ _ _ (c.fd_tell.ensures c.args.used);
  synced = λ h. no_sync c.args.call (ap is_sync c.in-FdTell.is);
}

pub returns-in-FdSync : goal.returns-in-FdSync
returns-in-FdSync g c = record {
  serves = serves_as g.D.Device.honest g.D.Device.disk g.D.Device.size g.D.Device.failures g.D.Device.goes_on g.R.Read.remaining g.W1.Write.contents g.W2.Write.contents (hearing g.R.Inlet.gave g.R.Inlet.refused g.W1.Outlet.took g.W1.Outlet.refused g.W2.Outlet.took g.W2.Outlet.refused)
      c.args.memory.now c.args.used c.args.arguments.now c.args.call call.FdSync c.in-FdSync.is _ _ _ _ (c.fd_sync.ensures.serves c.args.memory.now c.args.used);
  synced = λ is sync zero image may. c.fd_sync.ensures.durable is zero image may;
}

pub returns-in-FdDatasync : goal.returns-in-FdDatasync
returns-in-FdDatasync g c = record {
  serves = serves_as g.D.Device.honest g.D.Device.disk g.D.Device.size g.D.Device.failures g.D.Device.goes_on g.R.Read.remaining g.W1.Write.contents g.W2.Write.contents (hearing g.R.Inlet.gave g.R.Inlet.refused g.W1.Outlet.took g.W1.Outlet.refused g.W2.Outlet.took g.W2.Outlet.refused)
      c.args.memory.now c.args.used c.args.arguments.now c.args.call call.FdDatasync c.in-FdDatasync.is _ _ _ _ (c.fd_datasync.ensures.serves c.args.memory.now c.args.used);
  synced = λ is sync zero image may. c.fd_datasync.ensures.durable is zero image may;
}

pub returns-in-FdReaddir : goal.returns-in-FdReaddir
returns-in-FdReaddir g c = record {
  serves = serves_as g.D.Device.honest g.D.Device.disk g.D.Device.size g.D.Device.failures g.D.Device.goes_on g.R.Read.remaining g.W1.Write.contents g.W2.Write.contents (hearing g.R.Inlet.gave g.R.Inlet.refused g.W1.Outlet.took g.W1.Outlet.refused g.W2.Outlet.took g.W2.Outlet.refused)
      c.args.memory.now c.args.used c.args.arguments.now c.args.call call.FdReaddir c.in-FdReaddir.is _ _ _ _ (c.fd_readdir.ensures c.args.used);
  synced = λ h. no_sync c.args.call (ap is_sync c.in-FdReaddir.is);
}

pub returns-in-PathCreateDirectory : goal.returns-in-PathCreateDirectory
returns-in-PathCreateDirectory g c = record {
  serves = serves_as g.D.Device.honest g.D.Device.disk g.D.Device.size g.D.Device.failures g.D.Device.goes_on g.R.Read.remaining g.W1.Write.contents g.W2.Write.contents (hearing g.R.Inlet.gave g.R.Inlet.refused g.W1.Outlet.took g.W1.Outlet.refused g.W2.Outlet.took g.W2.Outlet.refused)
      c.args.memory.now c.args.used c.args.arguments.now c.args.call call.PathCreateDirectory c.in-PathCreateDirectory.is _ _ _ _ (c.path_create_directory.ensures c.args.used);
  synced = λ h. no_sync c.args.call (ap is_sync c.in-PathCreateDirectory.is);
}

pub returns-in-PathFilestatGet : goal.returns-in-PathFilestatGet
returns-in-PathFilestatGet g c = record {
  serves = serves_as g.D.Device.honest g.D.Device.disk g.D.Device.size g.D.Device.failures g.D.Device.goes_on g.R.Read.remaining g.W1.Write.contents g.W2.Write.contents (hearing g.R.Inlet.gave g.R.Inlet.refused g.W1.Outlet.took g.W1.Outlet.refused g.W2.Outlet.took g.W2.Outlet.refused)
      c.args.memory.now c.args.used c.args.arguments.now c.args.call call.PathFilestatGet c.in-PathFilestatGet.is _ _ _ _ (c.path_filestat_get.ensures c.args.used);
  synced = λ h. no_sync c.args.call (ap is_sync c.in-PathFilestatGet.is);
}

pub returns-in-PathOpen : goal.returns-in-PathOpen
returns-in-PathOpen g c = record {
  serves = serves_as g.D.Device.honest g.D.Device.disk g.D.Device.size g.D.Device.failures g.D.Device.goes_on g.R.Read.remaining g.W1.Write.contents g.W2.Write.contents (hearing g.R.Inlet.gave g.R.Inlet.refused g.W1.Outlet.took g.W1.Outlet.refused g.W2.Outlet.took g.W2.Outlet.refused)
      c.args.memory.now c.args.used c.args.arguments.now c.args.call call.PathOpen c.in-PathOpen.is _ _ _ _ (c.path_open.ensures c.args.used);
  synced = λ h. no_sync c.args.call (ap is_sync c.in-PathOpen.is);
}

pub returns-in-PathRemoveDirectory : goal.returns-in-PathRemoveDirectory
returns-in-PathRemoveDirectory g c = record {
  serves = serves_as g.D.Device.honest g.D.Device.disk g.D.Device.size g.D.Device.failures g.D.Device.goes_on g.R.Read.remaining g.W1.Write.contents g.W2.Write.contents (hearing g.R.Inlet.gave g.R.Inlet.refused g.W1.Outlet.took g.W1.Outlet.refused g.W2.Outlet.took g.W2.Outlet.refused)
      c.args.memory.now c.args.used c.args.arguments.now c.args.call call.PathRemoveDirectory c.in-PathRemoveDirectory.is _ _ _ _ (c.path_remove_directory.ensures c.args.used);
  synced = λ h. no_sync c.args.call (ap is_sync c.in-PathRemoveDirectory.is);
}

pub returns-in-PathRename : goal.returns-in-PathRename
returns-in-PathRename g c = record {
  serves = serves_as g.D.Device.honest g.D.Device.disk g.D.Device.size g.D.Device.failures g.D.Device.goes_on g.R.Read.remaining g.W1.Write.contents g.W2.Write.contents (hearing g.R.Inlet.gave g.R.Inlet.refused g.W1.Outlet.took g.W1.Outlet.refused g.W2.Outlet.took g.W2.Outlet.refused)
      c.args.memory.now c.args.used c.args.arguments.now c.args.call call.PathRename c.in-PathRename.is _ _ _ _ (c.path_rename.ensures c.args.used);
  synced = λ h. no_sync c.args.call (ap is_sync c.in-PathRename.is);
}

pub returns-in-PathUnlinkFile : goal.returns-in-PathUnlinkFile
returns-in-PathUnlinkFile g c = record {
  serves = serves_as g.D.Device.honest g.D.Device.disk g.D.Device.size g.D.Device.failures g.D.Device.goes_on g.R.Read.remaining g.W1.Write.contents g.W2.Write.contents (hearing g.R.Inlet.gave g.R.Inlet.refused g.W1.Outlet.took g.W1.Outlet.refused g.W2.Outlet.took g.W2.Outlet.refused)
      c.args.memory.now c.args.used c.args.arguments.now c.args.call call.PathUnlinkFile c.in-PathUnlinkFile.is _ _ _ _ (c.path_unlink_file.ensures c.args.used);
  synced = λ h. no_sync c.args.call (ap is_sync c.in-PathUnlinkFile.is);
}

pub returns-in-Nosys : goal.returns-in-Nosys
returns-in-Nosys g c = record {
  serves = elim c.in-Nosys.is [
    | inl is ↦ serves_as g.D.Device.honest g.D.Device.disk g.D.Device.size g.D.Device.failures g.D.Device.goes_on g.R.Read.remaining g.W1.Write.contents g.W2.Write.contents (hearing g.R.Inlet.gave g.R.Inlet.refused g.W1.Outlet.took g.W1.Outlet.refused g.W2.Outlet.took g.W2.Outlet.refused)
        c.args.memory.now c.args.used c.args.arguments.now c.args.call call.Nosys is _ _ _ _ (c.nosys.ensures c.args.memory.now c.args.used c.args.arguments.now)
    | inr is ↦ serves_as g.D.Device.honest g.D.Device.disk g.D.Device.size g.D.Device.failures g.D.Device.goes_on g.R.Read.remaining g.W1.Write.contents g.W2.Write.contents (hearing g.R.Inlet.gave g.R.Inlet.refused g.W1.Outlet.took g.W1.Outlet.refused g.W2.Outlet.took g.W2.Outlet.refused)
        c.args.memory.now c.args.used c.args.arguments.now c.args.call call.ProcExit is _ _ _ _
        (let s = c.nosys.ensures c.args.memory.now c.args.used c.args.arguments.now in
        record { set_up = s.set_up; row = s.row; volume = s.volume; settings = s.settings; io = s.io; heard = s.heard })
  ];
  synced = λ h. elim c.in-Nosys.is [ inl is ↦ no_sync c.args.call (ap is_sync is) | inr is ↦ no_sync c.args.call (ap is_sync is) ];
}
