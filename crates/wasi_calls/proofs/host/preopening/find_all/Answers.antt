use Rattle.std.proofs.Common.{get_or, Err, subst, arith}
use Rattle.std.proofs.lemmas.Option.{slice_get-get_or}
use Rattle.vol_tree.specs.Tree.{Tree}
use Rattle.wasi_calls.specs.internal.host.Preopening.{FindsAll}
use Rattle.wasi_calls.proofs.host.Preopens.{no_preopen, refused_one, so_far_more, reads_then}
use Rattle.wasi_bodies.proofs.bodies.AskingCalls.{works_as, still_works}
use Rattle.wasi_calls.proofs.host.preopening.find_all.Goals as goal

pub returns-in-Err : goal.returns-in-Err
returns-in-Err g c = record {
  reads = reads_then g.D.Device.honest g.D.Device.disk g.D.Device.size g.D.Device.failures g.D.Device.goes_on c.args.volume.now c.loop-i.volume c.directory_named.new.volume _ c.loop-i.invariant.reads c.in-Err.ensures.reads;
  found = λ h.
      let ps = c.args.preopens.now in
      let i = c.loop-i.i in
      let before = c.loop-i.invariant.reads in
      subst (λ (T : Tree). FindsAll T ps c.loop-i.serials (Err c.in-Err.fault)) (before.tree h)
      (refused_one c.loop-i.volume.tree ps c.loop-i.serials i (get_or ps i no_preopen) c.in-Err.fault (slice_get-get_or ps i no_preopen c.loop-i-test.true) (c.in-Err.ensures.found (before.kept.honest.0 h)));
  numbers = tt;
  faults = c.in-Err.ensures.faults;
}

pub loop-i-preserved : goal.loop-i-preserved
loop-i-preserved g c =
    let ps = c.args.preopens.now in
    let i = c.loop-i.i in
    so_far_more g.D.Device.honest g.D.Device.disk g.D.Device.size g.D.Device.failures g.D.Device.goes_on c.args.volume.now c.loop-i.volume c.directory_named.new.volume ps c.loop-i.serials i c.in-Ok.serial
    (get_or ps i no_preopen) (omega arith) (slice_get-get_or ps i no_preopen c.loop-i-test.true) c.loop-i.invariant c.in-Ok.ensures.reads c.in-Ok.ensures.found c.in-Ok.ensures.number

pub loop-i-init : goal.loop-i-init
loop-i-init g c = record {
  reads = works_as g.D.Device.honest g.D.Device.disk g.D.Device.size g.D.Device.failures g.D.Device.goes_on c.args.volume.now c.args.volume.now (still_works g.D.Device.honest g.D.Device.disk g.D.Device.size g.D.Device.failures g.D.Device.goes_on c.args.volume.now c.requires.working);
  found = λ h k p below. absurd (omega arith);
  numbers = λ k below. absurd (omega arith);
}
