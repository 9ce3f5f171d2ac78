use Rattle.std.proofs.Common.{length, sym, subst, ◌∙◌, refl, arith}
use Rattle.std.proofs.lemmas.Grind.{common_steps}
use Rattle.vol_tree.specs.Tree.{Tree, IsTree}
use Rattle.wasi_fd.specs.Table.{table_of}
use Rattle.wasi_calls.specs.internal.host.Preopening.{AreFound}
use Rattle.wasi_calls.proofs.host.Preopens.{has_preopens, knows_preopens, streams_known}
use Rattle.wasi_bodies.proofs.bodies.AskingCalls.{asked_failed}
use Rattle.wasi_calls.proofs.host.preopening.open_directories.Goals as goal

pub returns-in-Ok : goal.returns-in-Ok
returns-in-Ok g c = record {
  opened = λ h.
      has_preopens c.args.volume.now.tree c.args.preopens.now c.find_all.new.serials (table_of c.open_all.new.descriptors) (c.in-Ok.ensures.found h) c.open_all.ensures;
  refused = tt;
  closed = tt;
  reads = c.in-Ok.ensures.reads;
  known = let ps = c.args.preopens.now in
      let serials = c.find_all.new.serials in
      let reads = c.in-Ok.ensures.reads in
      knows_preopens g.D.Device.honest c.find_all.new.volume ps serials (table_of c.open_all.new.descriptors) c.open_all.ensures c.in-Ok.ensures.numbers
      (λ h'.
      let h = reads.kept.honest.1 h' in
      subst (λ (T : Tree). IsTree T × AreFound T ps serials (length ps)) (sym (reads.tree h)) (c.is_a_tree.ensures.tree h, c.in-Ok.ensures.found h));
}

pub returns-in-Err-clause-known : goal.returns-in-Err-clause-known
returns-in-Err-clause-known g c = streams_known g.D.Device.honest c.find_all.new.volume (table_of c.args.descriptors.now) c.requires.streams

pub returns-then-failed : goal.returns-then-failed
returns-then-failed g c = record {
  opened = λ h. tt;
  refused = sym c.failed.ensures ∙ c.if-failed.true;
  closed = λ n. refl;
  reads = asked_failed g.D.Device.honest g.D.Device.disk g.D.Device.size g.D.Device.failures g.D.Device.goes_on c.args.volume.now (sym c.failed.ensures ∙ c.if-failed.true);
  known = streams_known g.D.Device.honest c.args.volume.now (table_of c.args.descriptors.now) c.requires.streams;
}

pub returns-in-Err-clause-refused : goal.returns-in-Err-clause-refused
returns-in-Err-clause-refused c = grind (arith, common_steps)
