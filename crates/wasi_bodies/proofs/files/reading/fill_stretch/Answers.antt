use Rattle.vol_tree.specs.Calls.{bytes_at}
use Rattle.wasi_bodies.specs.internal.checks.Buffers.{list_of}
use Rattle.wasi_bodies.proofs.bodies.AskingCalls.{still_works, works_as}
use Rattle.wasi_bodies.proofs.files.FilledBuffers.{filled_stretch, begun_stretch, stretch_inside}
use Rattle.wasi_bodies.proofs.files.reading.fill_stretch.Goals as goal

pub returns-in-Covered-clause-asked : goal.returns-in-Covered-clause-asked
returns-in-Covered-clause-asked g c =
    works_as g.D.Device.honest g.D.Device.disk g.D.Device.size g.D.Device.failures g.D.Device.goes_on c.args.volume.now c.args.volume.now
    (still_works g.D.Device.honest g.D.Device.disk g.D.Device.size g.D.Device.failures g.D.Device.goes_on c.args.volume.now c.requires.works)

pub returns-in-Ok : goal.returns-in-Ok
returns-in-Ok g c = record {
  long = c.in-Ok.ensures.long;
  within = (c.in-Free.ensures.some, c.in-Free.ensures.within);
  filled = λ h enough.
      let file = bytes_at c.args.volume.now.tree c.args.serial in
      let later = list_of c.args.later.now in
      let there = stretch_inside file c.args.from c.args.place c.in-Free.until c.args.end later c.in-Free.ensures enough in
      filled_stretch file c.args.memory.now c.read_part.new.memory c.args.from c.args.place c.in-Free.until c.args.end later c.in-Free.ensures c.requires.inside enough
      (c.in-Ok.ensures.read h there);
  broke = λ h enough. tt;
  asked = c.in-Ok.ensures.asked;
}

pub returns-in-Err : goal.returns-in-Err
returns-in-Err g c = record {
  long = c.in-Err.ensures.long;
  within = tt;
  filled = λ h enough. tt;
  broke = λ h enough.
      let file = bytes_at c.args.volume.now.tree c.args.serial in
      let later = list_of c.args.later.now in
      let there = stretch_inside file c.args.from c.args.place c.in-Free.until c.args.end later c.in-Free.ensures enough in
      let both = c.in-Err.ensures.broke h there in
      (both.0, begun_stretch file c.args.memory.now c.read_part.new.memory c.args.from c.args.place c.in-Free.until c.args.end later c.in-Free.ensures c.requires.inside enough both.1);
  asked = c.in-Err.ensures.asked;
}
