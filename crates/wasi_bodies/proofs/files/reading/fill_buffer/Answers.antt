use Rattle.std.proofs.Common.{◌+◌, ◌-◌, ◌≤◌, length, refl, ◌∙◌, subst, arith, ◌≡◌, ℕ}
use Rattle.wasi_bodies.proofs.bodies.AskingCalls.{works_on, asked_on, still_works, works_as}
use Rattle.wasi_bodies.proofs.files.FilledBuffers.{filled_more, begun_more, filled_none}
use Rattle.vol_tree.specs.declared.errno.Errno.TheVariants as errno
use Rattle.vol_tree.specs.Tree.{Tree}
use Rattle.vol_tree.specs.Calls.{bytes_at}
use Rattle.wasi_bodies.specs.internal.checks.Buffers.{list_of}
use Rattle.wasi_bodies.specs.internal.files.Reading.{BufferFilled, BufferBegun}
use Rattle.wasi_bodies.proofs.files.reading.fill_buffer.Goals as goal

pub loop-place-preserved : goal.loop-place-preserved
loop-place-preserved g c =
    let was = c.loop-place.invariant in
    let start = c.args.buffer.pointer in
    let end = start + c.args.buffer.len in
    let place = c.loop-place.place in
    let at = c.args.from + (place - start) in
    let file = λ (T : Tree). bytes_at T c.args.serial in
    let later = list_of c.args.later.now in
    let m1 = c.loop-place.memory in
    let m2 = c.fill_stretch.new.memory in
    let within = c.in-Ok.ensures.within in
    record {
      low = omega (arith, was.low, within.0);
      high = within.1;
      long = c.in-Ok.ensures.long ∙ was.long;
      works = works_on g.D.Device.honest g.D.Device.disk g.D.Device.size g.D.Device.failures g.D.Device.goes_on c.args.volume.now c.loop-place.volume c.fill_stretch.new.volume was.works c.in-Ok.ensures.asked;
      filled = λ h enough.
          let meant = λ (T : Tree). end - place ≤ length (file T) - at → BufferFilled (file T) at place c.in-Ok.until later m1 m2 in
          let next = subst meant (was.works.tree h) (c.in-Ok.ensures.filled (was.works.kept.honest.0 h)) (omega (arith, enough, was.low)) in
          filled_more (file c.args.volume.now.tree) c.args.from at start place later c.args.memory.now m1 m2 was.low refl (was.filled h enough) c.in-Ok.until (omega (arith, within.0)) next;
    }

pub returns-in-Err : goal.returns-in-Err
returns-in-Err g c = record {
  long = c.in-Err.ensures.long ∙ c.loop-place.invariant.long;
  filled = λ h enough. tt;
  broke = λ h enough.
      let was = c.loop-place.invariant in
      let start = c.args.buffer.pointer in
      let end = start + c.args.buffer.len in
      let place = c.loop-place.place in
      let at = c.args.from + (place - start) in
      let file = λ (T : Tree). bytes_at T c.args.serial in
      let later = list_of c.args.later.now in
      let m1 = c.loop-place.memory in
      let m2 = c.fill_stretch.new.memory in
      let all : end - start ≤ length (file c.args.volume.now.tree) - c.args.from = omega (arith, enough) in
      let meant = λ (T : Tree). end - place ≤ length (file T) - at → (c.in-Err.errno ≡ errno.Io) × BufferBegun (file T) at place end later m1 m2 in
      let next = subst meant (was.works.tree h) (c.in-Err.ensures.broke (was.works.kept.honest.0 h)) (omega (arith, all, was.low)) in
      (next.0, begun_more (file c.args.volume.now.tree) c.args.from at start place later c.args.memory.now m1 m2 was.low refl (was.filled h all) end was.high next.1);
  asked = asked_on g.D.Device.honest g.D.Device.disk g.D.Device.size g.D.Device.failures g.D.Device.goes_on c.args.volume.now c.loop-place.volume c.fill_stretch.new.volume _ c.loop-place.invariant.works c.in-Err.ensures.asked;
}

pub loop-place-init : goal.loop-place-init
loop-place-init g c =
    record {
      low = omega arith;
      high = omega arith;
      long = refl;
      works = still_works g.D.Device.honest g.D.Device.disk g.D.Device.size g.D.Device.failures g.D.Device.goes_on c.args.volume.now c.requires.works;
      filled = λ h enough. filled_none (bytes_at c.args.volume.now.tree c.args.serial) c.args.from c.args.buffer.pointer (list_of c.args.later.now) c.args.memory.now;
    }

pub returns : goal.returns
returns g c = record {
  long = c.loop-place.invariant.long;
  filled = λ h enough.
      let end = c.args.buffer.pointer + c.args.buffer.len in
      let all : c.loop-place.place ≡ end = omega (arith, c.loop-place.invariant.high, c.loop-place-test.false) in
      subst (λ (k : ℕ). BufferFilled (bytes_at c.args.volume.now.tree c.args.serial) c.args.from c.args.buffer.pointer k (list_of c.args.later.now) c.args.memory.now c.loop-place.memory) all (c.loop-place.invariant.filled h (omega (arith, enough)));
  broke = λ h enough. tt;
  asked = works_as g.D.Device.honest g.D.Device.disk g.D.Device.size g.D.Device.failures g.D.Device.goes_on c.args.volume.now c.loop-place.volume c.loop-place.invariant.works;
}
