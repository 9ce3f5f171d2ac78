use Rattle.std.proofs.Common.{◌≡◌, ◌+◌, ◌-◌, ◌<◌, ◌≤◌, ℕ, List, [], ◌∷◌, length, drop, get_or, refl, sym, ap, ◌∙◌, subst, arith}
use Rattle.std.proofs.lemmas.List.{drop_more, drop_all, take_rest}
use Rattle.std.proofs.lemmas.List.Sums.{sum_by-cons}
use Rattle.vol_tree.specs.declared.errno.Errno.TheVariants as errno
use Rattle.vol_tree.specs.Tree.{Tree}
use Rattle.vol_tree.specs.Calls.{bytes_at}
use Rattle.vol_body.specs.declared.source.MemorySpan.{MemorySpan}
use Rattle.wasi_bodies.specs.Checks.{Buffer, total, put, scattered}
use Rattle.wasi_bodies.specs.internal.checks.Buffers.{pair_of, list_of}
use Rattle.wasi_bodies.specs.internal.files.Reading.{BufferFilled, BufferBegun}
use Rattle.wasi_bodies.proofs.checks.BufferArrays.{inside_at}
use Rattle.wasi_bodies.proofs.bodies.AskingCalls.{still_works, works_on, asked_on, works_as}
use Rattle.wasi_bodies.proofs.files.FilledBuffers.{Filling, filling_begins, filling_ends, filling_goes_on, filling_breaks}
use Rattle.wasi_bodies.proofs.files.reading.fill_buffers.Goals as goal

-- the buffer that comes next
next_is : (bs : List MemorySpan) (i : ℕ) → i < length bs → list_of (drop i bs) ≡ pair_of (get_or bs i (record { pointer = 0; len = 0 })) ∷ list_of (drop (i + 1) bs)
next_is bs i h = ap list_of (drop_more bs i (record { pointer = 0; len = 0 }) h)

next_total : (bs : List MemorySpan) (i : ℕ) → i < length bs → total (list_of (drop i bs)) ≡ (get_or bs i (record { pointer = 0; len = 0 })).len + total (list_of (drop (i + 1) bs))
next_total bs i h = ap total (next_is bs i h) ∙ sum_by-cons (λ (b : Buffer). b.1) (pair_of (get_or bs i (record { pointer = 0; len = 0 }))) (list_of (drop (i + 1) bs))

pub loop-index-init : goal.loop-index-init
loop-index-init g c = record {
  place = refl;
  low = omega arith;
  long = refl;
  works = still_works g.D.Device.honest g.D.Device.disk g.D.Device.size g.D.Device.failures g.D.Device.goes_on c.args.volume.now c.requires.works;
  filling = λ h enough. filling_begins (bytes_at c.args.volume.now.tree c.args.serial) c.args.memory.now c.args.from (list_of c.args.buffers.now) c.requires.inside;
}

pub fill_buffer-requires-clause-inside : goal.fill_buffer-requires-clause-inside
fill_buffer-requires-clause-inside g c =
    let inside = inside_at c.args.memory.now c.args.buffers.now c.loop-index.index (record { pointer = 0; len = 0 }) c.requires.inside c.loop-index-test.true in
    let long = c.loop-index.invariant.long in
    omega (arith, inside, long)

pub returns-in-Err : goal.returns-in-Err
returns-in-Err g c = record {
  long = c.in-Err.ensures.long ∙ c.loop-index.invariant.long;
  filled = λ h enough. tt;
  broke = λ h enough.
      let T0 : Tree = c.args.volume.now.tree in
      let F = bytes_at T0 c.args.serial in
      let m = c.args.memory.now in
      let bs = c.args.buffers.now in
      let i = c.loop-index.index in
      let at = c.loop-index.at in
      let was = c.loop-index.invariant in
      let x : MemorySpan = get_or bs i (record { pointer = 0; len = 0 }) in
      let later : List Buffer = list_of (drop (i + 1) bs) in
      let last = put m (scattered (drop c.args.from F) (list_of bs)) in
      let sums = next_total bs i c.loop-index-test.true in
      let place = was.place in
      let low = was.low in
      let room : x.len ≤ length F - at = omega (arith, sums, place, low, enough) in
      let now : Filling F m last c.loop-index.memory at (pair_of x ∷ later) = subst (Filling F m last c.loop-index.memory at) (next_is bs i c.loop-index-test.true) (was.filling h enough) in
      let meant = λ (U : Tree) (l : List MemorySpan). x.len ≤ length (bytes_at U c.args.serial) - at → (c.in-Err.errno ≡ errno.Io) × BufferBegun (bytes_at U c.args.serial) at x.pointer (x.pointer + x.len) (list_of l) c.loop-index.memory c.fill_buffer.new.memory in
      let T = c.loop-index.volume.tree in
      let both = subst (λ (U : Tree). meant U (drop (i + 1) bs)) (was.works.tree h) (subst (meant T) (take_rest bs (i + 1)) (c.in-Err.ensures.broke (was.works.kept.honest.0 h))) room in
      (both.0, filling_breaks F m last c.loop-index.memory c.fill_buffer.new.memory at (pair_of x) later room now both.1);
  asked = asked_on g.D.Device.honest g.D.Device.disk g.D.Device.size g.D.Device.failures g.D.Device.goes_on c.args.volume.now c.loop-index.volume c.fill_buffer.new.volume _ c.loop-index.invariant.works c.in-Err.ensures.asked;
}

pub loop-index-preserved : goal.loop-index-preserved
loop-index-preserved g c =
    let T0 : Tree = c.args.volume.now.tree in
    let F = bytes_at T0 c.args.serial in
    let m = c.args.memory.now in
    let bs = c.args.buffers.now in
    let i = c.loop-index.index in
    let at = c.loop-index.at in
    let was = c.loop-index.invariant in
    let x : MemorySpan = get_or bs i (record { pointer = 0; len = 0 }) in
    let later : List Buffer = list_of (drop (i + 1) bs) in
    let last = put m (scattered (drop c.args.from F) (list_of bs)) in
    let sums = next_total bs i c.loop-index-test.true in
    let more = c.from-at.ensures in
    let place = was.place in
    let low = was.low in
    record {
      place = omega (arith, sums, place, more);
      low = omega (arith, low);
      long = c.fill_buffer.ensures.long ∙ was.long;
      works = works_on g.D.Device.honest g.D.Device.disk g.D.Device.size g.D.Device.failures g.D.Device.goes_on c.args.volume.now c.loop-index.volume c.fill_buffer.new.volume was.works c.in-Ok.ensures.asked;
      filling = λ h enough.
          let room : x.len ≤ length F - at = omega (arith, sums, place, low, enough) in
          let now : Filling F m last c.loop-index.memory at (pair_of x ∷ later) = subst (Filling F m last c.loop-index.memory at) (next_is bs i c.loop-index-test.true) (was.filling h enough) in
          let meant = λ (U : Tree) (l : List MemorySpan). x.len ≤ length (bytes_at U c.args.serial) - at → BufferFilled (bytes_at U c.args.serial) at x.pointer (x.pointer + x.len) (list_of l) c.loop-index.memory c.fill_buffer.new.memory in
          let T = c.loop-index.volume.tree in
          let filled = subst (λ (U : Tree). meant U (drop (i + 1) bs)) (was.works.tree h) (subst (meant T) (take_rest bs (i + 1)) (c.in-Ok.ensures.filled (was.works.kept.honest.0 h))) room in
          subst (λ (n : ℕ). Filling F m last c.fill_buffer.new.memory (at + n) later) (sym more)
          (filling_goes_on F m last c.loop-index.memory c.fill_buffer.new.memory at (pair_of x) later room now filled);
    }

pub returns : goal.returns
returns g c = record {
  long = c.loop-index.invariant.long;
  filled = λ h enough.
      let F = bytes_at c.args.volume.now.tree c.args.serial in
      let m = c.args.memory.now in
      let bs = c.args.buffers.now in
      let last = put m (scattered (drop c.args.from F) (list_of bs)) in
      let none : list_of (drop c.loop-index.index bs) ≡ [] = ap list_of (drop_all c.loop-index.index bs c.loop-index-test.false) in
      filling_ends F m last c.loop-index.memory c.loop-index.at (subst (Filling F m last c.loop-index.memory c.loop-index.at) none (c.loop-index.invariant.filling h enough));
  broke = λ h enough. tt;
  asked = works_as g.D.Device.honest g.D.Device.disk g.D.Device.size g.D.Device.failures g.D.Device.goes_on c.args.volume.now c.loop-index.volume c.loop-index.invariant.works;
}

pub overflow_add-at : goal.overflow_add-at
overflow_add-at g c =
    let sums = next_total c.args.buffers.now c.loop-index.index c.loop-index-test.true in
    record { fits = omega (arith, sums, c.loop-index.invariant.place, c.requires.small) }

pub fill_buffer-requires-clause-small : goal.fill_buffer-requires-clause-small
fill_buffer-requires-clause-small g c =
    let sums = next_total c.args.buffers.now c.loop-index.index c.loop-index-test.true in
    omega (arith, sums, c.loop-index.invariant.place, c.requires.small)
