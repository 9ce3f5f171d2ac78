use Rattle.std.proofs.Common.{◌≡◌, ◌-◌, ◌≤◌, ℕ, List, length, min, drop, true, sym, ap, ◌∙◌, subst, arith, refl, inl}
use Rattle.std.proofs.lemmas.Bool.{false≢true}
use Rattle.std.specs.List.{list_all}
use Rattle.vol_tree.specs.declared.errno.Errno.TheVariants as errno
use Rattle.vol_tree.specs.Tree.{Tree}
use Rattle.vol_tree.specs.Calls.{bytes_at}
use Rattle.wasi_bodies.specs.Checks.{Buffer, total, is_inside, put, scattered}
use Rattle.wasi_bodies.specs.Calls.{IsMixed}
use Rattle.wasi_bodies.specs.internal.checks.Buffers.{list_of}
use Rattle.wasi_bodies.specs.internal.files.Reading.{limited_buffers}
use Rattle.wasi_bodies.proofs.files.OverlappingBuffers.{cut_total, cut_inside}
use Rattle.wasi_bodies.proofs.files.FilledBuffers.{as_many, cut_fits, cut_received}
use Rattle.wasi_bodies.proofs.bodies.AskingCalls.{asked_on}
use Rattle.wasi_bodies.proofs.files.reading.read_at.Goals as goal

pub fill_buffers-requires-clause-small : goal.fill_buffers-requires-clause-small
fill_buffers-requires-clause-small g c =
    let n = c.count_from-len.result in
    let bs = list_of c.args.buffers.now in
    let len = c.total_len.ensures in
    let count = c.count_from-len.ensures.count in
    let near = c.count_from-len.ensures.near in
    let most : n ≤ total bs = omega (arith, len, count) in
    let all : total (list_of c.cut_to.new.buffers) ≡ n = ap total c.cut_to.ensures ∙ cut_total n bs most in
    omega (arith, all, near)

pub fill_buffers-requires-clause-inside : goal.fill_buffers-requires-clause-inside
fill_buffers-requires-clause-inside g c =
    subst (λ (bs : List Buffer). list_all (is_inside c.args.memory.now) bs ≡ true) (sym c.cut_to.ensures)
    (cut_inside c.args.memory.now c.count_from-len.result (list_of c.args.buffers.now) c.requires.inside)

pub returns-in-Ok-fill_buffers : goal.returns-in-Ok-fill_buffers
returns-in-Ok-fill_buffers g c = record {
  long = c.in-Ok-fill_buffers.ensures.long;
  near = c.count_from-len.ensures.near;
  idle = λ failed. absurd (false≢true (c.in-Ok.ensures.kept.idle failed).1);
  read = λ h.
      let T0 : Tree = c.args.volume.now.tree in
      let T = c.size_of.new.volume.tree in
      let F = bytes_at T0 c.args.serial in
      let from = c.args.from in
      let n = c.count_from-len.result in
      let m = c.args.memory.now in
      let bs = list_of c.args.buffers.now in
      let (size, tree) = c.in-Ok.ensures.answer h in
      let len = c.total_len.ensures in
      let counted = c.count_from-len.ensures.count in
      let count : n ≡ min (total bs) (length F - from) = omega (arith, len, counted, size) in
      let meant = λ (U : Tree) (l : List Buffer). total l ≤ length (bytes_at U c.args.serial) - from → c.fill_buffers.new.memory ≡ put m (scattered (drop from (bytes_at U c.args.serial)) l) in
      let filled = subst (λ (U : Tree). meant U (limited_buffers n bs)) tree (subst (meant T) c.cut_to.ensures (c.in-Ok-fill_buffers.ensures.filled (c.in-Ok.ensures.kept.honest.0 h))) in
      (as_many F from n bs count, filled (cut_fits F from n bs count) ∙ cut_received F from n bs count m);
  broke = λ h. tt;
  asked = let told = c.in-Ok.ensures in
      asked_on g.D.Device.honest g.D.Device.disk g.D.Device.size g.D.Device.failures g.D.Device.goes_on c.args.volume.now c.size_of.new.volume c.fill_buffers.new.volume _ (record { kept = told.kept; tree = λ h. (told.answer h).1; crash = told.crash; goes = told.goes_on }) c.in-Ok-fill_buffers.ensures.asked;
}

pub returns-in-Err-fill_buffers : goal.returns-in-Err-fill_buffers
returns-in-Err-fill_buffers g c = record {
  long = c.in-Err-fill_buffers.ensures.long;
  near = tt;
  idle = λ failed. absurd (false≢true (c.in-Ok.ensures.kept.idle failed).1);
  read = λ h. tt;
  broke = λ h.
      let T0 : Tree = c.args.volume.now.tree in
      let T = c.size_of.new.volume.tree in
      let F = bytes_at T0 c.args.serial in
      let from = c.args.from in
      let n = c.count_from-len.result in
      let m = c.args.memory.now in
      let m' = c.fill_buffers.new.memory in
      let bs = list_of c.args.buffers.now in
      let (size, tree) = c.in-Ok.ensures.answer h in
      let len = c.total_len.ensures in
      let counted = c.count_from-len.ensures.count in
      let count : n ≡ min (total bs) (length F - from) = omega (arith, len, counted, size) in
      let meant = λ (U : Tree) (l : List Buffer). total l ≤ length (bytes_at U c.args.serial) - from
      → (c.in-Err-fill_buffers.errno ≡ errno.Io) × IsMixed m (put m (scattered (drop from (bytes_at U c.args.serial)) l)) m' in
      let broke = subst (λ (U : Tree). meant U (limited_buffers n bs)) tree (subst (meant T) c.cut_to.ensures (c.in-Err-fill_buffers.ensures.broke (c.in-Ok.ensures.kept.honest.0 h))) in
      let both = broke (cut_fits F from n bs count) in
      (both.0, subst (λ (l : List ℕ). IsMixed m l m') (cut_received F from n bs count m) both.1);
  asked = let told = c.in-Ok.ensures in
      asked_on g.D.Device.honest g.D.Device.disk g.D.Device.size g.D.Device.failures g.D.Device.goes_on c.args.volume.now c.size_of.new.volume c.fill_buffers.new.volume _ (record { kept = told.kept; tree = λ h. (told.answer h).1; crash = told.crash; goes = told.goes_on }) c.in-Err-fill_buffers.ensures.asked;
}

pub returns-in-Err : goal.returns-in-Err
returns-in-Err g c = record {
  long = refl;
  near = tt;
  idle = λ failed. refl;
  read = λ h. tt;
  broke = λ h. ((c.in-Err.ensures.answer h).0, record { as_long = refl; each = λ i. inl refl });
  asked = let told = c.in-Err.ensures in record { tree = λ h. (told.answer h).1; crash = told.crash; kept = told.kept; goes = told.goes_on };
}
