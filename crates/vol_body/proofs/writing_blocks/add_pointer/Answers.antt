use Rattle.std.proofs.Common.{◌≡◌, ◌≢◌, length, set, refl, ◌∙◌, ap, arith, rules}
use Rattle.vol_sector.specs.Disk.{Image, put}
use Rattle.vol_log.specs.Log.{view, room_of, is_staged}
use Rattle.vol_alloc.specs.Alloc.{taken_of, free_of}
use Rattle.vol_inode.specs.declared.entry.Entry.{Entry}
use Rattle.vol_body.proofs.Listed.{sets_pointer}
use Rattle.vol_body.proofs.Space.{some_free}
use Rattle.vol_body.proofs.Added.{TakesSector, adds_pointer}
use Rattle.vol_body.proofs.Steps.{puts_none, room_placed, staged_here, staged_still, put_here, put_other}
use Rattle.vol_body.proofs.OneStaged.{puts_one}
use Rattle.vol_body.proofs.writing_blocks.add_pointer.Goals as goal

pub returns-then-free_count-eq0 : goal.returns-then-free_count-eq0
returns-then-free_count-eq0 g c =
    record {
      added = λ p at blank missing.
          let free = some_free (view c.args.log.now) c.args.entry.now p (free_of c.args.sectors.now) missing.ready.space missing.none missing.serves in
          absurd (omega (arith, free, c.free_count.ensures, c.if-free_count-eq0.true));
      known = λ some. absurd (some refl);
      keeps = λ k is. is;
      entry = refl;
      room = omega arith;
      puts = puts_none c.args.log.now;
      range = record { first = refl; end = refl };
    }

pub returns : goal.returns
returns g c =
    let log0 = c.args.log.now in
    let log1 = c.stage.new.self in
    let number = c.take-n.result in
    let t0 = taken_of c.args.sectors.now in
    let t1 = taken_of c.take-n.new.self in
    let one = c.stage.ensures in
    record {
      added = λ p at blank missing.
          let a = c.args.sectors.now in
          let b = c.take-n.new.self in
          let n = c.take-n.result in
          let content = view c.args.log.now in
          let e = c.args.entry.now in
          let s = c.args.slot in
          let image = c.args.image.now in
          let changed : Entry = record e { pointers = set e.pointers s n } in
          let is : view c.stage.new.self ≡ put n image content = c.stage.ensures.view in
          let takes : TakesSector a b n = record {
            some = λ zero. omega (arith, c.requires.can.after_log, c.take-n.ensures.from, zero);
            from = c.take-n.ensures.from;
            below = c.take-n.ensures.below;
            free = c.take-n.ensures.free;
            taken = c.take-n.ensures.taken;
            count = c.take-n.ensures.count;
          } in
          let long : length e.pointers ≡ 61 = search rules in
          let done = adds_pointer a b content (view c.stage.new.self) e changed s n p image takes missing.ready missing.ready.small
          (λ x other. ap (λ (m : Image). m x) is ∙ put_other n x image content other)
          (sets_pointer e s n (omega (arith, long, c.requires.pointer)))
          (ap (λ (m : Image). m n) is ∙ put_here n image content) at blank missing.none missing.serves in
          record { changes = done.0; mirror = done.1; some = takes.some };
      known = λ some. staged_here number t0 t1 c.take-n.ensures.taken;
      keeps = λ k is. staged_still number k t0 t1 c.take-n.ensures.taken is;
      entry = refl;
      room =
          let some : number ≢ 0 = λ zero. omega (arith, c.requires.can.after_log, c.take-n.ensures.from, zero) in
          let place = room_placed log0 log1 number (room_of log0) (room_of log1) some (staged_here number (is_staged log0) (is_staged log1) one.staged) one.room in
          omega (arith, place);
      puts = puts_one log0 log1 number one.device one.sectors c.requires.can.working one.failed one.staged;
      range = record { first = c.take-n.ensures.range.0; end = c.take-n.ensures.range.1 };
    }

pub stage-requires : goal.stage-requires
stage-requires g c = record {
  place = omega (arith, c.requires.can.after_log, c.take-n.ensures.from);
  there = omega (arith, c.requires.can.there, c.take-n.ensures.below);
  room = omega (arith, c.requires.room);
  working = c.requires.can.working;
}
