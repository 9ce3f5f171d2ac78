use Rattle.std.proofs.Common.{◌≡◌, ◌≢◌, ◌*◌, ℕ, List, drop, refl, ◌∙◌, ap, sym, arith}
use Rattle.std.proofs.lemmas.Bool.{both_ways}
use Rattle.byteorder.specs.Endian.{little_number}
use Rattle.vol_sector.specs.Disk.{Image, put}
use Rattle.vol_log.specs.Log.{view, room_of, is_staged}
use Rattle.vol_alloc.specs.Alloc.{taken_of, free_of}
use Rattle.vol_body.specs.internal.Naming.{ListsOneMore}
use Rattle.vol_body.proofs.Places.{bytes_there}
use Rattle.vol_body.proofs.Space.{some_free}
use Rattle.vol_body.proofs.Added.{TakesSector, adds_number}
use Rattle.vol_body.proofs.Steps.{puts_none, puts_then, room_left, put_here, put_other, taken_range, holder_stays, room_placed, placed_stays, staged_here, staged_still}
use Rattle.vol_body.proofs.OneStaged.{puts_one}
use Rattle.vol_body.proofs.writing_blocks.add_number.Goals as goal

pub returns-then-free_count-eq0 : goal.returns-then-free_count-eq0
returns-then-free_count-eq0 g c =
    record {
      added = λ e q p at q_there p_there blank missing mirror.
          let free = some_free (view c.args.log.now) e p (free_of c.args.sectors.now) missing.ready.space missing.none missing.serves in
          absurd (omega (arith, free, c.free_count.ensures, c.if-free_count-eq0.true));
      known = λ some. absurd (some refl);
      keeps = λ k is. is;
      number = refl;
      room = omega arith;
      puts = puts_none c.args.log.now;
      range = record { first = refl; end = refl };
    }

pub returns : goal.returns
returns g c =
    let log0 = c.args.log.now in
    let log1 = c.stage.new.self in
    let log2 = c.stage-2.new.self in
    let t0 = taken_of c.args.sectors.now in
    let t1 = taken_of c.take-n.new.self in
    let one = c.stage.ensures in
    let two = c.stage-2.ensures in
    let first_puts = puts_one log0 log1 c.take-n.result one.device one.sectors c.requires.can.working one.failed one.staged in
    let second_puts = puts_one log1 log2 c.args.above.now.number two.device two.sectors one.failed two.failed two.staged in
    record {
      added = λ e q p at q_there p_there blank missing mirror.
          let a = c.args.sectors.now in
          let b = c.take-n.new.self in
          let n = c.take-n.result in
          let m = c.args.above.now.number in
          let i = c.args.i in
          let content = view c.args.log.now in
          let after = view c.stage-2.new.self in
          let image = c.args.image.now in
          let numbers = c.with_number-numbers.result in
          let between : view c.stage.new.self ≡ put n image content = c.stage.ensures.view in
          let is : after ≡ put m numbers (view c.stage.new.self) = c.stage-2.ensures.view in
          let takes : TakesSector a b n = record {
            some = λ zero. omega (arith, c.requires.can.after_log, c.take-n.ensures.from, zero);
            from = c.take-n.ensures.from;
            below = c.take-n.ensures.below;
            free = c.take-n.ensures.free;
            taken = c.take-n.ensures.taken;
            count = c.take-n.ensures.count;
          } in
          let range = taken_range a m c.requires.known in
          let some : m ≢ 0 = λ zero. omega (arith, c.requires.can.after_log, range.0, zero) in
          let other : m ≢ n = λ same. both_ways (taken_of a n) takes.free (sym (ap (taken_of a) same) ∙ c.requires.known) in
          let at_m : after m ≡ numbers = ap (λ (k : Image). k m) is ∙ put_here m numbers (view c.stage.new.self) in
          let at_n : after n ≡ image = ap (λ (k : Image). k n) is ∙ put_other m n numbers (view c.stage.new.self) (λ same. other (sym same)) ∙ ap (λ (k : Image). k n) between ∙ put_here n image content in
          let old : c.args.above.now.image ≡ content m = mirror.bytes ∙ bytes_there content m some in
          let lists_it : ListsOneMore content after m i n = record {
            one = ap (λ (l : List ℕ). little_number 4 (drop (4 * i) l)) at_m ∙ c.with_number-numbers.ensures.one;
            rest = λ k below not. ap (λ (l : List ℕ). little_number 4 (drop (4 * k) l)) at_m ∙ c.with_number-numbers.ensures.rest k below not ∙ ap (λ (l : List ℕ). little_number 4 (drop (4 * k) l)) old;
            stays = λ x not_n not_m. ap (λ (k : Image). k x) is ∙ put_other m x numbers (view c.stage.new.self) not_m ∙ ap (λ (k : Image). k x) between ∙ put_other n x image content not_n;
          } in
          let done = adds_number a b content after e n m i q p image takes missing.ready missing.ready.small some range.0 range.1 lists_it at_n c.requires.place at q_there mirror.names blank missing.none missing.serves in (
            record { changes = done.0; mirror = done.1; some = takes.some },
            record { names = mirror.names ∙ sym (holder_stays a b content after e q p i at q_there done.0); bytes = sym at_m ∙ sym (bytes_there after m some) },
          );
      known = λ some. staged_here c.take-n.result t0 t1 c.take-n.ensures.taken;
      keeps = λ k is. staged_still c.take-n.result k t0 t1 c.take-n.ensures.taken is;
      number = refl;
      room =
          let n = c.take-n.result in
          let m = c.args.above.now.number in
          let range = taken_range c.args.sectors.now m c.requires.known in
          let n_some : n ≢ 0 = λ zero. omega (arith, c.requires.can.after_log, c.take-n.ensures.from, zero) in
          let m_some : m ≢ 0 = λ zero. omega (arith, c.requires.can.after_log, range.0, zero) in
          let one = room_placed c.args.log.now c.stage.new.self n (room_of c.args.log.now) (room_of c.stage.new.self) n_some (staged_here n (is_staged c.args.log.now) (is_staged c.stage.new.self) c.stage.ensures.staged) c.stage.ensures.room in
          let two = room_placed c.stage.new.self c.stage-2.new.self m (room_of c.stage.new.self) (room_of c.stage-2.new.self) m_some (staged_here m (is_staged c.stage.new.self) (is_staged c.stage-2.new.self) c.stage-2.ensures.staged) c.stage-2.ensures.room in
          let kept_m = placed_stays c.args.log.now c.stage.new.self m (staged_still n m (is_staged c.args.log.now) (is_staged c.stage.new.self) c.stage.ensures.staged) in
          let kept_n = placed_stays c.stage.new.self c.stage-2.new.self n (staged_still m n (is_staged c.stage.new.self) (is_staged c.stage-2.new.self) c.stage-2.ensures.staged) in
          omega (arith, one, two, kept_m, kept_n);
      puts = puts_then log0 log1 log2 first_puts second_puts;
      range = record { first = c.take-n.ensures.range.0; end = c.take-n.ensures.range.1 };
    }

pub stage-requires : goal.stage-requires
stage-requires g c = record {
  place = omega (arith, c.requires.can.after_log, c.take-n.ensures.from);
  there = omega (arith, c.requires.can.there, c.take-n.ensures.below);
  room = omega (arith, c.requires.room);
  working = c.requires.can.working;
}

pub stage-requires-2 : goal.stage-requires-2
stage-requires-2 g c =
    let range = taken_range c.args.sectors.now c.args.above.now.number c.requires.known in
    let less = room_left _ (room_of c.args.log.now) (room_of c.stage.new.self) c.stage.ensures.room in
    record {
      place = omega (arith, c.requires.can.after_log, range.0);
      there = omega (arith, c.requires.can.there, range.1, c.stage.ensures.sectors);
      room = omega (arith, c.requires.room, less);
      working = c.stage.ensures.failed;
    }
