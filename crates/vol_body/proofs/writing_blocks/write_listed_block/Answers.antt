use Rattle.std.proofs.Common.{◌≡◌, ◌≢◌, ◌⊎◌, inl, true, refl, sym, ◌∙◌, ap, arith}
use Rattle.vol_log.specs.Log.{view, room_of}
use Rattle.vol_alloc.specs.Alloc.{taken_of}
use Rattle.vol_body.specs.Body.{data_block, named}
use Rattle.vol_body.specs.internal.Writing.{IsMissing}
use Rattle.vol_body.proofs.Places.{known_at}
use Rattle.vol_body.proofs.Added.{mirror_stays}
use Rattle.vol_body.proofs.Steps.{placed_most, placed_stays, room_left, taken_range, bytes_mirrored, changes_wider, not_a_part, part_mirrored, part_over}
use Rattle.vol_body.proofs.OneStaged.{known_taken, puts_one}
use Rattle.vol_body.proofs.writing_blocks.write_listed_block.Goals as goal

pub returns-then-n-eq0 : goal.returns-then-n-eq0
returns-then-n-eq0 g c =
    let done = c.add_number.ensures in
    let most = placed_most c.add_number.new.log c.add_number.result in
    record {
      written = λ e q j at q_there there serves ready mirror.
          let content = view c.args.log.now in
          let above = c.args.above.now in
          let number : c.number_at.result ≡ named content e (data_block j) = c.number_at.ensures ∙ part_mirrored content e q c.args.i j above.number above.image at c.requires.place mirror in
          let is : c.taken_or_zero-n.result ≡ named content e (data_block j) = c.taken_or_zero-n.ensures ∙ known_at (taken_of c.args.sectors.now) content e ready.taken (data_block j) there c.number_at.result number in
          let missing : IsMissing c.args.sectors.now content e (data_block j) = record { ready = ready; none = sym is ∙ c.if-n-eq0.true; serves = serves } in
          let added = c.add_number.ensures.added e q (data_block j) at q_there there tt missing mirror in
          (added.0.changes, bytes_mirrored (view c.add_number.new.log) e (data_block j) c.add_number.result c.args.image.now added.0.mirror, added.1);
      keeps = done.keeps;
      number = done.number;
      room = omega (arith, done.room, most);
      puts = done.puts;
      range = done.range;
    }

pub returns-else-n-eq0 : goal.returns-else-n-eq0
returns-else-n-eq0 g c =
    let log0 = c.args.log.now in
    let log1 = c.stage.new.self in
    let one = c.stage.ensures in
    let puts = puts_one log0 log1 c.taken_or_zero-n.result one.device one.sectors c.requires.can.working one.failed one.staged in
    let less = room_left _ (room_of log0) (room_of log1) one.room in
    let number = c.args.above.now.number in
    let stays = placed_stays log0 log1 number (puts.staged number) in
    record {
      written = λ e q j at q_there there serves ready mirror.
          let content = view c.args.log.now in
          let after = view c.stage.new.self in
          let a = c.args.sectors.now in
          let above = c.args.above.now in
          let taken = taken_of a in
          let n = c.taken_or_zero-n.result in
          let number : c.number_at.result ≡ named content e (data_block j) = c.number_at.ensures ∙ part_mirrored content e q c.args.i j above.number above.image at c.requires.place mirror in
          let is : n ≡ named content e (data_block j) = c.taken_or_zero-n.ensures ∙ known_at taken content e ready.taken (data_block j) there c.number_at.result number in
          let some : n ≢ 0 = c.if-n-eq0.false in
          let is_taken : taken n ≡ true = ap taken is ∙ ready.taken (data_block j) there (λ none. some (is ∙ none)) in
          let over = part_over a content after e j n c.args.image.now ready there is some is_taken c.stage.ensures.view in (
            changes_wider a a content after e e (λ x. x ≡ data_block j) (λ x. (x ≡ data_block j) ⊎ (x ≡ q)) (λ x same. inl same) over.0,
            over.1,
            mirror_stays content after e e q above.number above.image (over.0.stays q q_there (not_a_part q c.args.i j j at)) mirror,
          );
      keeps = λ k is. is;
      number = refl;
      room = omega (arith, less, stays);
      puts = puts;
      range = record { first = refl; end = refl };
    }

pub add_number-requires : goal.add_number-requires
add_number-requires g c = record { place = c.requires.place; can = c.requires.can; known = c.requires.known; room = c.requires.room }

pub stage-requires : goal.stage-requires
stage-requires g c =
    let range = taken_range c.args.sectors.now c.taken_or_zero-n.result (known_taken (taken_of c.args.sectors.now) c.number_at.result c.taken_or_zero-n.result c.taken_or_zero-n.ensures c.if-n-eq0.false) in
    record {
      place = omega (arith, c.requires.can.after_log, range.0);
      there = omega (arith, c.requires.can.there, range.1);
      room = omega (arith, c.requires.room);
      working = c.requires.can.working;
    }
