use Rattle.std.proofs.Common.{◌≡◌, ◌≢◌, ◌<◌, true, get_or, refl, sym, ◌∙◌, ap, arith}
use Rattle.vol_log.specs.Log.{view, room_of}
use Rattle.vol_alloc.specs.Alloc.{taken_of}
use Rattle.vol_body.specs.Body.{data_block, named}
use Rattle.vol_body.specs.internal.Writing.{IsMissing}
use Rattle.vol_body.proofs.Places.{part_direct, known_at}
use Rattle.vol_body.proofs.Steps.{placed_most, room_left, taken_range, bytes_mirrored, part_over}
use Rattle.vol_body.proofs.OneStaged.{known_taken, puts_one}
use Rattle.vol_body.proofs.writing_blocks.write_direct_block.Goals as goal

pub returns-then-n-eq0 : goal.returns-then-n-eq0
returns-then-n-eq0 g c =
    let done = c.add_pointer.ensures in
    let most = placed_most c.add_pointer.new.log c.add_pointer.result in
    record {
      written = λ ready serves.
          let content = view c.args.log.now in
          let e = c.args.entry.now in
          let j = c.args.j in
          let there : j < 2113722 = omega (arith, c.requires.direct) in
          let is : c.taken_or_zero-n.result ≡ named content e (data_block j) = c.taken_or_zero-n.ensures ∙ known_at (taken_of c.args.sectors.now) content e ready.taken (data_block j) there (get_or e.pointers j 0) (sym (part_direct content e j c.requires.direct)) in
          let missing : IsMissing c.args.sectors.now content e (data_block j) = record { ready = ready; none = sym is ∙ c.if-n-eq0.true; serves = serves } in
          let adds = c.add_pointer.ensures.added (data_block j) (refl, c.requires.direct) tt missing in
          (adds.changes, bytes_mirrored (view c.add_pointer.new.log) c.add_pointer.new.entry (data_block j) c.add_pointer.result c.args.image.now adds.mirror);
      keeps = done.keeps;
      entry = done.entry;
      room = omega (arith, done.room, most);
      puts = done.puts;
      range = done.range;
    }

pub returns-else-n-eq0 : goal.returns-else-n-eq0
returns-else-n-eq0 g c =
    let log0 = c.args.log.now in
    let log1 = c.stage.new.self in
    let one = c.stage.ensures in
    let puts = puts_one log0 log1 c.taken_or_zero-n.result one.device one.sectors c.requires.can.working one.failed one.staged in
    let less = room_left _ (room_of log0) (room_of log1) one.room in
    record {
      written = λ ready serves.
          let content = view c.args.log.now in
          let e = c.args.entry.now in
          let j = c.args.j in
          let taken = taken_of c.args.sectors.now in
          let there : j < 2113722 = omega (arith, c.requires.direct) in
          let is : c.taken_or_zero-n.result ≡ named content e (data_block j) = c.taken_or_zero-n.ensures ∙ known_at taken content e ready.taken (data_block j) there (get_or e.pointers j 0) (sym (part_direct content e j c.requires.direct)) in
          let some : c.taken_or_zero-n.result ≢ 0 = c.if-n-eq0.false in
          let is_taken : taken c.taken_or_zero-n.result ≡ true = ap taken is ∙ ready.taken (data_block j) there (λ none. some (is ∙ none)) in
          part_over c.args.sectors.now content (view c.stage.new.self) e j c.taken_or_zero-n.result c.args.image.now ready there is some is_taken c.stage.ensures.view;
      keeps = λ k is. is;
      entry = refl;
      room = less;
      puts = puts;
      range = record { first = refl; end = refl };
    }

pub add_pointer-requires : goal.add_pointer-requires
add_pointer-requires g c = record { pointer = omega (arith, c.requires.direct); can = c.requires.can; room = c.requires.room }

pub stage-requires : goal.stage-requires
stage-requires g c =
    let range = taken_range c.args.sectors.now c.taken_or_zero-n.result (known_taken (taken_of c.args.sectors.now) (get_or c.args.entry.now.pointers c.args.j 0) c.taken_or_zero-n.result c.taken_or_zero-n.ensures c.if-n-eq0.false) in
    record {
      place = omega (arith, c.requires.can.after_log, range.0);
      there = omega (arith, c.requires.can.there, range.1);
      room = omega (arith, c.requires.room);
      working = c.requires.can.working;
    }
