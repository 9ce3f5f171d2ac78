use Rattle.std.proofs.Common.{◌≡◌, ℕ, List, ap, sym, subst, ◌∙◌, arith, length, take, drop, length-take, length-drop}
use Rattle.wasi_bodies.specs.files.Rows.{dirents}
use Rattle.wasi_bodies.specs.internal.files.Reading.{IsBegun}
use Rattle.wasi_bodies.proofs.files.DirectoryLists.{part_listed, part_begun}
use Rattle.wasi_bodies.proofs.files.OverlappingBuffers.{part_front, part_split, length_written}
use Rattle.wasi_bodies.proofs.files.listing.list_part.Goals as goal

pub returns-in-Ok : goal.returns-in-Ok
returns-in-Ok g c = record {
  asked = c.in-Ok.ensures.asked;
  long =
      let m = c.args.memory.now in
      let cut = c.split_at_mut-part.ensures in
      let same : length c.list.new.part ≡ c.args.len = omega (arith, c.list.auto.part, cut.front_len) in
      ap length (part_split m c.part_mut.result.now c.split_at_mut-part.result.0.now c.split_at_mut-part.result.1.now c.list.new.part c.args.start c.args.len c.part_mut.ensures.value cut.value cut.front_len same)
      ∙ length_written m c.list.new.part c.args.start (omega (arith, same, c.requires.inside));
  room = omega (arith, c.in-Ok.ensures.room, c.split_at_mut-part.ensures.front_len);
  count = λ h.
      let all = dirents c.args.volume.now.tree c.args.directory c.args.cookie in
      let told = (c.in-Ok.ensures.answer h).0 in
      let most = length-take (length c.split_at_mut-part.result.0.now) all in
      omega (arith, told, c.split_at_mut-part.ensures.front_len, most);
  listed = λ h.
      let m = c.args.memory.now in
      let cut = c.split_at_mut-part.ensures in
      let front = c.split_at_mut-part.result.0.now in
      let same : length c.list.new.part ≡ c.args.len = omega (arith, c.list.auto.part, cut.front_len) in
      let told = c.in-Ok.ensures.answer h in
      part_split m c.part_mut.result.now front c.split_at_mut-part.result.1.now c.list.new.part c.args.start c.args.len c.part_mut.ensures.value cut.value cut.front_len same
      ∙ part_listed m (dirents c.args.volume.now.tree c.args.directory c.args.cookie) front c.list.new.part c.args.start c.args.len c.in-Ok.count
      c.requires.inside (part_front m c.part_mut.result.now front c.args.start c.args.len c.part_mut.ensures.value cut.front) told.0 told.1;
  broke = λ h. tt;
}

pub returns-in-Err : goal.returns-in-Err
returns-in-Err g c = record {
  asked = c.in-Err.ensures.asked;
  long =
      let m = c.args.memory.now in
      let cut = c.split_at_mut-part.ensures in
      let same : length c.list.new.part ≡ c.args.len = omega (arith, c.list.auto.part, cut.front_len) in
      ap length (part_split m c.part_mut.result.now c.split_at_mut-part.result.0.now c.split_at_mut-part.result.1.now c.list.new.part c.args.start c.args.len c.part_mut.ensures.value cut.value cut.front_len same)
      ∙ length_written m c.list.new.part c.args.start (omega (arith, same, c.requires.inside));
  room = tt;
  count = λ h. tt;
  listed = λ h. tt;
  broke = λ h.
      let m = c.args.memory.now in
      let cut = c.split_at_mut-part.ensures in
      let front = c.split_at_mut-part.result.0.now in
      let same : length c.list.new.part ≡ c.args.len = omega (arith, c.list.auto.part, cut.front_len) in
      let all = dirents c.args.volume.now.tree c.args.directory c.args.cookie in
      let told = c.in-Err.ensures.answer h in (
        told.0,
        subst (λ (l : List ℕ). IsBegun m c.args.start (take c.args.len all) l)
            (sym (part_split m c.part_mut.result.now front c.split_at_mut-part.result.1.now c.list.new.part c.args.start c.args.len c.part_mut.ensures.value cut.value cut.front_len same))
            (part_begun m all front c.list.new.part c.args.start c.args.len told.2.0
            c.requires.inside (part_front m c.part_mut.result.now front c.args.start c.args.len c.part_mut.ensures.value cut.front) told.2.1 told.2.2),
      );
}
