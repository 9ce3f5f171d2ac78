use Rattle.std.proofs.Common.{◌≡◌, ◌⊎◌, inl, inr, ◌≤◌, ◌<◌, ◌+◌, ◌-◌, ◌∙◌, sym, true, subst, arith, ℕ}
use Rattle.vol_log.specs.Log.{view, room_of}
use Rattle.vol_alloc.specs.Alloc.{taken_of}
use Rattle.vol_body.specs.Body.{BlockPosition, data_block}
use Rattle.vol_body.specs.internal.Writing.{IsBlockIn, segment, staged_count, image_of}
use Rattle.vol_body.proofs.Steps.{placed_most, puts_then, range_then, changes_then, changes_wider, part_in_more, part_in_here, part_in_all, parts_more, parts_shorter, segment_lists, segment_place, segment_other}
use Rattle.vol_log.specs.declared.layout.TheConstants.{FIRST_AFTER_LOG}
use Rattle.vol_body.proofs.writing_spans.write_listed.Goals as goal

pub loop-j-preserved : goal.loop-j-preserved
loop-j-preserved g c =
    let so_far = c.loop-j.invariant in
    let step = c.write_listed_block.ensures in
    let from = c.args.from in
    let j = c.loop-j.j in
    let start = c.args.start in
    let lt : j < c.args.to = c.loop-j-test.true in
    let from_j : from ≤ j = c.loop-j.auto.j in
    let piece = c.args.piece.now in
    let image = image_of piece.offset c.args.bytes.now piece.first piece.last in
    let a = c.args.sectors.now in
    let b = c.loop-j.sectors in
    let d = c.write_listed_block.new.sectors in
    let c0 = view c.args.log.now in
    let c1 = view c.loop-j.log in
    let c2 = view c.write_listed_block.new.log in
    let number = c.args.above.now.number in
    let kept : room_of c.loop-j.log + staged_count c.loop-j.log number ≤ room_of c.write_listed_block.new.log + staged_count c.write_listed_block.new.log number + 1 =
    subst (λ (n : ℕ). room_of c.loop-j.log + staged_count c.loop-j.log n ≤ room_of c.write_listed_block.new.log + staged_count c.write_listed_block.new.log n + 1) so_far.number step.room in
    record {
      rest = c.image_of_block-image.ensures.rest;
      few = omega arith;
      working = step.puts.failed ∙ so_far.working;
      number = step.number ∙ so_far.number;
      room = omega (arith, so_far.room, kept);
      puts = puts_then c.args.log.now c.loop-j.log c.write_listed_block.new.log so_far.puts step.puts;
      range = range_then a b d so_far.range step.range;
      keeps = λ n is. step.keeps n (so_far.keeps n is);
      written = λ e s starts fits ready mirror.
          let before = so_far.written e s starts fits ready mirror in
          let q = segment s in
          let small : j < 2113722 = omega (arith, c.requires.listed.last) in
          let le : start ≤ j = omega (arith, c.requires.listed.starts) in
          let now = step.written e q j (segment_lists s start j starts le) (segment_place s start c.args.to j starts le small) small (omega (arith, fits)) before.0.ready before.2 in (
            changes_then a b d c0 c1 c2 e e e (λ p. IsBlockIn from j p ⊎ (p ≡ q)) (λ p. (p ≡ data_block j) ⊎ (p ≡ q)) (λ p. IsBlockIn from (j + 1) p ⊎ (p ≡ q)) c.requires.can.after_log so_far.range step.range
                (λ p touched. widened from j q p touched) (λ p touched. one_more from j q p from_j touched) before.0 now.0,
            parts_more b d c1 c2 e e (λ p. (p ≡ data_block j) ⊎ (p ≡ q)) from j image now.0 (λ k below touched. different k j s below touched) small before.1 (now.1 ∙ c.image_of_block-image.ensures.image),
            now.2,
          );
    }
  where
    widened : (from j : ℕ) (q p : BlockPosition) → IsBlockIn from j p ⊎ (p ≡ q) → IsBlockIn from (j + 1) p ⊎ (p ≡ q)
    widened from j q p (inl there) = inl (part_in_more from j p there)
    widened from j q p (inr is) = inr is

    one_more : (from j : ℕ) (q p : BlockPosition) → from ≤ j → (p ≡ data_block j) ⊎ (p ≡ q) → IsBlockIn from (j + 1) p ⊎ (p ≡ q)
    one_more from j q p le (inl is) = inl (part_in_here from j p le is)
    one_more from j q p le (inr is) = inr is

    different : (k j s : ℕ) → k < j → (data_block k ≡ data_block j) ⊎ (data_block k ≡ segment s) → ⊥
    different k j s below (inl is) = let same : k ≡ j = cc in omega arith
    different k j s below (inr is) = segment_other s k (sym is)

shorter : (from to j : ℕ) (p q : BlockPosition) → j - from ≤ to - from → IsBlockIn from j p ⊎ (p ≡ q) → IsBlockIn from to p ⊎ (p ≡ q)
shorter from to j p q few (inl there) = inl (part_in_all from to j p few there)
shorter from to j p q few (inr is) = inr is

pub image_of_block-image-requires : goal.image_of_block-image-requires
image_of_block-image-requires g c = record {
  before = omega (arith, c.requires.touched.last, c.loop-j-test.true);
  starts_before = omega (arith, c.requires.touched.first, c.loop-j.auto.j);
  small = c.requires.touched.small;
  rest = c.loop-j.invariant.rest;
}

pub write_listed_block-requires : goal.write_listed_block-requires
write_listed_block-requires g c =
    let so_far = c.loop-j.invariant in
    let number = c.args.above.now.number in
    let most = placed_most c.loop-j.log number in
    record {
      place = omega (arith, c.requires.listed.starts, c.requires.listed.ends, c.loop-j-test.true, c.loop-j.auto.j);
      can = record {
        after_log = subst (λ (n : ℕ). FIRST_AFTER_LOG ≤ n) (sym so_far.range.first) c.requires.can.after_log;
        there = omega (arith, c.requires.can.there, so_far.range.end, so_far.puts.sectors);
        working = so_far.working;
      };
      known = subst (λ (n : ℕ). taken_of c.loop-j.sectors n ≡ true) (sym so_far.number) (so_far.keeps number c.requires.known);
      room = omega (arith, c.requires.room, so_far.room, most, c.loop-j-test.true, c.loop-j.auto.j);
    }

pub returns : goal.returns
returns g c =
    let so_far = c.loop-j.invariant in
    record {
      written = λ e s starts fits ready mirror.
          let from = c.args.from in
          let piece = c.args.piece.now in
          let done = c.loop-j.invariant.written e s starts fits ready mirror in (
            changes_wider c.args.sectors.now c.loop-j.sectors (view c.args.log.now) (view c.loop-j.log) e e (λ p. IsBlockIn from c.loop-j.j p ⊎ (p ≡ segment s)) (λ p. IsBlockIn from c.args.to p ⊎ (p ≡ segment s))
                (λ p touched. shorter from c.args.to c.loop-j.j p (segment s) c.loop-j.invariant.few touched) done.0,
            parts_shorter (view c.loop-j.log) e from c.args.to c.loop-j.j (image_of piece.offset c.args.bytes.now piece.first piece.last) c.loop-j-test.false done.1,
          );
      keeps = so_far.keeps;
      room = omega (arith, so_far.room, so_far.few);
      puts = so_far.puts;
      range = so_far.range;
    }
