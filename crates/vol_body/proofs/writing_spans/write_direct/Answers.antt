use Rattle.std.proofs.Common.{◌≡◌, ◌≤◌, ◌<◌, ◌+◌, ◌∙◌, sym, ap, subst, arith, ℕ}
use Rattle.std.proofs.lemmas.Grind.{common_steps}
use Rattle.vol_log.specs.Log.{view}
use Rattle.vol_inode.specs.Space.{blocks_for_size}
use Rattle.vol_inode.specs.declared.entry.Entry.{Entry}
use Rattle.vol_body.specs.Body.{data_block}
use Rattle.vol_body.specs.internal.Writing.{IsBlockIn, image_of}
use Rattle.vol_body.proofs.Steps.{puts_then, range_then, changes_then, changes_wider, part_in_more, part_in_here, part_in_all, parts_more, parts_shorter}
use Rattle.vol_log.specs.declared.layout.TheConstants.{FIRST_AFTER_LOG}
use Rattle.vol_body.proofs.writing_spans.write_direct.Goals as goal

pub loop-j-preserved : goal.loop-j-preserved
loop-j-preserved g c =
    let so_far = c.loop-j.invariant in
    let step = c.write_direct_block.ensures in
    let from = c.args.from in
    let j = c.loop-j.j in
    let lt : j < c.args.to = c.loop-j-test.true in
    let from_j : from ≤ j = c.loop-j.auto.j in
    let piece = c.args.piece.now in
    let image = image_of piece.offset c.args.bytes.now piece.first piece.last in
    let a = c.args.sectors.now in
    let b = c.loop-j.sectors in
    let d = c.write_direct_block.new.sectors in
    let c0 = view c.args.log.now in
    let c1 = view c.loop-j.log in
    let c2 = view c.write_direct_block.new.log in
    let e0 = c.args.entry.now in
    let e1 = c.loop-j.entry in
    let e2 = c.write_direct_block.new.entry in
    record {
      rest = c.image_of_block-image.ensures.rest;
      few = omega arith;
      working = step.puts.failed ∙ so_far.working;
      room = omega (arith, so_far.room, step.room);
      puts = puts_then c.args.log.now c.loop-j.log c.write_direct_block.new.log so_far.puts step.puts;
      range = range_then a b d so_far.range step.range;
      keeps = λ n is. step.keeps n (so_far.keeps n is);
      entry = step.entry ∙ ap (λ (e : Entry). record e { pointers = e2.pointers }) so_far.entry;
      written = λ ready fits.
          let before = so_far.written ready fits in
          let size : blocks_for_size e1.size ≡ blocks_for_size e0.size = ap blocks_for_size before.0.size in
          let now = step.written before.0.ready (omega (arith, size)) in (
            changes_then a b d c0 c1 c2 e0 e1 e2 (IsBlockIn from j) (λ q. q ≡ data_block j) (IsBlockIn from (j + 1)) c.requires.can.after_log so_far.range step.range
                (part_in_more from j) (λ q is. part_in_here from j q from_j is) before.0 now.0,
            parts_more b d c1 c2 e1 e2 (λ q. q ≡ data_block j) from j image now.0 (λ k below is. different k j below is) (omega (arith, c.requires.direct)) before.1 (now.1 ∙ c.image_of_block-image.ensures.image),
          );
    }
  where
    different : (k j : ℕ) → k < j → data_block k ≡ data_block j → ⊥
    different k j below is = let same : k ≡ j = cc in omega arith

pub image_of_block-image-requires : goal.image_of_block-image-requires
image_of_block-image-requires g c = record {
  before = omega (arith, c.requires.touched.last, c.loop-j-test.true);
  starts_before = omega (arith, c.requires.touched.first, c.loop-j.auto.j);
  small = c.requires.touched.small;
  rest = c.loop-j.invariant.rest;
}

pub write_direct_block-requires : goal.write_direct_block-requires
write_direct_block-requires g c =
    let so_far = c.loop-j.invariant in
    record {
      direct = omega (arith, c.requires.direct, c.loop-j-test.true);
      can = record {
        after_log = subst (λ (n : ℕ). FIRST_AFTER_LOG ≤ n) (sym so_far.range.first) c.requires.can.after_log;
        there = omega (arith, c.requires.can.there, so_far.range.end, so_far.puts.sectors);
        working = so_far.working;
      };
      room = omega (arith, c.requires.room, so_far.room, c.loop-j-test.true, c.loop-j.auto.j);
    }

pub returns : goal.returns
returns g c =
    let so_far = c.loop-j.invariant in
    record {
      written = λ ready fits.
          let from = c.args.from in
          let piece = c.args.piece.now in
          let done = c.loop-j.invariant.written ready fits in (
            changes_wider c.args.sectors.now c.loop-j.sectors (view c.args.log.now) (view c.loop-j.log) c.args.entry.now c.loop-j.entry (IsBlockIn from c.loop-j.j) (IsBlockIn from c.args.to)
                (λ p there. part_in_all from c.args.to c.loop-j.j p c.loop-j.invariant.few there) done.0,
            parts_shorter (view c.loop-j.log) c.loop-j.entry from c.args.to c.loop-j.j (image_of piece.offset c.args.bytes.now piece.first piece.last) c.loop-j-test.false done.1,
          );
      keeps = so_far.keeps;
      entry = so_far.entry;
      room = omega (arith, so_far.room, so_far.few);
      puts = so_far.puts;
      range = so_far.range;
    }

pub loop-j-init : goal.loop-j-init
loop-j-init c = grind (arith, common_steps)
