use Rattle.std.proofs.Common.{◌≡◌, ◌⊎◌, inl, inr, ◌<◌, ◌≤◌, ℕ, refl, ◌∙◌, sym, ap, subst, arith}
use Rattle.vol_log.specs.Log.{view}
use Rattle.vol_inode.specs.Space.{blocks_for_size}
use Rattle.vol_body.specs.Body.{BlockPosition, double_indirect_block, triple_indirect_block}
use Rattle.vol_body.specs.internal.Writing.{IsAbove, IsBlockIn, segment, double_of, staged_count}
use Rattle.vol_body.proofs.Added.{mirror_stays}
use Rattle.vol_body.proofs.Steps.{puts_none, puts_then, range_then, placed_most, placed_stays, changes_none, changes_then, segment_not_lists, segment_not_triple}
use Rattle.vol_log.specs.declared.layout.TheConstants.{FIRST_AFTER_LOG}
use Rattle.vol_body.proofs.writing_spans.write_segment.Goals as goal

parts_or : (from to s : ℕ) (p : BlockPosition) → IsBlockIn from to p ⊎ (p ≡ segment s) → IsBlockIn from to p ⊎ IsAbove s p
parts_or from to s p (inl there) = inl there
parts_or from to s p (inr is) = inr (inl is)

double_apart : (from to s d : ℕ) → IsBlockIn from to (double_indirect_block d) ⊎ (double_indirect_block d ≡ segment s) → ⊥
double_apart from to s d (inl there) = there
double_apart from to s d (inr is) = segment_not_lists d s is

triple_apart : (from to s : ℕ) → IsBlockIn from to triple_indirect_block ⊎ (triple_indirect_block ≡ segment s) → ⊥
triple_apart from to s (inl there) = there
triple_apart from to s (inr is) = segment_not_triple s is

pub returns-then-above-ne0 : goal.returns-then-above-ne0
returns-then-above-ne0 g c =
    let log0 = c.args.log.now in
    let log1 = c.open_segment.new.log in
    let log2 = c.write_listed.new.log in
    let one = c.open_segment.ensures in
    let two = c.write_listed.ensures in
    let double = c.open_segment.new.double in
    let triple = c.open_segment.new.triple in
    let above_number = c.open_segment.new.above.number in
    let double_stays = placed_stays log1 log2 double.number (two.puts.staged double.number) in
    let triple_stays = placed_stays log1 log2 triple.number (two.puts.staged triple.number) in
    let most = placed_most log2 above_number in
    record {
      written = λ ready fits mirror mirror_double mirror_triple.
          let a = c.args.sectors.now in
          let b = c.open_segment.new.sectors in
          let d = c.write_listed.new.sectors in
          let c0 = view c.args.log.now in
          let c1 = view c.open_segment.new.log in
          let c2 = view c.write_listed.new.log in
          let e0 = c.args.entry.now in
          let e1 = c.open_segment.new.entry in
          let s = c.args.group in
          let from = c.args.from in
          let to = c.args.to in
          let some : from < to = c.if-to-from.false in
          let opened = c.open_segment.ensures.opened ready (omega (arith, some, c.requires.listed.starts, fits)) (mirror some) (mirror_double some) (mirror_triple some) in
          let size : blocks_for_size e1.size ≡ blocks_for_size e0.size = ap blocks_for_size opened.0.changes.size in
          let listed = c.write_listed.ensures.written e1 s refl (omega (arith, size, fits)) opened.0.changes.ready opened.0.mirror in
          let there : double_of s < 129 = omega (arith, some, c.requires.listed.starts, c.requires.listed.last) in (
            changes_then a b d c0 c1 c2 e0 e1 e1 (IsAbove s) (λ p. IsBlockIn from to p ⊎ (p ≡ segment s)) (λ p. IsBlockIn from to p ⊎ IsAbove s p) c.requires.can.after_log c.open_segment.ensures.range c.write_listed.ensures.range
                (λ p touched. inr touched) (λ p touched. parts_or from to s p touched) opened.0.changes listed.0,
            listed.1,
            λ held. mirror_stays c1 c2 e1 e1 (double_indirect_block (double_of s)) double.number double.image (listed.0.stays (double_indirect_block (double_of s)) there (λ touched. double_apart from to s (double_of s) touched)) (opened.1 held),
            λ held. mirror_stays c1 c2 e1 e1 triple_indirect_block triple.number triple.image (listed.0.stays triple_indirect_block tt (λ touched. triple_apart from to s touched)) (opened.2 held),
          );
      keeps = λ n is. two.keeps n (one.keeps n is);
      known = (λ some. two.keeps double.number (one.known.1 some), λ some. two.keeps triple.number (one.known.2 some));
      entry = one.entry;
      room = omega (arith, one.room, two.room, double_stays, triple_stays, most);
      puts = puts_then log0 log1 log2 one.puts two.puts;
      range = range_then c.args.sectors.now c.open_segment.new.sectors c.write_listed.new.sectors one.range two.range;
    }

pub returns-then-to-from : goal.returns-then-to-from
returns-then-to-from g c = record {
  written = λ ready fits mirror mirror_double mirror_triple. (
    changes_none c.args.sectors.now (view c.args.log.now) c.args.entry.now (λ p. IsBlockIn c.args.from c.args.to p ⊎ IsAbove c.args.group p) ready,
    λ j from to. absurd (omega (arith, from, to, c.if-to-from.true)),
    λ held. held,
    λ held. held,
  );
  keeps = λ n is. is;
  known = (c.requires.known.1, c.requires.known.2);
  entry = refl;
  room = omega arith;
  puts = puts_none c.args.log.now;
  range = record { first = refl; end = refl };
}

pub open_segment-requires : goal.open_segment-requires
open_segment-requires g c = record {
  place = omega (arith, c.requires.listed.starts, c.requires.listed.last, c.if-to-from.false);
  can = c.requires.can;
  room = omega (arith, c.requires.room, c.if-to-from.false);
  known = c.requires.known;
}

pub write_listed-requires : goal.write_listed-requires
write_listed-requires g c =
    let one = c.open_segment.ensures in
    let most = placed_most c.open_segment.new.log c.open_segment.new.double.number in
    let more = placed_most c.open_segment.new.log c.open_segment.new.triple.number in
    record {
      can = record {
        after_log = subst (λ (n : ℕ). FIRST_AFTER_LOG ≤ n) (sym one.range.first) c.requires.can.after_log;
        there = omega (arith, c.requires.can.there, one.range.end, one.puts.sectors);
        working = one.puts.failed ∙ c.requires.can.working;
      };
      known = one.known.0 c.if-above-ne0.true;
      room = omega (arith, c.requires.room, one.room, most, more, c.if-to-from.false);
      listed = record {
        starts = c.requires.listed.starts;
        ends = omega (arith, c.requires.listed.ends);
        last = c.requires.listed.last;
      };
      touched = c.requires.touched;
    }

-- There was no sector left for a pointer sector.
pub returns-else-above-ne0 : goal.returns-else-above-ne0
returns-else-above-ne0 g c =
    let one = c.open_segment.ensures in
    let none = ap (staged_count c.open_segment.new.log) c.if-above-ne0.false in
    record {
      written = λ ready fits mirror mirror_double mirror_triple.
          let some : c.args.from < c.args.to = c.if-to-from.false in
          let opened = one.opened ready (omega (arith, some, c.requires.listed.starts, fits)) (mirror some) (mirror_double some) (mirror_triple some) in
          absurd (opened.0.some c.if-above-ne0.false);
      keeps = one.keeps;
      known = (one.known.1, one.known.2);
      entry = one.entry;
      room = omega (arith, one.room, none);
      puts = one.puts;
      range = one.range;
    }
