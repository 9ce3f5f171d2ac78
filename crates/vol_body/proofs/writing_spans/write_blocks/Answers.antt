use Rattle.std.proofs.Common.{◌≡◌, ◌≢◌, ◌⊎◌, inl, inr, ◌≤◌, ◌<◌, ◌+◌, ◌*◌, ◌/◌, ℕ, List, ◌∙◌, sym, ap, subst, arith}
use Rattle.std.proofs.lemmas.Bool.{cases_lt, cases_eq}
use Rattle.vol_log.specs.Log.{view}
use Rattle.vol_inode.specs.Space.{blocks_for_size}
use Rattle.vol_body.specs.Body.{BlockPosition, data_block, double_indirect_block, triple_indirect_block, IsPosition}
use Rattle.vol_body.specs.declared.pointer_sectors.PointerSector.{PointerSector}
use Rattle.vol_body.specs.internal.Writing.{Mirrors, IsKnown, HasBlocks, IsAbove, IsBlockIn, IsPointer, segment, segment_of, double_of, image_of}
use Rattle.vol_body.proofs.Added.{mirror_stays}
use Rattle.vol_body.proofs.Steps.{placed_most, puts_then, range_then, changes_then, segment_no_part, segment_not_lists, segments_differ, segment_is_place, segment_is_pointer, lists_is_pointer, triple_is_pointer, segment_not_triple, segment_other, part_in_span}
use Rattle.vol_inode.specs.declared.entry.Entry.{Entry}
use Rattle.vol_log.specs.declared.layout.TheConstants.{FIRST_AFTER_LOG}
use Rattle.vol_body.proofs.writing_spans.write_blocks.Goals as goal

-- what each data block of a write touches is a data block or a pointer sector
span_touched : (from to first last s : ℕ) (p : BlockPosition) → first ≤ from → to ≤ last + 1 → IsBlockIn from to p ⊎ IsAbove s p → IsBlockIn first (last + 1) p ⊎ IsPointer p
span_touched from to first last s p starts ends (inl there) = inl (part_in_span from to first last p starts ends there)
span_touched from to first last s p starts ends (inr (inl is)) = inr (segment_is_pointer s p is)
span_touched from to first last s p starts ends (inr (inr (inl is))) = inr (lists_is_pointer (double_of s) p is)
span_touched from to first last s p starts ends (inr (inr (inr is))) = inr (triple_is_pointer p is)

-- a data block before those that are written isn't touched
part_apart : (from to s j : ℕ) → j < from → IsBlockIn from to (data_block j) ⊎ IsAbove s (data_block j) → ⊥
part_apart from to s j lt (inl there) = omega (arith, there.0)
part_apart from to s j lt (inr (inl is)) = segment_other s j (sym is)
part_apart from to s j lt (inr (inr (inl is))) = cc
part_apart from to s j lt (inr (inr (inr is))) = cc

-- nor is the next pointer sector
next_apart : (from to s : ℕ) → IsBlockIn from to (segment (s + 1)) ⊎ IsAbove s (segment (s + 1)) → ⊥
next_apart from to s (inl there) = segment_no_part from to (s + 1) there
next_apart from to s (inr (inl is)) = segments_differ s is
next_apart from to s (inr (inr (inl is))) = segment_not_lists (double_of s) (s + 1) (sym is)
next_apart from to s (inr (inr (inr is))) = segment_not_triple (s + 1) (sym is)

-- nor is another double-indirect block
double_apart : (from to s d : ℕ) → d ≢ double_of s → IsBlockIn from to (double_indirect_block d) ⊎ IsAbove s (double_indirect_block d) → ⊥
double_apart from to s d other (inl there) = there
double_apart from to s d other (inr (inl is)) = segment_not_lists d s is
double_apart from to s d other (inr (inr (inl is))) = other cc
double_apart from to s d other (inr (inr (inr is))) = cc

pub returns : goal.returns
returns g c =
    let done_direct = c.write_direct.ensures in
    let done_early = c.write_segment.ensures in
    let done_late = c.write_segment-2.ensures in
    let log0 = c.args.log.now in
    let log1 = c.write_direct.new.log in
    let log2 = c.write_segment.new.log in
    let log3 = c.write_segment-2.new.log in
    let entry2 = c.write_segment.new.entry in
    let entry3 = c.write_segment-2.new.entry in
    let most = placed_most log3 c.write_segment-2.new.double.number in
    let more = placed_most log3 c.write_segment-2.new.triple.number in
    let left = placed_most log2 c.write_segment.new.double.number in
    let kept = placed_most log2 c.write_segment.new.triple.number in
    record {
      written = λ ready fits all.
          let first = c.args.first in
          let last = c.args.last in
          let s = c.saturating_sub-group.result / 128 in
          let group : s ≡ segment_of first = ap (λ (x : ℕ). x / 128) c.saturating_sub-group.ensures in
          let low = c.min.ensures in
          let middle_from = c.max.ensures in
          let middle_to = c.min-2.ensures in
          let a = c.args.sectors.now in
          let b = c.write_direct.new.sectors in
          let d = c.write_segment.new.sectors in
          let f = c.write_segment-2.new.sectors in
          let c0 = view c.args.log.now in
          let c1 = view c.write_direct.new.log in
          let c2 = view c.write_segment.new.log in
          let c3 = view c.write_segment-2.new.log in
          let e0 = c.args.entry.now in
          let e1 = c.write_direct.new.entry in
          let e2 = c.write_segment.new.entry in
          let e3 = c.write_segment-2.new.entry in
          let triple = c.args.all.now.triple in
          let double = c.args.all.now.double in
          let next = c.args.all.now.next_double in
          let double_two = c.write_segment.new.double in
          let double_three = c.take_next.new.double in
          let early = c.args.all.now.early in
          let late = c.args.all.now.late in
          let to1 = c.min.result in
          let from2 = c.max.result in
          let to2 = c.min-2.result in
          let from3 = 186 + 128 * s in
          let one = c.write_direct.ensures.written ready (omega (arith, low, fits)) in
          let size1 : blocks_for_size e1.size ≡ blocks_for_size e0.size = ap blocks_for_size one.0.size in
          let k = double_of s in
          let m = double_of (s + 1) in
          let same_one = λ (p : BlockPosition) (there : IsPosition p) (not : IsBlockIn first to1 p → ⊥). one.0.stays p there not in
          let triple_one = λ (reaches : 16570 ≤ last). mirror_stays c0 c1 e0 e1 triple_indirect_block triple.number triple.image (same_one triple_indirect_block tt (λ touched. touched)) (all.triple reaches) in
          let double_one = λ (reaches : 186 + 16384 * k ≤ last).
          mirror_stays c0 c1 e0 e1 (double_indirect_block k) double.number double.image (same_one (double_indirect_block k) (omega (arith, reaches, c.requires.last)) (λ touched. touched))
          (subst (λ (x : ℕ). Mirrors c0 e0 (double_indirect_block (double_of x)) double.number double.image) (sym group) (all.double (omega (arith, reaches, group)))) in
          let two = c.write_segment.ensures.written one.0.ready (omega (arith, middle_to, size1, fits))
          (λ some.
          let reaches : 58 + 128 * s ≤ last = omega (arith, some, middle_from, middle_to, c.saturating_sub-group.ensures) in
          mirror_stays c0 c1 e0 e1 (segment s) early.number early.image (same_one (segment s) (segment_is_place s last reaches c.requires.last) (λ touched. segment_no_part first to1 s touched))
          (subst (λ (x : ℕ). Mirrors c0 e0 (segment x) early.number early.image) (sym group) (all.early (omega (arith, reaches, group)))))
          (λ some later. double_one (omega (arith, some, later, middle_from, middle_to, c.saturating_sub-group.ensures)))
          (λ some later. triple_one (omega (arith, some, later, middle_from, middle_to, c.saturating_sub-group.ensures))) in
          let size2 : blocks_for_size e2.size ≡ blocks_for_size e1.size = ap blocks_for_size two.0.size in
          let double_next : 186 + 16384 * m ≤ last → Mirrors c2 e2 (double_indirect_block m) double_three.number double_three.image = λ reaches. elim (cases_eq m k) [
            | inl same ↦
                let is = c.take_next.ensures.same same in
                subst (λ (x : PointerSector). Mirrors c2 e2 (double_indirect_block m) x.number x.image) (sym is)
                (subst (λ (x : ℕ). Mirrors c2 e2 (double_indirect_block x) double_two.number double_two.image) (sym same) (two.2 (double_one (omega (arith, reaches, same)))))
            | inr other ↦
                let is = c.take_next.ensures.next other in
                let there : m < 129 = omega (arith, reaches, c.requires.last) in
                let before : Mirrors c0 e0 (double_indirect_block m) next.number next.image = subst (λ (x : ℕ). Mirrors c0 e0 (double_indirect_block (double_of (x + 1))) next.number next.image) (sym group)
                (all.next_double (subst (λ (x : ℕ). double_of (x + 1) ≢ double_of x) group other) (omega (arith, reaches, group))) in
                let held = mirror_stays c1 c2 e1 e2 (double_indirect_block m) next.number next.image (two.0.stays (double_indirect_block m) there (λ touched. double_apart from2 to2 s m other touched))
                (mirror_stays c0 c1 e0 e1 (double_indirect_block m) next.number next.image (same_one (double_indirect_block m) there (λ touched. touched)) before) in
                subst (λ (x : ℕ). Mirrors c2 e2 (double_indirect_block m) x double_three.image) (sym is.0) (subst (λ (x : List ℕ). Mirrors c2 e2 (double_indirect_block m) next.number x) (sym is.1) held)
          ] in
          let three = c.write_segment-2.ensures.written two.0.ready (omega (arith, size1, size2, fits))
          (λ some.
          let reaches : 58 + 128 * (s + 1) ≤ last = omega (arith, some) in
          let there = segment_is_place (s + 1) last reaches c.requires.last in
          mirror_stays c1 c2 e1 e2 (segment (s + 1)) late.number late.image (two.0.stays (segment (s + 1)) there (λ touched. next_apart from2 to2 s touched))
          (mirror_stays c0 c1 e0 e1 (segment (s + 1)) late.number late.image (same_one (segment (s + 1)) there (λ touched. segment_no_part first to1 (s + 1) touched))
          (subst (λ (x : ℕ). Mirrors c0 e0 (segment (x + 1)) late.number late.image) (sym group) (all.late (omega (arith, reaches, group))))))
          (λ some later. double_next (omega (arith, some)))
          (λ some later. two.3 (triple_one (omega (arith, some, later)))) in
          let Both = λ (p : BlockPosition). IsBlockIn first (last + 1) p ⊎ IsPointer p in
          let first_two = changes_then a b d c0 c1 c2 e0 e1 e2 (IsBlockIn first to1) (λ p. IsBlockIn from2 to2 p ⊎ IsAbove s p) Both c.requires.can.after_log c.write_direct.ensures.range c.write_segment.ensures.range
          (λ p there. inl (part_in_span first to1 first last p (omega arith) (omega (arith, low)) there))
          (λ p touched. span_touched from2 to2 first last s p (omega (arith, middle_from)) (omega (arith, middle_to)) touched) one.0 two.0 in
          let changes = changes_then a d f c0 c2 c3 e0 e2 e3 Both (λ p. IsBlockIn from3 (last + 1) p ⊎ IsAbove (s + 1) p) Both c.requires.can.after_log
          (range_then a b d c.write_direct.ensures.range c.write_segment.ensures.range) c.write_segment-2.ensures.range
          (λ p touched. touched)
          (λ p touched. span_touched from3 (last + 1) first last (s + 1) p (omega (arith, c.saturating_sub-group.ensures)) (omega arith) touched) first_two three.0 in
          let piece = c.args.piece.now in
          let image = image_of piece.offset c.args.bytes.now piece.first piece.last in
          let parts : HasBlocks c3 e3 first (last + 1) image = λ j from to.
          let there : j < 2113722 = omega (arith, to, c.requires.last) in
          elim (cases_lt j from3) [
            | inr le ↦ three.1 j le to
            | inl before ↦ (three.0.stays (data_block j) there (λ touched. part_apart from3 (last + 1) (s + 1) j before touched)).bytes ∙ elim (cases_lt j 58) [
              | inr le ↦ two.1 j (omega (arith, middle_from)) (omega (arith, middle_to))
              | inl direct ↦ (two.0.stays (data_block j) there (λ touched. part_apart from2 to2 s j (omega (arith, middle_from)) touched)).bytes ∙ one.1 j from (omega (arith, low))
            ]
          ] in
          (changes, parts);
      entry = done_late.entry ∙ ap (λ (e : Entry). record e { pointers = entry3.pointers }) (done_early.entry ∙ ap (λ (e : Entry). record e { pointers = entry2.pointers }) done_direct.entry);
      room = omega (arith, c.requires.few, done_direct.room, done_early.room, done_late.room, most, more, left, kept, c.min.ensures, c.max.ensures, c.min-2.ensures);
      puts = puts_then log0 log2 log3 (puts_then log0 log1 log2 done_direct.puts done_early.puts) done_late.puts;
      range = range_then c.args.sectors.now c.write_segment.new.sectors c.write_segment-2.new.sectors (range_then c.args.sectors.now c.write_direct.new.sectors c.write_segment.new.sectors done_direct.range done_early.range) done_late.range;
    }

pub write_direct-requires : goal.write_direct-requires
write_direct-requires g c = record {
  direct = omega (arith, c.min.ensures);
  can = c.requires.can;
  room = omega (arith, c.requires.room, c.requires.few, c.min.ensures);
  touched = record {
    first = c.requires.touched.first;
    last = omega (arith, c.requires.touched.last, c.min.ensures);
    small = c.requires.touched.small;
  };
}

pub write_segment-requires : goal.write_segment-requires
write_segment-requires g c =
    let one = c.write_direct.ensures in
    let all = c.args.all.now in
    record {
      can = record {
        after_log = subst (λ (n : ℕ). FIRST_AFTER_LOG ≤ n) (sym one.range.first) c.requires.can.after_log;
        there = omega (arith, c.requires.can.there, one.range.end, one.puts.sectors);
        working = one.puts.failed ∙ c.requires.can.working;
      };
      room = omega (arith, c.requires.room, c.requires.few, one.room, c.min.ensures, c.max.ensures, c.min-2.ensures);
      listed = record {
        starts = omega (arith, c.max.ensures, c.saturating_sub-group.ensures);
        ends = omega (arith, c.min-2.ensures);
        last = omega (arith, c.requires.last, c.min-2.ensures);
      };
      touched = record {
        first = omega (arith, c.requires.touched.first, c.max.ensures);
        last = omega (arith, c.requires.touched.last, c.min-2.ensures);
        small = c.requires.touched.small;
      };
      known = (λ some. one.keeps all.early.number (c.requires.known.early some), λ some. one.keeps all.double.number (c.requires.known.double some), λ some. one.keeps all.triple.number (c.requires.known.triple some));
    }

pub write_segment-requires-2 : goal.write_segment-requires-2
write_segment-requires-2 g c =
    let one = c.write_direct.ensures in
    let two = c.write_segment.ensures in
    let late = c.args.all.now.late.number in
    let next = c.args.all.now.next_double in
    let s = c.saturating_sub-group.result / 128 in
    let left = placed_most c.write_segment.new.log c.write_segment.new.double.number in
    let kept = placed_most c.write_segment.new.log c.write_segment.new.triple.number in
    let known_next : IsKnown c.write_segment.new.sectors c.take_next.new.double.number = elim (cases_eq (double_of (s + 1)) (double_of s)) [
      | inl same ↦ subst (λ (x : PointerSector). IsKnown c.write_segment.new.sectors x.number) (sym (c.take_next.ensures.same same)) two.known.0
      | inr other ↦ subst (IsKnown c.write_segment.new.sectors) (sym (c.take_next.ensures.next other).0) (λ some. two.keeps next.number (one.keeps next.number (c.requires.known.next_double some)))
    ] in
    record {
      can = record {
        after_log = subst (λ (n : ℕ). FIRST_AFTER_LOG ≤ n) (sym (two.range.first ∙ one.range.first)) c.requires.can.after_log;
        there = omega (arith, c.requires.can.there, one.range.end, two.range.end, one.puts.sectors, two.puts.sectors);
        working = two.puts.failed ∙ one.puts.failed ∙ c.requires.can.working;
      };
      room = omega (arith, c.requires.room, c.requires.few, one.room, two.room, left, kept, c.min.ensures, c.max.ensures, c.min-2.ensures);
      listed = record {
        starts = omega arith;
        ends = omega (arith, c.requires.few, c.saturating_sub-group.ensures);
        last = omega (arith, c.requires.last);
      };
      touched = record {
        first = omega (arith, c.requires.touched.first, c.saturating_sub-group.ensures);
        last = omega (arith, c.requires.touched.last);
        small = c.requires.touched.small;
      };
      known = (λ some. two.keeps late (one.keeps late (c.requires.known.late some)), known_next, two.known.1);
    }

pub take_next-requires : goal.take_next-requires
take_next-requires g c = omega (arith, c.requires.some, c.requires.last, c.saturating_sub-group.ensures)
