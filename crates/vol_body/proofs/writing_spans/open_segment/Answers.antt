use Rattle.std.proofs.Common.{◌≡◌, ◌≢◌, ◌⊎◌, inl, inr, ◌<◌, ◌≤◌, ◌+◌, ◌*◌, ◌/◌, ◌%◌, true, ◌-◌, ℕ, List, replicate, refl, ◌∙◌, sym, ap, subst, arith}
use Rattle.vol_log.specs.Log.{view}
use Rattle.vol_log.specs.declared.layout.TheConstants.{FIRST_AFTER_LOG}
use Rattle.vol_alloc.specs.Alloc.{taken_of}
use Rattle.vol_inode.specs.Space.{blocks_for_size}
use Rattle.vol_body.specs.Body.{BlockPosition, indirect_block, inner_block, double_indirect_block, triple_indirect_block}
use Rattle.vol_body.specs.internal.Writing.{AddsSector, IsMissing, IsAbove, staged_count, Mirrors, segment, double_of}
use Rattle.vol_body.proofs.Added.{mirror_stays}
use Rattle.vol_body.proofs.Loads.{segment_later}
use Rattle.vol_body.proofs.Steps.{puts_then, range_then, placed_stays, blank_zeros, held_zeros, changes_wider, changes_then, placed_most}
use Rattle.vol_body.proofs.writing_spans.open_segment.Goals as goal
use Rattle.vol_body.proofs.writing_spans.open_segment.Goals.{else-above-eq0-via-then-above-eq0+else-double-ne0, else-above-eq0-via-else-above-eq0}

-- what is opened before the pointer sector itself
above_it : (g d : ℕ) (p : BlockPosition) → d ≡ double_of g → (p ≡ double_indirect_block d) ⊎ (p ≡ triple_indirect_block) → IsAbove g p
above_it g d p is (inl same) = inr (inl (same ∙ ap double_indirect_block is))
above_it g d p is (inr same) = inr (inr same)

-- what lists it, and itself
listed_by : (g d : ℕ) (q p : BlockPosition) → d ≡ double_of g → q ≡ segment g → (p ≡ q) ⊎ (p ≡ double_indirect_block d) → IsAbove g p
listed_by g d q p is at (inl same) = inl (same ∙ at)
listed_by g d q p is at (inr same) = inr (inl (same ∙ ap double_indirect_block is))

inner_apart : (i d : ℕ) → (inner_block i ≡ double_indirect_block d) ⊎ (inner_block i ≡ triple_indirect_block) → ⊥
inner_apart i d (inl is) = cc
inner_apart i d (inr is) = cc

triple_apart : (i d : ℕ) → (triple_indirect_block ≡ inner_block i) ⊎ (triple_indirect_block ≡ double_indirect_block d) → ⊥
triple_apart i d (inl is) = cc
triple_apart i d (inr is) = cc

pub open_pointer-requires : goal.open_pointer-requires
open_pointer-requires g c =
    let most = placed_most c.args.log.now c.args.double.now.number in
    let more = placed_most c.args.log.now c.args.triple.now.number in
    record {
      pointer = omega arith;
      can = c.requires.can;
      room = omega (arith, c.requires.room, most, more);
      known = c.requires.known.0;
    }

pub open_double-requires : goal.open_double-requires
open_double-requires g c =
    let most = placed_most c.args.log.now c.args.double.now.number in
    record {
      place = omega (arith, c.requires.place, c.double_of.ensures);
      can = c.requires.can;
      room = omega (arith, c.requires.room, most);
      known = (c.requires.known.1, c.requires.known.2);
    }

pub add_number-above-requires : goal.add_number-above-requires
add_number-above-requires g c =
    let most = placed_most c.open_double.new.log c.open_double.new.double.number in
    let more = placed_most c.open_double.new.log c.open_double.new.triple.number in
    let e = c.open_double.ensures in
    record {
      place = omega arith;
      can = record {
        after_log = subst (λ (n : ℕ). FIRST_AFTER_LOG ≤ n) (sym e.range.first) c.requires.can.after_log;
        there = omega (arith, c.requires.can.there, e.range.end, e.puts.sectors);
        working = e.puts.failed ∙ c.requires.can.working;
      };
      known = e.known c.if-double-ne0.true;
      room = omega (arith, c.requires.room, e.room, most, more);
    }

pub returns-then-group-eq0 : goal.returns-then-group-eq0
returns-then-group-eq0 g c =
    let one = c.open_pointer.ensures in
    let double = c.args.double.now in
    let triple = c.args.triple.now in
    let double_stays = placed_stays c.args.log.now c.open_pointer.new.log double.number (one.puts.staged double.number) in
    let triple_stays = placed_stays c.args.log.now c.open_pointer.new.log triple.number (one.puts.staged triple.number) in
    record {
      opened = λ ready serves mirror mirror_double mirror_triple.
          let a = c.args.sectors.now in
          let b = c.open_pointer.new.sectors in
          let c0 = view c.args.log.now in
          let c1 = view c.open_pointer.new.log in
          let e0 = c.args.entry.now in
          let e1 = c.open_pointer.new.entry in
          let above = c.args.above.now in
          let new = c.open_pointer.new.above in
          let s = c.args.group in
          let is : segment s ≡ indirect_block = ap segment c.if-group-eq0.true in
          let adds = c.open_pointer.ensures.opened indirect_block refl (omega arith) ready (omega (arith, serves, c.if-group-eq0.true)) (subst (λ (p : BlockPosition). Mirrors c0 e0 p above.number above.image) is mirror) in (
            record {
              changes = changes_wider a b c0 c1 e0 e1 (λ x. x ≡ indirect_block) (IsAbove s) (λ x same. inl (same ∙ sym is)) adds.changes;
              mirror = subst (λ (p : BlockPosition). Mirrors c1 e1 p new.number new.image) (sym is) adds.mirror;
              some = adds.some;
            },
            λ held. mirror_stays c0 c1 e0 e1 (double_indirect_block (double_of s)) double.number double.image (adds.changes.stays (double_indirect_block (double_of s)) (omega (arith, c.if-group-eq0.true)) (λ same. cc)) held,
            λ held. mirror_stays c0 c1 e0 e1 triple_indirect_block triple.number triple.image (adds.changes.stays triple_indirect_block tt (λ same. cc)) held,
          );
      known = (one.known, λ some. one.keeps double.number (c.requires.known.1 some), λ some. one.keeps triple.number (c.requires.known.2 some));
      keeps = one.keeps;
      entry = one.entry;
      room = omega (arith, one.room, double_stays, triple_stays);
      puts = one.puts;
      range = one.range;
    }

pub returns-then-double-ne0 : goal.returns-then-double-ne0
returns-then-double-ne0 g c =
    let log0 = c.args.log.now in
    let log1 = c.open_double.new.log in
    let log2 = c.add_number-above.new.log in
    let one = c.open_double.ensures in
    let two = c.add_number-above.ensures in
    let number = c.open_double.new.double.number in
    let triple = c.open_double.new.triple in
    let none = ap (staged_count log0) c.if-above-eq0.true in
    let same = ap (staged_count log2) two.number in
    let triple_stays = placed_stays log1 log2 triple.number (two.puts.staged triple.number) in
    record {
      opened = λ ready serves mirror mirror_double mirror_triple.
          let a = c.args.sectors.now in
          let b = c.open_double.new.sectors in
          let d = c.add_number-above.new.sectors in
          let c0 = view c.args.log.now in
          let c1 = view c.open_double.new.log in
          let c2 = view c.add_number-above.new.log in
          let e0 = c.args.entry.now in
          let e1 = c.open_double.new.entry in
          let above = c.args.above.now in
          let double = c.args.double.now in
          let new_double = c.add_number-above.new.above in
          let s = c.args.group in
          let i = s - 1 in
          let p = inner_block i in
          let k = c.double_of.result in
          let is_k : k ≡ double_of s = c.double_of.ensures in
          let some_group : 1 ≤ s = omega (arith, c.if-group-eq0.false) in
          let below : i < 16512 = omega (arith, c.requires.place, some_group) in
          let k_below : k < 129 = omega (arith, c.requires.place, is_k) in
          let is : segment s ≡ p = segment_later s c.if-group-eq0.false in
          let here : Mirrors c0 e0 p above.number above.image = subst (λ (q : BlockPosition). Mirrors c0 e0 q above.number above.image) is mirror in
          let opened = one.opened ready (omega (arith, serves, some_group, is_k)) (subst (λ (x : ℕ). Mirrors c0 e0 (double_indirect_block x) double.number double.image) (sym is_k) (mirror_double some_group))
          (λ later. mirror_triple (omega (arith, later, is_k))) in
          let top = opened.0 in
          let still : Mirrors c1 e1 p above.number above.image = mirror_stays c0 c1 e0 e1 p above.number above.image (top.changes.stays p below (λ touched. inner_apart i k touched)) here in
          let size : blocks_for_size e1.size ≡ blocks_for_size e0.size = ap blocks_for_size top.changes.size in
          let missing : IsMissing b c1 e1 p = record { ready = top.changes.ready; none = sym still.names ∙ c.if-above-eq0.true; serves = omega (arith, serves, size, some_group) } in
          let zeros : above.image ≡ replicate 512 0 = held_zeros c1 e1 p above.number above.image still c.if-above-eq0.true in
          let added = c.add_number-above.ensures.added e1 (double_indirect_block k) p (omega (arith, is_k)) k_below below (blank_zeros p) missing top.mirror in
          let changes = changes_then a b d c0 c1 c2 e0 e1 e1 (λ x. (x ≡ double_indirect_block k) ⊎ (x ≡ triple_indirect_block)) (λ x. (x ≡ p) ⊎ (x ≡ double_indirect_block k)) (IsAbove s) c.requires.can.after_log one.range two.range
          (λ x touched. above_it s k x is_k touched) (λ x touched. listed_by s k p x is_k (sym is) touched) top.changes added.0.changes in (
            record {
              changes = changes;
              mirror = subst (λ (q : BlockPosition). Mirrors c2 e1 q c.add_number-above.result above.image) (sym is) (subst (λ (image : List ℕ). Mirrors c2 e1 p c.add_number-above.result image) (sym zeros) added.0.mirror);
              some = added.0.some;
            },
            λ held. subst (λ (x : ℕ). Mirrors c2 e1 (double_indirect_block x) new_double.number new_double.image) is_k added.1,
            λ held. mirror_stays c1 c2 e1 e1 triple_indirect_block triple.number triple.image (added.0.changes.stays triple_indirect_block tt (λ touched. triple_apart i k touched)) (opened.1 held),
          );
      known = (
        two.known,
        λ some. subst (λ (n : ℕ). taken_of c.add_number-above.new.sectors n ≡ true) (sym two.number) (two.keeps number (one.known c.if-double-ne0.true)),
        λ some. two.keeps triple.number (one.known_triple some),
      );
      keeps = λ n is. two.keeps n (one.keeps n is);
      entry = one.entry;
      room = omega (arith, one.room, two.room, same, none, triple_stays);
      puts = puts_then log0 log1 log2 one.puts two.puts;
      range = range_then c.args.sectors.now c.open_double.new.sectors c.add_number-above.new.sectors one.range two.range;
    }

pub returns-else-above-eq0 : goal.returns-else-above-eq0
returns-else-above-eq0 g c =
    let one = c.open_double.ensures in
    let above_number = c.args.above.now.number in
    let stays = placed_stays c.args.log.now c.open_double.new.log above_number (one.puts.staged above_number) in
    record {
      opened = λ ready serves mirror mirror_double mirror_triple.
          let a = c.args.sectors.now in
          let b = c.open_double.new.sectors in
          let c0 = view c.args.log.now in
          let c1 = view c.open_double.new.log in
          let e0 = c.args.entry.now in
          let e1 = c.open_double.new.entry in
          let above = c.args.above.now in
          let double = c.args.double.now in
          let new_double = c.open_double.new.double in
          let s = c.args.group in
          let i = s - 1 in
          let p = inner_block i in
          let k = c.double_of.result in
          let is_k : k ≡ double_of s = c.double_of.ensures in
          let some_group : 1 ≤ s = omega (arith, c.if-group-eq0.false) in
          let below : i < 16512 = omega (arith, c.requires.place, some_group) in
          let is : segment s ≡ p = segment_later s c.if-group-eq0.false in
          let here : Mirrors c0 e0 p above.number above.image = subst (λ (q : BlockPosition). Mirrors c0 e0 q above.number above.image) is mirror in
          let opened = one.opened ready (omega (arith, serves, some_group, is_k)) (subst (λ (x : ℕ). Mirrors c0 e0 (double_indirect_block x) double.number double.image) (sym is_k) (mirror_double some_group))
          (λ later. mirror_triple (omega (arith, later, is_k))) in
          let top = opened.0 in
          let still : Mirrors c1 e1 p above.number above.image = mirror_stays c0 c1 e0 e1 p above.number above.image (top.changes.stays p below (λ touched. inner_apart i k touched)) here in
          let some : above.number ≢ 0 = λ zero. elim c.else-above-eq0.branch [
            | else-above-eq0-via-then-above-eq0+else-double-ne0 w ↦ top.some w.if-double-ne0.false
            | else-above-eq0-via-else-above-eq0 w ↦ w.if-above-eq0.false zero
          ] in (
            record {
              changes = changes_wider a b c0 c1 e0 e1 (λ x. (x ≡ double_indirect_block k) ⊎ (x ≡ triple_indirect_block)) (IsAbove s) (λ x touched. above_it s k x is_k touched) top.changes;
              mirror = subst (λ (q : BlockPosition). Mirrors c1 e1 q above.number above.image) (sym is) still;
              some = some;
            },
            λ held. subst (λ (x : ℕ). Mirrors c1 e1 (double_indirect_block x) new_double.number new_double.image) is_k top.mirror,
            opened.1,
          );
      known = (λ some. one.keeps above_number (c.requires.known.0 some), one.known, one.known_triple);
      keeps = one.keeps;
      entry = one.entry;
      room = omega (arith, one.room, stays);
      puts = one.puts;
      range = one.range;
    }
