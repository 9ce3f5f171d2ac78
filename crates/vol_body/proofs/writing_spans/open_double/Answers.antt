use Rattle.std.proofs.Common.{◌≡◌, ◌≢◌, ◌⊎◌, inl, inr, ◌<◌, ◌≤◌, true, ◌-◌, ℕ, List, replicate, refl, ◌∙◌, sym, ap, subst, arith}
use Rattle.vol_log.specs.Log.{view}
use Rattle.vol_log.specs.declared.layout.TheConstants.{FIRST_AFTER_LOG}
use Rattle.vol_alloc.specs.Alloc.{taken_of}
use Rattle.vol_inode.specs.Space.{blocks_for_size}
use Rattle.vol_body.specs.Body.{BlockPosition, double_indirect_block, triple_indirect_block}
use Rattle.vol_body.specs.internal.Writing.{AddsSector, IsMissing, staged_count, Mirrors}
use Rattle.vol_body.proofs.Added.{mirror_stays}
use Rattle.vol_body.proofs.Steps.{puts_then, range_then, placed_stays, blank_zeros, held_zeros, changes_wider, changes_then, placed_most}
use Rattle.vol_body.proofs.writing_spans.open_double.Goals as goal
use Rattle.vol_body.proofs.writing_spans.open_double.Goals.{else-double-eq0-via-then-double-eq0+else-triple-ne0, else-double-eq0-via-else-double-eq0}

pub open_pointer-requires : goal.open_pointer-requires
open_pointer-requires g c =
    let most = placed_most c.args.log.now c.args.triple.now.number in
    record {
      pointer = omega arith;
      can = c.requires.can;
      room = omega (arith, c.requires.room, most);
      known = c.requires.known.0;
    }

pub open_pointer-requires-2 : goal.open_pointer-requires-2
open_pointer-requires-2 g c =
    let most = placed_most c.args.log.now c.args.triple.now.number in
    record {
      pointer = omega arith;
      can = c.requires.can;
      room = omega (arith, c.requires.room, most);
      known = c.requires.known.1;
    }

pub add_number-double-requires : goal.add_number-double-requires
add_number-double-requires g c =
    let most = placed_most c.open_pointer-2.new.log c.open_pointer-2.new.above.number in
    let e = c.open_pointer-2.ensures in
    record {
      place = omega (arith, c.requires.place, c.if-d-eq0.false);
      can = record {
        after_log = subst (λ (n : ℕ). FIRST_AFTER_LOG ≤ n) (sym e.range.first) c.requires.can.after_log;
        there = omega (arith, c.requires.can.there, e.range.end, e.puts.sectors);
        working = e.puts.failed ∙ c.requires.can.working;
      };
      known = e.known c.if-triple-ne0.true;
      room = omega (arith, c.requires.room, e.room, most);
    }

pub returns-then-d-eq0 : goal.returns-then-d-eq0
returns-then-d-eq0 g c =
    let one = c.open_pointer.ensures in
    let triple_number = c.args.triple.now.number in
    let stays = placed_stays c.args.log.now c.open_pointer.new.log triple_number (one.puts.staged triple_number) in
    record {
      opened = λ ready serves mirror mirror_triple.
          let a = c.args.sectors.now in
          let b = c.open_pointer.new.sectors in
          let c0 = view c.args.log.now in
          let c1 = view c.open_pointer.new.log in
          let e0 = c.args.entry.now in
          let e1 = c.open_pointer.new.entry in
          let above = c.args.double.now in
          let new = c.open_pointer.new.above in
          let all = c.args.triple.now in
          let is : double_indirect_block c.args.d ≡ double_indirect_block 0 = ap double_indirect_block c.if-d-eq0.true in
          let adds = c.open_pointer.ensures.opened (double_indirect_block 0) (refl, refl) (omega arith) ready (omega (arith, serves, c.if-d-eq0.true)) (subst (λ (p : BlockPosition). Mirrors c0 e0 p above.number above.image) is mirror) in
          let B = λ (p : BlockPosition). AddsSector a b c0 c1 e0 e1 (λ x. (x ≡ p) ⊎ (x ≡ triple_indirect_block)) p new.number new.image × (Mirrors c0 e0 triple_indirect_block all.number all.image → Mirrors c1 e1 triple_indirect_block all.number all.image) in
          subst B (sym is) (
            record { changes = changes_wider a b c0 c1 e0 e1 (λ x. x ≡ double_indirect_block 0) (λ x. (x ≡ double_indirect_block 0) ⊎ (x ≡ triple_indirect_block)) (λ x same. inl same) adds.changes; mirror = adds.mirror; some = adds.some },
            λ held. mirror_stays c0 c1 e0 e1 triple_indirect_block all.number all.image (adds.changes.stays triple_indirect_block tt (λ same. cc)) held,
          );
      known = one.known;
      known_triple = λ some. one.keeps triple_number (c.requires.known.1 some);
      keeps = one.keeps;
      entry = one.entry;
      room = omega (arith, one.room, stays);
      puts = one.puts;
      range = one.range;
    }

pub returns-then-triple-ne0 : goal.returns-then-triple-ne0
returns-then-triple-ne0 g c =
    let log0 = c.args.log.now in
    let log1 = c.open_pointer-2.new.log in
    let log2 = c.add_number-double.new.log in
    let one = c.open_pointer-2.ensures in
    let two = c.add_number-double.ensures in
    let number = c.open_pointer-2.new.above.number in
    let none = ap (staged_count log0) c.if-double-eq0.true in
    let same = ap (staged_count log2) two.number in
    record {
      opened = λ ready serves mirror mirror_triple.
          let a = c.args.sectors.now in
          let b = c.open_pointer-2.new.sectors in
          let d = c.add_number-double.new.sectors in
          let c0 = view c.args.log.now in
          let c1 = view c.open_pointer-2.new.log in
          let c2 = view c.add_number-double.new.log in
          let e0 = c.args.entry.now in
          let e1 = c.open_pointer-2.new.entry in
          let above = c.args.double.now in
          let all = c.args.triple.now in
          let new_triple = c.add_number-double.new.above in
          let p = double_indirect_block c.args.d in
          let below = c.requires.place in
          let here = mirror in
          let top = c.open_pointer-2.ensures.opened triple_indirect_block refl (omega arith) ready (omega (arith, serves, c.if-d-eq0.false)) (mirror_triple (omega (arith, c.if-d-eq0.false))) in
          let still : Mirrors c1 e1 p above.number above.image = mirror_stays c0 c1 e0 e1 p above.number above.image (top.changes.stays p below (λ same. cc)) here in
          let size : blocks_for_size e1.size ≡ blocks_for_size e0.size = ap blocks_for_size top.changes.size in
          let missing : IsMissing b c1 e1 p = record { ready = top.changes.ready; none = sym still.names ∙ c.if-double-eq0.true; serves = omega (arith, serves, size, c.if-d-eq0.false) } in
          let zeros : above.image ≡ replicate 512 0 = held_zeros c1 e1 p above.number above.image still c.if-double-eq0.true in
          let added = c.add_number-double.ensures.added e1 triple_indirect_block p (omega (arith, c.if-d-eq0.false)) tt below (blank_zeros p) missing top.mirror in
          let changes = changes_then a b d c0 c1 c2 e0 e1 e1 (λ x. x ≡ triple_indirect_block) (λ x. (x ≡ p) ⊎ (x ≡ triple_indirect_block)) (λ x. (x ≡ p) ⊎ (x ≡ triple_indirect_block)) c.requires.can.after_log c.open_pointer-2.ensures.range c.add_number-double.ensures.range
          (λ x same. inr same) (λ x touched. touched) top.changes added.0.changes in (
            record { changes = changes; mirror = subst (λ (image : List ℕ). Mirrors c2 e1 p c.add_number-double.result image) (sym zeros) added.0.mirror; some = added.0.some },
            λ held. added.1,
          );
      known = two.known;
      known_triple = λ some. subst (λ (n : ℕ). taken_of c.add_number-double.new.sectors n ≡ true) (sym two.number) (two.keeps number (one.known c.if-triple-ne0.true));
      keeps = λ n is. two.keeps n (one.keeps n is);
      entry = one.entry;
      room = omega (arith, one.room, two.room, same, none);
      puts = puts_then log0 log1 log2 one.puts two.puts;
      range = range_then c.args.sectors.now c.open_pointer-2.new.sectors c.add_number-double.new.sectors one.range two.range;
    }

pub returns-else-double-eq0 : goal.returns-else-double-eq0
returns-else-double-eq0 g c =
    let one = c.open_pointer-2.ensures in
    let double_number = c.args.double.now.number in
    let stays = placed_stays c.args.log.now c.open_pointer-2.new.log double_number (one.puts.staged double_number) in
    record {
      opened = λ ready serves mirror mirror_triple.
          let a = c.args.sectors.now in
          let b = c.open_pointer-2.new.sectors in
          let c0 = view c.args.log.now in
          let c1 = view c.open_pointer-2.new.log in
          let e0 = c.args.entry.now in
          let e1 = c.open_pointer-2.new.entry in
          let above = c.args.double.now in
          let all = c.args.triple.now in
          let new_triple = c.open_pointer-2.new.above in
          let p = double_indirect_block c.args.d in
          let below = c.requires.place in
          let here = mirror in
          let top = c.open_pointer-2.ensures.opened triple_indirect_block refl (omega arith) ready (omega (arith, serves, c.if-d-eq0.false)) (mirror_triple (omega (arith, c.if-d-eq0.false))) in
          let still : Mirrors c1 e1 p above.number above.image = mirror_stays c0 c1 e0 e1 p above.number above.image (top.changes.stays p below (λ same. cc)) here in
          let some : above.number ≢ 0 = λ zero. elim c.else-double-eq0.branch [
            | else-double-eq0-via-then-double-eq0+else-triple-ne0 w ↦ top.some w.if-triple-ne0.false
            | else-double-eq0-via-else-double-eq0 w ↦ w.if-double-eq0.false zero
          ] in (
            record { changes = changes_wider a b c0 c1 e0 e1 (λ x. x ≡ triple_indirect_block) (λ x. (x ≡ p) ⊎ (x ≡ triple_indirect_block)) (λ x same. inr same) top.changes; mirror = still; some = some },
            λ held. top.mirror,
          );
      known = λ some. one.keeps double_number (c.requires.known.0 some);
      known_triple = one.known;
      keeps = one.keeps;
      entry = one.entry;
      room = omega (arith, one.room, stays);
      puts = one.puts;
      range = one.range;
    }
