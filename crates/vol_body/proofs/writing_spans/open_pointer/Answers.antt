use Rattle.std.proofs.Common.{◌≡◌, ℕ, List, replicate, refl, ◌∙◌, sym, ap, subst, arith}
use Rattle.vol_log.specs.Log.{view}
use Rattle.vol_body.specs.internal.Writing.{AddsSector, IsMissing, staged_count}
use Rattle.vol_body.proofs.Steps.{puts_none, changes_none, blank_zeros, held_zeros}
use Rattle.vol_body.proofs.writing_spans.open_pointer.Goals as goal

pub returns-then-above-eq0 : goal.returns-then-above-eq0
returns-then-above-eq0 g c =
    let done = c.add_pointer-above.ensures in
    let none = ap (staged_count c.args.log.now) c.if-above-eq0.true in
    record {
      opened = λ p at pointer ready serves mirror.
          let content = view c.args.log.now in
          let e = c.args.entry.now in
          let above = c.args.above.now in
          let missing : IsMissing c.args.sectors.now content e p = record { ready = ready; none = sym mirror.names ∙ c.if-above-eq0.true; serves = serves } in
          let zeros : above.image ≡ replicate 512 0 = held_zeros content e p above.number above.image mirror c.if-above-eq0.true in
          subst (λ (image : List ℕ). AddsSector c.args.sectors.now c.add_pointer-above.new.sectors content (view c.add_pointer-above.new.log) e c.add_pointer-above.new.entry (λ q. q ≡ p) p c.add_pointer-above.result image) (sym zeros)
          (c.add_pointer-above.ensures.added p at (blank_zeros p) missing);
      known = done.known;
      keeps = done.keeps;
      entry = done.entry;
      room = omega (arith, done.room, none);
      puts = done.puts;
      range = done.range;
    }

pub returns-else-above-eq0 : goal.returns-else-above-eq0
returns-else-above-eq0 g c = record {
  opened = λ p at pointer ready serves mirror. record { changes = changes_none c.args.sectors.now (view c.args.log.now) c.args.entry.now (λ q. q ≡ p) ready; mirror = mirror; some = c.if-above-eq0.false };
  known = c.requires.known;
  keeps = λ n is. is;
  entry = refl;
  room = omega arith;
  puts = puts_none c.args.log.now;
  range = record { first = refl; end = refl };
}

pub add_pointer-above-requires : goal.add_pointer-above-requires
add_pointer-above-requires g c = record { pointer = c.requires.pointer; can = c.requires.can; room = c.requires.room }
