use Rattle.std.proofs.Common.{inl, inr, arith}
use Rattle.vol_dirs.proofs.Shown.{shown_alone}
use Rattle.vol_dirs.proofs.dirs.Dirs.of_root.Goals as goal

pub hold-requires-clause-free : goal.hold-requires-clause-free
hold-requires-clause-free c = c.in_ok-dirs.ensures.free _

pub returns-clause-shows : goal.returns-clause-shows
returns-clause-shows c version image right first others =
    let free = c.in_ok-dirs.ensures.free in
    let names = c.hold.ensures.names in
    shown_alone version image c.args.slots c.args.root.now c.hold.new.self right c.requires.some first others
    (λ p n t held. elim ((names p n t).0 held) [ inl old ↦ absurd (free t p n old) | inr that ↦ that ])
    (λ p n t that. (names p n t).1 (inr that))
    (c.hold.ensures.seats 1 (omega arith))
