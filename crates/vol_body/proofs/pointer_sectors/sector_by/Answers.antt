use Rattle.std.proofs.Common.{◌≡◌, ◌+◌, ◌-◌, ◌/◌, ◌∙◌, ℕ, get_or, sym, ap, subst, arith}
use Rattle.vol_alloc.specs.Alloc.{taken_of}
use Rattle.vol_body.specs.Body.{data_block}
use Rattle.vol_body.specs.internal.Writing.{Mirrors, segment, segment_of}
use Rattle.vol_body.proofs.Places.{part_direct, known_at}
use Rattle.vol_body.proofs.Loads.{listed_in_group}
use Rattle.vol_body.proofs.pointer_sectors.sector_by.Goals as goal

pub returns-then-j-lt-DIRECT-clause-number : goal.returns-then-j-lt-DIRECT-clause-number
returns-then-j-lt-DIRECT-clause-number c content last le names mirrors =
    let e = c.args.entry.now in
    c.taken_or_zero.ensures ∙ known_at (taken_of c.args.sectors.now) content e names (data_block c.args.j) c.requires.place (get_or e.pointers c.args.j 0) (sym (part_direct content e c.args.j c.if-j-lt-DIRECT.true))

pub returns-then-group-saturating_sub-clause-number : goal.returns-then-group-saturating_sub-clause-number
returns-then-group-saturating_sub-clause-number c content last le names mirrors =
    let e = c.args.entry.now in
    let early = c.args.all.now.early in
    let first : c.saturating_sub.result / 128 ≡ segment_of c.args.first = ap (λ (x : ℕ). x / 128) c.saturating_sub.ensures in
    let group : (c.args.j - 58) / 128 ≡ segment_of c.args.first = c.if-group-saturating_sub.true ∙ first in
    c.listed_sector.ensures.number content e (segment ((c.args.j - 58) / 128)) c.args.j (listed_in_group c.args.j c.if-j-lt-DIRECT.false) c.requires.place names
    (subst (λ (g : ℕ). Mirrors content e (segment g) early.number early.image) (sym group) (mirrors.early (omega (arith, le, group, c.if-j-lt-DIRECT.false))))

pub returns-clause-number : goal.returns-clause-number
returns-clause-number c content last le names mirrors =
    let e = c.args.entry.now in
    let late = c.args.all.now.late in
    let first : c.saturating_sub.result / 128 ≡ (c.args.first - 58) / 128 = ap (λ (x : ℕ). x / 128) c.saturating_sub.ensures in
    let group : (c.args.j - 58) / 128 ≡ segment_of c.args.first + 1 = omega (arith, first, c.if-group-saturating_sub.false, c.if-j-lt-DIRECT.false, c.requires.from, c.requires.near) in
    c.listed_sector-2.ensures.number content e (segment ((c.args.j - 58) / 128)) c.args.j (listed_in_group c.args.j c.if-j-lt-DIRECT.false) c.requires.place names
    (subst (λ (g : ℕ). Mirrors content e (segment g) late.number late.image) (sym group) (mirrors.late (omega (arith, le, group, c.if-j-lt-DIRECT.false))))
