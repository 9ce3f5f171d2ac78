use Rattle.std.proofs.Common.{◌-◌, ◌/◌, ◌∙◌, ℕ, get_or, sym, subst, arith}
use Rattle.vol_alloc.specs.Alloc.{taken_of}
use Rattle.vol_body.specs.Body.{data_block}
use Rattle.vol_body.specs.internal.Writing.{Mirrors, segment}
use Rattle.vol_body.proofs.Places.{part_direct, known_at}
use Rattle.vol_body.proofs.Loads.{listed_in_group}
use Rattle.vol_body.proofs.holding.held_sector.Goals as goal

pub returns-then-j-lt-DIRECT-clause-number : goal.returns-then-j-lt-DIRECT-clause-number
returns-then-j-lt-DIRECT-clause-number c content last le names is_held =
    let e = c.args.entry.now in
    c.taken_or_zero.ensures ∙ known_at (taken_of c.args.sectors.now) content e names (data_block c.args.j) c.requires.place (get_or e.pointers c.args.j 0) (sym (part_direct content e c.args.j c.if-j-lt-DIRECT.true))

pub returns-clause-number : goal.returns-clause-number
returns-clause-number c content last le names is_held =
    let e = c.args.entry.now in
    let j = c.args.j in
    let above = c.args.held.now.above in
    c.listed_sector.ensures.number content e (segment ((j - 58) / 128)) j (listed_in_group j c.if-j-lt-DIRECT.false) c.requires.place names
    (subst (λ (g : ℕ). Mirrors content e (segment g) above.number above.image) c.requires.group (is_held.above (omega (arith, le, c.requires.group, c.if-j-lt-DIRECT.false))))
