use Rattle.std.proofs.Common.{◌∙◌, ℕ, Option, MatchOption, sym, subst}
use Rattle.std.proofs.lemmas.Bool.{false≢true}
use Rattle.vol_dirs.specs.Names.{Names}
use Rattle.vol_inode.specs.Entry.{name_of}
use Rattle.vol_dirs.proofs.Lookups.{different}
use Rattle.vol_tree.proofs.reading.is_placed.Goals as goal

pub returns-in-Ok-Some-clause-yes : goal.returns-in-Ok-Some-clause-yes
returns-in-Ok-Some-clause-yes g c test = absurd (false≢true test)

pub returns-in-Ok-Some-clause-no : goal.returns-in-Ok-Some-clause-no
returns-in-Ok-Some-clause-no g c placed =
    let e = c.args.entry.now in
    let dirs = c.args.dirs.now in
    let found = subst (λ (o : Option ℕ). MatchOption o ((s : ℕ) → Names dirs e.parent (name_of e) s → ⊥) (λ s. Names dirs e.parent (name_of e) s)) c.in-Ok-Some.field-0-is (rw c.new.ensures at c.in-Ok-Some.ensures.found) in
    absurd (placed.first c.if-entry-eq0.false c.in-Ok-Some.field-0-0 found)

pub returns-in-Ok-None-clause-yes : goal.returns-in-Ok-None-clause-yes
returns-in-Ok-None-clause-yes g c test =
    let e = c.args.entry.now in
    let dirs = c.args.dirs.now in
    let none = subst (λ (o : Option ℕ). MatchOption o ((s : ℕ) → Names dirs e.parent (name_of e) s → ⊥) (λ s. Names dirs e.parent (name_of e) s)) c.in-Ok-None.field-0-is (rw c.new.ensures at c.in-Ok-None.ensures.found) in
    record {
      top = λ is. absurd (different c.args.serial 1 (sym c.eq-is_root.ensures ∙ c.if-is_root.false) is);
      below = λ other. c.if-entry-eq0.false;
      first = λ some. none;
    }
