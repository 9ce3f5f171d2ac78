use Rattle.std.proofs.Common.{MatchOption, ◌≡◌, ◌∙◌, ◌≤◌, ℕ, Bool, true, inl, inr, length, Some, None, Option, Ok, false, sym, ap, subst, arith}
use Rattle.std.proofs.lemmas.Option.{same_Some}
use Rattle.vol_log.specs.Log.{view}
use Rattle.vol_dirs.specs.Names.{Names, slots_of}
use Rattle.vol_dirs.proofs.Lookups.{equal, different}
use Rattle.vol_tree.specs.declared.superblock.Superblock.{Superblock}
use Rattle.vol_tree.specs.declared.errno.Errno.TheVariants as errno
use Rattle.vol_tree.specs.Tree.{Tree, lookup}
use Rattle.vol_tree.specs.Calls.{moved, moved_onto, with_unit, is_within}
use Rattle.vol_tree.specs.Clauses.{tree_in}
use Rattle.vol_tree.specs.internal.Moves.{MovesToName, MovesIn}
use Rattle.vol_tree.proofs.Committing.{no_commit}
use Rattle.vol_tree.proofs.Changing.{no_reads, refused, refused_io}
use Rattle.vol_tree.proofs.Climbing.{onto_itself, renamed_root, renamed_within, renamed_free, renamed_onto, may_move_in, may_move}
use Rattle.vol_tree.proofs.Finding.{looks_up}
use Rattle.vol_tree.proofs.Taking.{changes_after, done_nothing, refused_by}
use Rattle.vol_tree.proofs.parts.Parts.rename.Goals as goal

-- ---- before it moves

pub lookup-requires : goal.lookup-requires
lookup-requires g c = c.requires.name

pub returns-in_err-target : goal.returns-in_err-target
returns-in_err-target g c =
    let old = c.args.self.now in
    refused_io _ old old c.from_residual.result c.from_residual.ensures.1 (no_commit old true c.requires.is_open (sym c.in_err-target.ensures.failed))

pub returns-then-eq : goal.returns-then-eq
returns-then-eq g c =
    let old = c.args.self.now in
    refused _ old old errno.Invalid (no_reads old c.requires.is_open (sym c.in_ok-target.ensures.failed)) (λ h.
    inl (ap with_unit (renamed_root (tree_in (view old.log) old.numbers) c.args.serial c.args.parent c.args.name.now (equal c.args.serial 1 (sym c.eq.ensures ∙ c.if-eq.true)))))

pub is_within-requires : goal.is_within-requires
is_within-requires g c = record {
  is_open = c.requires.is_open;
  working = sym c.in_ok-target.ensures.failed;
  serial = let other = different c.args.serial 1 (sym c.eq.ensures ∙ c.if-eq.false) in omega (arith, c.requires.first, other);
  first = c.requires.parent_first;
  last = c.requires.parent_last;
  used = c.requires.directory;
}

pub returns-in_err-is_within : goal.returns-in_err-is_within
returns-in_err-is_within g c =
    let old = c.args.self.now in
    refused_by Bool _ old c.is_within.new.self c.from_residual-in_err-is_within.result c.in_err-is_within.field-0.0 c.from_residual-in_err-is_within.ensures.1 c.in_err-is_within.ensures.reads
    (λ h. inr (c.in_err-is_within.ensures.answer h))

pub returns-then-branch : goal.returns-then-branch
returns-then-branch g c =
    let old = c.args.self.now in
    let T = tree_in (view old.log) old.numbers in
    refused _ old c.is_within.new.self errno.Invalid c.in_ok-is_within.ensures.reads (λ h.
    inl (ap with_unit (renamed_within T c.args.serial c.args.parent c.args.name.now (different c.args.serial 1 (sym c.eq.ensures ∙ c.if-eq.false)) (sym (c.in_ok-is_within.ensures.answer h) ∙ c.if-branch.true))))

-- ---- it moves

pub move_to-requires : goal.move_to-requires
move_to-requires g c =
    let old = c.args.self.now in
    let T = tree_in (view old.log) old.numbers in
    let commits = c.in_ok-is_within.ensures.reads.commits in
    record {
      is_open = commits.is_open;
      first = c.requires.first;
      last = subst (λ (v : Superblock). c.args.serial ≤ v.slots) (sym commits.kept.numbers) c.requires.last;
      parent_first = c.requires.parent_first;
      name = c.requires.name;
      moves = λ h1.
          let h = commits.kept.honest.1 h1 in
          let content = c.requires.is_open.content h in
          let looks = looks_up (view old.log) old.numbers old.dirs content (c.requires.is_open.shows h) c.in_ok-target.target c.args.parent c.args.name.now c.in_ok-target.ensures.found in
          let apart : is_within (length T) T c.args.serial c.args.parent ≡ false = sym (c.in_ok-is_within.ensures.answer h) ∙ c.if-branch.false in
          let into = may_move_in T content.volume.tree c.args.serial c.args.parent (c.requires.used h) (different c.args.serial 1 (sym c.eq.ensures ∙ c.if-eq.false)) (c.requires.directory h) apart in
          let none : lookup T c.args.parent c.args.name.now ≡ None = sym looks ∙ c.in-None.is in
          subst (λ (U : Tree). MovesToName U c.args.serial c.args.parent c.args.name.now) (sym (commits.tree h)) (may_move T c.args.serial c.args.parent c.args.name.now into none);
    }

pub move_onto-requires : goal.move_onto-requires
move_onto-requires g c =
    let old = c.args.self.now in
    let T = tree_in (view old.log) old.numbers in
    let commits = c.in_ok-is_within.ensures.reads.commits in
    let dirs = old.dirs in
    let target = c.in-Some-2.target in
    let names : Names dirs c.args.parent c.args.name.now target = subst (λ (o : Option ℕ). MatchOption o ((s : ℕ) → Names dirs c.args.parent c.args.name.now s → ⊥) (λ s. Names dirs c.args.parent c.args.name.now s)) c.in-Some-2.is c.in_ok-target.ensures.found in
    let numbered = dirs.listing.numbered _ target names.held in
    let last : target ≤ slots_of dirs = numbered.1 in
    record {
      is_open = commits.is_open;
      first = c.requires.first;
      last = subst (λ (v : Superblock). c.args.serial ≤ v.slots) (sym commits.kept.numbers) c.requires.last;
      target_first = numbered.0;
      target_last = subst (λ (v : Superblock). target ≤ v.slots) (sym commits.kept.numbers) (omega (arith, last, c.requires.is_open.slots));
      other = λ same. different c.in-Some.target c.args.serial (sym (rw c.in-Some.is at c.if-eq-2.ensures)) (same_Some c.in-Some.target target (sym c.in-Some.is ∙ c.in-Some-2.is) ∙ same);
      parent_first = c.requires.parent_first;
      name = c.requires.name;
      moves = λ h1.
          let h = commits.kept.honest.1 h1 in
          let content = c.requires.is_open.content h in
          let apart : is_within (length T) T c.args.serial c.args.parent ≡ false = sym (c.in_ok-is_within.ensures.answer h) ∙ c.if-branch.false in
          let into = may_move_in T content.volume.tree c.args.serial c.args.parent (c.requires.used h) (different c.args.serial 1 (sym c.eq.ensures ∙ c.if-eq.false)) (c.requires.directory h) apart in
          subst (λ (U : Tree). MovesIn U c.args.serial c.args.parent) (sym (commits.tree h)) into;
      there = λ h1.
          let h = commits.kept.honest.1 h1 in
          let looks = looks_up (view old.log) old.numbers old.dirs (c.requires.is_open.content h) (c.requires.is_open.shows h) c.in_ok-target.target c.args.parent c.args.name.now c.in_ok-target.ensures.found in
          ap (λ (U : Tree). lookup U c.args.parent c.args.name.now) (commits.tree h) ∙ (sym looks ∙ c.in-Some-2.is);
    }

pub returns-in-None : goal.returns-in-None
returns-in-None g c =
    let old = c.args.self.now in
    let one = c.is_within.new.self in
    let T = tree_in (view old.log) old.numbers in
    let commits = c.in_ok-is_within.ensures.reads.commits in
    changes_after _ _ old one c.move_to.new.self c.move_to.result c.in_ok-is_within.ensures.reads c.move_to.ensures (λ h.
    let content = c.requires.is_open.content h in
    let looks = looks_up (view old.log) old.numbers old.dirs content (c.requires.is_open.shows h) c.in_ok-target.target c.args.parent c.args.name.now c.in_ok-target.ensures.found in
    let apart : is_within (length T) T c.args.serial c.args.parent ≡ false = sym (c.in_ok-is_within.ensures.answer h) ∙ c.if-branch.false in
    let into = may_move_in T content.volume.tree c.args.serial c.args.parent (c.requires.used h) (different c.args.serial 1 (sym c.eq.ensures ∙ c.if-eq.false)) (c.requires.directory h) apart in
    let none : lookup T c.args.parent c.args.name.now ≡ None = sym looks ∙ c.in-None.is in
    ap (λ (U : Tree). with_unit (Ok (moved U c.args.serial c.args.parent c.args.name.now))) (commits.tree h)
    ∙ sym (ap with_unit (renamed_free T c.args.serial c.args.parent c.args.name.now (different c.args.serial 1 (sym c.eq.ensures ∙ c.if-eq.false)) apart none)))

pub returns-in-Some : goal.returns-in-Some
returns-in-Some g c =
    let old = c.args.self.now in
    let one = c.is_within.new.self in
    let T = tree_in (view old.log) old.numbers in
    let commits = c.in_ok-is_within.ensures.reads.commits in
    done_nothing _ old one tt commits (λ h.
    let content = c.requires.is_open.content h in
    let looks = looks_up (view old.log) old.numbers old.dirs content (c.requires.is_open.shows h) c.in_ok-target.target c.args.parent c.args.name.now c.in_ok-target.ensures.found in
    let apart : is_within (length T) T c.args.serial c.args.parent ≡ false = sym (c.in_ok-is_within.ensures.answer h) ∙ c.if-branch.false in
    let into = may_move_in T content.volume.tree c.args.serial c.args.parent (c.requires.used h) (different c.args.serial 1 (sym c.eq.ensures ∙ c.if-eq.false)) (c.requires.directory h) apart in
    let found : lookup T c.args.parent c.args.name.now ≡ Some c.in-Some.target = sym looks ∙ c.in-Some.is in
    ap with_unit (renamed_onto T c.args.serial c.args.parent c.in-Some.target c.args.name.now (different c.args.serial 1 (sym c.eq.ensures ∙ c.if-eq.false)) apart found
    ∙ onto_itself T c.args.serial c.args.parent c.in-Some.target c.args.name.now (equal c.in-Some.target c.args.serial (sym (rw c.in-Some.is at c.if-eq-2.ensures)))))

pub returns-in-Some-2 : goal.returns-in-Some-2
returns-in-Some-2 g c =
    let old = c.args.self.now in
    let one = c.is_within.new.self in
    let T = tree_in (view old.log) old.numbers in
    let commits = c.in_ok-is_within.ensures.reads.commits in
    changes_after _ _ old one c.move_onto.new.self c.move_onto.result c.in_ok-is_within.ensures.reads c.move_onto.ensures (λ h.
    let content = c.requires.is_open.content h in
    let looks = looks_up (view old.log) old.numbers old.dirs content (c.requires.is_open.shows h) c.in_ok-target.target c.args.parent c.args.name.now c.in_ok-target.ensures.found in
    let apart : is_within (length T) T c.args.serial c.args.parent ≡ false = sym (c.in_ok-is_within.ensures.answer h) ∙ c.if-branch.false in
    let into = may_move_in T content.volume.tree c.args.serial c.args.parent (c.requires.used h) (different c.args.serial 1 (sym c.eq.ensures ∙ c.if-eq.false)) (c.requires.directory h) apart in
    let found : lookup T c.args.parent c.args.name.now ≡ Some c.in-Some-2.target = sym looks ∙ c.in-Some-2.is in
    ap (λ (U : Tree). with_unit (moved_onto U c.args.serial c.args.parent c.args.name.now c.in-Some-2.target)) (commits.tree h)
    ∙ sym (ap with_unit (renamed_onto T c.args.serial c.args.parent c.in-Some-2.target c.args.name.now (different c.args.serial 1 (sym c.eq.ensures ∙ c.if-eq.false)) apart found)))
