use Rattle.std.proofs.Common.{◌≡◌, ◌==◌, ◌∙◌, ◌-◌, ℕ, true, refl, Bool, true≢false, get_or, Option, Some, None, MatchOption, sym, ap, subst}
use Rattle.std.specs.Option.{option_eq}
use Rattle.std.proofs.lemmas.Result.{IfOk-from_err}
use Rattle.std.proofs.lemmas.Bool.{false≢true, eq-eqb, eqb-true}
use Rattle.vol_log.specs.Log.{view}
use Rattle.vol_inode.specs.declared.entry.Entry.{Entry}
use Rattle.vol_inode.specs.Entry.{name_of}
use Rattle.vol_dirs.specs.Names.{Names}
use Rattle.vol_tree.specs.internal.Slots.{slot_of}
use Rattle.vol_tree.specs.internal.Commits.{ReadsOnly}
use Rattle.vol_tree.specs.Stands.{Slots}
use Rattle.vol_tree.proofs.Children.{is_found}
use Rattle.vol_tree.proofs.Finding.{looks_up}
use Rattle.vol_tree.proofs.Taking.{passed_io, passed_err}
use Rattle.vol_tree.proofs.parts.Parts.held_entry.Goals as goal

pub entry-requires : goal.entry-requires
entry-requires g c = record { is_open = c.requires.is_open; first = c.requires.first; last = c.requires.last }

pub lookup-requires : goal.lookup-requires
lookup-requires g c = c.is_name.ensures.0 c.if-not-is_name.false

pub returns-in_err-entry : goal.returns-in_err-entry
returns-in_err-entry g c =
    let r = c.from_residual.result in
    let is_err_now = c.from_residual.ensures.0 in
    let is = c.from_residual.ensures.1 in
    let x = c.in_err-entry.field-0.0 in
    let e = c.in_err-entry.ensures in
    record {
      reads = subst (λ (io : Bool). ReadsOnly c.args.self.now c.entry.new.self io) (passed_io Entry r x is) e.reads;
      right = IfOk-from_err r _ is_err_now;
      held = IfOk-from_err r _ is_err_now;
      found = λ h other used. passed_err r x _ is (e.found h used);
    }

pub returns-then-not-is_name : goal.returns-then-not-is_name
returns-then-not-is_name g c =
    let mid = c.entry.new.self in
    let e = c.in_ok-entry.ensures in
    let commits = e.reads.commits in
    let d = c.in_ok-entry.entry in
    record {
      reads = e.reads;
      right = tt;
      held = tt;
      found = λ h other used.
          let h1 = commits.kept.honest.0 h in
          let slot : slot_of (view mid.log) mid.numbers c.args.serial ≡ Some d = ap (λ (s : Slots). get_or s (c.args.serial - 1) None) (commits.slots h) ∙ e.found h used in
          let there = is_found (view mid.log) mid.numbers mid.dirs (commits.is_open.content h1) (commits.is_open.shows h1) c.args.serial d c.requires.first other slot in
          absurd (false≢true (sym c.if-not-is_name.true ∙ c.is_name.ensures.1 there.0));
    }

-- The log has not failed, as the entry was read.
pub returns-in_err-found : goal.returns-in_err-found
returns-in_err-found g c = absurd (true≢false (c.in_err-found.ensures.failed ∙ c.in_ok-entry.ensures.reads.commits.kept.failed))

-- `==` of serials that may be none
some_same : (o : Option ℕ) (s : ℕ) → o ≡ Some s → option_eq (λ (a b : ℕ). a == b) o (Some s) ≡ true
some_same o s is = ap (λ (x : Option ℕ). option_eq (λ (a b : ℕ). a == b) x (Some s)) is ∙ eq-eqb s s refl

same_some : (o : Option ℕ) (s : ℕ) → option_eq (λ (a b : ℕ). a == b) o (Some s) ≡ true → o ≡ Some s
same_some None s is = absurd (false≢true is)
same_some (Some t) s is = ap Some (eqb-true t s is)

pub returns-then-eq : goal.returns-then-eq
returns-then-eq g c =
    let dirs = c.entry.new.self.dirs in
    let e = c.in_ok-entry.ensures in
    let d = c.in_ok-entry.entry in
    record {
      reads = e.reads;
      right = e.right;
      held = subst (λ (o : Option ℕ). MatchOption o ((s : ℕ) → Names dirs d.parent (name_of d) s → ⊥) (λ s. Names dirs d.parent (name_of d) s)) (same_some _ c.args.serial (sym c.eq.ensures ∙ c.if-eq.true)) (rw c.new.ensures at c.in_ok-found.ensures.found);
      found = λ h other used. e.found h used;
    }

pub returns : goal.returns
returns g c =
    let mid = c.entry.new.self in
    let e = c.in_ok-entry.ensures in
    let commits = e.reads.commits in
    let d = c.in_ok-entry.entry in
    record {
      reads = e.reads;
      right = tt;
      held = tt;
      found = λ h other used.
          let h1 = commits.kept.honest.0 h in
          let slot : slot_of (view mid.log) mid.numbers c.args.serial ≡ Some d = ap (λ (s : Slots). get_or s (c.args.serial - 1) None) (commits.slots h) ∙ e.found h used in
          let there = is_found (view mid.log) mid.numbers mid.dirs (commits.is_open.content h1) (commits.is_open.shows h1) c.args.serial d c.requires.first other slot in
          let looks = looks_up (view mid.log) mid.numbers mid.dirs (commits.is_open.content h1) (commits.is_open.shows h1) c.in_ok-found.found d.parent (name_of d) (rw c.new.ensures at c.in_ok-found.ensures.found) in
          absurd (false≢true (sym (sym c.eq.ensures ∙ c.if-eq.false) ∙ some_same _ c.args.serial (looks ∙ there.1)));
    }
