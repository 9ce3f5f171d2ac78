use Rattle.std.proofs.Common.{ℕ, Bool, false, inl, inr, sym, ◌∙◌, ap}
use Rattle.vol_tree.specs.Tree.{Tree}
use Rattle.path_walk.specs.Paths.{parent_at}
use Rattle.path_walk.proofs.Entered.{child_turns, plain_name, on_ok}
use Rattle.path_walk.proofs.Chaining.{asked_then}
use Rattle.path_walk.proofs.Advancing.{asked_passed, entry_after, passed_match, passed_ok, from_a_file, turns_up}
use Rattle.path_walk.proofs.walking.turn.Goals as goal

pub returns-clause-answer : goal.returns-clause-answer
returns-clause-answer g c h =
    let asked = c.in_ok-is_directory.ensures.asked in
    child_turns c.args.volume.now.tree c.is_directory.new.volume.tree c.args.here c.args.part.now c.child.result (asked.tree h)
    (sym (c.in_ok-is_directory.ensures.answer h) ∙ c.if-not-branch.false) (sym c.if-goes_up.ensures) (c.child.ensures.answer (asked.kept.honest.0 h))

pub returns-clause-named : goal.returns-clause-named
returns-clause-named g c = on_ok c.child.result (λ next none. plain_name c.args.part.now (sym c.if-goes_up.ensures))

pub is_directory-requires : goal.is_directory-requires
is_directory-requires g c = record { entry = c.requires.here }

pub returns-in_err-is_directory : goal.returns-in_err-is_directory
returns-in_err-is_directory g c =
    let why = c.in_err-is_directory.field-0.0 in
    let passed = c.from_residual.ensures.1 in
    record {
      asked = asked_passed g.D.Device.honest g.D.Device.disk g.D.Device.size g.D.Device.failures g.D.Device.goes_on Bool c.args.volume.now c.is_directory.new.volume c.from_residual.result why passed c.in_err-is_directory.ensures.asked;
      answer = λ h. passed_match _ _ c.from_residual.result why passed (inr (c.in_err-is_directory.ensures.answer h));
      next = passed_ok _ c.from_residual.result why passed;
      named = passed_ok _ c.from_residual.result why passed;
    }

pub returns-then-not-branch : goal.returns-then-not-branch
returns-then-not-branch g c = record {
  asked = c.in_ok-is_directory.ensures.asked;
  answer = λ h. inl (from_a_file c.args.volume.now.tree c.args.here c.args.part.now (sym (c.in_ok-is_directory.ensures.answer h) ∙ c.if-not-branch.true));
  next = tt;
  named = tt;
}

pub parent-requires : goal.parent-requires
parent-requires g c = record {
  entry = entry_after g.D.Device.honest g.D.Device.disk g.D.Device.size g.D.Device.failures g.D.Device.goes_on c.args.volume.now c.is_directory.new.volume false c.args.here c.in_ok-is_directory.ensures.asked c.requires.here;
}

pub returns-in_err-parent : goal.returns-in_err-parent
returns-in_err-parent g c =
    let why = c.in_err-parent.field-0.0 in
    let passed = c.from_residual-in_err-parent.ensures.1 in
    let first = c.in_ok-is_directory.ensures.asked in
    record {
      asked = asked_then g.D.Device.honest g.D.Device.disk g.D.Device.size g.D.Device.failures g.D.Device.goes_on c.args.volume.now c.is_directory.new.volume c.parent.new.volume _ first
          (asked_passed g.D.Device.honest g.D.Device.disk g.D.Device.size g.D.Device.failures g.D.Device.goes_on ℕ c.is_directory.new.volume c.parent.new.volume c.from_residual-in_err-parent.result why passed c.in_err-parent.ensures.asked);
      answer = λ h. passed_match _ _ c.from_residual-in_err-parent.result why passed (inr (c.in_err-parent.ensures.answer (first.kept.honest.0 h)));
      next = passed_ok _ c.from_residual-in_err-parent.result why passed;
      named = passed_ok _ c.from_residual-in_err-parent.result why passed;
    }

pub returns-then-goes_up : goal.returns-then-goes_up
returns-then-goes_up g c =
    let first = c.in_ok-is_directory.ensures.asked in
    record {
      asked = asked_then g.D.Device.honest g.D.Device.disk g.D.Device.size g.D.Device.failures g.D.Device.goes_on c.args.volume.now c.is_directory.new.volume c.parent.new.volume false first c.in_ok-parent.ensures.asked;
      answer = λ h. turns_up c.args.volume.now.tree c.args.here c.args.part.now c.in_ok-parent.field-0 (sym (c.in_ok-is_directory.ensures.answer h) ∙ c.if-not-branch.false) (sym c.if-goes_up.ensures)
          (c.in_ok-parent.ensures.answer (first.kept.honest.0 h) ∙ ap (λ (T : Tree). parent_at T c.args.here) (first.tree h));
      next = c.in_ok-parent.ensures.next;
      named = λ none. cc;
    }

pub child-requires : goal.child-requires
child-requires g c = record { name = c.requires.name (plain_name c.args.part.now (sym c.if-goes_up.ensures)) }

pub returns-clause-asked : goal.returns-clause-asked
returns-clause-asked g c = asked_then g.D.Device.honest g.D.Device.disk g.D.Device.size g.D.Device.failures g.D.Device.goes_on c.args.volume.now c.is_directory.new.volume c.child.new.volume _ c.in_ok-is_directory.ensures.asked c.child.ensures.asked

pub returns-clause-next : goal.returns-clause-next
returns-clause-next g c = c.child.ensures.next
