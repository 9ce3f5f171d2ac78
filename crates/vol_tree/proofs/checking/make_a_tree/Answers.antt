use Rattle.std.proofs.Common.{◌∙◌, ◌<◌, ◌≤◌, ℕ, List, Bool, false, length, get_or, sym, ap, subst, arith}
use Rattle.std.proofs.lemmas.Bool.{false≢true}
use Rattle.std.proofs.lemmas.Result.{IfOk-weaker}
use Rattle.vol_tree.specs.internal.Climbs.{AllLeadUp, AllLeadUpSoon, StandInDirectories}
use Rattle.vol_tree.proofs.checking.make_a_tree.Goals as goal

pub returns-then-not-has_flag : goal.returns-then-not-has_flag
returns-then-not-has_flag c =
    let some = rw c.number.ensures at c.has_flag.ensures.some in
    let flag = λ (l : List Bool). get_or l 0 false in
    record {
      yes = λ tree. absurd (false≢true tree);
      no = λ soon. sym c.if-not-has_flag.true ∙ some (omega arith) ∙ ap flag c.deref.ensures.value ∙ soon.top;
    }

pub returns-then-not-stand_in_directories : goal.returns-then-not-stand_in_directories
returns-then-not-stand_in_directories c = record {
  yes = λ tree. absurd (false≢true tree);
  no = λ soon.
      sym c.if-not-stand_in_directories.true
      ∙ c.stand_in_directories.ensures.no (subst (λ (ps : List ℕ). StandInDirectories ps c.deref-3.result.now) (sym c.deref-2.ensures.value) (subst (StandInDirectories c.args.found.now.parents.items) (sym c.deref-3.ensures.value) soon.stand));
}

pub lead_to_root-requires : goal.lead_to_root-requires
lead_to_root-requires c =
    let same = sym c.deref-4.ensures.value in
    record {
      some = subst (λ (ps : List ℕ). 0 < length ps) same c.requires.some;
      few = subst (λ (ps : List ℕ). length ps ≤ 1048576) same c.requires.few;
    }

pub returns : goal.returns
returns c =
    let some = rw c.number.ensures at c.has_flag.ensures.some in
    let flag = λ (l : List Bool). get_or l 0 false in
    let top = ap flag (sym c.deref.ensures.value) ∙ sym (some (omega arith)) ∙ c.if-not-has_flag.false in
    let stand = subst (λ (ps : List ℕ). StandInDirectories ps c.args.found.now.directories.items) c.deref-2.ensures.value
    (subst (StandInDirectories c.deref-2.result.now) c.deref-3.ensures.value (c.stand_in_directories.ensures.yes c.if-not-stand_in_directories.false)) in
    record {
      yes = IfOk-weaker c.lead_to_root.result _ _ (λ lead leads tree. record { top = top; stand = stand; lead = subst AllLeadUp c.deref-4.ensures.value (leads tree) }) c.lead_to_root.ensures.yes;
      no = IfOk-weaker c.lead_to_root.result _ _ (λ lead leads soon. leads (subst AllLeadUpSoon (sym c.deref-4.ensures.value) soon.lead)) c.lead_to_root.ensures.no;
    }
