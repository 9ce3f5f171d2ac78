use Rattle.std.proofs.Common.{◌≡◌, ◌+◌, ◌∙◌, inl, inr, ℕ, Bool, false, List, Vec, Global, length, get_or, replicate, refl, sym, ap, subst, arith, rules}
use Rattle.std.proofs.lemmas.List.{length-replicate, get_or-replicate, get_or_past, with_items_is}
use Rattle.std.proofs.lemmas.Bool.{cases_lt}
use Rattle.std.proofs.lemmas.Result.{IfOk-from_err}
use Rattle.std.proofs.lemmas.Grind.{common_steps}
use Rattle.vol_tree.specs.internal.Climbs.{AreMarked, LeadsUp}
use Rattle.vol_tree.proofs.WaysUp.{top_marked}
use Rattle.vol_tree.proofs.reaching.lead_to_root.Goals as goal
use Rattle.vol_tree.proofs.reaching.lead_to_root.Goals.{else-parents-s-ne0-via-then-parents-s-ne0+else-not-reaches, else-parents-s-ne0-via-else-parents-s-ne0}

pub loop-s-init : goal.loop-s-init
loop-s-init c =
    let n = length c.args.parents.now in
    let same = c.in_ok-marks.ensures.items_if_clones_equal (λ y is. is) in
    let count = length-replicate {A = Bool} n false in
    record {
      marks = top_marked c.args.parents.now c.in_ok-marks.marks.items (ap length same ∙ count) c.requires.some (λ s.
          ap (λ (l : List Bool). get_or l s false) same ∙ elim (cases_lt s n) [
            | inl below ↦ get_or-replicate n s false false below
            | inr past ↦ get_or_past (replicate n false) s false (omega (arith, past, count))
          ]);
      leads = λ t lt some. absurd (omega (arith, lt));
    }

pub loop-s-preserved : goal.loop-s-preserved
loop-s-preserved c =
    let so_far = c.loop-s.invariant in
    let items = λ (v : Vec Bool Global). v.items in
    elim c.else-parents-s-ne0.branch [
      | else-parents-s-ne0-via-then-parents-s-ne0+else-not-reaches w ↦
          let done = w.reaches.ensures in
          let whole = with_items_is c.loop-s.marks w.reaches.new.marks (omega (arith, w.reaches.auto.marks, w.deref_mut.ensures.len)) in
          record {
            marks = subst (AreMarked c.args.parents.now) (sym (ap items w.marks-is ∙ whole)) done.marks;
            leads = λ t lt some. elim (cases_lt t c.loop-s.s) [
              | inl below ↦ so_far.leads t below some
              | inr past ↦ let same : c.loop-s.s ≡ t = omega (arith, lt, past) in subst (λ (k : ℕ). LeadsUp c.args.parents.now (k + 1)) same (done.yes w.if-not-reaches.false)
            ];
          }
      | else-parents-s-ne0-via-else-parents-s-ne0 w ↦ record {
        marks = subst (AreMarked c.args.parents.now) (sym (ap items w.marks-is)) so_far.marks;
        leads = λ t lt some. elim (cases_lt t c.loop-s.s) [
          | inl below ↦ so_far.leads t below some
          | inr past ↦ let same : c.loop-s.s ≡ t = omega (arith, lt, past) in absurd (some (ap (λ (k : ℕ). get_or c.args.parents.now k 0) (sym same) ∙ w.if-parents-s-ne0.false))
        ];
      }
    ]

pub reaches-requires : goal.reaches-requires
reaches-requires c = subst (AreMarked c.args.parents.now) (sym c.deref_mut.ensures.value) c.loop-s.invariant.marks

pub returns-in_err-marks : goal.returns-in_err-marks
returns-in_err-marks c = record { yes = IfOk-from_err c.from_residual.result _ c.from_residual.ensures.0; no = IfOk-from_err c.from_residual.result _ c.from_residual.ensures.0 }

pub returns : goal.returns
returns c = record { yes = λ all s lt some. c.loop-s.invariant.leads s (omega (arith, lt, c.loop-s-test.false)) some; no = λ soon. refl }

pub returns-then-not-reaches-clause-yes : goal.returns-then-not-reaches-clause-yes
returns-then-not-reaches-clause-yes c = search rules

pub returns-then-not-reaches-clause-no : goal.returns-then-not-reaches-clause-no
returns-then-not-reaches-clause-no c = grind (arith, common_steps)
