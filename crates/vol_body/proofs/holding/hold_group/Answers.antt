use Rattle.std.proofs.Common.{◌≡◌, ◌∙◌, ◌≤◌, ◌+◌, ◌*◌, ℕ, refl, sym, ap, subst, arith}
use Rattle.std.proofs.lemmas.Result.{IfOk-from_err}
use Rattle.vol_sector.specs.Disk.{Image}
use Rattle.vol_log.specs.Log.{view}
use Rattle.vol_log.proofs.Readings.{reads_same, reads_then}
use Rattle.vol_alloc.specs.Alloc.{taken_of}
use Rattle.vol_body.specs.Body.{double_indirect_block, triple_indirect_block, NamesTaken}
use Rattle.vol_body.specs.internal.Writing.{Mirrors, segment, double_of}
use Rattle.vol_body.specs.declared.holding.HeldPointers.{HeldPointers}
use Rattle.vol_body.proofs.Loads.{mirrors_in}
use Rattle.vol_body.proofs.holding.hold_group.Goals as goal

pub returns-then-group-held : goal.returns-then-group-held
returns-then-group-held g c = record {
  held = λ h names was. was;
  group = sym c.if-group-held.true;
  reads = reads_same c.args.log.now;
  failed = c.requires.working;
}

pub hold_double-requires : goal.hold_double-requires
hold_double-requires g c = record { small = c.requires.small; there = c.requires.there; working = c.requires.working }

pub returns-in_err-hold_double : goal.returns-in_err-hold_double
returns-in_err-hold_double g c =
    let r = c.from_residual.result in
    let is_err_now = c.from_residual.ensures.0 in
    let e = c.in_err-hold_double.ensures in
    record {
      held = λ h names was. IfOk-from_err r _ is_err_now;
      group = IfOk-from_err r _ is_err_now;
      reads = e.reads;
      failed = e.failed ∙ sym is_err_now;
    }

pub load_segment-requires : goal.load_segment-requires
load_segment-requires g c =
    let e = c.in_ok-hold_double.ensures in
    record { small = c.requires.small; there = omega (arith, c.requires.there, e.reads.sectors); working = e.failed }

pub returns-in_err-held : goal.returns-in_err-held
returns-in_err-held g c =
    let r = c.from_residual-in_err-held.result in
    let is_err_now = c.from_residual-in_err-held.ensures.0 in
    let first = c.in_ok-hold_double.ensures in
    let e = c.in_err-held.ensures in
    record {
      held = λ h names was. IfOk-from_err r _ is_err_now;
      group = IfOk-from_err r _ is_err_now;
      reads = reads_then c.args.log.now c.hold_double.new.log c.load_segment.new.log first.failed first.reads e.reads;
      failed = e.failed ∙ sym is_err_now;
    }

pub returns : goal.returns
returns g c =
    let content = view c.args.log.now in
    let e = c.args.entry.now in
    let first = c.in_ok-hold_double.ensures in
    let second = c.in_ok-held.ensures in
    let now = c.hold_double.new.held in
    let above = c.in_ok-held.field-0 in
    record {
      held = λ h names was.
          let one : view c.hold_double.new.log ≡ content = first.reads.view h in
          let has_top = λ (reaches : 186 + 16384 * double_of c.args.group ≤ c.args.last).
          subst (λ (k : ℕ). Mirrors content e (double_indirect_block k) now.top.number now.top.image) c.double_of.ensures (first.top h names was (omega (arith, reaches, c.double_of.ensures))) in
          record {
            triple = λ reaches. subst (λ (x : HeldPointers). Mirrors content e triple_indirect_block x.triple.number x.triple.image) (sym first.rest) (was.triple reaches);
            top = has_top;
            above = λ reaches. mirrors_in e (segment c.args.group) above.number above.image one
                (second.right (first.reads.honest.0 h) (subst (λ (m : Image). NamesTaken (taken_of c.args.sectors.now) m e) (sym one) names) reaches
                (λ further. mirrors_in e (double_indirect_block (double_of c.args.group)) now.top.number now.top.image (sym one) (has_top further)));
          };
      group = refl;
      reads = reads_then c.args.log.now c.hold_double.new.log c.load_segment.new.log first.failed first.reads second.reads;
      failed = second.failed;
    }
