use Rattle.std.proofs.Common.{ℕ, ◌≡◌, ◌≤◌, ◌+◌, ◌*◌, ◌/◌, ◌∙◌, sym, ap, subst, arith}
use Rattle.vol_body.proofs.Loads.{mirrors_in}
use Rattle.vol_body.specs.internal.Writing.{Mirrors, segment, double_of}
use Rattle.vol_body.specs.Body.{NamesTaken, double_indirect_block, triple_indirect_block}
use Rattle.vol_alloc.specs.Alloc.{taken_of}
use Rattle.vol_sector.specs.Disk.{Image}
use Rattle.vol_log.specs.Log.{view}
use Rattle.vol_log.proofs.Readings.{reads_then}
use Rattle.std.proofs.lemmas.Result.{IfOk-from_err}
use Rattle.vol_body.proofs.holding.hold.Goals as goal

pub load_triple-requires : goal.load_triple-requires
load_triple-requires g c = record { there = c.requires.there; working = c.requires.working }

pub returns-in_err-triple : goal.returns-in_err-triple
returns-in_err-triple g c =
    let r = c.from_residual.result in
    let is_err_now = c.from_residual.ensures.0 in
    let e = c.in_err-triple.ensures in
    record {
      held = λ h names. IfOk-from_err r _ is_err_now;
      group = IfOk-from_err r _ is_err_now;
      known = IfOk-from_err r _ is_err_now;
      reads = e.reads;
      failed = e.failed ∙ sym is_err_now;
    }

pub load_double-requires : goal.load_double-requires
load_double-requires g c =
    let e = c.in_ok-triple.ensures in
    record { small = c.requires.small; there = omega (arith, c.requires.there, e.reads.sectors); working = e.failed }

pub returns-in_err-top : goal.returns-in_err-top
returns-in_err-top g c =
    let r = c.from_residual-in_err-top.result in
    let is_err_now = c.from_residual-in_err-top.ensures.0 in
    let first = c.in_ok-triple.ensures in
    let e = c.in_err-top.ensures in
    record {
      held = λ h names. IfOk-from_err r _ is_err_now;
      group = IfOk-from_err r _ is_err_now;
      known = IfOk-from_err r _ is_err_now;
      reads = reads_then c.args.log.now c.load_triple.new.log c.load_double.new.log first.failed first.reads e.reads;
      failed = e.failed ∙ sym is_err_now;
    }

pub load_segment-requires : goal.load_segment-requires
load_segment-requires g c =
    let first = c.in_ok-triple.ensures in
    let e = c.in_ok-top.ensures in
    record { small = c.requires.small; there = omega (arith, c.requires.there, first.reads.sectors, e.reads.sectors); working = e.failed }

pub returns-in_err-above : goal.returns-in_err-above
returns-in_err-above g c =
    let r = c.from_residual-in_err-above.result in
    let is_err_now = c.from_residual-in_err-above.ensures.0 in
    let first = c.in_ok-triple.ensures in
    let second = c.in_ok-top.ensures in
    let third = c.in_err-above.ensures in
    record {
      held = λ h names. IfOk-from_err r _ is_err_now;
      group = IfOk-from_err r _ is_err_now;
      known = IfOk-from_err r _ is_err_now;
      reads = reads_then c.args.log.now c.load_double.new.log c.load_segment.new.log second.failed (reads_then c.args.log.now c.load_triple.new.log c.load_double.new.log first.failed first.reads second.reads) third.reads;
      failed = third.failed ∙ sym is_err_now;
    }

pub returns : goal.returns
returns g c =
    let e = c.args.entry.now in
    let content = view c.args.log.now in
    let first = c.in_ok-triple.ensures in
    let second = c.in_ok-top.ensures in
    let third = c.in_ok-above.ensures in
    let group = c.saturating_sub-group.result / 128 in
    let triple = c.in_ok-triple.triple in
    let top = c.in_ok-top.top in
    let above = c.in_ok-above.above in
    let taken = taken_of c.args.sectors.now in
    record {
      held = λ h names.
          let one : view c.load_triple.new.log ≡ content = first.reads.view h in
          let one_honest = first.reads.honest.0 h in
          let two : view c.load_double.new.log ≡ content = second.reads.view one_honest ∙ one in
          let two_honest = second.reads.honest.0 one_honest in
          let has_top = λ (reaches : 186 + 16384 * double_of group ≤ c.args.last).
          subst (λ (k : ℕ). Mirrors content e (double_indirect_block k) top.number top.image) c.double_of.ensures
          (mirrors_in e (double_indirect_block c.double_of.result) top.number top.image one
          (second.right one_honest (subst (λ (m : Image). NamesTaken taken m e) (sym one) names) (omega (arith, reaches, c.double_of.ensures))
          (λ further. mirrors_in e triple_indirect_block triple.number triple.image (sym one) (first.right h names further)))) in
          record {
            triple = first.right h names;
            top = has_top;
            above = λ reaches. mirrors_in e (segment group) above.number above.image two
                (third.right two_honest (subst (λ (m : Image). NamesTaken taken m e) (sym two) names) reaches (λ further. mirrors_in e (double_indirect_block (double_of group)) top.number top.image (sym two) (has_top further)));
          };
      group = ap (λ (x : ℕ). x / 128) c.saturating_sub-group.ensures;
      known = record { triple = first.known; top = second.known; above = third.known };
      reads = reads_then c.args.log.now c.load_double.new.log c.load_segment.new.log second.failed (reads_then c.args.log.now c.load_triple.new.log c.load_double.new.log first.failed first.reads second.reads) third.reads;
      failed = third.failed;
    }
