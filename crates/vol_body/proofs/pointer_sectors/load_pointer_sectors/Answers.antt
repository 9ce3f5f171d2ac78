use Rattle.std.proofs.Common.{◌≡◌, ◌≢◌, ◌≤◌, ◌+◌, ◌*◌, ◌/◌, ◌∙◌, ℕ, sym, ap, subst, arith}
use Rattle.vol_log.proofs.Readings.{reads_then}
use Rattle.std.proofs.lemmas.Result.{IfOk-from_err}
use Rattle.vol_sector.specs.Disk.{Image}
use Rattle.vol_log.specs.Log.{view}
use Rattle.vol_alloc.specs.Alloc.{taken_of}
use Rattle.vol_body.specs.Body.{double_indirect_block, triple_indirect_block, NamesTaken}
use Rattle.vol_body.specs.internal.Writing.{Mirrors, segment, segment_of, double_of}
use Rattle.vol_body.proofs.Loads.{mirrors_in}
use Rattle.vol_body.proofs.pointer_sectors.load_pointer_sectors.Goals as goal

pub load_triple-requires : goal.load_triple-requires
load_triple-requires g c = record { there = c.requires.there; working = c.requires.working }

pub returns-in_err-triple : goal.returns-in_err-triple
returns-in_err-triple g c =
    let r = c.from_residual.result in
    let is_err_now = c.from_residual.ensures.0 in
    let e = c.in_err-triple.ensures in
    record {
      right = λ h names. IfOk-from_err r _ is_err_now;
      known = IfOk-from_err r _ is_err_now;
      reads = e.reads;
      failed = e.failed ∙ sym is_err_now;
    }

pub load_double-requires : goal.load_double-requires
load_double-requires g c =
    let e = c.in_ok-triple.ensures in
    record { small = c.requires.small; there = omega (arith, c.requires.there, e.reads.sectors); working = e.failed }

pub returns-in_err-double : goal.returns-in_err-double
returns-in_err-double g c =
    let r = c.from_residual-in_err-double.result in
    let is_err_now = c.from_residual-in_err-double.ensures.0 in
    let first = c.in_ok-triple.ensures in
    let e = c.in_err-double.ensures in
    record {
      right = λ h names. IfOk-from_err r _ is_err_now;
      known = IfOk-from_err r _ is_err_now;
      reads = reads_then c.args.log.now c.load_triple.new.log c.load_double.new.log first.failed first.reads e.reads;
      failed = e.failed ∙ sym is_err_now;
    }

pub load_segment-requires : goal.load_segment-requires
load_segment-requires g c =
    let first = c.in_ok-triple.ensures in
    let second = c.in_ok-double.ensures in
    record { small = c.requires.small; there = omega (arith, c.requires.there, first.reads.sectors, second.reads.sectors); working = second.failed }

pub returns-in_err-early : goal.returns-in_err-early
returns-in_err-early g c =
    let r = c.from_residual-in_err-early.result in
    let is_err_now = c.from_residual-in_err-early.ensures.0 in
    let first = c.in_ok-triple.ensures in
    let second = c.in_ok-double.ensures in
    let e = c.in_err-early.ensures in
    record {
      right = λ h names. IfOk-from_err r _ is_err_now;
      known = IfOk-from_err r _ is_err_now;
      reads = reads_then c.args.log.now c.load_double.new.log c.load_segment.new.log second.failed
          (reads_then c.args.log.now c.load_triple.new.log c.load_double.new.log first.failed first.reads second.reads) e.reads;
      failed = e.failed ∙ sym is_err_now;
    }

pub load_late-requires : goal.load_late-requires
load_late-requires g c =
    let first = c.in_ok-triple.ensures in
    let second = c.in_ok-double.ensures in
    let third = c.in_ok-early.ensures in
    record {
      small = c.requires.small;
      group = omega (arith, c.saturating_sub-group.ensures, c.requires.some, c.requires.small);
      there = omega (arith, c.requires.there, first.reads.sectors, second.reads.sectors, third.reads.sectors);
      working = third.failed;
    }

pub returns-in_err-next_double : goal.returns-in_err-next_double
returns-in_err-next_double g c =
    let r = c.from_residual-in_err-next_double.result in
    let is_err_now = c.from_residual-in_err-next_double.ensures.0 in
    let first = c.in_ok-triple.ensures in
    let second = c.in_ok-double.ensures in
    let third = c.in_ok-early.ensures in
    let e = c.in_err-next_double.ensures in
    record {
      right = λ h names. IfOk-from_err r _ is_err_now;
      known = IfOk-from_err r _ is_err_now;
      reads = reads_then c.args.log.now c.load_segment.new.log c.load_late.new.log third.failed (reads_then c.args.log.now c.load_double.new.log c.load_segment.new.log second.failed
          (reads_then c.args.log.now c.load_triple.new.log c.load_double.new.log first.failed first.reads second.reads) third.reads) e.reads;
      failed = e.failed ∙ sym is_err_now;
    }

pub returns-clause-right : goal.returns-clause-right
returns-clause-right g c h names =
    let content = view c.args.log.now in
    let e = c.args.entry.now in
    let last = c.args.last in
    let taken = taken_of c.args.sectors.now in
    let group = c.saturating_sub-group.result / 128 in
    let is_group : group ≡ segment_of c.args.first = ap (λ (x : ℕ). x / 128) c.saturating_sub-group.ensures in
    let first = c.in_ok-triple.ensures in
    let second = c.in_ok-double.ensures in
    let third = c.in_ok-early.ensures in
    let fourth = c.in_ok-next_double.ensures in
    let triple = c.in_ok-triple.triple in
    let double = c.in_ok-double.double in
    let early = c.in_ok-early.early in
    let one : view c.load_triple.new.log ≡ content = first.reads.view h in
    let one_honest = first.reads.honest.0 h in
    let two : view c.load_double.new.log ≡ content = second.reads.view one_honest ∙ one in
    let two_honest = second.reads.honest.0 one_honest in
    let three : view c.load_segment.new.log ≡ content = third.reads.view two_honest ∙ two in
    let three_honest = third.reads.honest.0 two_honest in
    let is_double = c.double_of.ensures in
    let has_triple = λ (reaches : 16570 ≤ last). first.right h names reaches in
    let has_double = λ (reaches : 186 + 16384 * double_of group ≤ last).
    subst (λ (k : ℕ). Mirrors content e (double_indirect_block k) double.number double.image) is_double
    (mirrors_in e (double_indirect_block c.double_of.result) double.number double.image one
    (second.right one_honest (subst (λ (m : Image). NamesTaken taken m e) (sym one) names) (omega (arith, reaches, is_double))
    (λ further. mirrors_in e triple_indirect_block triple.number triple.image (sym one) (has_triple further)))) in
    let has_early = λ (reaches : 58 + 128 * group ≤ last).
    mirrors_in e (segment group) early.number early.image two
    (third.right two_honest (subst (λ (m : Image). NamesTaken taken m e) (sym two) names) reaches
    (λ further. mirrors_in e (double_indirect_block (double_of group)) double.number double.image (sym two) (has_double further))) in
    let names_then = subst (λ (m : Image). NamesTaken taken m e) (sym three) names in
    let triple_then = λ (further : 16570 ≤ last). mirrors_in e triple_indirect_block triple.number triple.image (sym three) (has_triple further) in
    let has_next = λ (differ : double_of (group + 1) ≢ double_of group) (reaches : 186 + 16384 * double_of (group + 1) ≤ last).
    mirrors_in e (double_indirect_block (double_of (group + 1))) c.in_ok-next_double.next_double.number c.in_ok-next_double.next_double.image three (fourth.next three_honest names_then triple_then differ reaches) in
    let has_late = λ (reaches : 58 + 128 * (group + 1) ≤ last).
    mirrors_in e (segment (group + 1)) c.in_ok-next_double.late.number c.in_ok-next_double.late.image three
    (fourth.late three_honest names_then triple_then (λ further. mirrors_in e (double_indirect_block (double_of group)) double.number double.image (sym three) (has_double further)) reaches) in
    let B = λ (s : ℕ). (186 + 16384 * double_of s ≤ last → Mirrors content e (double_indirect_block (double_of s)) double.number double.image)
    × (double_of (s + 1) ≢ double_of s → 186 + 16384 * double_of (s + 1) ≤ last → Mirrors content e (double_indirect_block (double_of (s + 1))) c.in_ok-next_double.next_double.number c.in_ok-next_double.next_double.image)
    × (58 + 128 * s ≤ last → Mirrors content e (segment s) early.number early.image) × (58 + 128 * (s + 1) ≤ last → Mirrors content e (segment (s + 1)) c.in_ok-next_double.late.number c.in_ok-next_double.late.image) in
    let all = subst B is_group (has_double, has_next, has_early, has_late) in
    record {
      triple = has_triple;
      double = all.0;
      next_double = all.1;
      early = all.2;
      late = λ reaches. all.3 (omega (arith, reaches));
    }

pub returns-clause-known : goal.returns-clause-known
returns-clause-known g c = record {
  triple = c.in_ok-triple.ensures.known;
  double = c.in_ok-double.ensures.known;
  next_double = c.in_ok-next_double.ensures.known.0;
  early = c.in_ok-early.ensures.known;
  late = c.in_ok-next_double.ensures.known.1;
}

pub returns-clause-reads : goal.returns-clause-reads
returns-clause-reads g c =
    let first = c.in_ok-triple.ensures in
    let second = c.in_ok-double.ensures in
    let third = c.in_ok-early.ensures in
    reads_then c.args.log.now c.load_segment.new.log c.load_late.new.log third.failed (reads_then c.args.log.now c.load_double.new.log c.load_segment.new.log second.failed
    (reads_then c.args.log.now c.load_triple.new.log c.load_double.new.log first.failed first.reads second.reads) third.reads) c.in_ok-next_double.ensures.reads

pub returns-clause-failed : goal.returns-clause-failed
returns-clause-failed g c = c.in_ok-next_double.ensures.failed
