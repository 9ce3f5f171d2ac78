use Rattle.std.proofs.Common.{◌≡◌, ◌≢◌, ◌≤◌, ◌+◌, ◌*◌, ◌∙◌, ℕ, refl, sym, ap, subst, arith}
use Rattle.std.proofs.lemmas.Result.{IfOk-from_err}
use Rattle.vol_sector.specs.Disk.{Image}
use Rattle.vol_log.specs.Log.{view, device_of}
use Rattle.vol_log.proofs.Readings.{reads_then}
use Rattle.vol_alloc.specs.Alloc.{taken_of}
use Rattle.vol_body.specs.Body.{double_indirect_block, triple_indirect_block, NamesTaken}
use Rattle.vol_body.specs.internal.Writing.{Mirrors, segment, double_of}
use Rattle.vol_body.proofs.Loads.{mirrors_in}
use Rattle.vol_body.proofs.pointer_sectors.load_late.Goals as goal

pub load_segment-requires : goal.load_segment-requires
load_segment-requires g c = record { small = c.requires.small; there = c.requires.there; working = c.requires.working }

pub returns-in_err-late : goal.returns-in_err-late
returns-in_err-late g c =
    let r = c.from_residual.result in
    let is_err_now = c.from_residual.ensures.0 in
    let e = c.in_err-late.ensures in
    record {
      next = λ h names triple differ reaches. IfOk-from_err r _ is_err_now;
      late = λ h names triple double reaches. IfOk-from_err r _ is_err_now;
      known = IfOk-from_err r _ is_err_now;
      reads = e.reads;
      failed = e.failed ∙ sym is_err_now;
    }

pub returns-then-d-double_of : goal.returns-then-d-double_of
returns-then-d-double_of g c =
    let content = view c.args.log.now in
    let e = c.args.entry.now in
    let done = c.in_ok-late.ensures in
    let same : double_of (c.args.group + 1) ≡ double_of c.args.group = sym c.double_of-d.ensures ∙ c.if-d-double_of.true ∙ c.double_of.ensures in
    record {
      next = λ h names triple differ reaches. absurd (differ same);
      late = λ h names triple double reaches. done.right h names reaches
          (λ further. subst (λ (k : ℕ). Mirrors content e (double_indirect_block k) c.args.double.now.number c.args.double.now.image) (sym same) (double (omega (arith, further, same))));
      known = ((λ some. absurd (some refl)), done.known);
      reads = done.reads;
      failed = done.failed;
    }

pub load_double-requires : goal.load_double-requires
load_double-requires g c = record { small = c.requires.small; there = c.requires.there; working = c.requires.working }

pub returns-in_err-next : goal.returns-in_err-next
returns-in_err-next g c =
    let r = c.from_residual-in_err-next.result in
    let is_err_now = c.from_residual-in_err-next.ensures.0 in
    let e = c.in_err-next.ensures in
    record {
      next = λ h names triple differ reaches. IfOk-from_err r _ is_err_now;
      late = λ h names triple double reaches. IfOk-from_err r _ is_err_now;
      known = IfOk-from_err r _ is_err_now;
      reads = e.reads;
      failed = e.failed ∙ sym is_err_now;
    }

pub load_segment-requires-2 : goal.load_segment-requires-2
load_segment-requires-2 g c =
    let e = c.in_ok-next.ensures in
    record { small = c.requires.small; there = omega (arith, c.requires.there, e.reads.sectors); working = e.failed }

pub returns-in_err-late-2 : goal.returns-in_err-late-2
returns-in_err-late-2 g c =
    let r = c.from_residual-in_err-late-2.result in
    let is_err_now = c.from_residual-in_err-late-2.ensures.0 in
    let first = c.in_ok-next.ensures in
    let e = c.in_err-late-2.ensures in
    record {
      next = λ h names triple differ reaches. IfOk-from_err r _ is_err_now;
      late = λ h names triple double reaches. IfOk-from_err r _ is_err_now;
      known = IfOk-from_err r _ is_err_now;
      reads = reads_then c.args.log.now c.load_double.new.log c.load_segment-2.new.log first.failed first.reads e.reads;
      failed = e.failed ∙ sym is_err_now;
    }

pub returns : goal.returns
returns g c =
    let content = view c.args.log.now in
    let e = c.args.entry.now in
    let first = c.in_ok-next.ensures in
    let second = c.in_ok-late-2.ensures in
    let next = c.in_ok-next.next in
    let late = c.in_ok-late-2.late in
    let is = c.double_of-d.ensures in
    let double = λ (h : g.D.Device.honest (device_of c.args.log.now)) (names : NamesTaken (taken_of c.args.sectors.now) content e)
    (triple : 16570 ≤ c.args.last → Mirrors content e triple_indirect_block c.args.triple.now.number c.args.triple.now.image) (reaches : 186 + 16384 * double_of (c.args.group + 1) ≤ c.args.last).
    subst (λ (k : ℕ). Mirrors content e (double_indirect_block k) next.number next.image) is (first.right h names (omega (arith, reaches, is)) triple) in
    record {
      next = λ h names triple differ reaches. double h names triple reaches;
      late = λ h names triple held reaches.
          let same : view c.load_double.new.log ≡ content = first.reads.view h in
          let there : NamesTaken (taken_of c.args.sectors.now) (view c.load_double.new.log) e = subst (λ (m : Image). NamesTaken (taken_of c.args.sectors.now) m e) (sym same) names in
          mirrors_in e (segment (c.args.group + 1)) late.number late.image same
          (second.right (first.reads.honest.0 h) there reaches (λ further. mirrors_in e (double_indirect_block (double_of (c.args.group + 1))) next.number next.image (sym same) (double h names triple further)));
      known = (first.known, second.known);
      reads = reads_then c.args.log.now c.load_double.new.log c.load_segment-2.new.log first.failed first.reads second.reads;
      failed = second.failed;
    }
