use Rattle.std.proofs.Common.{◌∙◌, inr, refl}
use Rattle.std.proofs.lemmas.Result.{IfOk-from_err}
use Rattle.vol_sector.specs.declared.fault.VolumeFault.TheVariants.{Memory}
use Rattle.vol_log.proofs.Readings.{reads_same}
use Rattle.vol_body.proofs.SurveyExits.{handed_on, failed_on}
use Rattle.vol_tree.proofs.Refusals.{memory_not_damage}
use Rattle.vol_tree.proofs.checking.read_parts.Goals as goal

pub check_entries-requires : goal.check_entries-requires
check_entries-requires g c = record {
  can = c.requires.can;
  slots = c.in_ok-dirs.ensures.slots;
  free = c.in_ok-dirs.ensures.free;
}

pub returns-in_err-dirs : goal.returns-in_err-dirs
returns-in_err-dirs g c =
    let r = c.from_residual.result in
    let is_err_now = c.from_residual.ensures.0 in
    let is = c.from_residual.ensures.1 in
    record {
      slots = IfOk-from_err r _ is_err_now;
      first = IfOk-from_err r _ is_err_now;
      end = IfOk-from_err r _ is_err_now;
      parts = λ h. IfOk-from_err r _ is_err_now;
      damaged = λ h. handed_on r _ Memory is (λ damaged. memory_not_damage damaged);
      refused = handed_on r _ Memory is (inr (inr refl));
      reads = reads_same c.args.log.now;
      failed = failed_on r Memory _ is c.requires.can.working;
    }

pub returns-in_err-sectors : goal.returns-in_err-sectors
returns-in_err-sectors g c =
    let r = c.from_residual-in_err-sectors.result in
    let is_err_now = c.from_residual-in_err-sectors.ensures.0 in
    let is = c.from_residual-in_err-sectors.ensures.1 in
    let x = c.in_err-sectors.field-0.0 in
    let e = c.in_err-sectors.ensures in
    record {
      slots = IfOk-from_err r _ is_err_now;
      first = IfOk-from_err r _ is_err_now;
      end = IfOk-from_err r _ is_err_now;
      parts = λ h. IfOk-from_err r _ is_err_now;
      damaged = λ h. handed_on r _ x is (e.damaged h);
      refused = handed_on r _ x is e.refused;
      reads = e.reads;
      failed = failed_on r x _ is e.failed;
    }

pub returns : goal.returns
returns g c =
    let e = c.in_ok-sectors.ensures in
    record {
      slots = e.slots ∙ c.in_ok-dirs.ensures.slots;
      first = e.first;
      end = e.end;
      parts = e.parts;
      damaged = λ h. tt;
      refused = tt;
      reads = e.reads;
      failed = e.failed;
    }
