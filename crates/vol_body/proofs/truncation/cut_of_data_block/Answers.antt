use Rattle.std.proofs.Common.{◌∙◌, sym, arith, rules}
use Rattle.std.proofs.lemmas.Result.{IfOk-from_err}
use Rattle.vol_body.proofs.truncation.cut_of_data_block.Goals as goal

pub held_sector-sector-requires : goal.held_sector-sector-requires
held_sector-sector-requires g c = record { place = omega (arith, c.requires.small); group = c.requires.group }

pub returns-in_err-old : goal.returns-in_err-old
returns-in_err-old g c =
    let r = c.from_residual.result in
    let is_err_now = c.from_residual.ensures.0 in
    let e = c.in_err-old.ensures in
    record {
      cut = λ h names is_held. IfOk-from_err r _ is_err_now;
      taken = IfOk-from_err r _ is_err_now;
      reads = e.reads;
      failed = e.failed ∙ sym is_err_now;
    }

pub returns-clause-cut : goal.returns-clause-cut
returns-clause-cut g c = search rules
