use Rattle.std.proofs.Common.{◌≡◌, ◌∙◌, ◌≤◌, ◌+◌, ◌*◌, ℕ, refl, sym, subst, arith}
use Rattle.std.proofs.lemmas.Result.{IfOk-from_err}
use Rattle.vol_log.specs.Log.{view}
use Rattle.vol_log.proofs.Readings.{reads_same}
use Rattle.vol_body.specs.Body.{double_indirect_block}
use Rattle.vol_body.specs.internal.Writing.{Mirrors, double_of}
use Rattle.vol_body.proofs.holding.hold_double.Goals as goal

pub load_double-requires : goal.load_double-requires
load_double-requires g c = record { small = c.requires.small; there = c.requires.there; working = c.requires.working }

pub returns-in_err-held : goal.returns-in_err-held
returns-in_err-held g c =
    let r = c.from_residual.result in
    let is_err_now = c.from_residual.ensures.0 in
    let e = c.in_err-held.ensures in
    record {
      top = λ h names is_held reaches. IfOk-from_err r _ is_err_now;
      rest = refl;
      reads = e.reads;
      failed = e.failed ∙ sym is_err_now;
    }

pub returns-in_ok-held : goal.returns-in_ok-held
returns-in_ok-held g c =
    let e = c.in_ok-held.ensures in
    record {
      top = λ h names is_held reaches. e.right h names reaches is_held.triple;
      rest = refl;
      reads = e.reads;
      failed = e.failed;
    }

pub returns-else-d-double_of : goal.returns-else-d-double_of
returns-else-d-double_of g c =
    let same : double_of c.args.held.now.group ≡ c.args.d = sym (c.if-d-double_of.false ∙ c.double_of.ensures) in
    record {
      top = λ h names is_held reaches. subst (λ (k : ℕ). Mirrors (view c.args.log.now) c.args.entry.now (double_indirect_block k) c.args.held.now.top.number c.args.held.now.top.image) same (is_held.top (omega (arith, reaches, same)));
      rest = refl;
      reads = reads_same c.args.log.now;
      failed = c.requires.working;
    }
