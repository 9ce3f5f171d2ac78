use Rattle.sandbox_device.specs.Beside.{unnamed, unsettled, unsynced}
use Rattle.sandbox_device.proofs.Told.{failing, told_as}
use Rattle.sandbox_device.proofs.beside.replace.Goals as goal

-- what was refused, after what was done
pub returns-in_err-sync : goal.returns-in_err-sync
returns-in_err-sync g c =
    failing _ c.from_residual-in_err-sync.result _ c.from_residual-in_err-sync.ensures.1 (unsynced _ c.in_ok-fill.ensures c.in_err-sync.ensures)

pub returns-in_err-rename : goal.returns-in_err-rename
returns-in_err-rename g c =
    failing _ c.from_residual-in_err-rename.result _ c.from_residual-in_err-rename.ensures.1
    (unnamed _ _ c.in_ok-fill.ensures c.in_ok-sync.ensures c.in_err-rename.ensures)

pub returns : goal.returns
returns g c =
    let fills = c.in_ok-fill.ensures in
    let syncs = c.in_ok-sync.ensures in
    let renames = c.in_ok-rename.ensures in
    told_as c.settle.result c.settle.ensures
    (λ settles. record { written = _; lasting = _; named = _; fills = fills; syncs = syncs; renames = renames; settles = settles })
    (λ refuses. unsettled _ _ _ fills syncs renames refuses)
