use Rattle.std.proofs.Common.{Err, ◌∙◌, inl, inr, refl, sym, ap, arith}
use Rattle.std.proofs.lemmas.Bool.{cases_lt}
use Rattle.std.proofs.lemmas.Result.{IfOk-weaker, IfErr-at_err}
use Rattle.vol_sector.specs.Disk.{counted}
use Rattle.vol_sector.specs.declared.fault.VolumeFault.TheVariants as faults
use Rattle.vol_log.proofs.Moments.{both_then, leaves_then}
use Rattle.vol_tree.specs.Fresh.{fresh, IsNoneOrEmpty}
use Rattle.vol_tree.specs.Handing.{device_opened, is_device_refused}
use Rattle.vol_tree.proofs.FreshVolumes.{in_ranges}
use Rattle.vol_tree.proofs.Fronts.{not_the_numbers}
use Rattle.vol_tree.proofs.Refusals.{err_not_ok, not_damage, same_error}
use Rattle.vol_tree.proofs.volume.Volume.create.Goals as goal

pub open_empty-requires : goal.open_empty-requires
open_empty-requires g c =
    let e = c.in-Ok.ensures in
    let size = g.D.Device.size c.args.device in
    let ranges = in_ranges (fresh c.args.sectors c.args.slots) (λ none. err_not_ok _ _ (sym (e.geometry.0 none))) in
    record {
      ranges = ranges;
      room = elim (cases_lt size c.args.sectors) [
        | inl few ↦ absurd (err_not_ok _ _ (sym (e.too_small.0 (ranges, few))))
        | inr room ↦ omega (arith, room, e.kept.size)
      ];
      empty = λ h1. e.empty (e.kept.honest.1 h1);
    }

-- ---- it wasn't made

pub returns-in-Err : goal.returns-in-Err
returns-in-Err g c =
    let e = c.in-Err.ensures in
    let x = c.in-Err.refused.fault in
    let size = g.D.Device.size c.args.device in
    record {
      geometry = (λ none. ap Err (same_error _ _ (e.geometry.0 none)), λ is. e.geometry.1 (ap Err (same_error _ _ is)));
      too_small = (λ few. ap Err (same_error _ _ (e.too_small.0 few)), λ is. e.too_small.1 (ap Err (same_error _ _ is)));
      otherwise = λ ranges room. inr (inl (e.otherwise ranges room));
      undamaged = λ h damaged.
          let named = inl damaged in
          let ranges = in_ranges (fresh c.args.sectors c.args.slots) (λ none. not_the_numbers x named (inl (λ i. (same_error _ _ (e.geometry.0 none) i).fault))) in
          elim (cases_lt size c.args.sectors) [
            | inl few ↦ not_the_numbers x named (inr (λ i. (same_error _ _ (e.too_small.0 (ranges, few)) i).fault))
            | inr room ↦ not_damage x (inl (e.otherwise ranges room)) damaged
          ];
      makes = tt;
      crash = e.crash;
      kept = e.kept;
      goes_on = e.goes_on;
    }

-- ---- it was made, and is opened

pub returns-in-Ok : goal.returns-in-Ok
returns-in-Ok g c =
    let e = c.in-Ok.ensures in
    let o = c.open_empty.ensures in
    let r = c.open_empty.result in
    let P = IsNoneOrEmpty (fresh c.args.sectors c.args.slots) in
    let d0 = g.D.Device.disk c.args.device in
    let d1 = g.D.Device.disk c.in-Ok.device in
    record {
      geometry = (
        λ none. absurd (err_not_ok _ _ (sym (e.geometry.0 none))),
        λ is. not_the_numbers faults.Geometry (IfErr-at_err _ is o.refused) (inl refl),
      );
      too_small = (
        λ few. absurd (err_not_ok _ _ (sym (e.too_small.0 few))),
        λ is. not_the_numbers faults.TooSmall (IfErr-at_err _ is o.refused) (inr refl),
      );
      otherwise = λ ranges room. o.refused;
      undamaged = λ h. o.undamaged (e.kept.honest.0 h);
      makes = IfOk-weaker r _ _ (λ v new. record {
        numbers = new.numbers;
        working = new.working;
        empty = λ h. new.empty (e.kept.honest.0 h);
        durable = λ h. new.durable (e.kept.honest.0 h);
      }) o.makes;
      crash = λ h. leaves_then d0 d1 (g.D.Device.disk (device_opened r)) P _ P (e.crash h) (o.crash (e.kept.honest.0 h)) (λ m p. p) (λ m stands. inr stands);
      kept = record {
        honest = both_then e.kept.honest o.kept.honest;
        size = o.kept.size ∙ e.kept.size;
        failures = o.kept.failures ∙ ap (counted (is_device_refused r)) e.kept.failures;
      };
      goes_on = λ end le first from. o.goes_on end le first (e.goes_on end le first from);
    }
