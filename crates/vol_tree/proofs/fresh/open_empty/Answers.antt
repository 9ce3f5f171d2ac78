use Rattle.std.proofs.Common.{◌≡◌, ◌↔◌, ◌∙◌, inr, sym, subst, ap, arith}
use Rattle.vol_sector.specs.Disk.{Image, Leaves, counted}
use Rattle.vol_sector.specs.Fault.{is_device}
use Rattle.vol_sector.specs.declared.fault.VolumeFault.{VolumeFault}
use Rattle.vol_log.specs.Log.{view, device_of}
use Rattle.vol_tree.specs.Stands.{StandsAs, empty_tree}
use Rattle.vol_tree.specs.Opened.{Opened}
use Rattle.vol_tree.proofs.FreshVolumes.{finds_empty, found_empty, found_fresh}
use Rattle.vol_tree.proofs.Openings.{stands_again, leaves_weaker, finds_lasting, finds_working}
use Rattle.vol_tree.proofs.Refusals.{not_damage}
use Rattle.vol_tree.proofs.fresh.open_empty.Goals as goal

-- ---- the log was refused

pub returns-in-Err : goal.returns-in-Err
returns-in-Err g c =
    let e = c.in-Err.ensures in
    let v = c.args.numbers in
    let d0 = g.D.Device.disk c.args.device in
    record {
      refused = e.faults_named;
      undamaged = λ h is. let st = c.requires.empty h in (e.damaged h is).0 st.content st.log;
      makes = tt;
      crash = λ h.
          let st = c.requires.empty h in
          leaves_weaker d0 (g.D.Device.disk c.in-Err.refused.device) _ _ (e.crash_err st.content h st.log) (λ m has. stands_again d0.seen m v (empty_tree v.slots) st has);
      kept = record { honest = e.kept_err.0; size = e.kept_err.1; failures = e.kept_err.2 };
      goes_on = e.goes_on_err;
    }

-- ---- it was opened

pub of_parts-requires : goal.of_parts-requires
of_parts-requires g c =
    let v = c.args.numbers in
    let log = c.in-Ok.log in
    let opened = c.in-Ok.ensures in
    let p = c.in-Ok-empty_parts.ensures in
    let parts = λ (h2 : g.D.Device.honest (device_of log)). (
    let h = opened.kept_ok.0.1 h2 in
    let st = c.requires.empty h in
    p.parts (view log) (found_fresh c.args.device log v st (opened.settled h) opened.fresh.1 (opened.content st.content h st.log))) in
    record {
      ranges = c.requires.ranges;
      sectors = opened.fresh.2;
      on_device = omega (arith, opened.kept_ok.1, c.requires.room);
      first = p.first;
      end = p.end;
      slots = p.slots;
      content = λ h2. (parts h2).volume;
      reserved = λ h2. (parts h2).reserved;
      shows = λ h2. (parts h2).shows;
      working = λ h2 fine.
          let h = opened.kept_ok.0.1 h2 in
          let st = c.requires.empty h in
          finds_working v.sectors (g.D.Device.disk c.args.device) (g.D.Device.disk (device_of log)) (view log) v
          (finds_empty c.args.device log v st (opened.settled h) opened.fresh.1 (opened.content st.content h st.log)) c.in-Ok-empty_parts.sectors (parts h2).taken;
    }

pub returns-in-Ok-empty_parts : goal.returns-in-Ok-empty_parts
returns-in-Ok-empty_parts g c =
    let v = c.args.numbers in
    let log = c.in-Ok.log in
    let opened = c.in-Ok.ensures in
    let d0 = g.D.Device.disk c.args.device in
    let d2 = g.D.Device.disk (device_of log) in
    let is = c.of_parts.ensures in
    let device_is : c.of_parts.result.device ≡ device_of log = ap (λ (o : Opened g.row.D.Denot). o.device) is in
    record {
      refused = tt;
      undamaged = λ h. tt;
      makes = record {
        numbers = ap (λ (o : Opened g.row.D.Denot). o.numbers) is;
        working = ap (λ (o : Opened g.row.D.Denot). o.failed) is ∙ opened.fresh.0;
        empty = λ h.
            let st = c.requires.empty h in
            ap (λ (o : Opened g.row.D.Denot). o.tree) is ∙ found_empty c.args.device log v st (opened.settled h) opened.fresh.1 (opened.content st.content h st.log);
        durable = λ h.
            let st = c.requires.empty h in
            let found = finds_empty c.args.device log v st (opened.settled h) opened.fresh.1 (opened.content st.content h st.log) in
            subst (λ (o : Opened g.row.D.Denot). (m : Image) → (g.D.Device.disk o.device).may_leave m → StandsAs m o.numbers o.tree) (sym is) (finds_lasting v.sectors d0 d2 (view log) v found);
      };
      crash = λ h.
          let st = c.requires.empty h in
          subst (λ d. Leaves d0 (g.D.Device.disk d) (λ m. StandsAs m v (empty_tree v.slots))) (sym device_is)
          (leaves_weaker d0 d2 _ _ (opened.crash_ok st.content h st.log) (λ m has. stands_again d0.seen m v (empty_tree v.slots) st has));
      kept = record {
        honest = subst (λ d. g.D.Device.honest c.args.device ↔ g.D.Device.honest d) (sym device_is) opened.kept_ok.0;
        size = ap g.D.Device.size device_is ∙ opened.kept_ok.1;
        failures = ap g.D.Device.failures device_is ∙ opened.kept_ok.2;
      };
      goes_on = λ end le first from. subst (g.D.Device.goes_on end first) (sym device_is) (opened.goes_on_ok end le first from);
    }

-- ---- there was no memory

pub returns-in-Err-empty_parts : goal.returns-in-Err-empty_parts
returns-in-Err-empty_parts g c =
    let v = c.args.numbers in
    let log = c.in-Ok.log in
    let opened = c.in-Ok.ensures in
    let x = c.in-Err-empty_parts.fault in
    let memory = c.in-Err-empty_parts.ensures.refused in
    let d0 = g.D.Device.disk c.args.device in
    let d2 = g.D.Device.disk (device_of log) in
    let before = g.D.Device.failures c.args.device in
    record {
      refused = inr (inr memory);
      undamaged = λ h is. not_damage x (inr memory) is;
      makes = tt;
      crash = λ h.
          let st = c.requires.empty h in
          subst (λ d. Leaves d0 (g.D.Device.disk d) (λ m. StandsAs m v (empty_tree v.slots))) (sym c.into_device.ensures)
          (leaves_weaker d0 d2 _ _ (opened.crash_ok st.content h st.log) (λ m has. stands_again d0.seen m v (empty_tree v.slots) st has));
      kept = record {
        honest = subst (λ d. g.D.Device.honest c.args.device ↔ g.D.Device.honest d) (sym c.into_device.ensures) opened.kept_ok.0;
        size = ap g.D.Device.size c.into_device.ensures ∙ opened.kept_ok.1;
        failures = ap g.D.Device.failures c.into_device.ensures ∙ opened.kept_ok.2 ∙ ap (λ (f : VolumeFault). counted (is_device f) before) (sym memory);
      };
      goes_on = λ end le first from. subst (g.D.Device.goes_on end first) (sym c.into_device.ensures) (opened.goes_on_ok end le first from);
    }
