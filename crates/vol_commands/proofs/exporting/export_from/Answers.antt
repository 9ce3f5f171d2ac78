use Rattle.std.proofs.Common.{inl, inr, refl, sym, ◌∙◌, ap, subst, Err}
use Rattle.std.proofs.KnownBytes.{Keeps-refl}
use Rattle.vol_sector.specs.Disk.{counted}
use Rattle.vol_log.proofs.Moments.{leaves_quiet}
use Rattle.stream_answers.specs.Hearing.{stays}
use Rattle.vol_tree.specs.Stands.{StandsAs}
use Rattle.vol_commands.proofs.PastVolumes.{past_opened}
use Rattle.vol_commands.specs.Exporting.{PerformsExport, blames_export}
use Rattle.vol_commands.proofs.FreshVolume.{refused_open}
use Rattle.vol_commands.proofs.exporting.export_from.Goals as goal

-- the volume was opened, and the directory printed
pub returns-in-Ok-clause-performs : goal.returns-in-Ok-clause-performs
returns-in-Ok-clause-performs g c =
    let opened = c.in-Ok.ensures in
    let v = c.in-Ok.volume in
    let done = c.print_directory-done.ensures in
    let after = c.print_directory-done.new.volume.device in
    let before = g.W.Write.contents c.args.out.now in
    let printed = g.W.Write.contents c.print_directory-done.new.out in
    let disk = g.D.Device.disk in
    let whole : PerformsExport g.D.Device.honest disk g.D.Device.size g.D.Device.failures c.args.path.now c.args.device before printed after c.print_directory-done.result =
    record {
      ends = λ h.
          let now = opened.kept.honest.0 h in
          inl (record {
            numbers = v.numbers;
            tree = v.tree;
            stands = opened.opens.stands h;
            prints = done.prints now;
            crash = leaves_quiet (disk c.args.device) (disk v.device) (disk after) (λ m. StandsAs m v.numbers v.tree) (opened.crash v.numbers v.tree h (opened.opens.stands h)) (done.asked.crash now);
          });
      honest = (λ h. done.asked.kept.honest.0 (opened.kept.honest.0 h), λ h. opened.kept.honest.1 (done.asked.kept.honest.1 h));
      size = done.asked.kept.size ∙ opened.kept.size;
      failed = done.asked.kept.failures opened.opens.working ∙ ap (counted (blames_export c.print_directory-done.result)) opened.kept.failures;
    } in
    subst (λ (d : g.row.D.Denot). PerformsExport g.D.Device.honest disk g.D.Device.size g.D.Device.failures c.args.path.now c.args.device before printed d c.print_directory-done.result)
    (sym c.into_device.ensures) whole

-- it was refused
pub returns-in-Err-clause-performs : goal.returns-in-Err-clause-performs
returns-in-Err-clause-performs g c =
    let refused = c.in-Err.ensures in
    record {
      ends = λ h. inr (record {
        refused = c.in-Err.field-0;
        is = refl;
        left_is = refl;
        refusal = refused_open g.D.Device.honest g.D.Device.disk g.D.Device.size g.D.Device.failures c.args.device (Err c.in-Err.field-0) refused.why refused.crash refused.left refused.kept;
        prints_nothing = Keeps-refl (g.W.Write.contents c.args.out.now);
      });
      honest = refused.kept.honest;
      size = refused.kept.size;
      failed = refused.kept.failures;
    }

-- ---- the sectors past the volume

pub returns-in-Ok-clause-goes_on : goal.returns-in-Ok-clause-goes_on
returns-in-Ok-clause-goes_on g c end past first from =
    let opened = c.in-Ok.ensures in
    let le = past_opened _ _ (g.D.Device.disk c.args.device).seen c.in-Ok.volume.numbers end opened.opens.ranges.0 opened.opens.ranges.1 (λ h. (opened.opens.stands h).stands.front) past in
    subst (g.D.Device.goes_on end first) (sym c.into_device.ensures) (c.print_directory-done.ensures.asked.goes end le first (opened.goes_on_ok end le first from))

pub returns-in-Err-clause-goes_on : goal.returns-in-Err-clause-goes_on
returns-in-Err-clause-goes_on g c = c.in-Err.ensures.goes_on_err

pub returns-in-Ok-clause-heard : goal.returns-in-Ok-clause-heard
returns-in-Ok-clause-heard g c = c.print_directory-done.ensures.heard

pub returns-in-Err-clause-heard : goal.returns-in-Err-clause-heard
returns-in-Err-clause-heard g c = stays
