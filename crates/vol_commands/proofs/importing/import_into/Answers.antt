use Rattle.std.proofs.Common.{inl, inr, refl, sym, ◌∙◌, ap, subst, Err, OnOk}
use Rattle.vol_sector.specs.Disk.{Image, counted}
use Rattle.vol_tree.specs.declared.superblock.Superblock.{Superblock}
use Rattle.vol_tree.specs.Stands.{StandsAs}
use Rattle.vol_commands.proofs.PastVolumes.{past_opened}
use Rattle.vol_commands.specs.Importing.{IsPartOfBringing, PerformsImport, blames_import}
use Rattle.vol_commands.proofs.Brought.{opened_then}
use Rattle.vol_commands.proofs.FreshVolume.{refused_open}
use Rattle.stream_answers.specs.Hearing.{stays}
use Rattle.vol_commands.proofs.importing.import_into.Goals as goal

-- the volume was opened, and the stream brought in
pub returns-in-Ok-clause-performs : goal.returns-in-Ok-clause-performs
returns-in-Ok-clause-performs g c =
    let opened = c.in-Ok.ensures in
    let v = c.in-Ok.volume in
    let done = c.bring-done.ensures in
    let after = c.bring-done.new.volume.device in
    let given = g.R.Read.remaining c.args.input.now in
    let unread = g.R.Read.remaining c.bring-done.new.input in
    let disk = g.D.Device.disk in
    let whole : PerformsImport g.D.Device.honest disk g.D.Device.size g.D.Device.failures c.args.path.now c.args.device given unread after c.bring-done.result =
    record {
      ends = λ h.
          let now = opened.kept.honest.0 h in
          inl (record {
            numbers = v.numbers;
            tree = v.tree;
            stands = opened.opens.stands h;
            new_tree = c.bring-done.new.volume.tree;
            brings = done.brings now;
            crash = opened_then (disk c.args.device) v.numbers (IsPartOfBringing v.numbers v.tree c.args.path.now given) (disk v.device) (disk after) v.tree (inl refl)
                (opened.crash v.numbers v.tree h (opened.opens.stands h)) (done.crash now);
            lasts = subst (λ (w : Superblock). OnOk c.bring-done.result ((m : Image) → (disk after).may_leave m → StandsAs m w c.bring-done.new.volume.tree)) done.kept.numbers (done.durable now);
          });
      honest = (λ h. done.kept.honest.0 (opened.kept.honest.0 h), λ h. opened.kept.honest.1 (done.kept.honest.1 h));
      size = done.kept.size ∙ opened.kept.size;
      failed = done.kept.failures opened.opens.working ∙ ap (counted (blames_import c.bring-done.result)) opened.kept.failures;
    } in
    subst (λ (d : g.row.D.Denot). PerformsImport g.D.Device.honest disk g.D.Device.size g.D.Device.failures c.args.path.now c.args.device given unread d c.bring-done.result)
    (sym c.into_device.ensures) whole

-- it was refused
pub returns-in-Err-clause-performs : goal.returns-in-Err-clause-performs
returns-in-Err-clause-performs g c =
    let refused = c.in-Err.ensures in
    record {
      ends = λ h. inr (record {
        refused = c.in-Err.field-0;
        is = refl;
        left_is = refl;
        refusal = refused_open g.D.Device.honest g.D.Device.disk g.D.Device.size g.D.Device.failures c.args.device (Err c.in-Err.field-0) refused.why refused.crash refused.left refused.kept;
        reads_nothing = refl;
      });
      honest = refused.kept.honest;
      size = refused.kept.size;
      failed = refused.kept.failures;
    }

-- ---- the sectors past the volume

pub returns-in-Ok-clause-goes_on : goal.returns-in-Ok-clause-goes_on
returns-in-Ok-clause-goes_on g c end past first from =
    let opened = c.in-Ok.ensures in
    let le = past_opened _ _ (g.D.Device.disk c.args.device).seen c.in-Ok.volume.numbers end opened.opens.ranges.0 opened.opens.ranges.1 (λ h. (opened.opens.stands h).stands.front) past in
    subst (g.D.Device.goes_on end first) (sym c.into_device.ensures) (c.bring-done.ensures.goes_on end le first (opened.goes_on_ok end le first from))

pub returns-in-Err-clause-goes_on : goal.returns-in-Err-clause-goes_on
returns-in-Err-clause-goes_on g c = c.in-Err.ensures.goes_on_err

pub returns-in-Ok-clause-heard : goal.returns-in-Ok-clause-heard
returns-in-Ok-clause-heard g c = c.bring-done.ensures.heard

pub returns-in-Err-clause-heard : goal.returns-in-Err-clause-heard
returns-in-Err-clause-heard g c = stays
