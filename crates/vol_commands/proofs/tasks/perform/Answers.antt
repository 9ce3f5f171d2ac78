use Rattle.std.proofs.Common.{inl, inr, refl, sym, ◌∙◌, ap, subst}
use Rattle.std.proofs.KnownBytes.{Keeps-refl}
use Rattle.vol_sector.specs.Disk.{counted}
use Rattle.vol_commands.proofs.PastVolumes.{past_opened}
use Rattle.vol_commands.specs.Blame.{blames_device}
use Rattle.vol_commands.specs.Doing.{IsPartOf, IsRaised, Performs}
use Rattle.vol_commands.proofs.Beginning.{task_after}
use Rattle.vol_commands.proofs.Opened.{refused_by, whole_is_part}
use Rattle.vol_commands.proofs.Refusals.{holds_nothing}
use Rattle.stream_answers.specs.Hearing.{Moves, stays}
use Rattle.vol_commands.proofs.Blamed.{unblamed}
use Rattle.vol_commands.proofs.tasks.perform.Goals as goal

-- the volume was opened, and the task was done with it
pub returns-in-Ok-clause-performs : goal.returns-in-Ok-clause-performs
returns-in-Ok-clause-performs g c =
    let opened = c.in-Ok.ensures in
    let v = c.in-Ok.volume in
    let done = c.done_with-done.ensures in
    let after = c.done_with-done.new.volume.device in
    let given = g.R.Read.remaining c.args.input.now in
    let unread = g.R.Read.remaining c.done_with-done.new.input in
    let out = g.W.Write.contents in
    let disk = g.D.Device.disk in
    let whole : Performs g.D.Device.honest disk g.D.Device.size g.D.Device.failures c.args.task c.args.device given unread (out c.args.out.now) (out c.done_with-done.new.out) after c.done_with-done.result =
    record {
      ends = λ h.
          let now = opened.kept.honest.0 h in
          let these = IsPartOf c.args.task v.numbers v.tree given in
          inl (record {
            numbers = v.numbers;
            tree = v.tree;
            stands = opened.opens.stands h;
            new_tree = c.done_with-done.new.volume.tree;
            does = done.does now;
            crash = task_after (disk c.args.device) v.numbers these (disk v.device) (disk after) v.tree (IsRaised c.args.task v.numbers v.tree) (whole_is_part c.args.task v.numbers v.tree given)
                (opened.crash v.numbers v.tree h (opened.opens.stands h)) (done.crash now);
            lasts = done.lasts now;
          });
      honest = (λ h. done.honest.0 (opened.kept.honest.0 h), λ h. opened.kept.honest.1 (done.honest.1 h));
      size = done.size ∙ opened.kept.size;
      failed = done.failures ∙ ap (counted (blames_device c.done_with-done.result)) opened.kept.failures;
      reads_nothing = done.reads_nothing;
      prints_nothing = done.prints_nothing;
    } in
    subst (λ (d : g.row.D.Denot). Performs g.D.Device.honest disk g.D.Device.size g.D.Device.failures c.args.task c.args.device given unread (out c.args.out.now) (out c.done_with-done.new.out) d c.done_with-done.result)
    (sym c.into_device.ensures) whole

-- it was refused
pub returns-in-Err-clause-performs : goal.returns-in-Err-clause-performs
returns-in-Err-clause-performs g c =
    let refused = c.in-Err.ensures in
    record {
      ends = λ h. inr (record {
        fault = c.in-Err.field-0.fault;
        is = refl;
        why = refused_by c.in-Err.field-0.fault (g.D.Device.size c.args.device) (g.D.Device.disk c.args.device).seen (refused.why.not_a_volume h) (refused.why.version h) (refused.why.damaged h) refused.why.faults_named;
        crash = λ v T stands. refused.crash v T h stands;
        unwritten = λ is. refused.left.unwritten h (holds_nothing (g.D.Device.size c.args.device) (g.D.Device.disk c.args.device).seen c.in-Err.field-0.fault (refused.why.not_a_volume h) (refused.why.version h) is);
        untouched = refused.left.unwritten h;
        installs = λ v m holds. (refused.left.installs v m h holds).1;
        reads_nothing = refl;
        prints_nothing = Keeps-refl (g.W.Write.contents c.args.out.now);
      });
      honest = refused.kept.honest;
      size = refused.kept.size;
      failed = refused.kept.failures;
      reads_nothing = λ quiet. refl;
      prints_nothing = λ quiet. Keeps-refl (g.W.Write.contents c.args.out.now);
    }

-- ---- the sectors past the volume

pub returns-in-Ok-clause-goes_on : goal.returns-in-Ok-clause-goes_on
returns-in-Ok-clause-goes_on g c end past first from =
    let opened = c.in-Ok.ensures in
    let le = past_opened _ _ (g.D.Device.disk c.args.device).seen c.in-Ok.volume.numbers end opened.opens.ranges.0 opened.opens.ranges.1 (λ h. (opened.opens.stands h).stands.front) past in
    subst (g.D.Device.goes_on end first) (sym c.into_device.ensures) (c.done_with-done.ensures.goes_on end le first (opened.goes_on_ok end le first from))

pub returns-in-Err-clause-goes_on : goal.returns-in-Err-clause-goes_on
returns-in-Err-clause-goes_on g c = c.in-Err.ensures.goes_on_err

pub returns-in-Ok-clause-heard : goal.returns-in-Ok-clause-heard
returns-in-Ok-clause-heard g c = c.done_with-done.ensures.heard

pub returns-in-Err-clause-heard : goal.returns-in-Err-clause-heard
returns-in-Err-clause-heard g c reads = unblamed (Moves g.R.Inlet.gave) g.R.Inlet.refused _ refl _ _ stays

pub returns-in-Ok-clause-printed : goal.returns-in-Ok-clause-printed
returns-in-Ok-clause-printed g c = c.done_with-done.ensures.printed

pub returns-in-Err-clause-printed : goal.returns-in-Err-clause-printed
returns-in-Err-clause-printed g c prints = stays
