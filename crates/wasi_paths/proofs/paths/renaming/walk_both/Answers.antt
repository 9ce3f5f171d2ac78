use Rattle.std.proofs.Common.{◌≡◌, ℕ, sym, ap, ◌∙◌, subst, inl, Ok}
use Rattle.path_walk.specs.Walk.{reached_as, IsReached}
use Rattle.path_walk.specs.Paths.{path_read, wants_directory}
use Rattle.wasi_fd.specs.Table.{table_of}
use Rattle.wasi_fd.specs.declared.descriptor.Opened.{Opened}
use Rattle.path_walk.specs.declared.walking.Reached.{Reached as ReachedValue}
use Rattle.wasi_bodies.proofs.checks.CausesOf29.{asked_29, check_not_29, no_29_at_0, not_29}
use Rattle.wasi_paths.proofs.paths.NoneEntered29.{rename_entered_never}
use Rattle.wasi_bodies.specs.World.{World, with_volume_failed}
use Rattle.wasi_bodies.specs.Checks.{and_then}
use Rattle.wasi_bodies.specs.paths.Rows.{path_at}
use Rattle.wasi_bodies.specs.internal.Asking.{Stops}
use Rattle.wasi_paths.specs.internal.paths.Renaming.{rename_part, rename_entered}
use Rattle.wasi_bodies.proofs.checks.Chains.{stops}
use Rattle.wasi_bodies.proofs.checks.Passing.{walked_to}
use Rattle.wasi_paths.proofs.paths.OpenDirectories.{renames_at}
use Rattle.wasi_bodies.proofs.bodies.VolumeCalls.{steps_after}
use Rattle.wasi_bodies.proofs.bodies.AskingCalls.{entry_still, ends_part, stops_as, asked_after, works_as, works_on}
use Rattle.wasi_paths.proofs.paths.RenameWalks.{entered_both, after_first, first_never, second_stops, source_stops, both_walked, source_never}
use Rattle.wasi_bodies.proofs.bodies.Resting.{volume_rests}
use Rattle.vol_tree.specs.Tree.{Tree}
use Rattle.wasi_bodies.specs.internal.paths.Walks.{Places}
use Rattle.wasi_paths.proofs.paths.renaming.walk_both.Goals as goal

pub returns-in-Err : goal.returns-in-Err
returns-in-Err g c = record {
  step = volume_rests g.D.Device.honest g.D.Device.disk g.D.Device.size g.D.Device.failures g.D.Device.goes_on c.args.volume.now;
  works = tt;
  source = tt;
  reached = tt;
  place = tt;
  walks = λ h w table shown. inl (record { is = stops _ _ _ (c.in-Err.ensures.row w table); same = sym shown });
  io = check_not_29 (table_of c.args.descriptors.now) (λ w. rename_entered w c.args.memory.now.bytes c.args.asked.now) _ (rename_entered_never c.args.memory.now.bytes c.args.asked.now) c.in-Err.ensures.row;
}

pub reach-requires : goal.reach-requires
reach-requires g c =
    rw c.new-from.ensures (renames_at g.D.Device.honest c.args.volume.now (table_of c.args.descriptors.now) c.requires.known c.args.memory.now.bytes c.args.asked.now c.in-Ok.ends.from c.in-Ok.ends.to c.in-Ok.ensures.row).0

pub reach-requires-2 : goal.reach-requires-2
reach-requires-2 g c =
    rw c.new-to.ensures (entry_still g.D.Device.honest g.D.Device.disk g.D.Device.size g.D.Device.failures g.D.Device.goes_on c.args.volume.now c.reach.new.volume c.in-Ok.ends.to.serial c.in-Ok-reach.ensures.works
    (renames_at g.D.Device.honest c.args.volume.now (table_of c.args.descriptors.now) c.requires.known c.args.memory.now.bytes c.args.asked.now c.in-Ok.ends.from c.in-Ok.ends.to c.in-Ok.ensures.row).1)

pub returns-in-Err-reach : goal.returns-in-Err-reach
returns-in-Err-reach g c = record {
  step = c.in-Err-reach.ensures.step;
  works = tt;
  source = tt;
  reached = tt;
  place = tt;
  walks = λ h w table shown.
      let m = c.args.memory.now.bytes in
      let a = c.args.asked.now in
      let from : Opened = c.in-Ok.ends.from in
      let to : Opened = c.in-Ok.ends.to in
      let both : Opened × Opened = (from, to) in
      let old = c.args.volume.now in
      let mid = c.reach.new.volume in
      let goes = λ (v : World) (same : v.table ≡ table_of c.args.descriptors.now). entered_both v m a both (c.in-Ok.ensures.row v same) in
      subst (λ (n : ℕ). Stops (λ v. rename_part v m a) w mid n) (sym c.refused.ensures)
      (stops_as w (λ v. rename_part v m a) (λ v. and_then (path_at v m from a.from_path a.from_len) (after_first v m a both)) mid _ (goes w table) (goes (with_volume_failed w) table)
      (ends_part w (λ v. path_at v m from a.from_path a.from_len) (λ v. after_first v m a both) mid _ (λ alive r. first_never w m a both r alive)
      (c.in-Err-reach.ensures.reaches h w from _ (sym c.new-from.ensures) c.in-Ok.ensures.from shown)));
  io = asked_29 ReachedValue c.in-Err-reach.errno _ c.in-Err-reach.ensures.io c.refused.ensures;
}

pub returns-in-Err-reach-2 : goal.returns-in-Err-reach-2
returns-in-Err-reach-2 g c = record {
  step = steps_after g.D.Device.honest g.D.Device.disk g.D.Device.size g.D.Device.failures g.D.Device.goes_on c.args.volume.now c.reach.new.volume c.reach-2.new.volume c.in-Ok-reach.ensures.works c.in-Err-reach-2.ensures.step;
  works = tt;
  source = tt;
  reached = tt;
  place = tt;
  walks = λ h w table shown.
      let one = c.in-Ok-reach.ensures.reaches h w c.in-Ok.ends.from _ (sym c.new-from.ensures) c.in-Ok.ensures.from shown in
      let now = c.in-Ok-reach.ensures.works.kept.honest.0 h in
      subst (λ (n : ℕ). Stops (λ v. rename_part v c.args.memory.now.bytes c.args.asked.now) w c.reach-2.new.volume n) (sym c.refused-in-Err-reach-2.ensures)
      (second_stops c.reach.new.volume c.reach-2.new.volume w c.args.memory.now.bytes c.args.asked.now (c.in-Ok.ends.from, c.in-Ok.ends.to) (λ v same. c.in-Ok.ensures.row v (same ∙ table)) (reached_as c.in-Ok-reach.moved) one
      _ (c.in-Err-reach-2.ensures.reaches now w c.in-Ok.ends.to _ (sym c.new-to.ensures) c.in-Ok.ensures.to (sym one.same)));
  io = asked_29 ReachedValue c.in-Err-reach-2.errno _ c.in-Err-reach-2.ensures.io c.refused-in-Err-reach-2.ensures;
}

pub returns-in-Err-source_of : goal.returns-in-Err-source_of
returns-in-Err-source_of g c = record {
  step = asked_after g.D.Device.honest g.D.Device.disk g.D.Device.size g.D.Device.failures g.D.Device.goes_on c.args.volume.now c.reach.new.volume c.reach-2.new.volume _ c.in-Ok-reach.ensures.works
      (works_as g.D.Device.honest g.D.Device.disk g.D.Device.size g.D.Device.failures g.D.Device.goes_on c.reach.new.volume c.reach-2.new.volume c.in-Ok-reach-2.ensures.works);
  works = tt;
  source = tt;
  reached = tt;
  place = tt;
  walks = λ h w table shown.
      let one = c.in-Ok-reach.ensures.reaches h w c.in-Ok.ends.from _ (sym c.new-from.ensures) c.in-Ok.ensures.from shown in
      let now = c.in-Ok-reach.ensures.works.kept.honest.0 h in
      let two = c.in-Ok-reach-2.ensures.reaches now w c.in-Ok.ends.to _ (sym c.new-to.ensures) c.in-Ok.ensures.to (sym one.same) in
      source_stops c.reach.new.volume c.reach-2.new.volume w c.args.memory.now.bytes c.args.asked.now (c.in-Ok.ends.from, c.in-Ok.ends.to) (λ v same. c.in-Ok.ensures.row v (same ∙ table)) (reached_as c.in-Ok-reach.moved) one
      (reached_as c.in-Ok-reach-2.target) two _ (rw c.new-from.ensures at c.in-Err-source_of.ensures.row);
  io = not_29 _ _ (source_never _ _) c.in-Err-source_of.ensures.row;
}

pub returns : goal.returns
returns g c = record {
  step = asked_after g.D.Device.honest g.D.Device.disk g.D.Device.size g.D.Device.failures g.D.Device.goes_on c.args.volume.now c.reach.new.volume c.reach-2.new.volume _ c.in-Ok-reach.ensures.works
      (works_as g.D.Device.honest g.D.Device.disk g.D.Device.size g.D.Device.failures g.D.Device.goes_on c.reach.new.volume c.reach-2.new.volume c.in-Ok-reach-2.ensures.works);
  works = works_on g.D.Device.honest g.D.Device.disk g.D.Device.size g.D.Device.failures g.D.Device.goes_on c.args.volume.now c.reach.new.volume c.reach-2.new.volume c.in-Ok-reach.ensures.works
      (works_as g.D.Device.honest g.D.Device.disk g.D.Device.size g.D.Device.failures g.D.Device.goes_on c.reach.new.volume c.reach-2.new.volume c.in-Ok-reach-2.ensures.works);
  source = entry_still g.D.Device.honest g.D.Device.disk g.D.Device.size g.D.Device.failures g.D.Device.goes_on c.reach.new.volume c.reach-2.new.volume c.in-Ok-source_of.source c.in-Ok-reach-2.ensures.works (subst (IsReached g.D.Device.honest c.reach.new.volume) c.in-Ok-source_of.ensures.found c.in-Ok-reach.ensures.reached);
  reached = c.in-Ok-reach-2.ensures.reached;
  place = λ h.
      let walked = c.in-Ok-reach-2.ensures in
      let before = walked.works.kept.honest.1 h in
      subst (λ (T : Tree). Places T (Ok c.in-Ok-reach-2.target)) (sym (walked.works.tree before)) (walked.place before);
  walks = λ h w table shown.
      let one = c.in-Ok-reach.ensures.reaches h w c.in-Ok.ends.from _ (sym c.new-from.ensures) c.in-Ok.ensures.from shown in
      let now = c.in-Ok-reach.ensures.works.kept.honest.0 h in
      let two = c.in-Ok-reach-2.ensures.reaches now w c.in-Ok.ends.to _ (sym c.new-to.ensures) c.in-Ok.ensures.to (sym one.same) in (
        both_walked c.reach.new.volume c.reach-2.new.volume w c.args.memory.now.bytes c.args.asked.now (c.in-Ok.ends.from, c.in-Ok.ends.to) (λ v same. c.in-Ok.ensures.row v (same ∙ table)) (reached_as c.in-Ok-reach.moved) one
            (reached_as c.in-Ok-reach-2.target) two c.in-Ok-source_of.source (rw c.new-from.ensures at c.in-Ok-source_of.ensures.row),
        c.wants_a_directory-slash.ensures ∙ ap wants_directory c.in-Ok.ensures.to,
      );
  io = no_29_at_0;
}
