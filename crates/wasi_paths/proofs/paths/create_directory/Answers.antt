use Rattle.std.proofs.Common.{◌≡◌, ◌≢◌, ◌^◌, ℕ, List, false, Result, Ok, Err, refl, sym, ap, ◌∙◌, subst}
use Rattle.vol_tree.specs.declared.errno.Errno.{Errno}
use Rattle.vol_tree.specs.Tree.{Tree, Name, Directory, IsDirectory}
use Rattle.vol_tree.specs.Calls.{created}
use Rattle.path_walk.specs.declared.walking.Reached.{Reached as ReachedValue}
use Rattle.path_walk.specs.Walk.{reached_as, IsReached}
use Rattle.path_walk.specs.Paths.{Reached}
use Rattle.wasi_bodies.proofs.checks.CausesOf29.{asked_29}
use Rattle.wasi_bodies.specs.World.{World, with_volume_failed}
use Rattle.wasi_bodies.specs.Checks.{Checked, Done, and_then}
use Rattle.wasi_bodies.specs.paths.Rows.{path_create_directory, missing}
use Rattle.wasi_bodies.specs.Calls.{Answered, by_row}
use Rattle.wasi_bodies.specs.internal.Entries.{with_volume}
use Rattle.wasi_bodies.specs.internal.paths.Walks.{reached_from, Places}
use Rattle.wasi_bodies.proofs.checks.Chains.{goes_on, stops}
use Rattle.wasi_paths.proofs.paths.Walks.{missing_name_never}
use Rattle.wasi_bodies.proofs.bodies.Answering.{answers_refused}
use Rattle.wasi_bodies.proofs.bodies.AskingCalls.{and_then_assoc, ok_then, ends_call}
use Rattle.wasi_bodies.proofs.bodies.VolumeCalls.{never_after, steps, steps_after, created_never, making, making_never, made_ok, made_err}
use Rattle.wasi_paths.proofs.paths.create_directory.Goals as goal

-- the row from the walk on
abbrev made_at : ℕ × Name → World → Result (Tree × ℕ) Errno
made_at place w = created w.tree place.0 place.1 Directory

abbrev of_reached : World → Reached → Checked Done
of_reached w r = and_then (missing r) (λ place. making (made_at place) w)

to_rest : (w : World) (m : List ℕ) (fd path len : ℕ) → path_create_directory w m fd path len ≡ and_then (reached_from w m fd (2 ^ 9) path len) (λ r. of_reached w r)
to_rest w m fd path len = simp (and_then_assoc, ok_then)

rest_never : (w : World) → w.volume_failed ≡ false → (r : Reached) → of_reached w r ≢ Err 29
rest_never w alive r = never_after (missing r) (λ place. making (made_at place) w) (missing_name_never r)
    (λ place _. making_never (made_at place) w alive (created_never w.tree place.0 place.1 Directory))

-- what is reached is missing
to_making : (w : World) (m : List ℕ) (fd path len : ℕ) (r : Reached) (place : ℕ × Name) → reached_from w m fd (2 ^ 9) path len ≡ Ok r → missing r ≡ Ok place
    → path_create_directory w m fd path len ≡ making (made_at place) w
to_making w m fd path len r place is gone = to_rest w m fd path len ∙ (goes_on _ _ r is ∙ goes_on _ _ place gone)

pub returns-in-Err-clause-answered : goal.returns-in-Err-clause-answered
returns-in-Err-clause-answered g c = λ h w table shown.
    let m = c.args.memory.now.bytes in
    ends_call w m (λ v. path_create_directory v m c.args.fd c.args.path c.args.len) (λ v. reached_from v m c.args.fd (2 ^ 9) c.args.path c.args.len) of_reached
    c.reach_from.new.volume _ (λ v. to_rest v m c.args.fd c.args.path c.args.len) (rest_never w) (c.in-Err.ensures.asks h w table shown)

pub returns-in-Ok-Found-clause-answered : goal.returns-in-Ok-Found-clause-answered
returns-in-Ok-Found-clause-answered g c = λ h w table shown.
    let m = c.args.memory.now.bytes in
    let passes = c.in-Ok-Found.ensures.asks h w table shown in
    let is : missing (reached_as c.in-Ok-Found.field-0) ≡ Err 20 = ap (λ (r : ReachedValue). missing (reached_as r)) c.in-Ok-Found.field-0-is in
    by_row (answers_refused _ w m (with_volume c.reach_from.new.volume w) m 20
    (to_rest w m c.args.fd c.args.path c.args.len ∙ (goes_on _ _ (reached_as c.in-Ok-Found.field-0) passes.is ∙ stops _ _ 20 is)) passes.same refl)

pub returns-in-Ok-clause-step : goal.returns-in-Ok-clause-step
returns-in-Ok-clause-step g c =
    steps_after g.D.Device.honest g.D.Device.disk g.D.Device.size g.D.Device.failures g.D.Device.goes_on c.args.volume.now c.reach_from.new.volume c.create_dir.new.self c.in-Ok-Missing.ensures.works
    (steps g.D.Device.honest g.D.Device.disk g.D.Device.size g.D.Device.failures g.D.Device.goes_on c.reach_from.new.volume c.create_dir.new.self _ c.in-Ok.ensures.kept c.in-Ok.ensures.crash c.in-Ok.ensures.goes_on)

pub returns-in-Ok-clause-answered : goal.returns-in-Ok-clause-answered
returns-in-Ok-clause-answered g c = λ h w table shown.
    let m = c.args.memory.now.bytes in
    let place : ℕ × Name = (c.in-Ok-Missing.parent, c.in-Ok-Missing.name.now) in
    let passes = c.in-Ok-Missing.ensures.asks h w table shown in
    let is : missing (reached_as c.in-Ok-Missing.field-0) ≡ Ok place = ap (λ (r : ReachedValue). missing (reached_as r)) c.in-Ok-Missing.field-0-is in
    made_ok g.D.Device.honest g.D.Device.size g.D.Device.failures w m (λ v. path_create_directory v m c.args.fd c.args.path c.args.len) (made_at place) c.reach_from.new.volume c.create_dir.new.self (sym passes.same)
    (to_making w m c.args.fd c.args.path c.args.len (reached_as c.in-Ok-Missing.field-0) place passes.is is)
    c.in-Ok.ensures.kept c.in-Ok.field-0 (rw c.new.ensures at c.in-Ok.ensures.answer (c.in-Ok-Missing.ensures.works.kept.honest.0 h))

pub returns-in-Err-create_dir : goal.returns-in-Err-create_dir
returns-in-Err-create_dir g c = record {
  step = steps_after g.D.Device.honest g.D.Device.disk g.D.Device.size g.D.Device.failures g.D.Device.goes_on c.args.volume.now c.reach_from.new.volume c.create_dir.new.self c.in-Ok-Missing.ensures.works
      (steps g.D.Device.honest g.D.Device.disk g.D.Device.size g.D.Device.failures g.D.Device.goes_on c.reach_from.new.volume c.create_dir.new.self _ c.in-Err-create_dir.ensures.kept c.in-Err-create_dir.ensures.crash c.in-Err-create_dir.ensures.goes_on);
  io = asked_29 ℕ c.in-Err-create_dir.errno _ (λ fails. c.in-Err-create_dir.ensures.kept.failed ∙ fails) c.refused.ensures;
  answered = λ h w table shown.
      let m = c.args.memory.now.bytes in
      let new = c.create_dir.new.self in
      let run : World → Checked Done = λ v. path_create_directory v m c.args.fd c.args.path c.args.len in
      let place : ℕ × Name = (c.in-Ok-Missing.parent, c.in-Ok-Missing.name.now) in
      let passes = c.in-Ok-Missing.ensures.asks h w table shown in
      let is : missing (reached_as c.in-Ok-Missing.field-0) ≡ Ok place = ap (λ (r : ReachedValue). missing (reached_as r)) c.in-Ok-Missing.field-0-is in
      let (tree, meant) = rw c.new.ensures at c.in-Err-create_dir.ensures.answer (c.in-Ok-Missing.ensures.works.kept.honest.0 h) in
      subst (λ (n : ℕ). Answered run w m (with_volume new w) m n) (sym c.refused.ensures)
      (made_err g.D.Device.honest g.D.Device.size g.D.Device.failures w m run (made_at place) c.reach_from.new.volume new (sym passes.same)
      (to_making w m c.args.fd c.args.path c.args.len (reached_as c.in-Ok-Missing.field-0) place passes.is is)
      (to_rest (with_volume_failed w) m c.args.fd c.args.path c.args.len ∙ stops _ _ 29 passes.gone)
      (created_never w.tree place.0 place.1 Directory) c.in-Err-create_dir.errno c.in-Err-create_dir.ensures.kept tree meant);
}

pub create_dir-requires-clause-name : goal.create_dir-requires-clause-name
create_dir-requires-clause-name g c = let reached = subst (IsReached g.D.Device.honest c.reach_from.new.volume) c.in-Ok-Missing.field-0-is c.in-Ok-Missing.ensures.reached in reached.1

pub create_dir-requires-clause-serial : goal.create_dir-requires-clause-serial
create_dir-requires-clause-serial g c = let reached = subst (IsReached g.D.Device.honest c.reach_from.new.volume) c.in-Ok-Missing.field-0-is c.in-Ok-Missing.ensures.reached in rw c.new.ensures reached.0.number.first

pub create_dir-requires-clause-directory : goal.create_dir-requires-clause-directory
create_dir-requires-clause-directory g c = λ h.
    let walked = c.in-Ok-Missing.ensures in
    let before = walked.works.kept.honest.1 h in
    let place = subst (λ (r : ReachedValue). Places c.args.volume.now.tree (Ok r)) c.in-Ok-Missing.field-0-is (walked.place before) in
    rw c.new.ensures (subst (λ (T : Tree). IsDirectory T c.in-Ok-Missing.parent) (sym (walked.works.tree before)) place)
