use Rattle.std.proofs.Common.{◌≡◌, ◌≢◌, ◌^◌, ℕ, List, false, Ok, Err, refl, sym, ap, ◌∙◌, subst, arith}
use Rattle.vol_tree.specs.Numbers.{number_of}
use Rattle.vol_tree.specs.Clauses.{is_io}
use Rattle.path_walk.specs.declared.walking.Reached.{Reached as ReachedValue}
use Rattle.path_walk.specs.Walk.{Asked, reached_as, IsReached}
use Rattle.path_walk.specs.Paths.{Reached}
use Rattle.wasi_fd.specs.Table.{table_of}
use Rattle.wasi_fd.specs.declared.descriptor.Opened.{Opened}
use Rattle.wasi_bodies.proofs.checks.CausesOf29.{asked_29, check_not_29, no_29_at_0, not_29}
use Rattle.wasi_bodies.proofs.checks.NoneAnswers29.{entered_never, range_never}
use Rattle.wasi_bodies.specs.World.{World, with_volume_failed}
use Rattle.wasi_bodies.specs.Checks.{Checked, Done, and_then, range, found, tree_call, with_result}
use Rattle.wasi_bodies.specs.descriptors.Rows.{entry_stat}
use Rattle.wasi_bodies.specs.paths.Rows.{path_filestat_get, path_at}
use Rattle.wasi_bodies.specs.Calls.{Answered, by_row}
use Rattle.wasi_bodies.specs.internal.Entries.{with_volume}
use Rattle.wasi_bodies.specs.internal.paths.Walks.{starting_directory}
use Rattle.wasi_bodies.proofs.checks.Chains.{goes_on, paired, stops}
use Rattle.wasi_bodies.proofs.checks.AfterBuffers.{answered_so}
use Rattle.wasi_bodies.proofs.OpenEntries.{entry_of}
use Rattle.wasi_bodies.proofs.bodies.Answering.{answers_refused}
use Rattle.wasi_paths.proofs.paths.Walks.{found_never}
use Rattle.wasi_bodies.proofs.bodies.VolumeCalls.{is_no_err, never_after, refused_first, failed_by, tree_called_alive}
use Rattle.wasi_bodies.proofs.bodies.Resting.{volume_rests}
use Rattle.wasi_bodies.proofs.bodies.AskingCalls.{asked_after, asked_same, ends_call}
use Rattle.wasi_bodies.proofs.checks.NoneAnswers0.{ok_no_err}
use Rattle.wasi_paths.proofs.paths.stat_path.Goals as goal

-- the row from the walk on
abbrev of_reached : World → ℕ → Reached → Checked Done
of_reached w at r = and_then (found r) (λ s. and_then (tree_call w (Ok (entry_stat w.tree s))) (λ bytes. Ok (with_result w at bytes)))

abbrev rest : World → List ℕ → ℕ → ℕ → ℕ → Opened → Checked Done
rest w m path len at o = and_then (path_at w m o path len) (of_reached w at)

to_rest : (w : World) (m : List ℕ) (fd path len at : ℕ) (o : Opened) → starting_directory w m fd (2 ^ 18) path len ≡ Ok o → range m at 64 ≡ Ok tt → path_filestat_get w m fd path len at ≡ rest w m path len at o
to_rest w m fd path len at o invokes inside = paired _ _ _ ∙ (goes_on _ _ o invokes ∙ goes_on _ _ tt inside)

rest_never : (w : World) (at : ℕ) → w.volume_failed ≡ false → (r : Reached) → of_reached w at r ≢ Err 29
rest_never w at alive r =
    never_after (found r) (λ s. and_then (tree_call w (Ok (entry_stat w.tree s))) (λ bytes. Ok (with_result w at bytes))) (found_never r)
    (λ s _. is_no_err _ (with_result w at (entry_stat w.tree s)) 29 (goes_on _ _ (entry_stat w.tree s) (tree_called_alive w (Ok (entry_stat w.tree s)) alive)))

pub returns-in-Err : goal.returns-in-Err
returns-in-Err g c = record {
  step = volume_rests g.D.Device.honest g.D.Device.disk g.D.Device.size g.D.Device.failures g.D.Device.goes_on c.args.volume.now;
  inside = tt;
  finds = λ h w table shown.
      let m = c.args.memory.now.bytes in
      refused_first w m (λ v. path_filestat_get v m c.args.fd c.args.path c.args.len c.args.result_at) c.args.volume.now _ shown
      (paired _ _ _ ∙ stops _ _ _ (c.in-Err.ensures.row w table));
  io = check_not_29 (table_of c.args.descriptors.now) (λ w. starting_directory w c.args.memory.now.bytes c.args.fd (2 ^ 18) c.args.path c.args.len) _ (entered_never c.args.memory.now.bytes c.args.fd (2 ^ 18) c.args.path c.args.len) c.in-Err.ensures.row;
}

pub returns-in-Err-check_range : goal.returns-in-Err-check_range
returns-in-Err-check_range g c = record {
  step = volume_rests g.D.Device.honest g.D.Device.disk g.D.Device.size g.D.Device.failures g.D.Device.goes_on c.args.volume.now;
  inside = tt;
  finds = λ h w table shown.
      let m = c.args.memory.now.bytes in
      refused_first w m (λ v. path_filestat_get v m c.args.fd c.args.path c.args.len c.args.result_at) c.args.volume.now _ shown
      (paired _ _ _ ∙ (goes_on _ _ c.in-Ok.entered.0 (c.in-Ok.ensures.row w table) ∙ stops _ _ _ c.in-Err-check_range.ensures.range));
  io = not_29 (range c.args.memory.now.bytes c.args.result_at 64) _ (range_never c.args.memory.now.bytes c.args.result_at 64) c.in-Err-check_range.ensures.range;
}

pub reach-requires : goal.reach-requires
reach-requires g c =
    rw c.new.ensures (entry_of g.D.Device.honest c.args.volume.now (table_of c.args.descriptors.now) c.requires.known c.args.memory.now.bytes c.args.fd (2 ^ 18) c.args.path c.args.len c.in-Ok.entered.0 c.in-Ok.ensures.row)

pub returns-in-Ok-stat_entry : goal.returns-in-Ok-stat_entry
returns-in-Ok-stat_entry g c =
    let answer = c.in-Ok-stat_entry.ensures in
    let walked = c.in-Ok-Found.ensures in
    let asked : Asked g.D.Device.honest g.D.Device.disk g.D.Device.size g.D.Device.failures g.D.Device.goes_on c.reach.new.volume c.stat_entry.new.volume false = record { tree = λ h. (answer.answer h).1; crash = answer.crash; kept = answer.kept; goes = answer.goes_on } in
    record {
      step = asked_after g.D.Device.honest g.D.Device.disk g.D.Device.size g.D.Device.failures g.D.Device.goes_on c.args.volume.now c.reach.new.volume c.stat_entry.new.volume _ walked.works asked;
      inside = c.in_default.ensures.inside;
      finds = λ h w table shown.
          let m = c.args.memory.now.bytes in
          let o = c.in-Ok.entered.0 in
          let at = c.args.result_at in
          let s = c.in-Ok-Found.serial in
          let passes = walked.reaches h w o _ (sym c.new.ensures) c.in-Ok.ensures.text shown in
          let now = walked.works.kept.honest.0 h in
          let bytes = entry_stat w.tree s in
          let same : c.in-Ok-stat_entry.bytes ≡ bytes = (rw c.new-in-Ok-Found.ensures at answer.answer now).0 ∙ ap (λ (v : World). entry_stat v.tree s) passes.same in
          let is : found (reached_as c.in-Ok-Found.field-0) ≡ Ok s = ap (λ (r : ReachedValue). found (reached_as r)) c.in-Ok-Found.field-0-is in (
            to_rest w m c.args.fd c.args.path c.args.len at o (c.in-Ok.ensures.row w table) c.in_default.ensures.range
                ∙ (goes_on _ _ (reached_as c.in-Ok-Found.field-0) passes.is
                ∙ (goes_on _ _ s is ∙ (goes_on _ _ bytes (tree_called_alive w (Ok bytes) passes.working) ∙ ap (λ (l : List ℕ). Ok (with_result w at l)) (sym same)))),
            asked_same g.D.Device.honest g.D.Device.disk g.D.Device.size g.D.Device.failures g.D.Device.goes_on w c.reach.new.volume c.stat_entry.new.volume (sym passes.same) passes.working now asked,
          );
      io = no_29_at_0;
    }

pub returns-in-Err-stat_entry : goal.returns-in-Err-stat_entry
returns-in-Err-stat_entry g c =
    let answer = c.in-Err-stat_entry.ensures in
    let walked = c.in-Ok-Found.ensures in
    record {
      step = asked_after g.D.Device.honest g.D.Device.disk g.D.Device.size g.D.Device.failures g.D.Device.goes_on c.args.volume.now c.reach.new.volume c.stat_entry.new.volume _ walked.works (record { tree = λ h. (answer.answer h).1; crash = answer.crash; kept = answer.kept; goes = answer.goes_on });
      inside = tt;
      finds = λ h w table shown.
          let m = c.args.memory.now.bytes in
          let o = c.in-Ok.entered.0 in
          let at = c.args.result_at in
          let new = c.stat_entry.new.volume in
          let run : World → Checked Done = λ v. path_filestat_get v m c.args.fd c.args.path c.args.len at in
          let goes = λ (v : World) (same : v.table ≡ table_of c.args.descriptors.now). to_rest v m c.args.fd c.args.path c.args.len at o (c.in-Ok.ensures.row v same) c.in_default.ensures.range in
          let passes = walked.reaches h w o _ (sym c.new.ensures) c.in-Ok.ensures.text shown in
          let (io, tree) = answer.answer (walked.works.kept.honest.0 h) in
          subst (λ (n : ℕ). Answered run w m (with_volume new w) m n) (sym (c.refused.ensures ∙ ap number_of io))
          (failed_by w m run c.reach.new.volume new (sym passes.same) answer.kept.numbers tree (answer.kept.failed ∙ ap (λ (e : _). is_io {X = List ℕ} (Err e)) io)
          (goes (with_volume_failed w) table ∙ stops _ _ 29 passes.gone)
          (λ alive is. never_after (path_at w m o c.args.path c.args.len) (of_reached w at) (ok_no_err _ (reached_as c.in-Ok-Found.field-0) 29 passes.is) (λ r _. rest_never w at alive r) (sym (goes w table) ∙ is)));
      io = asked_29 (List ℕ) c.in-Err-stat_entry.errno _ (λ fails. answer.kept.failed ∙ fails) c.refused.ensures;
    }

pub returns-in-Ok-Missing : goal.returns-in-Ok-Missing
returns-in-Ok-Missing g c = record {
  step = c.in-Ok-Missing.ensures.step;
  inside = tt;
  finds = λ h w table shown.
      let m = c.args.memory.now.bytes in
      let o = c.in-Ok.entered.0 in
      let passes = c.in-Ok-Missing.ensures.reaches h w o _ (sym c.new.ensures) c.in-Ok.ensures.text shown in
      let is : found (reached_as c.in-Ok-Missing.field-0) ≡ Err 44 = ap (λ (r : ReachedValue). found (reached_as r)) c.in-Ok-Missing.field-0-is in
      by_row (answers_refused _ w m (with_volume c.reach.new.volume w) m 44
      (to_rest w m c.args.fd c.args.path c.args.len c.args.result_at o (c.in-Ok.ensures.row w table) c.in_default.ensures.range
      ∙ (goes_on _ _ (reached_as c.in-Ok-Missing.field-0) passes.is ∙ stops _ _ 44 is)) passes.same refl);
  io = λ is. absurd (omega (arith, is));
}

pub returns-in-Err-reach : goal.returns-in-Err-reach
returns-in-Err-reach g c = record {
  step = c.in-Err-reach.ensures.step;
  inside = tt;
  finds = λ h w table shown.
      let m = c.args.memory.now.bytes in
      let o = c.in-Ok.entered.0 in
      let at = c.args.result_at in
      let new = c.reach.new.volume in
      let run : World → Checked Done = λ v. path_filestat_get v m c.args.fd c.args.path c.args.len at in
      let part : World → Checked Done = λ v. rest v m c.args.path c.args.len at o in
      subst (λ (n : ℕ). Answered run w m (with_volume new w) m n) (sym c.refused-in-Err-reach.ensures)
      (answered_so run part w (λ v same tree. to_rest v m c.args.fd c.args.path c.args.len at o (c.in-Ok.ensures.row v (same ∙ table)) c.in_default.ensures.range) m _ m _
      (ends_call w m part (λ v. path_at v m o c.args.path c.args.len) (λ v. of_reached v at) new _ (λ v. refl) (rest_never w at)
      (c.in-Err-reach.ensures.reaches h w o _ (sym c.new.ensures) c.in-Ok.ensures.text shown)));
  io = asked_29 ReachedValue c.in-Err-reach.errno _ c.in-Err-reach.ensures.io c.refused-in-Err-reach.ensures;
}

pub stat_entry-requires-clause-last : goal.stat_entry-requires-clause-last
stat_entry-requires-clause-last g c = let reached = subst (IsReached g.D.Device.honest c.reach.new.volume) c.in-Ok-Found.field-0-is c.in-Ok-Found.ensures.reached in rw c.new-in-Ok-Found.ensures reached.number.last

pub stat_entry-requires-clause-first : goal.stat_entry-requires-clause-first
stat_entry-requires-clause-first g c = let reached = subst (IsReached g.D.Device.honest c.reach.new.volume) c.in-Ok-Found.field-0-is c.in-Ok-Found.ensures.reached in rw c.new-in-Ok-Found.ensures reached.number.first
