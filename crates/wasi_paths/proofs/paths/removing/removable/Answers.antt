use Rattle.std.proofs.Common.{◌≡◌, ◌≢◌, ℕ, Bool, true, not, Ok, Err, sym, ◌∙◌, ap, subst, arith}
use Rattle.vol_inode.specs.declared.entry.Kind.{Kind}
use Rattle.vol_inode.specs.declared.entry.Kind.TheVariants as nodes
use Rattle.vol_tree.specs.Calls.{directory_at}
use Rattle.vol_tree.specs.Numbers.{number_of}
use Rattle.vol_tree.specs.Clauses.{is_io}
use Rattle.wasi_fd.specs.Rights.{bits_of}
use Rattle.wasi_bodies.proofs.checks.CausesOf29.{asked_29, not_29}
use Rattle.wasi_bodies.specs.World.{World, held_open}
use Rattle.wasi_bodies.specs.Checks.{Checked, and_then, guard}
use Rattle.path_walk.specs.Walk.{Asked}
use Rattle.wasi_bodies.specs.internal.Asking.{Stops}
use Rattle.wasi_paths.specs.internal.paths.Removing.{found_at, is_kind, other_kind, removable, removal_checked}
use Rattle.wasi_bodies.proofs.checks.Chains.{goes_on, stops}
use Rattle.wasi_bodies.proofs.bodies.VolumeCalls.{never_after, never_guard}
use Rattle.wasi_bodies.proofs.bodies.AskingCalls.{ends_part, passes_on, refuses_on, fails_on, asked_same, asked_gone, asked_after, works_on}
use Rattle.wasi_paths.proofs.paths.removing.removable.Goals as goal

-- the checks on what was found
abbrev checked : Kind → World → ℕ → Checked ℕ
checked kind w s = and_then (removal_checked kind (directory_at w.tree s) (held_open w s)) (λ _. Ok s)

other_never : (kind : Kind) → other_kind kind ≡ 29 → ⊥
other_never nodes.Directory is = absurd (omega (arith, is))
other_never nodes.File is = absurd (omega (arith, is))

removal_never : (kind : Kind) (is_directory held : Bool) → removal_checked kind is_directory held ≢ Err 29
removal_never kind is_directory held =
    never_after (guard (is_kind kind is_directory) (other_kind kind)) (λ _. guard (not held) 10) (never_guard _ _ (other_never kind)) (λ _ _. never_guard _ 10 (λ is. absurd (omega (arith, is))))

checked_never : (kind : Kind) (w : World) (s : ℕ) → checked kind w s ≢ Err 29
checked_never kind w s = never_after (removal_checked kind (directory_at w.tree s) (held_open w s)) (λ _. Ok s) (removal_never kind _ _) (λ _ _ is. cc)

pub returns-in-Err : goal.returns-in-Err
returns-in-Err g c = record {
  step = c.in-Err.ensures.step;
  works = tt;
  entry = tt;
  kind = λ h. tt;
  asks = λ h w table shown.
      ends_part w (λ v. found_at v c.args.memory.now.bytes c.args.fd (bits_of c.args.rights) c.args.path c.args.len) (checked c.args.kind) c.find.new.volume _
      (λ alive s. checked_never c.args.kind w s) (c.in-Err.ensures.asks h w table shown);
  io = c.in-Err.ensures.io;
}

pub returns-in-Err-is_directory : goal.returns-in-Err-is_directory
returns-in-Err-is_directory g c = record {
  step = asked_after g.D.Device.honest g.D.Device.disk g.D.Device.size g.D.Device.failures g.D.Device.goes_on c.args.volume.now c.find.new.volume c.is_directory.new.volume _ c.in-Ok.ensures.works c.in-Err-is_directory.ensures.asked;
  works = tt;
  entry = tt;
  kind = λ h. tt;
  asks = λ h w table shown.
      let part = λ (v : World). found_at v c.args.memory.now.bytes c.args.fd (bits_of c.args.rights) c.args.path c.args.len in
      let passes = c.in-Ok.ensures.asks h w table shown in
      let between = c.find.new.volume in
      let new = c.is_directory.new.volume in
      let now = c.in-Ok.ensures.works.kept.honest.0 h in
      let io = c.in-Err-is_directory.ensures.answer now in
      let asked : Asked g.D.Device.honest g.D.Device.disk g.D.Device.size g.D.Device.failures g.D.Device.goes_on between new true =
      subst (Asked g.D.Device.honest g.D.Device.disk g.D.Device.size g.D.Device.failures g.D.Device.goes_on between new) (ap (λ (e : _). is_io {X = Bool} (Err e)) io) c.in-Err-is_directory.ensures.asked in
      subst (λ (n : ℕ). Stops (λ v. removable c.args.kind v c.args.memory.now.bytes c.args.fd (bits_of c.args.rights) c.args.path c.args.len) w new n)
      (sym (c.refused.ensures ∙ ap number_of io))
      (fails_on w part (checked c.args.kind) between c.in-Ok.serial passes new
      (asked_gone g.D.Device.honest g.D.Device.disk g.D.Device.size g.D.Device.failures g.D.Device.goes_on w between new (sym passes.same) now asked)
      (checked_never c.args.kind w c.in-Ok.serial));
  io = asked_29 Bool c.in-Err-is_directory.errno _ (λ fails. c.in-Err-is_directory.ensures.asked.kept.failed ∙ fails) c.refused.ensures;
}

pub returns-in-Err-check_removal : goal.returns-in-Err-check_removal
returns-in-Err-check_removal g c = record {
  step = asked_after g.D.Device.honest g.D.Device.disk g.D.Device.size g.D.Device.failures g.D.Device.goes_on c.args.volume.now c.find.new.volume c.is_directory.new.volume _ c.in-Ok.ensures.works c.in-Ok-is_directory.ensures.asked;
  works = tt;
  entry = tt;
  kind = λ h. tt;
  asks = λ h w table shown.
      let passes = c.in-Ok.ensures.asks h w table shown in
      let s = c.in-Ok.serial in
      let now = c.in-Ok.ensures.works.kept.honest.0 h in
      let told : directory_at w.tree s ≡ c.in-Ok-is_directory.is_directory = ap (λ (v : World). directory_at v.tree s) (sym passes.same) ∙ sym (c.in-Ok-is_directory.ensures.answer now) in
      refuses_on w (λ v. found_at v c.args.memory.now.bytes c.args.fd (bits_of c.args.rights) c.args.path c.args.len) (checked c.args.kind) c.find.new.volume s passes c.is_directory.new.volume _
      (asked_same g.D.Device.honest g.D.Device.disk g.D.Device.size g.D.Device.failures g.D.Device.goes_on w c.find.new.volume c.is_directory.new.volume (sym passes.same) passes.working now c.in-Ok-is_directory.ensures.asked)
      (stops _ _ _ ((λ i. removal_checked c.args.kind (told i) (sym (c.is_held.ensures w table) i)) ∙ c.in-Err-check_removal.ensures.checked));
  io = not_29 _ _ (removal_never c.args.kind _ _) c.in-Err-check_removal.ensures.checked;
}

pub returns-in-Ok-check_removal-clause-asks : goal.returns-in-Ok-check_removal-clause-asks
returns-in-Ok-check_removal-clause-asks g c = λ h w table shown.
    let passes = c.in-Ok.ensures.asks h w table shown in
    let s = c.in-Ok.serial in
    let now = c.in-Ok.ensures.works.kept.honest.0 h in
    let told : directory_at w.tree s ≡ c.in-Ok-is_directory.is_directory = ap (λ (v : World). directory_at v.tree s) (sym passes.same) ∙ sym (c.in-Ok-is_directory.ensures.answer now) in
    passes_on w (λ v. found_at v c.args.memory.now.bytes c.args.fd (bits_of c.args.rights) c.args.path c.args.len) (checked c.args.kind) c.find.new.volume s passes c.is_directory.new.volume s
    (asked_same g.D.Device.honest g.D.Device.disk g.D.Device.size g.D.Device.failures g.D.Device.goes_on w c.find.new.volume c.is_directory.new.volume (sym passes.same) passes.working now c.in-Ok-is_directory.ensures.asked)
    (goes_on _ _ tt ((λ i. removal_checked c.args.kind (told i) (sym (c.is_held.ensures w table) i)) ∙ c.in-Ok-check_removal.ensures.checked))

pub returns-in-Ok-check_removal-clause-step : goal.returns-in-Ok-check_removal-clause-step
returns-in-Ok-check_removal-clause-step g c = asked_after g.D.Device.honest g.D.Device.disk g.D.Device.size g.D.Device.failures g.D.Device.goes_on c.args.volume.now c.find.new.volume c.is_directory.new.volume _ c.in-Ok.ensures.works c.in-Ok-is_directory.ensures.asked

pub returns-in-Ok-check_removal-clause-works : goal.returns-in-Ok-check_removal-clause-works
returns-in-Ok-check_removal-clause-works g c = works_on g.D.Device.honest g.D.Device.disk g.D.Device.size g.D.Device.failures g.D.Device.goes_on c.args.volume.now c.find.new.volume c.is_directory.new.volume c.in-Ok.ensures.works c.in-Ok-is_directory.ensures.asked
