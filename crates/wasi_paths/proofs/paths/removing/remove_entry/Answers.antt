use Rattle.std.proofs.Common.{◌≡◌, ◌≢◌, ℕ, List, Result, Ok, Err, refl, sym, ◌∙◌, subst}
use Rattle.vol_inode.specs.declared.entry.Kind.{Kind}
use Rattle.vol_inode.specs.declared.entry.Kind.TheVariants as nodes
use Rattle.vol_tree.specs.declared.errno.Errno.{Errno}
use Rattle.vol_tree.specs.declared.errno.Errno.TheVariants as errno
use Rattle.vol_tree.specs.Tree.{Tree}
use Rattle.wasi_fd.specs.Rights.{bits_of}
use Rattle.wasi_bodies.proofs.checks.CausesOf29.{asked_29}
use Rattle.wasi_bodies.specs.World.{World}
use Rattle.wasi_bodies.specs.Checks.{Checked, Done}
use Rattle.wasi_bodies.specs.Calls.{Answered}
use Rattle.wasi_bodies.specs.internal.Entries.{with_volume}
use Rattle.wasi_paths.specs.internal.paths.Removing.{removable, remove, taken_out}
use Rattle.wasi_bodies.proofs.checks.Chains.{goes_on, stops}
use Rattle.wasi_bodies.proofs.bodies.VolumeCalls.{ok_no_io, removed_never, changing, changed_ok, steps_after, steps}
use Rattle.wasi_bodies.proofs.bodies.AskingCalls.{ends_call, changing_never, changing_err}
use Rattle.wasi_paths.proofs.paths.removing.remove_entry.Goals as goal

abbrev gives : Kind → ℕ → World → Result Tree Errno
gives kind serial w = taken_out kind w.tree serial

gives_never : (kind : Kind) (T : Tree) (serial : ℕ) → taken_out kind T serial ≢ Err errno.Io
gives_never nodes.Directory T serial = removed_never T serial
gives_never nodes.File T serial = ok_no_io _

to_change : (kind : Kind) (w : World) (m : List ℕ) (fd rights path len s : ℕ) → removable kind w m fd rights path len ≡ Ok s → remove kind w m fd rights path len ≡ changing (gives kind s) w
to_change kind w m fd rights path len s is = goes_on (removable kind w m fd rights path len) (λ s. changing (gives kind s) w) s is

pub returns-in-Err-clause-answered : goal.returns-in-Err-clause-answered
returns-in-Err-clause-answered g c = λ h w table shown.
    let m = c.args.memory.now.bytes in
    let kind = c.args.kind in
    ends_call w m (λ v. remove kind v m c.args.fd (bits_of c.args.rights) c.args.path c.args.len) (λ v. removable kind v m c.args.fd (bits_of c.args.rights) c.args.path c.args.len) (λ v s. changing (gives kind s) v)
    c.removable.new.volume _ (λ v. refl) (λ alive s. changing_never (gives kind s) w alive (gives_never kind w.tree s))
    (c.in-Err.ensures.asks h w table shown)

pub returns-in-Ok-take_out-clause-answered : goal.returns-in-Ok-take_out-clause-answered
returns-in-Ok-take_out-clause-answered g c = λ h w table shown.
    let m = c.args.memory.now.bytes in
    let kind = c.args.kind in
    let s = c.in-Ok.serial in
    let passes = c.in-Ok.ensures.asks h w table shown in
    changed_ok g.D.Device.honest g.D.Device.size g.D.Device.failures w m (λ v. remove kind v m c.args.fd (bits_of c.args.rights) c.args.path c.args.len) (gives kind s)
    c.removable.new.volume c.take_out.new.volume (sym passes.same) (to_change kind w m c.args.fd (bits_of c.args.rights) c.args.path c.args.len s passes.is)
    c.in-Ok-take_out.ensures.kept (c.in-Ok-take_out.ensures.answer (c.in-Ok.ensures.works.kept.honest.0 h))

pub returns-in-Ok-take_out-clause-step : goal.returns-in-Ok-take_out-clause-step
returns-in-Ok-take_out-clause-step g c =
    steps_after g.D.Device.honest g.D.Device.disk g.D.Device.size g.D.Device.failures g.D.Device.goes_on c.args.volume.now c.removable.new.volume c.take_out.new.volume c.in-Ok.ensures.works
    (steps g.D.Device.honest g.D.Device.disk g.D.Device.size g.D.Device.failures g.D.Device.goes_on c.removable.new.volume c.take_out.new.volume _ c.in-Ok-take_out.ensures.kept c.in-Ok-take_out.ensures.crash c.in-Ok-take_out.ensures.goes_on)

pub returns-in-Err-take_out : goal.returns-in-Err-take_out
returns-in-Err-take_out g c = record {
  step = steps_after g.D.Device.honest g.D.Device.disk g.D.Device.size g.D.Device.failures g.D.Device.goes_on c.args.volume.now c.removable.new.volume c.take_out.new.volume c.in-Ok.ensures.works
      (steps g.D.Device.honest g.D.Device.disk g.D.Device.size g.D.Device.failures g.D.Device.goes_on c.removable.new.volume c.take_out.new.volume _ c.in-Err-take_out.ensures.kept c.in-Err-take_out.ensures.crash c.in-Err-take_out.ensures.goes_on);
  io = asked_29 (Unit {0}) c.in-Err-take_out.errno _ (λ fails. c.in-Err-take_out.ensures.kept.failed ∙ fails) c.refused.ensures;
  answered = λ h w table shown.
      let m = c.args.memory.now.bytes in
      let kind = c.args.kind in
      let s = c.in-Ok.serial in
      let run : World → Checked Done = λ v. remove kind v m c.args.fd (bits_of c.args.rights) c.args.path c.args.len in
      let passes = c.in-Ok.ensures.asks h w table shown in
      let (tree, meant) = c.in-Err-take_out.ensures.answer (c.in-Ok.ensures.works.kept.honest.0 h) in
      subst (λ (n : ℕ). Answered run w m (with_volume c.take_out.new.volume w) m n) (sym c.refused.ensures)
      (changing_err g.D.Device.honest g.D.Device.size g.D.Device.failures w m run (gives kind s) c.removable.new.volume c.take_out.new.volume (sym passes.same)
      (to_change kind w m c.args.fd (bits_of c.args.rights) c.args.path c.args.len s passes.is) (stops _ _ 29 passes.gone) (gives_never kind w.tree s) c.in-Err-take_out.errno c.in-Err-take_out.ensures.kept tree meant);
}
