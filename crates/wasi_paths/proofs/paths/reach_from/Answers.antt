use Rattle.std.proofs.Common.{◌≡◌, ℕ, List, Ok, sym, ◌∙◌, subst, inl}
use Rattle.path_walk.specs.declared.walking.Reached.{Reached as ReachedValue}
use Rattle.wasi_fd.specs.Rights.{bits_of}
use Rattle.wasi_fd.specs.Table.{table_of}
use Rattle.wasi_fd.specs.declared.descriptor.Opened.{Opened}
use Rattle.wasi_bodies.proofs.checks.CausesOf29.{asked_29, check_not_29}
use Rattle.wasi_bodies.proofs.checks.NoneAnswers29.{entered_never}
use Rattle.wasi_bodies.specs.World.{World, with_volume_failed}
use Rattle.wasi_bodies.specs.paths.Rows.{path_at}
use Rattle.wasi_bodies.specs.internal.Asking.{Stops}
use Rattle.wasi_bodies.specs.internal.paths.Walks.{starting_directory, reached_from}
use Rattle.wasi_bodies.proofs.checks.Chains.{goes_on, paired, stops}
use Rattle.wasi_bodies.proofs.OpenEntries.{entry_of}
use Rattle.wasi_bodies.proofs.bodies.AskingCalls.{passes_as, stops_as}
use Rattle.wasi_bodies.proofs.bodies.Resting.{volume_rests}
use Rattle.wasi_paths.proofs.paths.reach_from.Goals as goal

to_walk : (w : World) (m : List ℕ) (fd rights path len : ℕ) (o : Opened) → starting_directory w m fd rights path len ≡ Ok o → reached_from w m fd rights path len ≡ path_at w m o path len
to_walk w m fd rights path len o invokes = paired _ _ _ ∙ goes_on _ _ o invokes

pub reach-requires : goal.reach-requires
reach-requires g c =
    rw c.new.ensures (entry_of g.D.Device.honest c.args.volume.now (table_of c.args.descriptors.now) c.requires.known c.args.memory.now.bytes c.args.fd (bits_of c.args.rights) c.args.path c.args.len c.in-Ok.entered.0 c.in-Ok.ensures.row)

pub returns-in-Err : goal.returns-in-Err
returns-in-Err g c = record {
  step = volume_rests g.D.Device.honest g.D.Device.disk g.D.Device.size g.D.Device.failures g.D.Device.goes_on c.args.volume.now;
  works = tt;
  reached = tt;
  place = λ h. tt;
  asks = λ h w table shown. inl (record { is = paired _ _ _ ∙ stops _ _ _ (c.in-Err.ensures.row w table); same = sym shown });
  io = check_not_29 (table_of c.args.descriptors.now) (λ w. starting_directory w c.args.memory.now.bytes c.args.fd (bits_of c.args.rights) c.args.path c.args.len) _ (entered_never c.args.memory.now.bytes c.args.fd (bits_of c.args.rights) c.args.path c.args.len) c.in-Err.ensures.row;
}

pub returns-in-Ok-reach-clause-asks : goal.returns-in-Ok-reach-clause-asks
returns-in-Ok-reach-clause-asks g c = λ h w table shown.
    let m = c.args.memory.now.bytes in
    let o = c.in-Ok.entered.0 in
    let goes = λ (v : World) (same : v.table ≡ table_of c.args.descriptors.now). to_walk v m c.args.fd (bits_of c.args.rights) c.args.path c.args.len o (c.in-Ok.ensures.row v same) in
    passes_as w (λ v. reached_from v m c.args.fd (bits_of c.args.rights) c.args.path c.args.len) (λ v. path_at v m o c.args.path c.args.len) c.reach.new.volume _ (goes w table) (goes (with_volume_failed w) table)
    (c.in-Ok-reach.ensures.reaches h w o _ (sym c.new.ensures) c.in-Ok.ensures.text shown)

pub returns-in-Err-reach : goal.returns-in-Err-reach
returns-in-Err-reach g c = record {
  step = c.in-Err-reach.ensures.step;
  works = tt;
  reached = tt;
  place = λ h. tt;
  asks = λ h w table shown.
      let m = c.args.memory.now.bytes in
      let o = c.in-Ok.entered.0 in
      let part = λ (v : World). reached_from v m c.args.fd (bits_of c.args.rights) c.args.path c.args.len in
      let goes = λ (v : World) (same : v.table ≡ table_of c.args.descriptors.now). to_walk v m c.args.fd (bits_of c.args.rights) c.args.path c.args.len o (c.in-Ok.ensures.row v same) in
      subst (λ (n : ℕ). Stops part w c.reach.new.volume n) (sym c.refused.ensures)
      (stops_as w part (λ v. path_at v m o c.args.path c.args.len) c.reach.new.volume _ (goes w table) (goes (with_volume_failed w) table)
      (c.in-Err-reach.ensures.reaches h w o _ (sym c.new.ensures) c.in-Ok.ensures.text shown));
  io = asked_29 ReachedValue c.in-Err-reach.errno _ c.in-Err-reach.ensures.io c.refused.ensures;
}
