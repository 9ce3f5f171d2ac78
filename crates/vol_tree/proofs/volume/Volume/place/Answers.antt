use Rattle.std.proofs.Common.{◌≡◌, ◌∙◌, ◌==◌, if◌then◌else◌, ◌≤◌, sym, ap, subst, refl, arith}
use Rattle.std.specs.Option.{IsSome}
use Rattle.vol_log.specs.Log.{view}
use Rattle.vol_dirs.specs.declared.seat.Seat.{Seat}
use Rattle.vol_tree.specs.Tree.{entry}
use Rattle.vol_tree.specs.Opened.{Opened, IsSerial}
use Rattle.vol_tree.proofs.Finding.{slot_spelled, place_is}
use Rattle.vol_tree.proofs.Serials.{parent_serial}
use Rattle.vol_tree.proofs.volume.Volume.place.Goals as goal

pub seat-seat-requires-clause-last : goal.seat-seat-requires-clause-last
seat-seat-requires-clause-last g c =
    let last = subst (λ (o : Opened _). c.args.serial ≤ o.numbers.slots) (sym c.self.view_is) c.requires.last in
    omega (arith, last, c.self.invariant.slots)

pub returns-then-failed : goal.returns-then-failed
returns-then-failed g c = rw (← c.self.view_is) (record {
  answer = λ h. refl;
  failed = sym c.if-failed.true ∙ c.failed.ensures;
  parent = tt;
})

pub returns-then-not-is_serial : goal.returns-then-not-is_serial
returns-then-not-is_serial g c =
    let p = c.self.inside.parts in
    let is = c.self.invariant in
    let used = subst (λ (o : Opened _). g.D.Device.honest o.device → IsSome (entry o.tree c.args.serial)) (sym c.self.view_is) c.requires.used in
    let last = subst (λ (o : Opened _). c.args.serial ≤ o.numbers.slots) (sym c.self.view_is) c.requires.last in
    rw (← c.self.view_is) (record {
      answer = λ h.
          let d = slot_spelled (view p.log) p.numbers c.args.serial (is.content h) c.requires.first (used h) in
          let seated = c.seat-seat.ensures ∙ (is.shows h).seats c.args.serial d.0 c.requires.first last d.2 d.3 in
          let parent = c.parent_of-parent.ensures ∙ ap (λ (x : Seat). if c.args.serial == 1 then 1 else x.parent) seated in
          absurd (c.is_serial.ensures.no c.if-not-is_serial.true (parent_serial (view p.log) p.numbers c.args.serial d.0 c.parent_of-parent.result (is.content h) c.requires.first d.1 parent));
      failed = sym c.if-failed.false ∙ c.failed.ensures;
      parent = tt;
    })

pub returns : goal.returns
returns g c =
    let p = c.self.inside.parts in
    let is = c.self.invariant in
    let used = subst (λ (o : Opened _). g.D.Device.honest o.device → IsSome (entry o.tree c.args.serial)) (sym c.self.view_is) c.requires.used in
    let last = subst (λ (o : Opened _). c.args.serial ≤ o.numbers.slots) (sym c.self.view_is) c.requires.last in
    rw (← c.self.view_is) (record {
      answer = λ h.
          let d = slot_spelled (view p.log) p.numbers c.args.serial (is.content h) c.requires.first (used h) in
          let seated = c.seat-seat.ensures ∙ (is.shows h).seats c.args.serial d.0 c.requires.first last d.2 d.3 in
          place_is (view p.log) p.numbers c.args.serial d.0 c.seat-seat.result _ c.requires.first d.1 seated refl c.parent_of-parent.ensures;
      failed = sym c.if-failed.false ∙ c.failed.ensures;
      parent = c.is_serial.ensures.yes c.if-not-is_serial.false;
    })
