use Rattle.std.proofs.Common.{◌≤◌, sym, subst}
use Rattle.vol_tree.specs.Tree.{IsDirectory}
use Rattle.vol_tree.specs.Opened.{Opened}
use Rattle.vol_tree.proofs.volume.Volume.rmdir.Goals as goal

pub rmdir-requires : goal.rmdir-requires
rmdir-requires g c = record { is_open = c.self.invariant; first = c.requires.first; last = subst (λ (o : Opened _). c.args.directory ≤ o.numbers.slots) (sym c.self.view_is) c.requires.last; used = subst (λ (o : Opened _). g.D.Device.honest o.device → IsDirectory o.tree c.args.directory) (sym c.self.view_is) c.requires.used }

pub invariant_of-self : goal.invariant_of-self
invariant_of-self g c = c.rmdir.ensures.is_open

pub returns : goal.returns
returns g c =
    let e = c.rmdir.ensures in
    rw (← c.self.view_is) (record { answer = e.answer; crash = e.crash; refused = e.refused; kept = e.kept; goes_on = e.goes_on })
