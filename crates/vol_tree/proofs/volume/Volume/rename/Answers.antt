use Rattle.std.proofs.Common.{◌≤◌, sym, subst}
use Rattle.std.specs.Option.{IsSome}
use Rattle.vol_tree.specs.Tree.{IsDirectory, entry}
use Rattle.vol_tree.specs.Opened.{Opened}
use Rattle.vol_tree.proofs.volume.Volume.rename.Goals as goal

pub rename-requires : goal.rename-requires
rename-requires g c = record { is_open = c.self.invariant; first = c.requires.first; last = subst (λ (o : Opened _). c.args.serial ≤ o.numbers.slots) (sym c.self.view_is) c.requires.last; parent_first = c.requires.parent_first; parent_last = subst (λ (o : Opened _). c.args.parent ≤ o.numbers.slots) (sym c.self.view_is) c.requires.parent_last; name = c.requires.name; used = subst (λ (o : Opened _). g.D.Device.honest o.device → IsSome (entry o.tree c.args.serial)) (sym c.self.view_is) c.requires.used; directory = subst (λ (o : Opened _). g.D.Device.honest o.device → IsDirectory o.tree c.args.parent) (sym c.self.view_is) c.requires.directory }

pub invariant_of-self : goal.invariant_of-self
invariant_of-self g c = c.rename.ensures.is_open

pub returns : goal.returns
returns g c =
    let e = c.rename.ensures in
    rw (← c.self.view_is) (record { answer = e.answer; crash = e.crash; refused = e.refused; kept = e.kept; goes_on = e.goes_on })
