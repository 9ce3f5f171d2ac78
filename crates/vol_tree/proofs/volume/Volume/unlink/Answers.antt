use Rattle.std.proofs.Common.{◌≤◌, IsTrue, sym, subst}
use Rattle.vol_tree.specs.Calls.{is_file_at}
use Rattle.vol_tree.specs.Opened.{Opened}
use Rattle.vol_tree.proofs.volume.Volume.unlink.Goals as goal

pub unlink-requires : goal.unlink-requires
unlink-requires g c = record { is_open = c.self.invariant; first = c.requires.first; last = subst (λ (o : Opened _). c.args.file ≤ o.numbers.slots) (sym c.self.view_is) c.requires.last; used = subst (λ (o : Opened _). g.D.Device.honest o.device → IsTrue (is_file_at o.tree c.args.file)) (sym c.self.view_is) c.requires.used }

pub invariant_of-self : goal.invariant_of-self
invariant_of-self g c = c.unlink.ensures.is_open

pub returns : goal.returns
returns g c =
    let e = c.unlink.ensures in
    rw (← c.self.view_is) (record { answer = e.answer; crash = e.crash; kept = e.kept; goes_on = e.goes_on })
