use Rattle.std.proofs.Common.{sym, subst}
use Rattle.sandbox_args.specs.declared.request.Change.{Change}
use Rattle.vol_commands.specs.Changes.{IsPartOfChange, directory_made, entry_moved, entry_removed, meant}
use Rattle.vol_commands.specs.internal.Changing.{Applied}
use Rattle.vol_commands.proofs.Removed.{applies_or_not}
use Rattle.vol_commands.proofs.changing.apply.Goals as goal

pub returns-in-MakeDirectory : goal.returns-in-MakeDirectory
returns-in-MakeDirectory g c =
    let v = c.args.volume.now in
    subst (λ (it : Change). Applied g.D.Device.honest g.D.Device.disk g.D.Device.size g.D.Device.failures g.D.Device.goes_on (λ T. meant T it) (λ T. IsPartOfChange T it) v c.make_directory.new.volume c.make_directory.result) (sym c.in-MakeDirectory.is)
    (applies_or_not g.D.Device.honest g.D.Device.disk g.D.Device.size g.D.Device.failures g.D.Device.goes_on (λ T. directory_made T c.in-MakeDirectory.path.now) v c.make_directory.new.volume c.make_directory.result c.make_directory.ensures)

pub returns-in-Move : goal.returns-in-Move
returns-in-Move g c =
    let v = c.args.volume.now in
    subst (λ (it : Change). Applied g.D.Device.honest g.D.Device.disk g.D.Device.size g.D.Device.failures g.D.Device.goes_on (λ T. meant T it) (λ T. IsPartOfChange T it) v c.move_entry.new.volume c.move_entry.result) (sym c.in-Move.is)
    (applies_or_not g.D.Device.honest g.D.Device.disk g.D.Device.size g.D.Device.failures g.D.Device.goes_on (λ T. entry_moved T c.in-Move.from.now c.in-Move.to.now) v c.move_entry.new.volume c.move_entry.result c.move_entry.ensures)

pub returns-in-Remove : goal.returns-in-Remove
returns-in-Remove g c =
    let v = c.args.volume.now in
    subst (λ (it : Change). Applied g.D.Device.honest g.D.Device.disk g.D.Device.size g.D.Device.failures g.D.Device.goes_on (λ T. meant T it) (λ T. IsPartOfChange T it) v c.remove.new.volume c.remove.result) (sym c.in-Remove.is)
    (applies_or_not g.D.Device.honest g.D.Device.disk g.D.Device.size g.D.Device.failures g.D.Device.goes_on (λ T. entry_removed T c.in-Remove.path.now) v c.remove.new.volume c.remove.result c.remove.ensures)

pub returns-in-RemoveAll : goal.returns-in-RemoveAll
returns-in-RemoveAll g c =
    let v = c.args.volume.now in
    subst (λ (it : Change). Applied g.D.Device.honest g.D.Device.disk g.D.Device.size g.D.Device.failures g.D.Device.goes_on (λ T. meant T it) (λ T. IsPartOfChange T it) v c.remove_all.new.volume c.remove_all.result) (sym c.in-RemoveAll.is)
    c.remove_all.ensures
