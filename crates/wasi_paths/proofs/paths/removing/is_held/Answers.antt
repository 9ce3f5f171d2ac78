use Rattle.wasi_bodies.proofs.descriptors.HeldEntries.{held_as}
use Rattle.wasi_paths.proofs.paths.removing.is_held.Goals as goal

pub returns : goal.returns
returns c = λ w table. held_as c.args.descriptors.now c.args.serial c.holds.result (c.holds.ensures) w table
