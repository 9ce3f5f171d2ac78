use Rattle.std.proofs.Common.{arith}
use Rattle.std.proofs.lemmas.Grind.{common_steps}
use Rattle.vol_log.proofs.log.Log.stage.Goals as goal

pub invariant_of-self-clause-placed : goal.invariant_of-self-clause-placed
invariant_of-self-clause-placed g c =
    c.replace.ensures.places c.args.self.now.sectors c.args.self.now.placed (omega (arith, c.requires.room)) c.requires.place c.requires.there

pub returns-clause-view : goal.returns-clause-view
returns-clause-view g c = c.replace.ensures.over (g.D.Device.disk c.args.self.now.device).seen

pub replace-requires-clause-index_room : goal.replace-requires-clause-index_room
replace-requires-clause-index_room c = grind (arith, common_steps)
