use Rattle.std.proofs.Common.{subst, sym, arith}
use Rattle.std.proofs.lemmas.Grind.{common_steps}
use Rattle.vol_tree.specs.Clauses.{Answers}
use Rattle.vol_tree.specs.Opened.{geometry}
use Rattle.wasi_paths.specs.declared.paths.opening.PathTarget.{PathTarget}
use Rattle.wasi_paths.specs.internal.paths.Opening.{made}
use Rattle.wasi_bodies.proofs.bodies.AskingCalls.{still_works}
use Rattle.wasi_bodies.proofs.bodies.Resting.{volume_rests}
use Rattle.wasi_paths.proofs.paths.opening.settle.Goals as goal

pub returns-in-New-clause-answer : goal.returns-in-New-clause-answer
returns-in-New-clause-answer g c = λ h.
    subst (λ (t : PathTarget). Answers (made (geometry c.args.volume.now.numbers) c.args.volume.now.tree t) c.args.volume.now.tree c.create_file.new.self.tree c.create_file.result)
    (sym c.in-New.is) (c.create_file.ensures.answer h)

pub returns-in-Entry-clause-kept : goal.returns-in-Entry-clause-kept
returns-in-Entry-clause-kept g c = (still_works g.D.Device.honest g.D.Device.disk g.D.Device.size g.D.Device.failures g.D.Device.goes_on c.args.volume.now c.requires.works).kept

pub returns-in-Entry-clause-crash : goal.returns-in-Entry-clause-crash
returns-in-Entry-clause-crash g c = (volume_rests g.D.Device.honest g.D.Device.disk g.D.Device.size g.D.Device.failures g.D.Device.goes_on c.args.volume.now).crash

pub returns-in-Entry-clause-goes_on : goal.returns-in-Entry-clause-goes_on
returns-in-Entry-clause-goes_on g c end le first from = from

pub create_file-requires-clause-name : goal.create_file-requires-clause-name
create_file-requires-clause-name c = grind (arith, common_steps)

pub returns-in-Err-clause-answer : goal.returns-in-Err-clause-answer
returns-in-Err-clause-answer c = grind (arith, common_steps)
