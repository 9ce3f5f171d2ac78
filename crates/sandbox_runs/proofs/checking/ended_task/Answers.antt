use Rattle.std.proofs.Common.{Option, sym, ◌∙◌, subst}
use Rattle.vol_sector.specs.declared.fault.Damage.{Damage}
use Rattle.sandbox_runs.specs.Checking.{TellsChecked}
use Rattle.sandbox_telling.specs.Streams.{AppendsSome}
use Rattle.sandbox_runs.proofs.checking.ended_task.Goals as goal

-- its lines, and then what they mean
pub returns-clause-err : goal.returns-clause-err
returns-clause-err g c =
    let errs = g.W2.Write.contents in
    let told = errs c.tell_damage.new.err in
    subst (λ (d : Option Damage). TellsChecked d (errs c.args.given.err) (errs c.left_with.result.err)) (sym c.in-Some.is ∙ c.checked_damage.ensures)
    (told, c.tell_damage.ensures, subst (λ w. AppendsSome told (errs w)) (sym c.left_with.ensures.err) c.tell_of_volume.ensures)
