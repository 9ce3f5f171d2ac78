use Rattle.std.proofs.Common.{Bool}
use Rattle.wasi_bodies.proofs.bodies.AskingCalls.{asked_works, works_on, asked_on, asked_handed, io_handed}
use Rattle.wasi_bodies.specs.internal.paths.Walks.{StillWorks}
use Rattle.wasi_paths.proofs.paths.renaming.ask_facts.Goals as goal

pub returns-clause-asked : goal.returns-clause-asked
returns-clause-asked g c =
    let first : StillWorks g.D.Device.honest g.D.Device.disk g.D.Device.size g.D.Device.failures g.D.Device.goes_on c.args.volume.now c.is_directory.new.volume = asked_works g.D.Device.honest g.D.Device.disk g.D.Device.size g.D.Device.failures g.D.Device.goes_on c.args.volume.now c.is_directory.new.volume c.in_ok-source_is_directory.ensures.asked in
    let second = works_on g.D.Device.honest g.D.Device.disk g.D.Device.size g.D.Device.failures g.D.Device.goes_on c.args.volume.now c.is_directory.new.volume c.is_within.new.volume first c.in_ok-is_within.ensures.asked in
    let third = works_on g.D.Device.honest g.D.Device.disk g.D.Device.size g.D.Device.failures g.D.Device.goes_on c.args.volume.now c.is_within.new.volume c.is_directory-2.new.volume second c.in_ok-target_is_directory.ensures.asked in
    asked_on g.D.Device.honest g.D.Device.disk g.D.Device.size g.D.Device.failures g.D.Device.goes_on c.args.volume.now c.is_directory-2.new.volume c.is_empty.new.volume _ third c.in_ok-is_empty.ensures.asked

pub returns-in_err-source_is_directory : goal.returns-in_err-source_is_directory
returns-in_err-source_is_directory g c =
    let r = c.from_residual.result in
    let e = c.in_err-source_is_directory.field-0.0 in
    let is = c.from_residual.ensures.1 in
    record {
      asked = asked_handed Bool g.D.Device.honest g.D.Device.disk g.D.Device.size g.D.Device.failures g.D.Device.goes_on c.args.volume.now c.is_directory.new.volume r e is c.in_err-source_is_directory.ensures.asked;
      told = λ h. io_handed r _ e is (c.in_err-source_is_directory.ensures.answer h);
    }

pub returns-in_err-is_within : goal.returns-in_err-is_within
returns-in_err-is_within g c =
    let r = c.from_residual-in_err-is_within.result in
    let e = c.in_err-is_within.field-0.0 in
    let is = c.from_residual-in_err-is_within.ensures.1 in
    let first = asked_works g.D.Device.honest g.D.Device.disk g.D.Device.size g.D.Device.failures g.D.Device.goes_on c.args.volume.now c.is_directory.new.volume c.in_ok-source_is_directory.ensures.asked in
    record {
      asked = asked_handed Bool g.D.Device.honest g.D.Device.disk g.D.Device.size g.D.Device.failures g.D.Device.goes_on c.args.volume.now c.is_within.new.volume r e is (asked_on g.D.Device.honest g.D.Device.disk g.D.Device.size g.D.Device.failures g.D.Device.goes_on c.args.volume.now c.is_directory.new.volume c.is_within.new.volume _ first c.in_err-is_within.ensures.asked);
      told = λ h. io_handed r _ e is (c.in_err-is_within.ensures.told (first.kept.honest.0 h));
    }

pub returns-in_err-target_is_directory : goal.returns-in_err-target_is_directory
returns-in_err-target_is_directory g c =
    let r = c.from_residual-in_err-target_is_directory.result in
    let e = c.in_err-target_is_directory.field-0.0 in
    let is = c.from_residual-in_err-target_is_directory.ensures.1 in
    let first = asked_works g.D.Device.honest g.D.Device.disk g.D.Device.size g.D.Device.failures g.D.Device.goes_on c.args.volume.now c.is_directory.new.volume c.in_ok-source_is_directory.ensures.asked in
    let second = works_on g.D.Device.honest g.D.Device.disk g.D.Device.size g.D.Device.failures g.D.Device.goes_on c.args.volume.now c.is_directory.new.volume c.is_within.new.volume first c.in_ok-is_within.ensures.asked in
    record {
      asked = asked_handed Bool g.D.Device.honest g.D.Device.disk g.D.Device.size g.D.Device.failures g.D.Device.goes_on c.args.volume.now c.is_directory-2.new.volume r e is (asked_on g.D.Device.honest g.D.Device.disk g.D.Device.size g.D.Device.failures g.D.Device.goes_on c.args.volume.now c.is_within.new.volume c.is_directory-2.new.volume _ second c.in_err-target_is_directory.ensures.asked);
      told = λ h. io_handed r _ e is (c.in_err-target_is_directory.ensures.answer (second.kept.honest.0 h));
    }

pub returns-in_err-is_empty : goal.returns-in_err-is_empty
returns-in_err-is_empty g c =
    let r = c.from_residual-in_err-is_empty.result in
    let e = c.in_err-is_empty.field-0.0 in
    let is = c.from_residual-in_err-is_empty.ensures.1 in
    let first = asked_works g.D.Device.honest g.D.Device.disk g.D.Device.size g.D.Device.failures g.D.Device.goes_on c.args.volume.now c.is_directory.new.volume c.in_ok-source_is_directory.ensures.asked in
    let second = works_on g.D.Device.honest g.D.Device.disk g.D.Device.size g.D.Device.failures g.D.Device.goes_on c.args.volume.now c.is_directory.new.volume c.is_within.new.volume first c.in_ok-is_within.ensures.asked in
    let third = works_on g.D.Device.honest g.D.Device.disk g.D.Device.size g.D.Device.failures g.D.Device.goes_on c.args.volume.now c.is_within.new.volume c.is_directory-2.new.volume second c.in_ok-target_is_directory.ensures.asked in
    record {
      asked = asked_handed Bool g.D.Device.honest g.D.Device.disk g.D.Device.size g.D.Device.failures g.D.Device.goes_on c.args.volume.now c.is_empty.new.volume r e is (asked_on g.D.Device.honest g.D.Device.disk g.D.Device.size g.D.Device.failures g.D.Device.goes_on c.args.volume.now c.is_directory-2.new.volume c.is_empty.new.volume _ third c.in_err-is_empty.ensures.asked);
      told = λ h. io_handed r _ e is (c.in_err-is_empty.ensures.told (third.kept.honest.0 h));
    }
