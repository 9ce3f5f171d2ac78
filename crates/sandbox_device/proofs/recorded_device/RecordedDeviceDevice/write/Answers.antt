use Rattle.std.proofs.Common.{List, [], ◌∷◌, ◌++◌, ap, sym, ◌∙◌, arith}
use Rattle.vol_sector.specs.declared.record.Operation.{Operation}
use Rattle.vol_sector.specs.declared.record.Operation.TheVariants.{Write}
use Rattle.vol_sector.proofs.Records.{agrees_write}
use Rattle.sandbox_device.proofs.Recorded.{counts_more, keeps_more, leaves_written}
use Rattle.std.proofs.Common.{refl, inr}
use Rattle.vol_sector.specs.Record.{image_of}
use Rattle.vol_sector.specs.internal.PastLaws.{past_wrote}
use Rattle.sandbox_device.proofs.Ram.{put_in}
use Rattle.sandbox_device.proofs.Recorded.{goes_on}
use Rattle.sandbox_device.proofs.recorded_device.RecordedDeviceDevice.write.Goals as goal

pub invariant_of-self : goal.invariant_of-self
invariant_of-self c =
    let m = c.args.self.now in
    let is = c.and-self.ensures in
    record {
      agrees = rw (c.put.ensures, is.0, is.1) (agrees_write m.history.first m.sectors m.history.done c.args.n c.args.image.now (omega (arith, c.requires)) m.agrees);
      counted = rw (is.1, is.2) (counts_more m.history.outcomes m.history.done (Write c.args.n c.args.image.now) m.counted);
      whole = λ w. let noted = c.note.ensures w in noted.1 ∙ ap (λ (l : List Operation). l ++ Write c.args.n c.args.image.now ∷ []) (m.whole noted.0) ∙ sym is.1;
    }

pub returns-clause-crash : goal.returns-clause-crash
returns-clause-crash c h =
    let past = c.args.self.now.history in
    let is = c.and-self.ensures in
    rw (is.0, is.1, is.2) (leaves_written c.args.self.now.sectors past.first past.done past.outcomes c.put.new.self c.args.n c.args.image.now)

pub returns-clause-keeps : goal.returns-clause-keeps
returns-clause-keeps c h =
    let past = c.args.self.now.history in
    let is = c.and-self.ensures in
    rw (is.0, is.1, is.2) (keeps_more c.args.self.now.sectors past.first past.done past.outcomes c.put.new.self (Write c.args.n c.args.image.now))

pub returns-clause-goes_on : goal.returns-clause-goes_on
returns-clause-goes_on c end lt =
    let m = c.args.self.now in
    let n = c.args.n in
    let bytes = c.args.image.now in
    let is = c.and-self.ensures in
    goes_on end m _ (Write n bytes ∷ []) is.0 refl is.1 (past_wrote end n bytes _ _ lt (inr (ap image_of c.put.ensures ∙ put_in m.sectors n bytes (omega (arith, c.requires)))) (returns-clause-crash c tt))
