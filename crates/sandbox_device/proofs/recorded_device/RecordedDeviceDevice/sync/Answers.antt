use Rattle.std.proofs.Common.{List, [], ◌∷◌, ◌++◌, ap, sym, ◌∙◌}
use Rattle.vol_sector.specs.Record.{image_of}
use Rattle.vol_sector.specs.declared.record.Operation.{Operation}
use Rattle.vol_sector.specs.declared.record.Operation.TheVariants.{Sync}
use Rattle.vol_sector.proofs.Records.{newest_sync}
use Rattle.sandbox_device.proofs.Recorded.{counts_more, keeps_more, leaves_synced, only_synced}
use Rattle.std.proofs.Common.{refl}
use Rattle.vol_sector.specs.internal.PastLaws.{past_quiet}
use Rattle.sandbox_device.proofs.Recorded.{goes_on}
use Rattle.sandbox_device.proofs.recorded_device.RecordedDeviceDevice.sync.Goals as goal

pub invariant_of-self : goal.invariant_of-self
invariant_of-self c =
    let m = c.args.self.now in
    let is = c.and-self.ensures in
    record {
      agrees = rw (is.0, is.1) (λ n. m.agrees n ∙ sym (newest_sync n (image_of m.history.first n) m.history.done));
      counted = rw (is.1, is.2) (counts_more m.history.outcomes m.history.done Sync m.counted);
      whole = λ w. let noted = c.note.ensures w in noted.1 ∙ ap (λ (l : List Operation). l ++ Sync ∷ []) (m.whole noted.0) ∙ sym is.1;
    }

pub returns-clause-durable : goal.returns-clause-durable
returns-clause-durable c h =
    let past = c.args.self.now.history in
    let is = c.and-self.ensures in
    rw (is.0, is.1) (only_synced c.args.self.now.sectors past.first past.done past.outcomes c.args.self.now.agrees)

pub returns-clause-crash : goal.returns-clause-crash
returns-clause-crash c h =
    let past = c.args.self.now.history in
    let is = c.and-self.ensures in
    rw (is.0, is.1, is.2) (leaves_synced c.args.self.now.sectors past.first past.done past.outcomes)

pub returns-clause-keeps : goal.returns-clause-keeps
returns-clause-keeps c h =
    let past = c.args.self.now.history in
    let is = c.and-self.ensures in
    rw (is.0, is.1, is.2) (keeps_more c.args.self.now.sectors past.first past.done past.outcomes c.args.self.now.sectors Sync)

pub returns-clause-goes_on : goal.returns-clause-goes_on
returns-clause-goes_on c end =
    let is = c.and-self.ensures in
    goes_on end c.args.self.now _ (Sync ∷ []) is.0 refl is.1 (past_quiet end _ _ refl (returns-clause-crash c tt))
