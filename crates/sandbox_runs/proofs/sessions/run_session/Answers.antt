use Rattle.std.proofs.Common.{◌∙◌, List, Option, take, ap, subst, sym}
use Rattle.wasm_interp.specs.declared.frames.Frame.{Frame}
use Rattle.wasm_interp.specs.Frames.{frames_of}
use Rattle.sandbox_telling.specs.declared.profiling.FuelUse.{FuelUse}
use Rattle.sandbox_telling.specs.Profiling.{IsThere, IsUseWith}
use Rattle.sandbox_runs.proofs.Charged.{tells_use, told_use}
use Rattle.sandbox_telling.proofs.Frames.{first_frames, room_left}
use Rattle.sandbox_runs.proofs.sessions.run_session.Goals as goal

-- the report and the frames are of the session that it stopped with
pub returns-clause-ran : goal.returns-clause-ran
returns-clause-ran g c =
    let ended = c.reported.ensures in
    let told = c.run_within-told in
    let stopped = c.stopped_with-stopped in
    let taken = stopped.ensures.innermost
    ∙ ap (λ (fs : List Frame). take told.result.0.depth fs) (room_left c.room_for-room.result.len told.new.room _ (told.auto.room ∙ c.as_mut_slice.ensures.len)) in
    record {
      report = told.result.0.report;
      tally = told.result.0.tally;
      room = told.new.room;
      depth = told.result.0.depth;
      stacks = told.result.1;
      reported = told.ensures.told;
      stopped = stopped.result;
      is_stopped = ended.stopped;
      frames = first_frames (frames_of told.ensures.told.told.counted.reports.last.machine) told.new.room told.result.0.depth stopped.result told.ensures.told.told.frames
          stopped.ensures.depth taken;
      answers = stopped.ensures.answers;
      fuel_use = subst (λ (u : Option FuelUse). IsUseWith told.result.1 c.args.imported u) (sym stopped.ensures.fuel_use) c.fuel_use_of-fuel_use.ensures;
      ends = ended.ends;
      summary = ended.summary;
      device = ended.device;
      input = ended.input;
      out = ended.out;
      err = ended.err;
    }

-- where its fuel went is told
pub returns-clause-fuel_use : goal.returns-clause-fuel_use
returns-clause-fuel_use g c =
    tells_use c.args.stacks _ c.stopped_with-stopped.result c.reported.ensures.stopped
    (λ some. subst IsThere (sym c.stopped_with-stopped.ensures.fuel_use)
    (told_use c.args.stacks c.run_within-told.result.1 _ c.fuel_use_of-fuel_use.result c.run_within-told.ensures.stacks c.fuel_use_of-fuel_use.ensures some))
