use Rattle.sandbox_host.proofs.running.end.Goals as goal

pub returns-clause-finishes : goal.returns-clause-finishes
returns-clause-finishes c =
    let made = c.finish-loaded in
    record {
      volume = made.result.1.volume;
      commits = made.ensures.finishes.volume;
      device = c.handed_back-device.ensures.device;
      number_told = c.handed_back-device.ensures.number;
      valid = made.ensures.module;
      out = made.ensures.finishes.out;
      err = made.ensures.finishes.err;
    }
