use Rattle.sandbox_host.proofs.instantiating.end_instance.Goals as goal

pub returns-clause-finishes : goal.returns-clause-finishes
returns-clause-finishes c =
    let made = c.finish-volume in
    record {
      volume = made.result.0;
      commits = made.ensures.volume;
      device = c.handed_back-device.ensures.device;
      number_told = c.handed_back-device.ensures.number;
      out = made.ensures.out;
      err = made.ensures.err;
    }
