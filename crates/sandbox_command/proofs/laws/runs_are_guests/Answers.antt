use Rattle.std.proofs.Common.{ℕ, ◌≤◌, subst}
use Rattle.wasm_steps.specs.Configuration.{first_configuration}
use Rattle.sandbox_command.proofs.laws.runs_are_guests.Goals as goal

pub returns : goal.returns
returns g c = λ m words parts left ran.
    let reports = ran.counted.reports in
    let starts = ran.opens.starts in
    record {
      session = ran.session;
      opens = ran.opens;
      shares = ran.shares;
      last = reports.last;
      resumes = reports.resumes;
      follow = reports.follow;
      outcome = ran.report.outcome;
      within = subst (λ (n : ℕ). n ≤ words.limits.fuel) reports.used reports.within;
      run = reports.run starts.instance (first_configuration starts.entered starts.store) starts.stands;
      volume = ran.report.volume;
      device = ran.device;
      ends = ran.ends;
      input = ran.input;
      out = ran.out;
      err = ran.err;
      crash = ran.crash;
    }
