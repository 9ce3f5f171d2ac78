use Rattle.std.proofs.Common.{ℕ, ◌≤◌, subst}
use Rattle.sandbox_command.proofs.laws.calls_are_instances.Goals as goal

pub returns : goal.returns
returns g c = λ name m words parts left called.
    let calls = called.calls in
    record {
      instance = called.instance;
      opens = called.opens;
      shares = called.shares;
      last = calls.last;
      acts = calls.acts;
      follow = calls.follow;
      within = subst (λ (n : ℕ). n ≤ words.limits.fuel) calls.used calls.within;
      volume = called.called.volume;
      commits = calls.volume;
      device = called.told.device;
    }
