use Rattle.std.proofs.Common.{rules}
use Rattle.sandbox_core.proofs.session.give_back.Goals as goal

pub returns : goal.returns
returns g c = λ machine. record {
  volume = search rules;
  input = search rules;
  out = search rules;
  err = search rules;
}
