use Rattle.plugin_steps.proofs.Asking.{answers_where_asked}
use Rattle.plugin_steps.proofs.laws.answers_where_asked.Goals as goal

pub returns : goal.returns
returns g c = answers_where_asked _ g.H.Host.calls
