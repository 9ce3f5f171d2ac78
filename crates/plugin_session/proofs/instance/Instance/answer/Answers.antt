use Rattle.std.specs.Option.{option_to_list}
use Rattle.plugin_core.specs.Handling.{answers}
use Rattle.plugin_session.proofs.instance.Instance.answer.Goals as goal

pub returns-clause-answered : goal.returns-clause-answered
returns-clause-answered g c =
    let a = c.in-Ok.ensures.answered in
    rw (← c.self.view_is) (a.function, a.arguments, record { may = c.in_ok-may_answer.ensures.may; handled = answers (option_to_list c.args.value) a; stage = c.after_answer-self-inside.ensures })
