use Rattle.std.proofs.Common.{sym, ◌∙◌}
use Rattle.wasi_calls.proofs.host.LinkedCalls.{linked}
use Rattle.wasi_calls.proofs.host.linking.call_of.Goals as goal

pub returns-in-Some : goal.returns-in-Some
returns-in-Some c =
    c.of_type.ensures ∙ linked c.args.module_name.now c.args.name.now c.args.func_type.now _ (sym c.ne.ensures ∙ c.if-ne.false) c.in-Some.ensures
