use Rattle.sandbox_host.specs.Instances.{Answers, NoAnswer}
use Rattle.sandbox_host.proofs.Answering.{told_of}
use Rattle.sandbox_host.proofs.calling.give.Goals as goal

pub returns : goal.returns
returns c =
    told_of c.answer_all.result c.number_of.result c.args.instance.now c.answer_all.new.self (Answers c.args.instance.now c.answer_all.new.self c.args.results.now) (NoAnswer c.args.instance.now c.args.results.now)
    c.number_of.ensures c.answer_all.ensures.answered c.answer_all.ensures.refused
