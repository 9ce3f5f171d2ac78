use Rattle.std.proofs.Common.{◌≡◌, drop, [], arith}
use Rattle.std.proofs.lemmas.List.{drop_all}
use Rattle.std.proofs.lemmas.Grind.{common_steps}
use Rattle.wasi_bodies.proofs.settings.nul_terminated_len.Goals as goal

-- no text is left
pub returns : goal.returns
returns c =
    let none_left : drop c.loop-text.text-index c.args.texts.now ≡ [] = drop_all c.loop-text.text-index c.args.texts.now (omega arith) in
    let all = rw none_left at c.loop-text.invariant.0 in
    omega (arith, all)

pub loop-text-preserved : goal.loop-text-preserved
loop-text-preserved c = grind (arith, common_steps)
