use Rattle.std.proofs.Common.{◌∙◌, [], ap, unwrap_or}
use Rattle.std.proofs.lemmas.Result.{IfOk-weaker}
use Rattle.clap.proofs.WalkLemmas.{raw_values-rows}
use Rattle.clap.specs.Words.{found_of}
use Rattle.sandbox_args.specs.Request.{texts}
use Rattle.sandbox_args.proofs.words.texts.Goals as goal

pub returns-in-Some : goal.returns-in-Some
returns-in-Some c =
    let found = ap (λ o. unwrap_or o []) (c.in-Some.ensures ∙ raw_values-rows (found_of c.args.matches.now) c.args.id.now) in
    IfOk-weaker c.from_slice.result _ _ (λ v same. ap texts same ∙ found) c.from_slice.ensures.items

pub returns-in-None : goal.returns-in-None
returns-in-None c =
    ap texts c.new.ensures.items
    ∙ ap (λ o. unwrap_or o []) (c.in-None.ensures ∙ raw_values-rows (found_of c.args.matches.now) c.args.id.now)
