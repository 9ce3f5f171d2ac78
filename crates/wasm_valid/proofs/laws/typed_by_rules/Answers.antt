use Rattle.wasm_valid.proofs.StandardLaws.{typed_by_rules, rules_by_typed}
use Rattle.wasm_valid.proofs.laws.typed_by_rules.Goals as goal

pub returns : goal.returns
returns c = λ k ls code a b. ((λ h. typed_by_rules k ls code a b h), (λ h. rules_by_typed k code ls a b h))
