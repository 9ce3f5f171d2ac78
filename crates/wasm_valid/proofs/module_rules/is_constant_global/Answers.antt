use Rattle.std.proofs.Common.{Some, None, sym, ap, ◌∙◌}
use Rattle.std.proofs.lemmas.Bool.{false≢true}
use Rattle.wasm_syntax.specs.declared.module.GlobalType.{GlobalType}
use Rattle.wasm_valid.proofs.Contexts.{copied_at}
use Rattle.wasm_valid.proofs.Heads.{same_some, some_not_none}
use Rattle.wasm_valid.proofs.module_rules.is_constant_global.Goals as goal

pub returns-in-Some : goal.returns-in-Some
returns-in-Some c =
    let there = copied_at c.args.globals.now c.args.index (Some c.in-Some.global) c.in-Some.ensures.lookup in (
      λ yes. sym there ∙ ap (λ (g : GlobalType). Some g) (c.is_constant_type.ensures.0 yes),
      λ is. c.is_constant_type.ensures.1 (same_some (sym there) is),
    )

pub returns-in-None : goal.returns-in-None
returns-in-None c =
    let gone = copied_at c.args.globals.now c.args.index None c.in-None.ensures.lookup in
    (λ yes. absurd (false≢true yes), λ is. absurd (some_not_none is (sym gone)))
