use Rattle.std.proofs.Common.{◌≡◌, sym, ◌∙◌, subst}
use Rattle.std.proofs.lemmas.Bool.{false≢true}
use Rattle.wasm_valid.specs.internal.Rules.{IsConstantInstruction}
use Rattle.wasm_valid.proofs.Assembled.{constant_of, of_constant}
use Rattle.wasm_valid.proofs.Heads.{same_head}
use Rattle.wasm_valid.proofs.module_rules.is_constant.Goals as goal

pub returns-in-Some : goal.returns-in-Some
returns-in-Some c =
    let globals = c.args.globals.now in
    let t = c.args.value_type in
    let code = c.args.code.now in
    let i = c.in-Some.instruction.now in (
      λ yes. constant_of globals t i code c.in-Some.ensures (c.is_constant_instruction.ensures.0 yes),
      λ constant.
          let found = of_constant globals t code constant in
          let same : found.0 ≡ i = same_head (sym found.1 ∙ c.in-Some.ensures) in
          c.is_constant_instruction.ensures.1 (subst (IsConstantInstruction globals t) same found.2),
    )

pub returns-in-None : goal.returns-in-None
returns-in-None c = (
  λ yes. absurd (false≢true yes),
  λ constant. let found = of_constant c.args.globals.now c.args.value_type c.args.code.now constant in absurd (c.in-None.ensures found.0 found.1),
)
