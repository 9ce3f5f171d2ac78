-- Each call answers for one global.
use Rattle.std.proofs.Common.{rules}
use Rattle.std.proofs.lemmas.Iterator.{cases_from_all, YieldsList-from_slice}
use Rattle.wasm_syntax.specs.declared.module.GlobalEntry.{GlobalEntry}
use Rattle.wasm_valid.specs.Validity.{IsConstant}
use Rattle.wasm_valid.proofs.EachOne.{answered}
use Rattle.wasm_valid.proofs.module_rules.globals_fit.Goals as goal

pub returns : goal.returns
returns c =
    let gs = c.args.imported.now in
    answered (λ (g : GlobalEntry). IsConstant gs g.global_type.value_type g.init) c.all.result c.args.globals.now
    (cases_from_all _ _ _ (λ (g : GlobalEntry). IsConstant gs g.global_type.value_type g.init) (λ (g : GlobalEntry). IsConstant gs g.global_type.value_type g.init → ⊥) c.all.ensures.ran (YieldsList-from_slice c.args.globals.now cc) (λ x q k. search rules) (λ x q k. search rules))
