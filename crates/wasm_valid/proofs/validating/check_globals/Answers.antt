use Rattle.std.proofs.Common.{List, All, IsTrue, ◌↔◌, ◌∙◌, ap, subst}
use Rattle.std.specs.List.{filter_map}
use Rattle.wasm_syntax.specs.declared.module.Import.{Import}
use Rattle.wasm_syntax.specs.declared.module.GlobalType.{GlobalType}
use Rattle.wasm_syntax.specs.declared.module.GlobalEntry.{GlobalEntry}
use Rattle.wasm_valid.specs.Spaces.{imported_global, kinds_of}
use Rattle.wasm_valid.specs.Validity.{IsConstant}
use Rattle.wasm_valid.specs.internal.Rules.{GlobalsHold}
use Rattle.wasm_valid.proofs.Refusals.{settles_same}
use Rattle.wasm_valid.proofs.validating.check_globals.Goals as goal

pub returns : goal.returns
returns c =
    let m = c.args.module.now in
    let are = c.as_slice-2.ensures.value ∙ c.in_ok-imported.ensures ∙ ap (λ (is : List Import). filter_map imported_global (kinds_of is)) c.as_slice.ensures in
    let one = subst (λ (gs : List GlobalType). IsTrue c.globals_fit.result ↔ All (λ (g : GlobalEntry). IsConstant gs g.global_type.value_type g.init) c.as_slice-3.result.now) are c.globals_fit.ensures in
    let two = subst (λ (es : List GlobalEntry). IsTrue c.globals_fit.result ↔ GlobalsHold (record m { globals = es })) c.as_slice-3.ensures one in
    settles_same c.rule.result (IsTrue c.globals_fit.result) (GlobalsHold m) two.0 two.1 c.rule.ensures
