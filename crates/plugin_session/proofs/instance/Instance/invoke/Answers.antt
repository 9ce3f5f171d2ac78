use Rattle.std.proofs.Common.{◌∙◌, refl, sym, subst, inl, inr}
use Rattle.std.specs.Prelude.{Contains}
use Rattle.wasm_syntax.specs.declared.module.ExportKind.TheVariants as exports
use Rattle.wasm_syntax.specs.declared.module.Module.{Module}
use Rattle.plugin_core.specs.Handling.{invokes}
use Rattle.plugin_session.proofs.instance.Instance.invoke.Goals as goal

pub returns-clause-invoked : goal.returns-clause-invoked
returns-clause-invoked g c =
    let x = c.in-Some.function in
    let exported = subst (λ (m : Module). Contains m.exports (record { name = c.args.name.now; kind = exports.Function x })) (c.module-2.ensures.value ∙ c.module.ensures) c.in-Some.ensures.found in
    rw (← c.self.view_is) (x, exported, record { may = c.in_ok-may_invoke.ensures.may; handled = invokes x c.args.arguments.now c.args.name.now exported c.in-Ok.ensures.invoked; stage = refl })

-- no function is exported by this name
pub returns-in_default-clause-refused : goal.returns-in_default-clause-refused
returns-in_default-clause-refused g c =
    let same = c.module-2.ensures.value ∙ c.module.ensures in
    rw (← c.self.view_is) (
      refl,
      inr (
        c.in_ok-may_invoke.ensures.told,
        inl (λ x k. c.in_default.ensures.missing x (subst (λ (m : Module). Contains m.exports (record { name = c.args.name.now; kind = exports.Function x })) (sym same) k)),
      ),
    )
