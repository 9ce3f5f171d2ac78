use Rattle.std.proofs.Common.{sym, ◌∙◌, ap, Some, None}
use Rattle.std.specs.List.{slice_get}
use Rattle.std.specs.Option.{option_and_then}
use Rattle.wasm_valid.proofs.Contexts.{copied_at, function_at}
use Rattle.wasm_valid.proofs.module_context.ModuleContext.function.Goals as goal

pub returns-in_err-type_index-clause-found : goal.returns-in_err-type_index-clause-found
returns-in_err-type_index-clause-found c = λ k is.
    let module_context = c.args.self.now in
    let gone = copied_at c.deref.result.now c.args.index None c.in_err-type_index.ensures.lookup in
    rw c.from_residual.ensures
    (ap (option_and_then (slice_get module_context.types.now)) (gone ∙ ap (λ v. slice_get v c.args.index) c.deref.ensures.value)
    ∙ sym (function_at module_context.types.now module_context.type_indices.items k.functions c.args.index is.functions))

pub returns-clause-found : goal.returns-clause-found
returns-clause-found c = λ k is.
    let module_context = c.args.self.now in
    let first = copied_at c.deref.result.now c.args.index (Some c.in_ok-type_index.type_index) c.in_ok-type_index.ensures.lookup in
    copied_at module_context.types.now c.in_ok-type_index.type_index.now c.get-2.result c.get-2.ensures.lookup
    ∙ ap (option_and_then (slice_get module_context.types.now)) (first ∙ ap (λ v. slice_get v c.args.index) c.deref.ensures.value)
    ∙ sym (function_at module_context.types.now module_context.type_indices.items k.functions c.args.index is.functions)
