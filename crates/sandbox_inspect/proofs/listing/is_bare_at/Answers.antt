use Rattle.std.proofs.Common.{ap, sym, ◌∙◌, Option, Some, ℕ, false}
use Rattle.std.specs.List.{slice_get}
use Rattle.std.specs.Option.{option_map_or}
use Rattle.std.proofs.lemmas.Option.{slice_get_past, slice_get-get_or}
use Rattle.wasm_syntax.specs.declared.module.FuncType.{FuncType}
use Rattle.sandbox_inspect.specs.Survey.{is_bare}
use Rattle.sandbox_inspect.proofs.listing.is_bare_at.Goals as goal

-- there is no such function
pub returns-in-None : goal.returns-in-None
returns-in-None c =
    ap (λ (i : Option ℕ). option_map_or (λ x. option_map_or is_bare (slice_get c.args.types.now x) false) i false)
    (sym (slice_get_past c.args.functions.now c.args.index c.in-None.ensures.lookup.3))

-- nor such a type
pub returns-in-None-get : goal.returns-in-None-get
returns-in-None-get c =
    let found = c.in-Some.ensures.lookup.3 in
    let index = slice_get-get_or c.args.functions.now c.args.index c.in-Some.type_index.now found.0 ∙ ap Some (sym (found.1 c.in-Some.type_index.now)) in
    let none = slice_get_past c.args.types.now c.in-Some.type_index.now c.in-None-get.ensures.lookup.3 in
    ap (λ (t : Option FuncType). option_map_or is_bare t false) (sym none)
    ∙ ap (λ (i : Option ℕ). option_map_or (λ x. option_map_or is_bare (slice_get c.args.types.now x) false) i false) (sym index)

-- the function has this type
pub returns-in-Some-get : goal.returns-in-Some-get
returns-in-Some-get c =
    let found = c.in-Some.ensures.lookup.3 in
    let index = slice_get-get_or c.args.functions.now c.args.index c.in-Some.type_index.now found.0 ∙ ap Some (sym (found.1 c.in-Some.type_index.now)) in
    let known = c.in-Some-get.ensures.lookup.3 in
    let func_type = slice_get-get_or c.args.types.now c.in-Some.type_index.now c.in-Some-get.func_type.now known.0 ∙ ap Some (sym (known.1 c.in-Some-get.func_type.now)) in
    c.is_bare.ensures
    ∙ ap (λ (t : Option FuncType). option_map_or is_bare t false) (sym func_type)
    ∙ ap (λ (i : Option ℕ). option_map_or (λ x. option_map_or is_bare (slice_get c.args.types.now x) false) i false) (sym index)
