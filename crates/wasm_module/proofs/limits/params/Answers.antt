use Rattle.std.proofs.Common.{length, refl, sym, ap, ◌∙◌}
use Rattle.std.proofs.lemmas.Option.{slice_get_past, slice_get_read}
use Rattle.wasm_syntax.specs.Module.{param_count}
use Rattle.wasm_module.proofs.limits.params.Goals as goal

pub returns-in-Some : goal.returns-in-Some
returns-in-Some c =
    let types = c.args.types.now in
    let at = c.in-Some.ensures.lookup in
    c.len.ensures ∙ sym (ap param_count (slice_get_read types (length types) c.args.index c.in-Some.function.now refl at.3.0 at.1))

pub returns-in-None : goal.returns-in-None
returns-in-None c = sym (ap param_count (slice_get_past c.args.types.now c.args.index c.in-None.ensures.lookup.3))
