use Rattle.std.proofs.Common.{◌-◌, length, get_or}
use Rattle.std.proofs.lemmas.Option.{slice_get-get_or}
use Rattle.wasm_store.proofs.Functions.{import_index, own_inside, own_index}
use Rattle.wasm_store.proofs.instantiation.type_index.Goals as goal

pub bounds-as_slice-function : goal.bounds-as_slice-function
bounds-as_slice-function c =
    let own = rw c.as_slice-imports.ensures at c.if-function-imports.false in
    rw (c.as_slice.ensures, c.as_slice-imports.ensures) (own_inside c.args.guest.now c.args.function c.requires.functions c.requires.fits own)

pub returns-in-Function : goal.returns-in-Function
returns-in-Function c =
    let inside = rw c.as_slice-imports.ensures at c.if-function-imports.true in
    let kind = rw c.as_slice-imports.ensures at c.in-Function.is in
    import_index c.args.guest.now c.args.function c.in-Function.index _ c.requires.functions (slice_get-get_or c.args.guest.now.imports c.args.function _ inside) kind

pub returns-else-function-imports : goal.returns-else-function-imports
returns-else-function-imports c =
    let own = rw c.as_slice-imports.ensures at c.if-function-imports.false in
    let m = c.args.guest.now in
    let x = c.args.function in
    rw (c.as_slice.ensures, c.as_slice-imports.ensures)
    (own_index m x (get_or m.functions (x - length m.imports) 0) c.requires.functions own
    (slice_get-get_or m.functions (x - length m.imports) 0 (own_inside m x c.requires.functions c.requires.fits own)))
