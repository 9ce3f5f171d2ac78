use Rattle.std.proofs.Common.{◌<◌, length}
use Rattle.std.proofs.lemmas.Option.{slice_get_within}
use Rattle.wasm_store.proofs.Functions.{type_of_index}
use Rattle.wasm_store.proofs.Starting.{item_at}
use Rattle.wasm_store.proofs.instantiation.function_type.Goals as goal

pub bounds-as_slice-index : goal.bounds-as_slice-index
bounds-as_slice-index c =
    let t = type_of_index c.args.guest.now _ _ c.requires.valid c.type_index-index.ensures in
    rw c.as_slice.ensures (slice_get_within c.args.guest.now.types _ t.0 t.1)

pub returns : goal.returns
returns c =
    let t = type_of_index c.args.guest.now _ _ c.requires.valid c.type_index-index.ensures in
    let within : c.type_index-index.result < length c.as_slice.result.now = rw c.as_slice.ensures (slice_get_within c.args.guest.now.types _ t.0 t.1) in
    record { type_index = c.type_index-index.result; function = c.type_index-index.ensures; type_is = item_at _ _ _ _ c.as_slice.ensures within c.index-as_slice-index.is }
