use Rattle.std.proofs.Common.{[], ◌≤◌, length, refl, subst}
use Rattle.wasm_store.proofs.Constants.{first_next, first_all}
use Rattle.wasm_store.proofs.Starting.{item_at}
use Rattle.wasm_store.proofs.instantiation.first_globals.Goals as goal

pub loop-entry-preserved : goal.loop-entry-preserved
loop-entry-preserved c =
    let e = item_at _ _ _ _ c.as_slice-entry-items.ensures c.loop-entry-test.true c.entry-item.is in
    let value = rw c.as_slice.ensures at (c.constant.ensures.value [] refl) in
    let small = rw c.as_slice.ensures at c.constant.ensures.small in
    rw c.in_ok-push.ensures.items (first_next _ _ _ c.entry-item.result c.constant.result c.requires.valid c.requires.functions e value c.constant.type_inv small c.loop-entry.invariant)

pub returns : goal.returns
returns c =
    rw c.new.ensures (first_all _ _ _ (subst (λ y. length y ≤ c.loop-entry.entry-index) c.as_slice-entry-items.ensures c.loop-entry-test.false) c.loop-entry.invariant)
