use Rattle.std.proofs.Common.{◌≡◌, ◌<◌, ◌≤◌, length, refl, sym, subst, inr, arith}
use Rattle.std.specs.Option.{option_map}
use Rattle.std.proofs.lemmas.Option.{slice_get_within}
use Rattle.wasm_store.proofs.Functions.{import_typed}
use Rattle.wasm_store.proofs.Imports.{linked_next, linked_all, one_unlinked, one_other, linked_none}
use Rattle.wasm_store.specs.internal.Finding.{links_with}
use Rattle.wasm_store.proofs.Starting.{item_at}
use Rattle.wasm_store.proofs.instantiation.link.Goals as goal

pub bounds-as_slice-type_index : goal.bounds-as_slice-type_index
bounds-as_slice-type_index g c =
    let e = item_at _ _ _ _ c.as_slice-import-items.ensures c.loop-import-test.true c.import-item.is in
    let t = import_typed c.args.guest.now _ _ _ c.requires e c.in-Function.is in
    rw c.as_slice.ensures (slice_get_within c.args.guest.now.types _ t.0 t.1)

pub returns-in_default-linked-clause-missing : goal.returns-in_default-linked-clause-missing
returns-in_default-linked-clause-missing g c =
    let e = item_at _ _ _ _ c.as_slice-import-items.ensures c.loop-import-test.true c.import-item.is in
    let t = import_typed c.args.guest.now _ _ _ c.requires e c.in-Function.is in
    let within : c.in-Function.type_index < length c.as_slice.result.now = rw c.as_slice.ensures (slice_get_within c.args.guest.now.types _ t.0 t.1) in
    let type = item_at _ _ _ _ c.as_slice.ensures within c.index-as_slice-type_index.is in
    let n : c.len.result ≡ c.loop-import.import-index = omega (arith, c.len.ensures, c.loop-import.calls.ok.0, c.loop-import.invariant.count) in
    let l = rw n at c.in_default-linked.ensures in
    inr (refl, one_unlinked _ _ _ _ c.import-item.result c.in-Function.type_index c.index-as_slice-type_index.result e c.in-Function.is type (sym l) c.loop-import.invariant)

pub loop-import-preserved : goal.loop-import-preserved
loop-import-preserved g c =
    let e = item_at _ _ _ _ c.as_slice-import-items.ensures c.loop-import-test.true c.import-item.is in
    let t = import_typed c.args.guest.now _ _ _ c.requires e c.in-Function.is in
    let within : c.in-Function.type_index < length c.as_slice.result.now = rw c.as_slice.ensures (slice_get_within c.args.guest.now.types _ t.0 t.1) in
    let type = item_at _ _ _ _ c.as_slice.ensures within c.index-as_slice-type_index.is in
    let n : c.len.result ≡ c.loop-import.import-index = omega (arith, c.len.ensures, c.loop-import.calls.ok.0, c.loop-import.invariant.count) in
    let l = rw n at c.in-Some.ensures in
    rw c.in_ok-push.ensures.items (linked_next _ _ _ _ c.import-item.result c.in-Function.type_index c.index-as_slice-type_index.result c.in-Some.call e c.in-Function.is type (sym l) c.loop-import.invariant)

pub returns-clause-found : goal.returns-clause-found
returns-clause-found g c = linked_all _ _ _ _ (subst (λ y. length y ≤ c.loop-import.import-index) c.as_slice-import-items.ensures c.loop-import-test.false) c.loop-import.invariant

pub returns-in_default : goal.returns-in_default
returns-in_default g c =
    let e = item_at _ _ _ _ c.as_slice-import-items.ensures c.loop-import-test.true c.import-item.is in
    record { found = tt; missing = inr (refl, one_other _ _ _ _ c.import-item.result e c.in_default.not-Function c.loop-import.invariant) }

pub loop-import-init : goal.loop-import-init
loop-import-init g c = rw c.new-calls.ensures.items (linked_none (links_with (g.H.Host.links c.args.host.now) (option_map (λ s. s.now) c.args.embedder)) c.args.guest.now)
