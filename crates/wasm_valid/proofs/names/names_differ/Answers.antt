-- The set is made of the names of the exports.
use Rattle.std.proofs.Common.{rules, map, ℕ, List, Bor, ◌∙◌}
use Rattle.std.proofs.lemmas.List.{length-map}
use Rattle.std.proofs.lemmas.Iterator.{YieldsList-from_slice, YieldsList-from_map_by, items_from_drains}
use Rattle.std.proofs.lemmas.Map.Views.{btree_set_len-from_list}
use Rattle.wasm_valid.proofs.Apart.{counts_apart, text_total}
use Rattle.wasm_valid.proofs.names.names_differ.Goals as goal

pub returns : goal.returns
returns c =
    let ran = c.in_ok-names.ensures.ran in
    let gives = YieldsList-from_map_by _ (λ (r : Bor (List ℕ)). r.now) (λ e. e.name) (YieldsList-from_slice c.args.exports.now cc) (cc) (λ x r q k. search rules) in
    let are = items_from_drains ran.0 ran.1 gives in
    let count = c.len.ensures.len ∙ btree_set_len-from_list text_total ran.0 c.in_ok-names.names ran.2 in
    rw (← length-map c.args.exports.now (λ e. e.name)) (counts_apart (map (λ e. e.name) c.args.exports.now) ran.0 c.len.result are count)
