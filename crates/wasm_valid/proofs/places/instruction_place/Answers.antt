use Rattle.std.proofs.Common.{◌≡◌, ℕ, List, length, ◌-◌, take, ap, ◌∙◌}
use Rattle.std.proofs.lemmas.List.{take_min}
use Rattle.wasm_valid.specs.internal.Skipping.{after_number, after_numbers, after_instructions}
use Rattle.wasm_valid.proofs.Skipped.{place_is, left_of}
use Rattle.wasm_valid.proofs.places.instruction_place.Goals as goal

pub returns : goal.returns
returns c =
    let body = c.args.body.now in
    let index = c.args.index in
    let code = c.as_slice-instructions.result.now in
    let groups = length body.locals in
    let behind : c.after_numbers-code.result.now ≡ after_numbers groups (after_numbers groups (after_number body.bytes)) =
    c.after_numbers-code.ensures ∙ ap (λ n. after_numbers n c.after_numbers.result.now) c.len-groups.ensures
    ∙ ap (after_numbers groups) (c.after_numbers.ensures ∙ ap (λ n. after_numbers n c.after_number.result.now) c.len-groups.ensures
    ∙ ap (after_numbers groups) (c.after_number.ensures ∙ ap after_number c.as_slice-bytes.ensures)) in
    let left : c.after_instructions-left.result.now ≡ left_of body index =
    c.after_instructions-left.ensures
    ∙ ap (λ is. after_instructions is c.after_numbers-code.result.now) (ap (λ n. take n code) c.min.ensures ∙ take_min index code ∙ ap (take index) c.as_slice-instructions.ensures)
    ∙ ap (after_instructions (take index body.code)) behind in
    λ p before k.
    place_is p body index c.saturating_sub.result c.after_instructions-left.result.now before left
    (c.saturating_sub.ensures ∙ ap (λ (bytes : List ℕ). length bytes - length c.after_instructions-left.result.now) c.as_slice-bytes.ensures) k
