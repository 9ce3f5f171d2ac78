use Rattle.std.proofs.Common.{◌≡◌, ◌-◌, ◌<◌, length, ap, ◌∙◌, arith, get_or, map, subst, List, Some}
use Rattle.std.specs.List.{slice_get}
use Rattle.wasm_valid.specs.declared.control_frames.ControlFrame.{ControlFrame}
use Rattle.wasm_valid.specs.Arities.{results_of}
use Rattle.wasm_valid.specs.internal.Blocks.{label_of}
use Rattle.wasm_valid.proofs.Kept.{label_at}
use Rattle.wasm_valid.proofs.control_frames.ControlFrames.label.Goals as goal

pub returns : goal.returns
returns c =
    let items = c.self.inside.control_frames.items in
    let long : c.len.result ≡ length items = omega (arith, c.self.inside.control_frames.ok.0) in
    let f = c.in_ok-control_frame.control_frame.now in
    let place = c.in_ok-checked_sub.field-0 in
    let first = c.in_ok-place.ensures in
    let second = c.in_ok-checked_sub.ensures in
    let below : c.args.index < length items = omega arith in
    let is : place ≡ length items - 1 - c.args.index = omega arith in
    let here : f ≡ get_or items place f = c.in_ok-control_frame.ensures.lookup.1 ∙ ap (λ l. get_or l place f) c.deref.ensures.value in
    let made = label_at items c.args.index place f c.label_of.result below is here c.label_of.ensures in
    subst (λ (l : List ControlFrame). Some (results_of c.label_of.result) ≡ slice_get (map (λ g. label_of g.kind g.block_type) l) c.args.index) c.self.view_is made
