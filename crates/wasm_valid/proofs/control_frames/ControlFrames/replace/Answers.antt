use Rattle.std.proofs.Common.{◌-◌, ◌∷◌, length, drop, List, ap, ◌∙◌, arith}
use Rattle.std.proofs.lemmas.List.{length-reverse}
use Rattle.wasm_valid.specs.declared.control_frames.ControlFrame.{ControlFrame}
use Rattle.wasm_valid.proofs.Nested.{last_set}
use Rattle.wasm_valid.proofs.control_frames.ControlFrames.replace.Goals as goal

pub returns : goal.returns
returns c =
    let control_frames = c.self.inside.control_frames in
    last_set control_frames.items (c.len-place.result - 1) c.args.control_frame (omega (arith, control_frames.ok.0, c.requires, ap length c.self.view_is, length-reverse control_frames.items))
    ∙ ap (λ (l : List ControlFrame). c.args.control_frame ∷ drop 1 l) c.self.view_is
