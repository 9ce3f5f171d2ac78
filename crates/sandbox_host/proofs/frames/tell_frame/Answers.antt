use Rattle.std.proofs.Common.{◌≡◌, ◌∙◌, ℕ, IfSome, length, ap, subst, arith}
use Rattle.std.specs.Prelude.{slice_get}
use Rattle.wasm_syntax.specs.declared.module.Module.{Module}
use Rattle.sandbox_host.specs.Frames.{IsOffset}
use Rattle.sandbox_host.proofs.frames.tell_frame.Goals as goal

pub returns-clause-told : goal.returns-clause-told
returns-clause-told c =
    let m = c.args.module.now in
    let imported : length c.as_slice-imported.result.now ≡ length m.imports = ap length (c.as_slice-imported.ensures ∙ ap (λ (m : Module). m.imports) c.«module».ensures.value) in
    record {
      function = omega (arith, imported, c.saturating_add-index.ensures, c.in_four_bytes.ensures);
      offset = λ p spells.
          subst (λ (at : ℕ). IfSome (slice_get m.bodies c.args.frame.own) (IsOffset c.args.bytes.now c.args.frame.own at c.offset_of.result)) c.instruction_of-instruction.ensures
          (c.offset_of.ensures.told p spells);
    }
