use Rattle.std.proofs.Common.{◌≡◌, ◌≤◌, length, ap, eqb, ◌∙◌, arith}
use Rattle.wasm_valid.specs.internal.Stack.{is_nil}
use Rattle.wasm_valid.proofs.Kept.{bare_is}
use Rattle.wasm_valid.proofs.operands.OperandStack.is_bare.Goals as goal

pub returns : goal.returns
returns c =
    let types = c.self.inside.types in
    let height = c.self.inside.height in
    let long : c.len.result ≡ length types.items = omega (arith, types.ok.0) in
    let within : height ≤ length types.items = omega (arith, types.ok.0, c.self.invariant) in
    ap (λ n. eqb n height) long ∙ bare_is types.items height within ∙ ap (λ o. is_nil o.stack.known) c.self.view_is
