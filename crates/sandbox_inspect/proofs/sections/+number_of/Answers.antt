use Rattle.std.proofs.Common.{◌<◌, arith}
use Rattle.wasm_syntax.proofs.Powers.{seven}
use Rattle.sandbox_inspect.proofs.sections.+number_of.Goals as goal

pub returns-clause-within : goal.returns-clause-within
returns-clause-within t c =
    let wide : 7 < c.args.bits = omega arith in
    omega (arith, seven c.args.bits wide, c.in_ok-high.ensures.within, c.type_inv.bytes 0)
