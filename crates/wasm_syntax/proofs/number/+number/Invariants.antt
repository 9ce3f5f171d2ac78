use Rattle.wasm_syntax.proofs.number.+number.Given as goal

abbrev pub decreases-number : goal.decreases-number
decreases-number l = l.bits
