use Rattle.wasm_interp.specs.Machine.{Represents}
use Rattle.wasm_interp.proofs.laws.machines_show_their_stores.Goals as goal

pub returns : goal.returns
unfolding Represents
returns c = λ s i d stands. stands.0
