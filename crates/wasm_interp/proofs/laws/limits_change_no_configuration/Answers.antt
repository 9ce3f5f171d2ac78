use Rattle.wasm_interp.proofs.Limiting.{limited_represents}
use Rattle.wasm_interp.proofs.laws.limits_change_no_configuration.Goals as goal

pub returns : goal.returns
returns c = λ most s i d stands. limited_represents most s i d stands
