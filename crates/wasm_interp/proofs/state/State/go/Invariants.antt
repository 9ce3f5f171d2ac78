use Rattle.wasm_interp.specs.internal.Running.{work_left, Running}
use Rattle.wasm_interp.proofs.state.State.go.Given as goal

abbrev pub invariant-running : goal.invariant-running
invariant-running g l = Running _ l.guest l.end l.fn.units l.fn.host l.host l.fn.self l.self

abbrev pub decreases-running : goal.decreases-running
decreases-running g l = work_left l.end l.self
