use Rattle.std.proofs.Common.{◌≡◌}
use Rattle.wasm_steps.specs.Configuration.{Instance, Configuration, store_of}
use Rattle.wasm_interp.specs.Machine.{Snapshot, Represents}
use Rattle.wasm_interp.proofs.PlainSteps.Invoking.{globals_represented}
use Rattle.wasm_interp.proofs.meaning.own_meaning_tells_stores.Goals as goal

memory_shown : (s : Snapshot) (i : Instance) (c : Configuration) → Represents s i c → (store_of c).memory ≡ s.memory
unfolding Represents
memory_shown s i c r = r.0.memory

pub returns : goal.returns
returns c = λ s i d r. (memory_shown s i d r, globals_represented s i d r)
