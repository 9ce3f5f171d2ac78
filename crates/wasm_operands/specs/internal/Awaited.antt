-- Functions that are entered from outside.
use Rattle.std.specs.Prelude.{ℕ, [], ◌∷◌, None}
pub use Rattle.wasm_operands.specs.Snapshots.{Awaited}

-- and this one before them
abbrev pub and_before : ℕ → Awaited → Awaited
and_before x e = record { functions = x ∷ e.functions; invoked = e.invoked }

-- nothing is left to be entered, and nothing was invoked
abbrev pub nothing_awaited : Awaited
nothing_awaited = record { functions = []; invoked = None }
