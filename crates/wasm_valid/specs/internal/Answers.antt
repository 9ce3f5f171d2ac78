-- What an answer to a question of validation says: Ok that it holds, `Invalid` that it doesn't. Refused memory says
-- nothing, so a function may stop there, whatever the question is.
use Rattle.std.specs.Prelude.{Result, MatchResult}
use Rattle.wasm_syntax.specs.declared.fault.LoadFault.{LoadFault}
use Rattle.wasm_syntax.specs.declared.fault.LoadFault.TheVariants.{Memory, Invalid}

-- a refusal of what was to hold: where memory was refused nothing is said of it, and fault 12 says that it doesn't hold
abbrev pub Refutes : LoadFault → Type 0 → Type 0
Refutes Memory P = Unit {0}
Refutes (Invalid function offset) P = P → ⊥
Refutes e P = ⊥

-- the answer to the question whether this holds
abbrev pub Decides : {T : Type 0} → Result T LoadFault → Type 0 → Type 0
Decides r P = MatchResult r (λ _. P) (λ e. Refutes e P)
