-- The calls on a stream, in one record.
use Rattle.std.specs.Prelude.{ℕ, List}
use Rattle.wasi_bodies.specs.host.Worlds.{StreamCalls}

abbrev pub calls_of : {S : Type 0} → (S → List ℕ → S → Type 0) → (S → S → Type 0) → StreamCalls S
calls_of moved refused = record { moved = moved; refused = refused }
