-- When nothing has failed: neither the volume nor a stream. A failure stays, so this can be asked of a run at its end.
use Rattle.std.specs.Prelude.{◌≡◌, ℕ, Bool, false, ◌||◌, List}
use Rattle.wasm_store.specs.declared.call.HostCall.{HostCall}
use Rattle.wasm_store.specs.declared.call.Answer.{Answer}
use Rattle.wasm_steps.specs.Steps.{CallsOf}
use Rattle.wasi_bodies.specs.World.{World}

-- the volume has failed, or a read or a write of a stream
abbrev pub has_failed : World → Bool
has_failed w = w.volume_failed || ((w.input_failed || w.output_failed) || w.errors_failed)

-- What has failed before a call has failed after it.
abbrev pub FailuresStay : (H : Type 0) → CallsOf H → (H → Bool) → Type 0
FailuresStay H Calls failed = (h h' : H) (memory memory' : List ℕ) (used : ℕ) (call : HostCall) (args : List ℕ)
    (answer : Answer)
    → Calls h memory used call args h' memory' answer → failed h' ≡ false → failed h ≡ false
