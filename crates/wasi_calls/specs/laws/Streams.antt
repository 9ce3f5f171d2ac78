-- Streams over whole runs. A reader or a writer that refuses is marked as failed, and isn't asked again, whatever the guest does.
use Rattle.std.specs.Prelude.{List}
use Rattle.wasm_store.specs.declared.call.HostCall.{HostCall}
use Rattle.wasm_store.specs.declared.call.Errno.{Errno}
use Rattle.wasm_steps.specs.Configuration.{Instance, Configuration}
use Rattle.wasm_steps.specs.Steps.{CallsOf, Reach}
use Rattle.wasi_bodies.specs.host.Worlds.{Hearing, HearsStreams, HostState}

-- In a run from one host to another each stream that had failed stays as it is. Of another one all calls went well, or the last was
-- refused, and then it is marked as failed.
abbrev pub RunsHear : {D R W1 W2 : Type 0} → Hearing R W1 W2 → CallsOf (HostState D R W1 W2) → Type 0
RunsHear {D} {R} {W1} {W2} ear HostCalls = (i : Instance) (h h' : HostState D R W1 W2) (c c' : Configuration) (answers : List (HostCall × Errno))
    → Reach (HostState D R W1 W2) HostCalls i h c answers h' c' → HearsStreams ear h h'
