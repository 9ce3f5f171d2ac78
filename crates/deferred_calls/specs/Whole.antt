-- Imports that a host could answer, and that a machine leaves to its embedder all the same: so it pauses before each of their calls,
-- and the embedder decides when the host answers. `whole` is the instance that the guest may take it for: the host answers them itself.
use Rattle.std.specs.Prelude.{ℕ, map, Option, Some, None}
use Rattle.wasm_syntax.specs.declared.module.FuncType.{FuncType}
use Rattle.wasm_store.specs.declared.call.HostCall.{HostCall}
use Rattle.wasm_store.specs.Instances.{Callee, imported, own, outside, Instance}

-- the embedder's function of this number, or the call that it was deferred from
abbrev pub answered_by : Option HostCall → FuncType → ℕ → Callee
answered_by None f k = outside f k
answered_by (Some call) f k = imported f call

-- which call of the host an embedder's function stands for, if it does
module _ (deferred : ℕ → Option HostCall) where
  abbrev pub whole_callee : Callee → Callee
  whole_callee (imported f call) = imported f call
  whole_callee (own f b) = own f b
  whole_callee (outside f k) = answered_by (deferred k) f k

  abbrev pub whole : Instance → Instance
  whole i = record i { callees = map whole_callee i.callees }
