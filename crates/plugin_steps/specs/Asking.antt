-- Where the embedder is asked: the call of one of its functions comes next. It is stopped before that instruction, and what it writes
-- there and answers is what `Does` says of it (`Embedding`): the call reads no memory.
use Rattle.std.specs.Prelude.{◌≡◌, ℕ, List, ◌∷◌, slice_get, Some}
use Rattle.wasm_syntax.specs.declared.instruction.ValueType.TheVariants.{I32}
use Rattle.wasm_syntax.specs.declared.instruction.Instruction.TheVariants as op
use Rattle.wasm_syntax.specs.Nested.{Instructions, plain, invoke}
use Rattle.wasm_steps.specs.Configuration.{Val, val, Callee, signature_of, Instance, Store, Code, code, label, frame}

-- with this table, the next instruction calls function x, by its index or by the table, and then x is entered
pub data Asks (i : Instance) (x : ℕ) (s : Store) : Code → Code → Type 0 where
  by_call : {vs : List Val} {rest : Instructions} → Asks i x s (code vs (plain (op.Call x) rest)) (code vs (invoke x rest))
  by_table : {vs : List Val} {y e : ℕ} {c : Callee} {rest : Instructions} → slice_get s.table e ≡ Some (Some x) → slice_get i.callees x ≡ Some c → slice_get i.func_types y ≡ Some (signature_of c)
      → Asks i x s (code (val I32 e ∷ vs) (plain (op.CallIndirect y) rest)) (code vs (invoke x rest))
  in_label : {m : ℕ} {vs : List Val} {k rest : Instructions} {c c' : Code} → Asks i x s c c' → Asks i x s (label vs m k c rest) (label vs m k c' rest)
  in_frame : {m : ℕ} {g vs : List Val} {rest : Instructions} {c c' : Code} → Asks i x s c c' → Asks i x s (frame vs m g c rest) (frame vs m g c' rest)
