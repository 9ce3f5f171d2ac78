-- What the code says of the list of calls. Its `match` on a name gives the types and the call, so an entry here has no
-- name (`Typed`).
use Rattle.std.specs.Prelude.{ℕ, ◌&&◌, List, Option, Some, None, if◌then◌else◌, bytes_eq}
use Rattle.std.specs.List.{find}
use Rattle.std.specs.Option.{option_map}
use denote.Ref.{Bor}
use Rattle.wasm_syntax.specs.declared.module.FuncType.{FuncType}
use Rattle.wasm_store.specs.declared.call.HostCall.{HostCall}
use Rattle.wasi_calls.specs.host.Links.{Listed, are_types}

-- a call and its types, without its name
abbrev pub Typed : Type 0
Typed = List ℕ × List ℕ × HostCall

abbrev pub typed : Listed → Typed
typed c = (c.1, c.2, c.3)

-- the call of this name in a list
abbrev pub typed_in : List Listed → List ℕ → Option Typed
typed_in list name = option_map typed (find (λ (c : Listed). bytes_eq name c.0) list)

-- one that the code found
abbrev pub typed_as : Option (Bor (List ℕ) × Bor (List ℕ) × HostCall) → Option Typed
typed_as found = option_map (λ (c : Bor (List ℕ) × Bor (List ℕ) × HostCall). (c.0.now, c.1.now, c.2)) found

-- the call, where it has the type
abbrev pub of_type : FuncType → Typed → Option HostCall
of_type t c = if are_types c.0 t.params && are_types c.1 t.results then Some c.2 else None
