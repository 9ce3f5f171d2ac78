-- What a call on a path needs of memory as it is shown.
use Rattle.std.specs.Prelude.{ℕ, ◌+◌, ◌≤◌, length}
use Rattle.wasm_store.specs.Bytes.{ShownMemory}

-- this many bytes from an address can be lent, where they are in memory
abbrev pub CanLend : ShownMemory → ℕ → ℕ → Type 0
CanLend memory address len = address + len ≤ length memory.bytes → address + len ≤ memory.lent
