-- Memory that is shown to a call on a path.
use Rattle.std.proofs.Common.{◌≡◌, ℕ, ◌+◌, ◌≤◌, List, length, min, ap, ◌∙◌, arith}
use Rattle.wasm_store.specs.Bytes.{ShownMemory, filled}
use Rattle.wasi_paths.specs.internal.paths.Showing.{CanLend}

-- what is shown is memory
pub shown_is : (m first bytes : List ℕ) (size : ℕ) → bytes ≡ filled size first → size ≡ length m → filled (length m) first ≡ m → bytes ≡ m
shown_is m first bytes size shown long is = shown ∙ ap (λ (n : ℕ). filled n first) long ∙ is

-- what was touched can be lent
pub can_lend : (m first : List ℕ) (shown : ShownMemory) (end address len : ℕ) → shown.bytes ≡ m → shown.lent ≡ length first
    → min end (length m) ≤ length first → address + len ≤ end → CanLend shown address len
can_lend m first shown end address len is lent long before inside =
    let same : length shown.bytes ≡ length m = ap length is in omega (arith, same, lent, long, before, inside)
