-- What memory (section 4.2.8) ends as, where a part of it is lent. `part_mut` and `slice_mut` cite it: their caller writes after
-- they have returned, so they promise what memory is once the loan ends.
use Rattle.std.specs.Prelude.{◌≡◌, ◌≤◌, ◌+◌, ⊤, ℕ, List, [], length, Option, Some, None}
use Rattle.std.specs.Borrow.{Lends, LendsIf, follows_so, Fml, MutBor, Array, u8}
use mathlib.Core.Option.{none}
use Rattle.std.specs.List.{refill}
use Rattle.wasm_store.specs.contracts.memory.Memory.{the_row}
use Rattle.wasm_store.specs.Bytes.{bytes_at, written}

-- the bytes of memory from an address on, as many as asked or more
abbrev pub IsPart : List ℕ → ℕ → ℕ → List ℕ → Type 0
IsPart memory a asked part = (asked ≤ length part) × ((a + length part ≤ length memory) × (part ≡ bytes_at memory a (length part)))

-- memory with these bytes in the place of a part from an address on, which is as long as before
abbrev pub rewritten : List ℕ → ℕ → List ℕ → List ℕ → List ℕ
rewritten memory a part bs = written memory a (refill (length part) part bs)

-- memory ends with the last bytes of the part
abbrev pub LendsPart : MutBor (List ℕ) → ℕ → MutBor (List ℕ) → Fml
LendsPart memory address part = Lends the_row (Array u8 0) memory part (rewritten memory.now address part.now)

-- the bytes of a part that is lent, if one is
abbrev pub lent_bytes : Option (MutBor (List ℕ)) → List ℕ
lent_bytes (Some part) = part.now
lent_bytes None = []

-- the same where a part is lent; else memory stays
abbrev pub LendsPartIf : MutBor (List ℕ) → ℕ → Option (MutBor (List ℕ)) → Fml
LendsPartIf memory address part = LendsIf the_row (Array u8 0) memory part (rewritten memory.now address (lent_bytes part)) memory.now

-- memory stays, once what was lent to be read is gone
abbrev pub Stays : MutBor (List ℕ) → Fml
Stays memory = follows_so the_row the_row memory.ghost_name none (λ _ _. ⊤) (λ last. last ≡ memory.now)
