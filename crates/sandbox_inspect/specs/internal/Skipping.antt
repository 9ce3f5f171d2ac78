-- What follows an instruction in a module's bytes, as the code finds it by its opcode alone. Of bytes that spell an instruction it is
-- what follows it (`proofs/Skipped.antt`).
use Rattle.std.specs.Prelude.{ℕ, zero, suc, ◌==◌, ◌||◌, ◌&&◌, nat_le, List, [], ◌∷◌, drop, if◌then◌else◌, Bool}
use Rattle.std.specs.Option.{option_map_or}
use Rattle.wasm_syntax.specs.Reading.{u32_at}
use Rattle.wasm_valid.specs.internal.Skipping.{after_number, after_numbers}

abbrev pub is_between : ℕ → ℕ → ℕ → Bool
is_between low high b = nat_le low b && nat_le b high

-- how many numbers and single bytes follow an opcode (section 5.4) that says so alone
abbrev pub numbers_behind : ℕ → ℕ
numbers_behind b =
    if is_between 0x02 0x04 b || is_between 0x0C 0x0D b || b == 0x10 || is_between 0x20 0x24 b || is_between 0x3F 0x42 b then 1
    else (if b == 0x11 || is_between 0x28 0x3E b then 2 else 0)

-- the labels of `br_table`: their number, they, and one more
abbrev pub after_labels : List ℕ → List ℕ
after_labels bytes = option_map_or (λ n. after_number (after_numbers n.0 n.1)) (u32_at bytes) bytes

-- the number of `memory.copy` is 10, of `memory.fill` 11; behind that of a saturating conversion nothing follows
abbrev pub after_bulk_number : ℕ → List ℕ → List ℕ
after_bulk_number n bytes = if n == 10 then after_numbers 2 bytes else (if n == 11 then after_number bytes else bytes)

abbrev pub after_bulk : List ℕ → List ℕ
after_bulk bytes = option_map_or (λ n. after_bulk_number n.0 n.1) (u32_at bytes) bytes

abbrev pub after_opcode : ℕ → List ℕ → List ℕ
after_opcode b bytes =
    if b == 0x0E then after_labels bytes else (
    if b == 0xFC then after_bulk bytes else (
    if b == 0x43 then drop 4 bytes else (
    if b == 0x44 then drop 8 bytes else
    after_numbers (numbers_behind b) bytes)))

abbrev pub after_instruction : List ℕ → List ℕ
after_instruction [] = []
after_instruction (b ∷ bytes) = after_opcode b bytes

-- what is left behind so many instructions
abbrev pub after_instructions : ℕ → List ℕ → List ℕ
after_instructions zero bytes = bytes
after_instructions (suc n) bytes = after_instructions n (after_instruction bytes)

-- of each group of locals a number and the byte of a type
abbrev pub after_locals : List ℕ → List ℕ
after_locals bytes = option_map_or (λ n. after_numbers n.0 (after_numbers n.0 n.1)) (u32_at bytes) bytes
