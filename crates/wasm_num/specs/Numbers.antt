-- Operators on whole numbers from 0 below 2 ^ n (section 4.3.2), where n is the width in bits. Functions on `u32` and
-- `u64` promise them with 32 and 64 for n; `signed` and `wrapped` lead to signed numbers and back, `bool_number` from a
-- test to a number.
use Rattle.std.specs.Prelude.{◌≡◌, ℕ, zero, suc, ◌+◌, ◌-◌, ◌*◌, ◌/◌, ◌%◌, ◌^◌, Bool, true, false, if◌then◌else◌, nat_lt, nat_eq, ◌&&◌, Result, Ok, Err, ℤ, pos, negsuc, ◌-ℤ◌, int_div, int_rem}
use Rattle.wasm_num.specs.declared.trap.Trap.{Trap}
use Rattle.wasm_num.specs.declared.trap.Trap.TheVariants.{DivideByZero, IntegerOverflow}

-- the number read as signed: those from 2 ^ (n - 1) up are less by 2 ^ n
abbrev pub signed : ℕ → ℕ → ℤ
signed n x = if nat_lt x (2 ^ (n - 1)) then pos x else pos x -ℤ pos (2 ^ n)

-- a whole number modulo 2 ^ n
abbrev pub wrapped : ℕ → ℤ → ℕ
wrapped n (pos x) = x % 2 ^ n
wrapped n (negsuc x) = 2 ^ n - 1 - x % 2 ^ n

-- what a test gives
abbrev pub bool_number : Bool → ℕ
bool_number true = 1
bool_number false = 0

-- the greatest k up to n with x below 2 ^ (n - k)
unfoldable pub clz : ℕ → ℕ → ℕ
clz zero x = 0
clz (suc n) x = if nat_lt x (2 ^ n) then suc (clz n x) else 0

-- how often 2 divides x, at most n times
unfoldable pub ctz : ℕ → ℕ → ℕ
ctz zero x = 0
ctz (suc n) x = if nat_eq (x % 2) 0 then suc (ctz n (x / 2)) else 0

-- the low bits of x, read as signed
abbrev pub extended : ℕ → ℕ → ℕ → ℕ
extended low n x = wrapped n (signed low (x % 2 ^ low))

-- division goes towards zero; the least number by -1 has no quotient
abbrev pub signed_quotient : ℕ → ℕ → ℕ → Result ℕ Trap
signed_quotient n x y =
    if nat_eq y 0 then Err DivideByZero else
    if nat_eq x (2 ^ (n - 1)) && nat_eq y (2 ^ n - 1) then Err IntegerOverflow else
    Ok (wrapped n (int_div (signed n x) (signed n y)))

abbrev pub quotient : ℕ → ℕ → Result ℕ Trap
quotient x y = if nat_eq y 0 then Err DivideByZero else Ok (x / y)

-- the remainder has the sign of the first
abbrev pub signed_remainder : ℕ → ℕ → ℕ → Result ℕ Trap
signed_remainder n x y = if nat_eq y 0 then Err DivideByZero else Ok (wrapped n (int_rem (signed n x) (signed n y)))

abbrev pub remainder : ℕ → ℕ → Result ℕ Trap
remainder x y = if nat_eq y 0 then Err DivideByZero else Ok (x % y)

-- counts of shifts and rotations are taken modulo the width
abbrev pub shifted_left : ℕ → ℕ → ℕ → ℕ
shifted_left n x y = (x * 2 ^ (y % n)) % 2 ^ n

abbrev pub shifted_right : ℕ → ℕ → ℕ → ℕ
shifted_right n x y = x / 2 ^ (y % n)

-- the sign is repeated
abbrev pub shifted_right_signed : ℕ → ℕ → ℕ → ℕ
shifted_right_signed n x y =
    if nat_lt x (2 ^ (n - 1)) then x / 2 ^ (y % n) else 2 ^ n - 1 - (2 ^ n - 1 - x) / 2 ^ (y % n)

abbrev pub rotated_by : ℕ → ℕ → ℕ → ℕ
rotated_by n x k = (x * 2 ^ k) % 2 ^ n + x / 2 ^ (n - k)

abbrev pub rotated_left : ℕ → ℕ → ℕ → ℕ
rotated_left n x y = rotated_by n x (y % n)

abbrev pub rotated_right : ℕ → ℕ → ℕ → ℕ
rotated_right n x y = rotated_by n x ((n - y % n) % n)
