-- Laws of a disk that counts each operation tried. They carry `counts_now` and `only_now` of the trait `Device` over
-- from the disk below to the counting one.
use Rattle.std.specs.Prelude.{◌≡◌, ◌≤◌, ◌-◌, ℕ, List, Bool, length, take, count_by}
use Rattle.std.proofs.Common.{ap, subst, arith}
use Rattle.vol_sector.specs.Disk.{Image, Disk}
use Rattle.vol_sector.specs.Counting.{passed_since, counting}

-- since this moment none passed
none_passed : (operations : List Bool) → passed_since operations (length operations) ≡ 0
none_passed operations = let none : length operations - length operations ≡ 0 = omega arith in
    ap (λ (k : ℕ). count_by (λ (passed : Bool). passed) (take k operations)) none

pub counting_now : (operations : List Bool) (below : Disk) → ((t : ℕ) (c : Image) → t ≤ below.operation_count → below.may_leave c → below.left_since t c) → (t : ℕ) (c : Image) → t ≤ length operations → below.may_leave c → (counting operations below).left_since t c
counting_now operations below now t c le may = now (below.operation_count - passed_since operations t) c (omega arith) may

pub only_counting : (operations : List Bool) (below : Disk) → ((c : Image) → below.left_since below.operation_count c → below.may_leave c) → (c : Image) → (counting operations below).left_since (length operations) c → below.may_leave c
only_counting operations below only c left =
    let now : below.operation_count - passed_since operations (length operations) ≡ below.operation_count = omega (arith, none_passed operations) in
    only c (subst (λ (t : ℕ). below.left_since t c) now left)
