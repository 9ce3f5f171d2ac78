-- The serials that names are held with.
use Rattle.std.proofs.Common.{◌≡◌, ℕ, List, Option, Some, None, MatchOption, arith}
use Rattle.std.specs.Option.{IfSome}
use Rattle.vol_dirs.specs.declared.dirs.Dirs.{Dirs}
use Rattle.vol_dirs.specs.Key.{key_of}
use Rattle.vol_dirs.specs.Names.{slots_of, Names, NoChildOver, IsNextChild}
use Rattle.vol_tree.specs.declared.superblock.Superblock.{Superblock}
use Rattle.vol_tree.specs.Opened.{IsSerial}

held_serial : (dirs : Dirs) (v : Superblock) (p : ℕ) (n : List ℕ) (s : ℕ) → slots_of dirs ≡ v.slots → Names dirs p n s → IsSerial v s
held_serial dirs v p n s slots names =
    let numbered = dirs.listing.numbered (key_of p n) s names.held in
    record { first = numbered.0; last = omega (arith, numbered.1, slots) }

pub child_serial : (dirs : Dirs) (v : Superblock) (p after : ℕ) (o : Option ℕ) → slots_of dirs ≡ v.slots → MatchOption o (NoChildOver dirs p after) (λ s. IsNextChild dirs p after s) → IfSome o (IsSerial v)
child_serial dirs v p after None slots h = tt
child_serial dirs v p after (Some s) slots h = held_serial dirs v p h.child.0 s slots h.child.1
