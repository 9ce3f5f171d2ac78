use Rattle.std.proofs.Common.{◌≡◌, ◌∙◌, drop, sym, arith}
use Rattle.byteorder.specs.Endian.{little_number}
use Rattle.byteorder.specs.Numbers.{little_from-take}
use Rattle.vol_tree.proofs.superblock.read_superblock.Goals as goal
use Rattle.vol_tree.proofs.superblock.read_superblock.Goals.{in-1, in-2, in-4}

pub returns-else-has_ranges-clause-version : goal.returns-else-has_ranges-clause-version
returns-else-has_ranges-clause-version c =
    let bytes = c.args.image.now in
    let number : c.read_u32.result ≡ little_number 4 (drop 8 bytes) = c.read_u32.ensures ∙ little_from-take 0 4 504 (drop 8 bytes) (omega arith) in (
      λ is. absurd (cc),
      λ has. absurd (elim c.match-read_u32.branch [
        | in-1 w ↦ has.1.0 (sym number ∙ w.in-1.is)
        | in-2 w ↦ has.1.1 (sym number ∙ w.in-2.is)
        | in-4 w ↦ has.1.2 (sym number ∙ w.in-4.is)
      ]),
    )
