use Rattle.std.proofs.Common.{◌∷◌, ◌∙◌, ◌-◌, ◌+◌, List, ℕ, ◌/◌, ◌%◌, ap, arith, length, replicate}
use borrow.Rule.Slice.PartMut.{put_mid}
use Rattle.vol_dirs.proofs.Spelled.{name_written}
use Rattle.vol_dirs.proofs.keys.key_of.Goals as goal

pub returns : goal.returns
returns c =
    let p = c.args.parent in
    let k = 4 + length c.args.name.now - 4 in
    ap (λ (l : List ℕ). put_mid 4 k l c.copy_from_slice.new.self) c.write_u32.ensures
    ∙ ap (λ (l : List ℕ). put_mid 4 k (p / 16777216 % 256 ∷ p / 65536 % 256 ∷ p / 256 % 256 ∷ p % 256 ∷ replicate 255 0) l) c.copy_from_slice.ensures.after
    ∙ name_written (p / 16777216 % 256) (p / 65536 % 256) (p / 256 % 256) (p % 256) k c.args.name.now (omega arith)
