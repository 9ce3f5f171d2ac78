use Rattle.std.proofs.Common.{◌≡◌, ◌∙◌, ℕ, List, replicate, vec_len}
use Rattle.std.proofs.lemmas.List.{get_or-replicate}
use Rattle.vol_sector.proofs.Records.{if_ok, unused_zeros, zeros_are}
use Rattle.vol_sector.proofs.memory.MemoryDevice.new.Goals as goal

pub returns : goal.returns
returns c =
    let zeros : List ℕ = replicate 512 0 in
    let current = c.in_ok-current.current in
    let items : current.items ≡ replicate c.args.sectors zeros = c.in_ok-current.ensures.items_if_clones_equal (λ y clone. zeros_are 512 y clone.long (λ i lt. clone.at i 0 0 lt ∙ get_or-replicate 512 i 0 0 lt)) in
    if_ok c.from_sectors.result _ _ (λ m is. unused_zeros m (vec_len current) c.args.sectors c.args.room current.items zeros c.in_ok-current.ensures.len items is) c.from_sectors.ensures
