-- `numbers` lists the sectors of a batch in the order in which they stand there. The header and the index are about
-- numbers and not about images, so their private contracts see a batch through this list.
use Rattle.std.specs.Prelude.{ℕ, List, map}
use Rattle.vol_log.specs.declared.staged.Staged.{Staged}

abbrev pub numbers : List Staged → List ℕ
numbers batch = map (λ s. s.sector) batch
