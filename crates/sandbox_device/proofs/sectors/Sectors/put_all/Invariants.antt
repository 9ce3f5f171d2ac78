use Rattle.std.proofs.Common.{◌≡◌, ◌+◌, ◌++◌, drop, take}
use Rattle.sandbox_device.proofs.sectors.Sectors.put_all.Given as goal

-- the first of them are put
abbrev pub invariant-loop-image : goal.invariant-loop-image
invariant-loop-image l = record {
  at : l.n ≡ l.first + l.image-index;
  so_far : l.self ≡ take l.first l.initial.self ++ take l.image-index l.images ++ drop (l.first + l.image-index) l.initial.self;
}
