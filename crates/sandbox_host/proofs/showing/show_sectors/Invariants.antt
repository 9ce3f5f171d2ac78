use Rattle.std.proofs.Common.{◌≡◌, ◌++◌, take, drop}
use Rattle.sandbox_host.proofs.showing.show_sectors.Given as goal

-- the first sectors are written
abbrev pub invariant-loop-n : goal.invariant-loop-n
invariant-loop-n l = l.room ≡ take l.n l.device.sectors ++ drop l.n l.initial.room
