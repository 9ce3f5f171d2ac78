use Rattle.std.proofs.Common.{◌≡◌, take}
use Rattle.wasi_bodies.specs.Checks.{total}
use Rattle.wasi_bodies.specs.internal.checks.Buffers.{list_of}
use Rattle.wasi_bodies.proofs.streams.inputs.first_with_room.Given as goal

-- no buffer so far has room
abbrev pub invariant-loop-index : goal.invariant-loop-index
invariant-loop-index l = total (list_of (take l.index l.buffers)) ≡ 0
