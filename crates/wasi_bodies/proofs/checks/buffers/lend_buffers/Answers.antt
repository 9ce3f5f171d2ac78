use Rattle.std.proofs.Common.{◌≡◌, length, true, refl}
use Rattle.std.specs.List.{list_all}
use Rattle.wasi_bodies.specs.Checks.{is_inside}
use Rattle.wasi_bodies.specs.internal.checks.Buffers.{list_of}
use Rattle.wasi_bodies.proofs.checks.BufferArrays.{first_inside, first_gathered}
use Rattle.wasi_bodies.proofs.checks.buffers.lend_buffers.Goals as goal

pub returns : goal.returns
returns c =
    let m = c.args.memory.now in
    let first = c.first_part.result.now in
    let bs = c.args.buffers.now in
    let lent = c.first_part.ensures in
    let inside : list_all (is_inside first) (list_of bs) ≡ true = first_inside m first c.highest_end.result bs c.highest_end.ensures lent.long c.requires in (
      (refl, (λ _. tt), c.first_part.follows.holds-at-none),
      record { same = tt; inside = inside; bytes = first_gathered (length m) m first bs lent.value inside },
    )
