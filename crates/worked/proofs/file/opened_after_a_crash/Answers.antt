use Rattle.std.proofs.Common.{subst}
use Rattle.vol_sector.specs.Record.{LeftBy}
use Rattle.vol_sector.specs.Crash.{crashed_image}
use Rattle.vol_sector.specs.Memory.{initial_image, record_of, room_of, sector_count, IsUnused}
use Rattle.vol_sector.specs.declared.memory.MemoryDevice.{MemoryDevice}
use Rattle.worked.proofs.Crashing.{crashed_stands}
use Rattle.worked.proofs.file.opened_after_a_crash.Goals as goal

pub returns : goal.returns
returns c = λ lasts.
    let picks = c.args.picks.now in
    let is_device = c.into_device-device.ensures in
    let may = subst (λ (m : MemoryDevice). LeftBy (initial_image m) (record_of m) (crashed_image (initial_image m) (record_of m) picks)) is_device (c.crash_leaves_what_is_picked.ensures picks) in
    let unused = subst (λ (m : MemoryDevice). IsUnused c.in_ok-left.left (sector_count m) (room_of m) (crashed_image (initial_image m) (record_of m) picks)) is_device c.in_ok-left.ensures in
    let m = c.args.volume.device in
    c.open.ensures.finds c.args.volume.numbers c.args.volume.tree tt
    (crashed_stands c.the_volumes_sectors_decide.ensures m c.in_ok-left.left picks c.args.volume.numbers c.args.volume.tree unused (lasts (crashed_image (initial_image m) (record_of m) picks) may))
