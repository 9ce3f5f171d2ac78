use Rattle.std.proofs.Common.{◌<◌, [], length, arith}
use Rattle.sandbox_host.proofs.WrittenItems.{written_more}
use Rattle.sandbox_host.proofs.showing.show_sectors.Goals as goal

pub loop-n-preserved : goal.loop-n-preserved
loop-n-preserved c =
    let there : c.loop-n.n < length c.args.device.now.sectors = omega (arith, c.loop-n-test.true, c.min-count.ensures, c.sectors.ensures) in
    let place : c.loop-n.n < length c.args.room.now = omega (arith, c.loop-n-test.true, c.min-count.ensures) in
    written_more c.args.device.now.sectors c.args.room.now c.loop-n.room c.loop-n.n [] c.sector.result there place c.loop-n.invariant c.sector.ensures
