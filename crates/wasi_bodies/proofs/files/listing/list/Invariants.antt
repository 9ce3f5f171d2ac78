use Rattle.std.proofs.Common.{◌-◌, length}
use Rattle.wasi_bodies.specs.internal.files.Listing.{Lists}
use Rattle.wasi_bodies.proofs.files.listing.list.Given as goal

abbrev pub invariant-loop-filled : goal.invariant-loop-filled
invariant-loop-filled g l =
    Lists g.D.Device.honest g.D.Device.disk g.D.Device.size g.D.Device.failures g.D.Device.goes_on l.initial.volume l.volume l.directory l.cookie l.after l.filled l.initial.part l.part

abbrev pub decreases-loop-filled : goal.decreases-loop-filled
decreases-loop-filled g l = length l.initial.part - l.filled
