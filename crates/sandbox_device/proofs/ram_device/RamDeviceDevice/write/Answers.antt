use Rattle.std.proofs.Common.{rules}
use Rattle.std.proofs.Common.{inr, ap, sym, subst, ◌∙◌, List, arith}
use Rattle.vol_sector.specs.Past.{LeavesPast}
use Rattle.vol_sector.specs.Record.{image_of}
use Rattle.vol_sector.specs.internal.PastLaws.{past_then, past_wrote}
use Rattle.sandbox_device.specs.Ram.{Sectors, held}
use Rattle.sandbox_device.proofs.Ram.{put_in, leaves_put}
use Rattle.sandbox_device.proofs.ram_device.RamDeviceDevice.write.Goals as goal

pub returns-clause-written : goal.returns-clause-written
returns-clause-written c = search rules

pub returns-clause-seen : goal.returns-clause-seen
returns-clause-seen c = search rules

pub returns-clause-goes_on : goal.returns-clause-goes_on
returns-clause-goes_on c end lt first from =
    let d = c.args.self.now in
    let n = c.args.n in
    let bytes = c.args.image.now in
    let new = c.put.new.self in
    let put_is = ap image_of c.put.ensures ∙ put_in d.sectors n bytes (omega (arith, c.requires)) in
    past_then end _ _ _ from (subst (λ (images : List Sectors). LeavesPast end (held d.sectors d.past.images) (held new images)) (sym c.next_past-self.ensures)
    (past_wrote end n bytes _ _ lt (inr put_is) (leaves_put new d.sectors d.past.images n bytes put_is)))
