use Rattle.std.proofs.Common.{arith}
use Rattle.std.proofs.lemmas.Grind.{common_steps}
use Rattle.vol_commands.proofs.PastVolumes.{past_made}
use Rattle.vol_commands.proofs.Going.{opening_goes}
use Rattle.vol_commands.proofs.FreshVolume.{fresh_opened, fresh_refused, has_room}
use Rattle.vol_commands.proofs.opening.open_fresh.Goals as goal

pub returns-in-Ok-clause-opens : goal.returns-in-Ok-clause-opens
returns-in-Ok-clause-opens g c =
    let made = c.in-Ok.ensures in
    let opened = c.open.ensures in
    fresh_opened g.D.Device.honest g.D.Device.disk g.D.Device.size g.D.Device.failures c.args.device c.in-Ok.device made.kept.honest made.kept.size made.kept.failures (has_room _ _ _ made.too_small.0) made.empty made.crash
    c.open.result opened.opens opened.crash opened.kept

pub returns-in-Ok-clause-refused : goal.returns-in-Ok-clause-refused
returns-in-Ok-clause-refused g c =
    let made = c.in-Ok.ensures in
    let opened = c.open.ensures in
    fresh_refused g.D.Device.honest g.D.Device.disk g.D.Device.size g.D.Device.failures c.args.device c.in-Ok.device made.kept.honest made.kept.size made.kept.failures (has_room _ _ _ made.too_small.0) made.empty made.crash
    c.open.result opened.why opened.crash opened.kept

pub returns-in-Err-clause-refused : goal.returns-in-Err-clause-refused
returns-in-Err-clause-refused c = grind (arith, common_steps)

-- ---- the sectors past the volume

pub returns-in-Ok-clause-goes_on : goal.returns-in-Ok-clause-goes_on
returns-in-Ok-clause-goes_on g c end past first from =
    let made = c.in-Ok.ensures in
    let opened = c.open.ensures in
    let here = past_made _ _ _ _ _ 202 16 end made.kept.size made.kept.honest.0 made.empty past in
    opening_goes g.D.Device.honest g.D.Device.disk g.D.Device.size g.D.Device.goes_on c.in-Ok.device c.open.result end here opened.opens opened.goes_on_ok (opened.goes_on_err end here) first (made.goes_on end past.0 first from)

pub returns-in-Err-clause-goes_on : goal.returns-in-Err-clause-goes_on
returns-in-Err-clause-goes_on g c end past first from = c.in-Err.ensures.goes_on end past.0 first from
