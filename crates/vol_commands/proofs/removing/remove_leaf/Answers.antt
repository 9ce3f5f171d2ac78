use Rattle.vol_tar.proofs.Moments.{quiet_or}
use Rattle.vol_log.proofs.Moments.{leaves_any}
use Rattle.vol_tree.proofs.GoingOn.{goes_then}
use Rattle.vol_commands.proofs.removing.remove_leaf.Goals as goal

pub returns-in_err-rmdir-in-Directory-clause-crash : goal.returns-in_err-rmdir-in-Directory-clause-crash
returns-in_err-rmdir-in-Directory-clause-crash g c h =
    let v = c.args.volume.now in
    let asked = c.in_ok-stat.ensures in
    let mid = c.stat.new.self in
    let disk = g.D.Device.disk in
    quiet_or (disk v.device) (disk mid.device) (disk c.rmdir.new.self.device) v.numbers mid.numbers v.tree mid.tree asked.kept.numbers (asked.answer h).1 (asked.crash h) (c.in_err-rmdir-in-Directory.ensures.crash (asked.kept.honest.0 h))

pub returns-in_err-unlink-in-File-clause-crash : goal.returns-in_err-unlink-in-File-clause-crash
returns-in_err-unlink-in-File-clause-crash g c h =
    let v = c.args.volume.now in
    let asked = c.in_ok-stat.ensures in
    let mid = c.stat.new.self in
    let disk = g.D.Device.disk in
    quiet_or (disk v.device) (disk mid.device) (disk c.unlink.new.self.device) v.numbers mid.numbers v.tree mid.tree asked.kept.numbers (asked.answer h).1 (asked.crash h) (c.in_err-unlink-in-File.ensures.crash (asked.kept.honest.0 h))

pub returns-in_err-stat-clause-crash : goal.returns-in_err-stat-clause-crash
returns-in_err-stat-clause-crash g c h = leaves_any (g.D.Device.disk c.args.volume.now.device) (g.D.Device.disk c.stat.new.self.device) _ (c.in_err-stat.ensures.crash h)

pub returns-in_err-rmdir-in-Directory-clause-goes_on : goal.returns-in_err-rmdir-in-Directory-clause-goes_on
returns-in_err-rmdir-in-Directory-clause-goes_on g c = goes_then g.D.Device.goes_on c.args.volume.now c.stat.new.self c.rmdir.new.self c.in_ok-stat.ensures.kept.numbers c.in_ok-stat.ensures.goes_on c.in_err-rmdir-in-Directory.ensures.goes_on

pub returns-in_err-unlink-in-File-clause-goes_on : goal.returns-in_err-unlink-in-File-clause-goes_on
returns-in_err-unlink-in-File-clause-goes_on g c = goes_then g.D.Device.goes_on c.args.volume.now c.stat.new.self c.unlink.new.self c.in_ok-stat.ensures.kept.numbers c.in_ok-stat.ensures.goes_on c.in_err-unlink-in-File.ensures.goes_on
