use Rattle.std.proofs.Common.{[], refl, ◌∙◌, arith}
use Rattle.vol_tree.proofs.GoingOn.{goes_then}
use Rattle.sandbox_core.specs.Devices.{Calls, devices, disk_of, numbers_of, tree_of}
use Rattle.sandbox_core.proofs.Following.{followed_on, followed_to_end, none_tallied}
use Rattle.sandbox_core.proofs.Reaching.{safe_so_far, safe_on, ran_out, ran_to_end}
use Rattle.sandbox_core.proofs.report.run_out.Goals as goal

-- nothing has run yet
pub running-init : goal.running-init
running-init g c =
    let on = devices g.D.Device g.R.Read g.W1.Write g.W2.Write g.R.Inlet.gave g.R.Inlet.refused g.W1.Outlet.took g.W1.Outlet.refused g.W2.Outlet.took g.W2.Outlet.refused in
    record {
      within = c.requires;
      same = refl;
      going = λ running. running;
      size = refl;
      goes = λ end le first from. from;
      followed = ([], refl, none_tallied _ c.none-tally.ensures);
      so_far = safe_so_far _ (Calls on)
          (disk_of on) numbers_of tree_of
          (λ h. g.D.Device.honest h.volume.device) c.args.session.now.host c.args.session.now.machine;
    }

-- one answered call more
pub running-preserved : goal.running-preserved
running-preserved g c =
    let on = devices g.D.Device g.R.Read g.W1.Write g.W2.Write g.R.Inlet.gave g.R.Inlet.refused g.W1.Outlet.took g.W1.Outlet.refused g.W2.Outlet.took g.W2.Outlet.refused in
    let first = c.args.session.now in
    let old = c.running.session in
    let new = c.resume.new.self in
    record {
      within = let rise = c.in-Called.ensures.run.units_rise in omega (arith, rise, c.used.ensures, c.running.invariant.within);
      same = c.in-Called.ensures.run.module_is ∙ c.running.invariant.same;
      going = λ running. c.in-Called.ensures.run.end_is;
      size = c.in-Called.ensures.size ∙ c.running.invariant.size;
      goes = goes_then g.D.Device.goes_on first.host.volume old.host.volume new.host.volume c.running.invariant.so_far.numbered c.running.invariant.goes c.in-Called.ensures.goes;
      followed = followed_on on first old new _ _ _ _ c.running.invariant.followed c.in-Called.ensures c.add.ensures;
      so_far = safe_on _ (Calls on)
          (disk_of on) numbers_of tree_of
          (λ h. g.D.Device.honest h.volume.device) first.host old.host new.host
          first.machine old.machine new.machine _ _ c.running.invariant.so_far c.in-Called.ensures.run c.in-Called.ensures.numbers c.in-Called.ensures.honest_after c.in-Called.ensures.crash;
    }

-- the fuel was used
pub returns-in-Spent-clause-run : goal.returns-in-Spent-clause-run
returns-in-Spent-clause-run g c =
    let on = devices g.D.Device g.R.Read g.W1.Write g.W2.Write g.R.Inlet.gave g.R.Inlet.refused g.W1.Outlet.took g.W1.Outlet.refused g.W2.Outlet.took g.W2.Outlet.refused in
    let first = c.args.session.now in
    let old = c.running.session in
    let new = c.resume.new.self in
    let ran = ran_out _ (Calls on)
    (disk_of on) numbers_of tree_of
    (λ h. g.D.Device.honest h.volume.device) first.host old.host new.host
    first.machine old.machine new.machine _ c.args.fuel c.running.invariant.so_far c.in-Spent.ensures.run
    (omega (arith, c.in-Spent.ensures.run.units_rise, c.used.ensures, c.running.invariant.within)) c.in-Spent.ensures.numbers c.in-Spent.ensures.honest_after c.in-Spent.ensures.crash in
    record { honest_after = ran.0; followed = followed_to_end on first old new _ _ _ c.running.invariant.followed c.in-Spent.ensures refl refl; numbers = c.in-Spent.ensures.numbers ∙ c.running.invariant.so_far.numbered; size = c.in-Spent.ensures.size ∙ c.running.invariant.size; goes = goes_then g.D.Device.goes_on first.host.volume old.host.volume new.host.volume c.running.invariant.so_far.numbered c.running.invariant.goes c.in-Spent.ensures.goes; run = ran.1.0; unit = λ running. ran.1.2 (c.running.invariant.going running); crash = ran.1.1 }

-- the run ended
pub returns-in-Ended-clause-run : goal.returns-in-Ended-clause-run
returns-in-Ended-clause-run g c =
    let on = devices g.D.Device g.R.Read g.W1.Write g.W2.Write g.R.Inlet.gave g.R.Inlet.refused g.W1.Outlet.took g.W1.Outlet.refused g.W2.Outlet.took g.W2.Outlet.refused in
    let first = c.args.session.now in
    let old = c.running.session in
    let new = c.resume.new.self in
    let ran = ran_to_end _ (Calls on)
    (disk_of on) numbers_of tree_of
    (λ h. g.D.Device.honest h.volume.device) first.host old.host new.host
    first.machine old.machine new.machine _ c.args.fuel c.in-Ended.outcome c.running.invariant.so_far c.in-Ended.ensures.run (omega (arith, c.used.ensures, c.running.invariant.within)) c.in-Ended.ensures.numbers c.in-Ended.ensures.honest_after c.in-Ended.ensures.crash in
    record { honest_after = ran.0; followed = followed_to_end on first old new _ _ _ c.running.invariant.followed c.in-Ended.ensures refl refl; numbers = c.in-Ended.ensures.numbers ∙ c.running.invariant.so_far.numbered; size = c.in-Ended.ensures.size ∙ c.running.invariant.size; goes = goes_then g.D.Device.goes_on first.host.volume old.host.volume new.host.volume c.running.invariant.so_far.numbered c.running.invariant.goes c.in-Ended.ensures.goes; run = ran.1.0; unit = λ running. ran.1.2 (c.running.invariant.going running); crash = ran.1.1 }

pub returns-in-Spent-clause-module : goal.returns-in-Spent-clause-module
returns-in-Spent-clause-module g c = c.in-Spent.ensures.run.module_is ∙ c.running.invariant.same

pub returns-in-Ended-clause-module : goal.returns-in-Ended-clause-module
returns-in-Ended-clause-module g c = c.in-Ended.ensures.run.module_is ∙ c.running.invariant.same
