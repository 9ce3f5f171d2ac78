use Rattle.std.proofs.Common.{refl, subst, arith}
use Rattle.sandbox_core.specs.Devices.{devices}
use Rattle.sandbox_core.specs.Slices.{RunsSlice, stop_of}
use Rattle.sandbox_core.proofs.Following.{none_tallied}
use Rattle.sandbox_core.proofs.Stopping.{slice_spends}
use Rattle.observed_run.proofs.Going.{goes_first, goes_on, ends_in_slices, spends_in_slices}
use Rattle.observed_run.proofs.slices.run_in_slices.Goals as goal

-- no slice yet
pub loop-outcome-init : goal.loop-outcome-init
loop-outcome-init g c = record {
  started = omega (arith, c.used-until.ensures);
  within = omega (arith, c.used-until.ensures, c.requires.within);
  short = omega (arith, c.used-until.ensures);
  goes = goes_first (devices g.D.Device g.R.Read g.W1.Write g.W2.Write g.R.Inlet.gave g.R.Inlet.refused g.W1.Outlet.took g.W1.Outlet.refused g.W2.Outlet.took g.W2.Outlet.refused) c.args.every (g.S.Resumable.state c.args.session.now) c.args.profile.now _ (none_tallied _ c.none-tally.ensures);
}

pub run_charged-end-requires-clause-few : goal.run_charged-end-requires-clause-few
run_charged-end-requires-clause-few g c =
    let so_far = c.loop-outcome.invariant in
    omega (arith, so_far.goes.in_all, so_far.goes.rises, so_far.started, so_far.within, c.requires.few, c.requires.within)

-- a slice more, and its units were used
pub loop-outcome-preserved : goal.loop-outcome-preserved
loop-outcome-preserved g c =
    let on = devices g.D.Device g.R.Read g.W1.Write g.W2.Write g.R.Inlet.gave g.R.Inlet.refused g.W1.Outlet.took g.W1.Outlet.refused g.W2.Outlet.took g.W2.Outlet.refused in
    let so_far = c.loop-outcome.invariant in
    let now = g.S.Resumable.state c.loop-outcome.session in
    let new = g.S.Resumable.state c.run_charged-end.new.session in
    let slice = subst (λ e. RunsSlice on now new c.loop-outcome.until (stop_of e) c.loop-outcome.tally c.run_charged-end.result.1) c.in_default.is c.run_charged-end.ensures.slice in
    let used = slice_spends on now new c.loop-outcome.until c.loop-outcome.tally c.run_charged-end.result.1 slice in
    record {
      started = omega (arith, used);
      within = omega (arith, c.min-until.ensures, c.if-until-fuel.false);
      short = omega (arith, used, c.min-until.ensures, c.max.ensures);
      goes = goes_on on c.args.every (g.S.Resumable.state c.args.session.now) c.args.profile.now now new c.loop-outcome.until c.loop-outcome.tally c.run_charged-end.result.1 c.loop-outcome.profile c.run_charged-end.new.profile
          so_far.goes c.run_charged-end.ensures.charged so_far.short slice;
    }

-- the run ended
pub returns-in-Some : goal.returns-in-Some
returns-in-Some g c =
    let on = devices g.D.Device g.R.Read g.W1.Write g.W2.Write g.R.Inlet.gave g.R.Inlet.refused g.W1.Outlet.took g.W1.Outlet.refused g.W2.Outlet.took g.W2.Outlet.refused in
    let so_far = c.loop-outcome.invariant in
    let now = g.S.Resumable.state c.loop-outcome.session in
    let new = g.S.Resumable.state c.run_charged-end.new.session in
    let slice = subst (λ e. RunsSlice on now new c.loop-outcome.until (stop_of e) c.loop-outcome.tally c.run_charged-end.result.1) c.in-Some.is c.run_charged-end.ensures.slice in
    ends_in_slices on c.args.every (g.S.Resumable.state c.args.session.now) c.args.profile.now now new c.loop-outcome.until c.loop-outcome.tally c.run_charged-end.result.1 c.loop-outcome.profile c.run_charged-end.new.profile
    so_far.goes c.run_charged-end.ensures.charged so_far.short c.args.fuel c.in-Some.outcome so_far.within slice

-- the fuel was used
pub returns-then-until-fuel : goal.returns-then-until-fuel
returns-then-until-fuel g c =
    let on = devices g.D.Device g.R.Read g.W1.Write g.W2.Write g.R.Inlet.gave g.R.Inlet.refused g.W1.Outlet.took g.W1.Outlet.refused g.W2.Outlet.took g.W2.Outlet.refused in
    let so_far = c.loop-outcome.invariant in
    let now = g.S.Resumable.state c.loop-outcome.session in
    let new = g.S.Resumable.state c.run_charged-end.new.session in
    let slice = subst (λ e. RunsSlice on now new c.loop-outcome.until (stop_of e) c.loop-outcome.tally c.run_charged-end.result.1) c.in_default.is c.run_charged-end.ensures.slice in
    spends_in_slices on c.args.every (g.S.Resumable.state c.args.session.now) c.args.profile.now now new c.loop-outcome.until c.loop-outcome.tally c.run_charged-end.result.1 c.loop-outcome.profile c.run_charged-end.new.profile
    so_far.goes c.run_charged-end.ensures.charged so_far.short c.args.fuel (omega (arith, so_far.within, c.if-until-fuel.true)) slice
