use Rattle.std.proofs.Common.{sym, subst, ◌≤◌, ℕ}
use Rattle.sandbox_core.specs.Devices.{devices}
use Rattle.invoked_run.proofs.Going.{once_follows, once_within}
use Rattle.invoked_run.proofs.calling.call_once.Goals as goal

-- what is told is of the instance that it stopped with
pub returns : goal.returns
returns g c =
    let on = (devices g.D.Device g.R.Read g.W1.Write g.W2.Write g.R.Inlet.gave g.R.Inlet.refused g.W1.Outlet.took g.W1.Outlet.refused g.W2.Outlet.took g.W2.Outlet.refused) in
    let calls = c.call_within-end.ensures in
    let acts = once_follows on _ _ _ _ _ _ calls in
    record {
      last = c.call_within-end.new.instance;
      calls = calls;
      acts = acts.0;
      follow = acts.1;
      used = c.used-used.ensures;
      within = subst (λ (n : ℕ). n ≤ c.args.fuel) (sym c.used-used.ensures) (once_within on _ _ _ _ _ _ calls);
      pages = c.pages-pages.ensures;
      broken = c.has_failed_stream-broken.ensures;
      frames = c.tell_frames-depth.ensures;
      volume = c.finish-volume.ensures.volume;
      input = c.finish-volume.ensures.input;
      out = c.finish-volume.ensures.out;
      err = c.finish-volume.ensures.err;
    }
