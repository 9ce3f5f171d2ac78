use Rattle.wasm_interp.specs.Machine.{Represents}
use Rattle.std.proofs.Common.{arith}
use Rattle.vol_tree.proofs.GoingOn.{goes_then}
use Rattle.sandbox_core.specs.Devices.{Calls, devices, disk_of, numbers_of, tree_of}
use Rattle.sandbox_core.specs.Report.{Reports}
use Rattle.sandbox_core.proofs.Following.{heard_follow}
use Rattle.sandbox_core.proofs.Reaching.{commit_after}
use Rattle.sandbox_core.proofs.shared_report.run_counted_shared.Goals as goal

-- the report has what the run and the commit left
pub returns : goal.returns
returns g c =
    let on = devices g.D.Device g.R.Read g.W1.Write g.W2.Write g.R.Inlet.gave g.R.Inlet.refused g.W1.Outlet.took g.W1.Outlet.refused g.W2.Outlet.took g.W2.Outlet.refused in
    let last = c.run_out_shared-outcome.new.session in
    let ran = c.run_out_shared-outcome.ensures.run in
    let finishes = c.finish-volume.ensures in
    let reports : Reports on c.args.session c.args.fuel _ = record {
      last = last;
      used = c.used-used.ensures;
      within = omega (arith, c.used-used.ensures, c.run_out_shared-outcome.ensures.within);
      pages = c.pages-pages.ensures;
      broken = c.has_failed_stream-broken.ensures;
      heard = heard_follow on Represents ran.followed.0 c.args.session last ran.followed.1;
      resumes = ran.followed.0;
      follow = ran.followed.1;
      run = ran.run;
      unit = ran.unit;
      volume = finishes.volume;
      crash = λ is i d stands. commit_after _ (Calls on)
          (disk_of on) numbers_of tree_of
          (λ h. g.D.Device.honest h.volume.device) i c.args.session.host last.host d (ran.run i d stands).last (ran.run i d stands).answers _ (ran.run i d stands).reach ran.numbers
          (ran.crash is i d stands) (finishes.volume.crash (ran.honest_after is));
      numbers = ran.numbers;
      size = ran.size;
      goes = goes_then g.D.Device.goes_on c.args.session.host.volume last.host.volume finishes.volume.new ran.numbers ran.goes finishes.volume.goes;
      honest_after = ran.honest_after;
      input = finishes.input;
      out = finishes.out;
      err = finishes.err;
    } in
    record { reports = reports; tallies = ran.followed.2 }
