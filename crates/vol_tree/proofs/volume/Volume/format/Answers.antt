use Rattle.vol_tree.proofs.volume.Volume.format.Goals as goal

pub returns : goal.returns
returns g c =
    let e = c.format_as.ensures in
    record {
      geometry = e.geometry;
      too_small = e.too_small;
      otherwise = e.otherwise;
      durable = e.durable;
      empty = e.empty;
      crash = e.crash;
      past = e.past;
      kept = e.kept;
      goes_on = e.goes_on;
    }
