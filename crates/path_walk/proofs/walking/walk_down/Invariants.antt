use Rattle.std.proofs.Common.{◌≡◌, suc, length, [], cond, false}
use Rattle.path_walk.specs.Paths.{components_of}
use Rattle.path_walk.specs.Walk.{IsEntryOf}
use Rattle.path_walk.specs.internal.Turns.{ends, now_of, walks_as}
use Rattle.path_walk.specs.Walk.{Asked}
use Rattle.path_walk.specs.internal.Steps.{IsMissing, AreNames}
use Rattle.path_walk.proofs.walking.walk_down.Given as goal

abbrev pub invariant-loop-more : goal.invariant-loop-more
invariant-loop-more g l = record {
  asked : Asked g.D.Device.honest g.D.Device.disk g.D.Device.size g.D.Device.failures g.D.Device.goes_on l.fn.volume l.volume false;
  here : IsEntryOf g.D.Device.honest l.volume l.here;
  missing : IsMissing l.missing;
  names : AreNames (cond l.more (components_of l.rest) []);
  goes : g.D.Device.honest l.fn.volume.device → ends l.fn.volume.tree l.here (now_of l.missing) (cond l.more (components_of l.rest) [])
      ≡ walks_as l.fn.volume.tree l.fn.directory l.fn.text;
}

abbrev pub decreases-loop-more : goal.decreases-loop-more
decreases-loop-more g l = cond l.more (suc (length l.rest)) 0
