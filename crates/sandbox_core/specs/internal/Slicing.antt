-- A slice of a run on its way: the calls that were answered since it began.
use Rattle.std.specs.Prelude.{◌++◌}
use Rattle.sandbox_core.specs.Devices.{Devices}
use Rattle.sandbox_core.specs.Session.{SessionState, History, Follow}
use Rattle.sandbox_core.specs.Slices.{AreCalls}
use Rattle.sandbox_core.specs.declared.tally.Tally.{Tally}
use Rattle.sandbox_core.specs.Tally.{Tallies}

pub record AnsweredSince {D R W1 W2 : Type 0} (on : Devices D R W1 W2) (old new : SessionState D R W1 W2)
    (before after : Tally) : Type 0 where
  pub calls : History (SessionState D R W1 W2)
  pub answered : AreCalls calls
  pub follow : Follow on old calls new
  pub tallies : (earlier : History (SessionState D R W1 W2)) → Tallies earlier before → Tallies (earlier ++ calls) after
