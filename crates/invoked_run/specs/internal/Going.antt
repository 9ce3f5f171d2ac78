-- What `go_until` has done before it goes on once more.
use Rattle.std.specs.Prelude.{◌≡◌, ◌≤◌, ℕ}
use Rattle.wasm_interp.specs.Machine.{Represents}
use Rattle.sandbox_core.specs.Devices.{Devices}
use Rattle.plugin_core.specs.Handling.{Goes}
use Rattle.plugin_session.specs.Headline.{History, FollowBy}
use Rattle.plugin_session.specs.Instance.{InstanceState, used_by}
use Rattle.invoked_run.specs.Calling.{AreAnswered}

pub record HasGone {D R W1 W2 : Type 0} (on : Devices D R W1 W2) (old now : InstanceState D R W1 W2) (fuel : ℕ) : Type 0 where
  pub calls : History (InstanceState D R W1 W2)
  pub answered : AreAnswered calls
  pub follow : FollowBy Represents on old calls now
  pub within : used_by now ≤ fuel
  pub goes : Goes now.stage
