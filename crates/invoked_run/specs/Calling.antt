-- An exported function that is called once on a new instance: first its opening runs, and where that returns, the function is entered.
-- All that is done is acts of the instance, one after another, so the headline of an instance holds of it.
use Rattle.std.specs.Prelude.{◌≡◌, ◌⊎◌, ◌≤◌, ◌/◌, ℕ, List, [], ◌∷◌, Option, length, slice_get}
use Rattle.wasm_steps.specs.declared.pause.Outcome.TheVariants.{OutOfFuel}
use Rattle.wasm_steps.specs.declared.pause.Pause.TheVariants.{Called, Spent, Ended as Stopped}
use Rattle.wasm_interp.specs.declared.frames.Frame.{Frame}
use Rattle.wasm_interp.specs.Frames.{frames_of}
use Rattle.wasm_interp.specs.Invoking.{results_of}
use Rattle.wasm_interp.specs.Machine.{Represents}
use Rattle.wasi_bodies.specs.host.Worlds.{stream_failed}
use Rattle.sandbox_core.specs.Devices.{Devices}
use Rattle.sandbox_core.specs.Finishing.{Commits}
use Rattle.observed_run.specs.Telling.{TellsFrames}
use Rattle.plugin_core.specs.Handling.{Act, asked, paused, returned}
use Rattle.plugin_session.specs.Headline.{History, FollowBy}
use Rattle.plugin_session.specs.Instance.{InstanceState, Does, Invokes, used_by}
use Rattle.plugin_session.specs.Refusals.{RefusesCall}
use Rattle.invoked_run.specs.declared.calling.CallEnd.{CallEnd}
use Rattle.invoked_run.specs.declared.calling.CallEnd.TheVariants.{Returned, Ended, Unanswered, Refused}
use Rattle.invoked_run.specs.declared.calling.CalledOnce.{CalledOnce}

-- a call of WASI was answered
abbrev pub IsAnswered : Act → Type 0
IsAnswered (paused (Called call e)) = Unit {0}
IsAnswered k = ⊥

-- each of these answered one
abbrev pub AreAnswered : {S : Type 0} → History S → Type 0
AreAnswered [] = Unit {0}
AreAnswered (r ∷ rs) = IsAnswered r.0 × AreAnswered rs

-- it is no return
abbrev pub IsNoReturn : CallEnd → Type 0
IsNoReturn (Returned value) = ⊥
IsNoReturn end = Unit {0}

module _ {D R W1 W2 : Type 0} (on : Devices D R W1 W2) where
  abbrev pub Instance : Type 0
  Instance = InstanceState D R W1 W2

  -- The last act from one instance to another, and that it ends so: what runs has returned; or has ended, or wants a unit where all of
  -- the fuel is used; or the embedder is asked.
  abbrev pub StopsSo : Instance → Instance → (fuel : ℕ) → CallEnd → Type 0
  StopsSo old new fuel (Returned value) = Does on old (returned (results_of new.machine)) new × (value ≡ slice_get (results_of new.machine) 0)
  StopsSo old new fuel (Ended o) = Does on old (paused (Stopped o)) new ⊎ ((o ≡ OutOfFuel) × Does on old (paused Spent) new × (used_by new ≡ fuel))
  StopsSo old new fuel Unanswered = (x : ℕ) × Does on old (asked x) new
  StopsSo old new fuel (Refused e) = ⊥

  -- It goes on within the fuel, whatever calls of WASI are answered on the way, until it stops so.
  pub record GoesUntil (old new : Instance) (fuel : ℕ) (end : CallEnd) : Type 0 where
    pub calls : History Instance
    pub answered : AreAnswered calls
    pub middle : Instance
    pub follow : FollowBy Represents on old calls middle
    pub last : StopsSo middle new fuel end
    pub within : used_by new ≤ fuel

  -- The opening didn't return, and nothing was entered. Or it did; then the function can't be called, and why; or it is entered, once,
  -- and goes on until it stops so.
  abbrev pub CallsOnce : Instance → Instance → (name arguments : List ℕ) → (fuel : ℕ) → CallEnd → Type 0
  CallsOnce old new name arguments fuel end =
      (GoesUntil old new fuel end × IsNoReturn end)
      ⊎ ((opened : Instance) × (value : Option ℕ) × GoesUntil old opened fuel (Returned value)
      × (((why : _) × (end ≡ Refused why) × (new ≡ opened) × RefusesCall opened name arguments why)
      ⊎ ((entered : Instance) × Invokes on opened entered name arguments × GoesUntil entered new fuel end)))

  -- The same, and then all calls of WASI are committed. What is told of the end is of the instance that it stopped with.
  pub record CallsOnceAndEnds (old : Instance) (name arguments : List ℕ) (fuel : ℕ) (room : List Frame) (left : CalledOnce D R W1 W2) : Type 0 where
    pub last : Instance
    pub calls : CallsOnce old last name arguments fuel left.end
    -- all acts up to there
    pub acts : History Instance
    pub follow : FollowBy Represents on old acts last
    pub used : left.used ≡ used_by last
    pub within : left.used ≤ fuel
    pub pages : left.pages ≡ length last.machine.memory / 65536
    pub broken : left.broken ≡ stream_failed last.host
    pub frames : TellsFrames (frames_of last.machine) room left.depth
    pub volume : Commits on.device last.host.volume left.volume
    pub input : left.input ≡ last.host.input.reader
    pub out : left.out ≡ last.host.out.writer
    pub err : left.err ≡ last.host.err.writer
