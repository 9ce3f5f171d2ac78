-- What outputs answer when they are flushed, after a run or a command has ended. That one was flushed, or that it refused that, is
-- shown by who asked it alone, over any `Outlet` (`stream_answers`): so what `flushed` of an end says, by which
-- a status is 124 and a line fault 41, is what the outputs answered.
use Rattle.std.specs.Prelude.{◌≡◌, ◌⊎◌, Bool, true, false, None}
use Rattle.sandbox_device.specs.declared.opening.FileOutput.{FileOutput}
use Rattle.sandbox_device.specs.Written.{Flushes, WasCut, WasFlushed}
use Rattle.sandbox_runs.specs.declared.program.Executed.{Executed}

-- it came to this by such an answer
abbrev pub CameBy : {W : Type 0} → (W → W → Type 0) → W → Type 0
CameBy answered left = (before : _) × answered before left

-- an output that was flushed, or not, is left so
pub record Answered {W : Type 0} (flushed refuses : W → W → Type 0) (is_flushed : Bool) (left : W) : Type 0 where
  pub was_flushed : is_flushed ≡ true → CameBy flushed left
  pub was_refused : is_flushed ≡ false → CameBy refuses left

module _ {W1 W2 : Type 0} (out_flushed out_refuses : W1 → W1 → Type 0) (err_flushed err_refuses : W2 → W2 → Type 0) where
  -- Both were flushed; or the output refused it, or the side of errors did, which is asked behind it.
  pub record BothAnswered (are_flushed : Bool) (out : W1) (err : W2) : Type 0 where
    pub were_flushed : are_flushed ≡ true → CameBy out_flushed out × CameBy err_flushed err
    pub one_refused : are_flushed ≡ false → CameBy out_refuses out ⊎ (CameBy out_flushed out × CameBy err_refuses err)

  -- the outputs of a run where a guest ran; where none did, nothing is flushed or refused
  abbrev pub RunAnswered : {D R : Type 0} → Executed D R W1 W2 → Type 0
  RunAnswered left = ((left.stopped ≡ None) × (left.flushed ≡ true)) ⊎ BothAnswered left.flushed left.out left.err

-- ---- the system: a file of an output was cut, if it wasn't before, and flushed
abbrev pub FileFlushed : FileOutput → FileOutput → Type 0
FileFlushed before after = Flushes WasCut WasFlushed before.on after.on
