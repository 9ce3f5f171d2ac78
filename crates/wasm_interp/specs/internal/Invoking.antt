-- What the state is as a function is entered with arguments, and once one has returned.
use Rattle.std.specs.Prelude.{◌≡◌, ◌⊎◌, ℕ, suc, ◌+◌, ◌≤◌, List, [], ◌∷◌, ◌++◌, drop, reverse, Option, Some, None, vec_capacity}
use Rattle.wasm_steps.specs.declared.pause.Pause.{Pause}
use Rattle.wasm_places.specs.declared.invocable.Event.{Event}
use Rattle.wasm_places.specs.declared.invocable.Event.TheVariants.{Asked, Paused, Returned}
use Rattle.wasm_operands.specs.declared.phase.Phase.{Phase}
use Rattle.wasm_operands.specs.declared.phase.Phase.TheVariants.{Within, Between, Asking}
use Rattle.wasm_operands.specs.declared.phase.Ask.{Ask}
use Rattle.wasm_places.specs.declared.tables.Prepared.{Prepared}
use Rattle.wasm_interp.specs.declared.state.State.{State}
use Rattle.wasm_operands.specs.internal.Awaited.{nothing_awaited}
use Rattle.wasm_interp.specs.internal.Running.{AsksWithin, GoesOn}

-- all that was at work is gone, and this function is entered next with these arguments
pub record Entered (old new : State) (x : ℕ) (args : List ℕ) : Type 0 where
  pub is : new ≡ record old { values = new.values; suspended = new.suspended; pending = record { functions = x ∷ []; invoked = Some x }; phase = Between }
  pub values : new.values.items ≡ args
  pub suspended : new.suspended.items ≡ []
  pub room : vec_capacity new.values ≡ vec_capacity old.values
  pub frames : vec_capacity new.suspended ≡ vec_capacity old.suspended

-- all that was at work is gone, and nothing is entered next
pub record HasLetGo (old new : State) : Type 0 where
  pub is : new ≡ record old { values = new.values; suspended = new.suspended; pending = nothing_awaited; phase = Between }
  pub values : new.values.items ≡ []
  pub suspended : new.suspended.items ≡ []
  pub room : vec_capacity new.values ≡ vec_capacity old.values
  pub frames : vec_capacity new.suspended ≡ vec_capacity old.suspended

-- nothing is at work and nothing is pending, or the embedder is asked
abbrev pub Waits : State → Type 0
Waits s = ((s.phase ≡ Between) × (s.pending.functions ≡ [])) ⊎ ((a : Ask) × (s.phase ≡ Asking a))

-- how a run that came back with this pause, or waits in this phase, is told
abbrev pub event_of : Phase → Option Pause → Event
event_of f (Some p) = Paused p
event_of (Asking a) None = Asked a.function
event_of f None = Returned

-- the result stands in the place of the arguments, of which there are this many, and of what was above them
pub record IsAnswered (old new : State) (above params : ℕ) (results : List ℕ) : Type 0 where
  pub is : new ≡ record old { values = new.values; current = record old.current { pc = old.current.pc + 1 }; phase = Within; used = suc old.used }
  pub values : reverse new.values.items ≡ results ++ drop params (drop above (reverse old.values.items))
  pub room : vec_capacity new.values ≡ vec_capacity old.values

-- steps have led from one state to another in which it waits, and no host was asked
pub record HasStopped (H : Type 0) (r : Prepared) (h h' : H) (old new : State) (units : ℕ) : Type 0 where
  pub goes : GoesOn r old new
  pub host : h' ≡ h
  pub units_left : new.used ≤ old.used + units
  pub waits : Waits new
  -- it had waited so already, or a unit is left for the call
  pub left : (new ≡ old) ⊎ AsksWithin (old.used + units) new
