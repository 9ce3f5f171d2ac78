-- Where the fuel of a run went: its stacks, and what is told of them.
use Rattle.std.proofs.Common.{◌≡◌, ℕ, List, Option, Some, None, length, refl, sym, subst}
use Rattle.observed_run.specs.Stacks.{Stacks}
use Rattle.wasm_syntax.specs.declared.module.Module.{Module}
use Rattle.sandbox_core.specs.Session.{SessionState, History}
use Rattle.sandbox_core.specs.Devices.{Devices}
use Rattle.sandbox_core.specs.declared.report.Report.{Report}
use Rattle.sandbox_core.specs.declared.tally.Tally.{Tally}
use Rattle.wasm_interp.specs.declared.frames.Frame.{Frame}
use Rattle.observed_run.specs.Charging.{ChargesRun, ReportsProfiled}
use Rattle.sandbox_telling.specs.declared.profiling.FuelUse.{FuelUse}
use Rattle.sandbox_telling.specs.declared.stopping.Stopped.{Stopped}
use Rattle.sandbox_telling.specs.Profiling.{AreCharged, ReportsCharged, IsThere, IsFuelUse, IsUseWith, TellsUse, no_stacks}

module _ {D R W1 W2 : Type 0} (every : ℕ) (first : SessionState D R W1 W2) (resumes : History (SessionState D R W1 W2)) (used : ℕ) (m : Module) where
  -- what is told of stacks that have the units of a run
  pub use_of : (stacks : Option Stacks) (usage : Option FuelUse) → IsUseWith stacks (length m.imports) usage → AreCharged every first resumes used stacks → IsFuelUse every first resumes used m usage
  use_of None usage is charged = subst (λ (u : Option FuelUse). IsFuelUse every first resumes used m u) (sym is) tt
  use_of (Some stacks) usage is charged = subst (λ (u : Option FuelUse). IsFuelUse every first resumes used m u) (sym is) (charged, refl)

-- of stacks that had none, in slices of so many units
pub charged_from : {D R W1 W2 : Type 0} (on : Devices D R W1 W2) (session : SessionState D R W1 W2) (fuel slice every : ℕ) (report : Report D R W1 W2) (tally : Tally) (room : List Frame) (depth : ℕ) (old new : Stacks)
    → old ≡ no_stacks → slice ≡ every → ReportsProfiled on session fuel slice report tally room depth old new → ReportsCharged on session fuel every report tally room depth (Some new)
charged_from on session fuel slice every report tally room depth old new none is it = record {
  told = it.told;
  charged = subst (λ (n : ℕ). AreCharged n session it.told.counted.reports.resumes report.used (Some new)) is
      (subst (λ (s : Stacks). ChargesRun slice session it.told.counted.reports.resumes report.used s new) none it.profile);
}

-- and it is told where there are some
pub told_use : (given : Option Stacks) (stacks : Option Stacks) (imported : ℕ) (usage : Option FuelUse) → (IsThere given → IsThere stacks) → IsUseWith stacks imported usage → IsThere given → IsThere usage
told_use given None imported usage kept is some = absurd (kept some)
told_use given (Some stacks) imported usage kept is some = subst IsThere (sym is) tt

pub tells_use : (given : Option Stacks) (end : Option Stopped) (stopped : Stopped) → end ≡ Some stopped → (IsThere given → IsThere stopped.fuel_use) → TellsUse given end
tells_use None end stopped is tells = tt
tells_use (Some stacks) end stopped is tells = subst (λ (e : Option Stopped). TellsUse (Some stacks) e) (sym is) (tells tt)

pub none_tells : (given : Option Stacks) (end : Option Stopped) → end ≡ None → TellsUse given end
none_tells None end is = tt
none_tells (Some stacks) end is = subst (λ (e : Option Stopped). TellsUse (Some stacks) e) (sym is) tt

-- and of a run that didn't begin nothing is told
pub untold : {X : Type 0} (given : Option X) → TellsUse given None
untold None = tt
untold (Some x) = tt
