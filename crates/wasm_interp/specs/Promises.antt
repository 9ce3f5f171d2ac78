-- What a machine promises over any host (`docs/ARCHITECTURE.md`, "Configurations and the machine"), by whichever relation its
-- snapshots stand for configurations: `Promise` says it by the machine's own. Whatever that is, a caller rests on two things:
-- `StartsBy` gives it for the first configuration, and each `ResumedBy` takes it and gives it for one that steps lead to.
use Rattle.std.specs.Prelude.{◌≡◌, ℕ, ◌+◌, ◌<◌, List, Some, None}
use Rattle.wasm_syntax.specs.declared.module.Module.{Module}
use Rattle.wasm_steps.specs.declared.pause.Outcome.{Outcome}
use Rattle.wasm_steps.specs.declared.pause.Pause.{Pause}
use Rattle.wasm_steps.specs.declared.pause.Pause.TheVariants.{Called, Spent, Ended}
use Rattle.wasm_steps.specs.Configuration.{Instance, Store, Configuration, used_by, first_configuration}
use Rattle.wasm_steps.specs.Steps.{CallsOf}
use Rattle.wasm_store.specs.Instantiation.{LinksOf, Instantiates}
pub use Rattle.wasm_steps.specs.Outcomes.{IsLarge, EndsAs, Paused, UnitsRise, HasItsUnit, end_of}
use Rattle.wasm_operands.specs.Snapshots.{Snapshot, StandsFor, outcome_of, entries_left}

-- a call that is answered took a unit, or was a function that was entered from outside
abbrev pub CallProgresses : Pause → Snapshot → Snapshot → Type 0
CallProgresses (Called call e) old new = old.used + entries_left new < new.used + entries_left old
CallProgresses Spent old new = Unit {0}
CallProgresses (Ended o) old new = Unit {0}

module _ (Stands : StandsFor) where
  -- a machine that has just been made stands for the module's first configuration
  pub record StartsBy (links : LinksOf) (pages : ℕ) (m : Module) (new : Snapshot) : Type 0 where
    pub instance : Instance
    pub store : Store
    pub entered : List ℕ
    pub instantiates : Instantiates links pages m instance store entered
    pub stands : Stands new instance (first_configuration entered store)
    pub module_is : new.valid ≡ m
    pub used : new.used ≡ 0
    pub runs : outcome_of new ≡ None
    pub room : new.room ≡ 4097

  -- what is promised of a pause within some units, however the machine came there: by a resume, or by an answer after it
  pub record PausesBy (H : Type 0) (Calls : CallsOf H) (h h' : H) (old new : Snapshot) (units : ℕ) (p : Pause) : Type 0 where
    pub module_is : new.valid ≡ old.valid
    pub most_values : new.most_values ≡ old.most_values
    pub units_rise : UnitsRise p units old.used new.used
    pub run : (i : Instance) (c : Configuration) → Stands old i c → (d : Configuration) × Stands new i d × Paused H Calls i p h c h' d

  -- what a resume with this many units promises: whatever configuration the machine stood for, it stands for one that steps
  -- of that lead to, the units of both are those of the machine, and the pause says which steps; memory is refused only to a
  -- step whose unit is left; the most values stay
  pub record ResumedBy (H : Type 0) (Calls : CallsOf H) (h h' : H) (old new : Snapshot) (units : ℕ) (p : Pause) : Type 0 where
    pub module_is : new.valid ≡ old.valid
    pub most_values : new.most_values ≡ old.most_values
    pub units_rise : UnitsRise p units old.used new.used
    pub progress : CallProgresses p old new
    pub run : (i : Instance) (c : Configuration) → Stands old i c → (d : Configuration) × Stands new i d × Paused H Calls i p h c h' d × (used_by c ≡ old.used) × (used_by d ≡ new.used)
        × (outcome_of old ≡ None → HasItsUnit p (old.used + units) d)
    pub end_is : outcome_of new ≡ end_of p
    -- a machine that has ended stays as it is, and so does the host
    pub again : (o : Outcome) → outcome_of old ≡ Some o → (p ≡ Ended o) × (new ≡ old) × (h' ≡ h)
