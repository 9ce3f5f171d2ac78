-- Where the fuel of a run went, and the text of its profile (`docs/USING.md`, "Where the fuel went"). What is charged to which stack
-- says `ChargesRun` (`crates/observed_run/specs`), what the lines of stacks are `IsFolded` (`crates/observed_run/specs`).
use Rattle.std.specs.Prelude.{◌≡◌, ◌+◌, ◌-◌, ◌^◌, ◌==◌, ℕ, List, [], ◌∷◌, ◌++◌, Option, Some, None, false, if◌then◌else◌, length, min, take, unwrap_or}
use Rattle.std.specs.List.{flat_map}
use Rattle.wasm_syntax.specs.declared.module.Module.{Module}
use Rattle.sandbox_inspect.specs.Places.{called}
use Rattle.sandbox_inspect.specs.Words.{called_text}
use Rattle.observed_run.specs.Folded.{IsFolded, cut_text}
use Rattle.observed_run.specs.Stacks.{Stacks}
use Rattle.sandbox_core.specs.Devices.{Devices}
use Rattle.sandbox_core.specs.Session.{SessionState, History}
use Rattle.sandbox_core.specs.declared.report.Report.{Report}
use Rattle.sandbox_core.specs.declared.tally.Tally.{Tally}
use Rattle.wasm_interp.specs.declared.frames.Frame.{Frame}
use Rattle.observed_run.specs.Charging.{ChargesRun}
use Rattle.observed_run.specs.Telling.{ReportsTold}
use Rattle.sandbox_args.specs.declared.request.Run.{Run}
use Rattle.sandbox_args.specs.Request.{Text}
use Rattle.sandbox_telling.specs.declared.profiling.FuelUse.{FuelUse}
use Rattle.sandbox_telling.specs.declared.stopping.Stopped.{Stopped}

-- ---- its stacks

-- no stack yet, and room for stacks of 4,194,304 functions, all together: so many nodes are the most that a profile has
abbrev pub no_stacks : Stacks
no_stacks = record { calls = []; units = 0 ∷ []; is_cut = false; room = 4194304 }

-- the units of a slice at most
abbrev pub slice_of : Run → ℕ
slice_of run = unwrap_or run.profile_every 9973

module _ {D R W1 W2 : Type 0} where
  -- Where there are stacks, the units of these resumes were charged to them, and nothing else.
  abbrev pub AreCharged : (every : ℕ) → SessionState D R W1 W2 → History (SessionState D R W1 W2) → (used : ℕ) → Option Stacks → Type 0
  AreCharged every first resumes used None = Unit {0}
  AreCharged every first resumes used (Some stacks) = ChargesRun every first resumes used no_stacks stacks

  -- the same of a run of this module, whose imported functions are counted first
  abbrev pub IsFuelUse : (every : ℕ) → SessionState D R W1 W2 → History (SessionState D R W1 W2) → (used : ℕ) → Module → Option FuelUse → Type 0
  IsFuelUse every first resumes used m None = Unit {0}
  IsFuelUse every first resumes used m (Some usage) = ChargesRun every first resumes used no_stacks usage.stacks × (usage.imported ≡ length m.imports)

  -- what is told of a run, and where the units of its report went
  pub record ReportsCharged (on : Devices D R W1 W2) (session : SessionState D R W1 W2) (fuel every : ℕ) (report : Report D R W1 W2) (tally : Tally)
      (room : List Frame) (depth : ℕ) (stacks : Option Stacks) : Type 0 where
    pub told : ReportsTold on session fuel report tally room depth
    pub charged : AreCharged every session told.counted.reports.resumes report.used stacks

-- where the fuel of a run went, by its stacks, of a module with so many imported functions
abbrev pub IsUseWith : Option Stacks → (imported : ℕ) → Option FuelUse → Type 0
IsUseWith None imported usage = usage ≡ None
IsUseWith (Some stacks) imported usage = usage ≡ Some (record { stacks = stacks; imported = imported })

abbrev pub IsThere : {X : Type 0} → Option X → Type 0
IsThere None = ⊥
IsThere (Some x) = Unit {0}

-- Where stacks are given, or a file for them, it is told of a run that began where its fuel went.
abbrev pub TellsUse : {X : Type 0} → Option X → Option Stopped → Type 0
TellsUse None stopped = Unit {0}
TellsUse (Some given) None = Unit {0}
TellsUse (Some given) (Some stopped) = IsThere stopped.fuel_use

-- ---- its text

-- A byte of a name in a stack: a semicolon would end the name, and a number sign begin a note; they are told by their numbers.
abbrev pub stack_byte : ℕ → Text
stack_byte b = if b == 59 then 92 ∷ 51 ∷ 98 ∷ [] else (if b == 35 then 92 ∷ 50 ∷ 51 ∷ [] else b ∷ [])

-- What the module's own function of this index is called in a stack: what it is called in other lines, up to 255 bytes of it.
abbrev pub stack_name : List ℕ → (imported : ℕ) → ℕ → Text
stack_name bytes imported own =
    let index = min (imported + own) (2 ^ 64 - 1) in
    flat_map stack_byte (take 255 (called_text index (called bytes index)))

-- how the functions of a module are called: by its bytes, and by how many it imports
pub record Naming : Type 0 where
  pub bytes : List ℕ
  pub imported : ℕ

-- the text of stacks whose functions have these names
abbrev pub IsProfile : (ℕ → Text) → Stacks → Text → Type 0
IsProfile name stacks text = (lines : Text) × IsFolded stacks.calls name 0 stacks.units lines × (text ≡ lines ++ cut_text stacks.is_cut)

-- the text of the profile of a module of these bytes
abbrev pub IsProfileOf : List ℕ → FuelUse → Text → Type 0
IsProfileOf bytes usage text = IsProfile (stack_name bytes usage.imported) usage.stacks text
