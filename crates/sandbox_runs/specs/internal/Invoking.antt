-- An instance with the random bytes of a seed, and interactive with some terminals, as `Seeds` has it of a session; and what one call of
-- a new instance left. The private functions of `invoking` promise and require these.
use Rattle.std.specs.Prelude.{ℕ, List, Option, option_map}
use Rattle.vol_sector.specs.Disk.{Disk}
use Rattle.wasm_syntax.specs.declared.instruction.ValueType.{ValueType}
use Rattle.wasm_interp.specs.declared.frames.Frame.{Frame}
use Rattle.wasi_bodies.specs.declared.streams.Terminals.{Terminals}
use Rattle.wasi_bodies.specs.host.Worlds.{Hearing}
use Rattle.wasi_bodies.specs.supplies.Random.{seeded}
use Rattle.plugin_session.specs.Instance.{InstanceState, limited_to}
use Rattle.invoked_run.specs.declared.calling.CalledOnce.{CalledOnce}
use Rattle.invoked_run.specs.Calling.{CallsOnceAndEnds}
use Rattle.sandbox_report.specs.declared.counted.Counted.{Counted}
use Rattle.sandbox_args.specs.declared.request.Run.{Run}
use Rattle.sandbox_args.specs.Request.{Text}
use Rattle.sandbox_runs.specs.declared.program.Executed.{Executed}
use Rattle.sandbox_runs.specs.Invoking.{IsToldOfCall}
use Rattle.sandbox_telling.specs.RunHost.{counted_devices}
use Rattle.sandbox_telling.specs.Supplies.{terminals_of}

-- the same instance, whose random bytes are those of a generator where there is a seed
abbrev pub with_seed : {D R W1 W2 : Type 0} → Option ℕ → InstanceState D R W1 W2 → InstanceState D R W1 W2
with_seed seed s = record s { host = record s.host { generator = option_map seeded seed } }

-- the same instance, interactive where there are terminals
abbrev pub with_terminals : {D R W1 W2 : Type 0} → Option Terminals → InstanceState D R W1 W2 → InstanceState D R W1 W2
with_terminals terminals s = record s { host = record s.host { interactive = terminals } }

-- as the words of a run have it
abbrev pub readied_by : {D R W1 W2 : Type 0} → Run → InstanceState D R W1 W2 → InstanceState D R W1 W2
readied_by run s = with_terminals (terminals_of run) (with_seed run.seed (limited_to run.limits.values s))

module _ {D R W1 W2 : Type 0} (is_honest : D → Type 0) (disk : D → Disk) (sectors_on failures : D → ℕ) (goes_on : ℕ → D → D → Type 0)
    (remaining : R → Option (List ℕ)) (out_contents : W1 → Option (List ℕ)) (err_contents : W2 → Option (List ℕ)) (ear : Hearing R W1 W2) where
  pub record CallsInstance (run : Run) (name : Text) (numbers : List ℕ) (value_type : Option ValueType) (begun : InstanceState D (Counted R) (Counted W1) (Counted W2)) (left : Executed D R W1 W2) : Type 0 where
    pub called : CalledOnce D (Counted R) (Counted W1) (Counted W2)
    pub room : List Frame
    pub calls : CallsOnceAndEnds (counted_devices is_honest disk sectors_on failures goes_on remaining out_contents err_contents ear) (readied_by run begun) name numbers run.limits.fuel room called
    pub told : IsToldOfCall is_honest disk sectors_on failures goes_on remaining out_contents err_contents ear value_type called room left
