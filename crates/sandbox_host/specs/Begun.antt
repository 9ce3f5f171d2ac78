-- How a session begins, and what calls of `resume` do, by whichever relation machines stand for configurations.
use Rattle.std.specs.Prelude.{◌≡◌, ◌-◌, ◌^◌, ℕ, true, false, List, [], ◌∷◌, min, max, None}
use Rattle.wasm_syntax.specs.declared.module.Module.{Module}
use Rattle.wasm_steps.specs.declared.pause.Pause.{Pause}
use Rattle.wasm_operands.specs.Snapshots.{StandsFor}
use Rattle.sandbox_core.specs.Sessions as core
use Rattle.sandbox_core.specs.Sessions.{used_by}
use Rattle.sandbox_host.specs.declared.numbers.Told.{Told}
use Rattle.sandbox_host.specs.declared.supplies.Supplies.{Supplies}
use Rattle.sandbox_host.specs.declared.volumes.Origin.{Origin}
use Rattle.sandbox_host.specs.Telling.{told_pause}
use Rattle.sandbox_host.specs.Supplies.{most_output, most_values, is_known, settings_of}
use Rattle.sandbox_host.specs.HostTypes as host
use Rattle.sandbox_host.specs.HostTypes.{HostVolume, HandleParts, Bytes, State}
use Rattle.sandbox_host.specs.Volumes.{IsVolume}

-- what a session over this volume is made of, whose output goes there
abbrev pub parts_of : Supplies → HostVolume → Bytes → Bytes → HandleParts
parts_of supplies volume out err = record { settings = settings_of supplies; volume = volume; input = supplies.input; out = out; err = err }

module _ (Stands : StandsFor) where
  -- A session of the module over the volume that was named, with what the guest was given, which has used and written nothing.
  pub record BeginsBy (m : Module) (supplies : Supplies) (origin : Origin) (s : State) : Type 0 where
    pub known : is_known supplies.limits ≡ true
    pub volume : HostVolume
    pub is_volume : IsVolume origin volume
    pub out : Bytes
    pub err : Bytes
    pub no_output : out.bytes.items ≡ []
    pub no_errors : err.bytes.items ≡ []
    pub output_bound : out.most ≡ most_output supplies.limits
    pub errors_bound : err.most ≡ most_output supplies.limits
    pub output_open : out.full ≡ false
    pub errors_open : err.full ≡ false
    pub values : s.machine.most_values ≡ max (most_values supplies.limits) 4097
    pub opens : core.OpensBy Stands None None m (parts_of supplies volume out err) s
    pub shares : core.Shares host.known.device (parts_of supplies volume out err) s

  -- a resume with at most these units, and not past 2^64 - 1 in all, and what it told
  pub record PausedBy (units : ℕ) (old new : State) (told : Told) : Type 0 where
    pub pause : Pause
    pub resumes : core.ResumesBy Stands host.known old new (min units (2 ^ 64 - 1 - used_by old)) pause
    pub tells : told ≡ told_pause pause (used_by new)

  -- one call of `resume` after another: what each told, and the session after it
  abbrev pub ResumedBy : State → List (Told × State) → State → Type 0
  ResumedBy s [] s' = s' ≡ s
  ResumedBy s (r ∷ rs) s' = ((units : ℕ) × PausedBy units s r.1 r.0) × ResumedBy r.1 rs s'
