-- What a host in C hands in for a guest, as the settings of a session and the limits of its stack and its streams. Only
-- the input is left out of `settings_of`: a session takes it beside its settings.
use Rattle.std.specs.Prelude.{◌==◌, ℕ, Bool, if◌then◌else◌}
use Rattle.std.specs.List.{list_all}
use Rattle.wasm_syntax.specs.declared.profile.Profile.{Profile}
use Rattle.wasm_syntax.specs.declared.profile.Profile.TheVariants.{Integers, Floats}
use Rattle.wasi_bodies.specs.declared.settings.Settings.{Settings}
use Rattle.sandbox_host.specs.declared.supplies.SessionLimits.{SessionLimits}
use Rattle.sandbox_host.specs.declared.supplies.Supplies.{Supplies}

-- what a module may hold: 0 takes none with floats
abbrev pub profile_of : ℕ → Profile
profile_of floats = if floats == 0 then Integers else Floats

-- a limit, or its default where it is 0
abbrev pub limit_or : ℕ → ℕ → ℕ
limit_or limit default = if limit == 0 then default else limit

-- 64 MiB of memory, 8 MiB of values, 16 MiB on each stream
abbrev pub most_pages : SessionLimits → ℕ
most_pages l = limit_or l.pages 1024

abbrev pub most_values : SessionLimits → ℕ
most_values l = limit_or l.values 1048576

abbrev pub most_output : SessionLimits → ℕ
most_output l = limit_or l.output 16777216

-- no limit is named that isn't known yet
abbrev pub is_known : SessionLimits → Bool
is_known l = list_all (λ limit. limit == 0) l.later

abbrev pub settings_of : Supplies → Settings
settings_of s = record { args = s.args; env = s.env; preopens = s.preopens; moment = s.moment; random = s.random; pages = most_pages s.limits }
