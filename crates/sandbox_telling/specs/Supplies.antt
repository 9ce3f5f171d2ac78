-- Which settings a guest is given by the words of its command line (`docs/USING.md`, "Options of `run`"). Each `--dir`
-- is cut at its first `=`; `AreSettings` ties a run's settings to its words, and `IsUncut` says why there are none.
use Rattle.std.specs.Prelude.{◌≡◌, ◌⊎◌, ◌==◌, ℕ, Bool, List, [], ◌∷◌, length, map, Option, Some, None, if◌then◌else◌, nat_lt, codes}
use Rattle.std.specs.List.{Contains, position_or_len, before_first, after_first}
use Rattle.wasi_bodies.specs.declared.settings.Preopen.{Preopen}
use Rattle.wasi_bodies.specs.declared.settings.Settings.{Settings}
use Rattle.wasi_bodies.specs.declared.streams.Terminals.{Terminals}
use Rattle.sandbox_core.specs.declared.fault.SessionFault.{SessionFault}
use Rattle.sandbox_core.specs.declared.fault.SessionFault.TheVariants.{Setting, Memory}
use Rattle.sandbox_args.specs.declared.request.Run.{Run}
use Rattle.sandbox_args.specs.Request.{Text, texts, arguments_of}

-- `=`
abbrev pub is_equals : ℕ → Bool
is_equals c = c == 61

-- what stands before the first `=` of a word, and after it, if it has one
abbrev pub split_at_equals : Text → Option (Text × Text)
split_at_equals word = if nat_lt (position_or_len is_equals word) (length word) then Some (before_first is_equals word, after_first is_equals word) else None

-- the words of a guest's directories: where there is none, the root as `/`
abbrev pub or_root : List Text → List Text
or_root [] = codes "/=/" ∷ []
or_root (word ∷ words) = word ∷ words

abbrev pub directories_of : Run → List Text
directories_of run = or_root (texts run.dirs.items)

-- the name that a guest knows a directory by, and its path
abbrev pub names_of : Preopen → Text × Text
names_of p = (p.guest_name.now, p.path.now)

-- each directory is its word, cut at the first `=`
abbrev pub AreDirectories : List Text → List Preopen → Type 0
AreDirectories words preopens = map (λ p. Some (names_of p)) preopens ≡ map split_at_equals words

-- Why the words aren't taken: one of them has no `=`, or memory was refused.
abbrev pub IsUncut : List Text → SessionFault → Type 0
IsUncut words fault =
    ((fault ≡ Setting) × Contains (map split_at_equals words) None) ⊎ (fault ≡ Memory)

-- The settings of a run: argument 0 (the word of `--name`, or else the module's) and the others, the environment, the
-- directories, the moment, these random bytes, and the pages.
pub record AreSettings (run : Run) (random : Text) (settings : Settings) : Type 0 where
  pub args : texts settings.args.now ≡ arguments_of run
  pub env : texts settings.env.now ≡ texts run.env.items
  pub preopens : AreDirectories (directories_of run) settings.preopens.now
  pub moment : settings.moment ≡ run.moment
  pub random_bytes : settings.random.now ≡ random
  pub pages : settings.pages ≡ run.limits.pages

-- the terminals that the guest of an interactive run is told of
abbrev pub terminals_of : Run → Option Terminals
terminals_of run = if run.interactive then Some (record { input = run.terminals.input; output = run.terminals.output; error = run.terminals.error }) else None
