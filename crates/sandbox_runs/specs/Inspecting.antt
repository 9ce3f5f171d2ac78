-- What inspecting a module prints, and how it ends (`crates/sandbox_inspect/specs`). `Inspects` takes the text from that
-- crate, with the WASI calls of a guest as links, and adds the exit status.
use Rattle.std.specs.Prelude.{◌≡◌, ◌≢◌, ◌⊎◌, ℕ, List, Bool, true, false, Option, Result, Ok, Err, if◌then◌else◌}
use Rattle.std.specs.declared.io.ErrorKind.{ErrorKind}
use Rattle.std.specs.declared.io.ErrorKind.TheVariants.{OutOfMemory}
use Rattle.wasm_syntax.specs.declared.fault.LoadFault.{LoadFault}
use Rattle.wasm_syntax.specs.declared.profile.Profile.{Profile}
use Rattle.wasi_calls.specs.host.Links.{link}
use Rattle.sandbox_inspect.specs.Printing.{PrintsBeginning, Tells}

-- 0 where the bytes load and the output could be flushed
abbrev pub survey_status : Result (Unit {0}) LoadFault → (flushed : Bool) → ℕ
survey_status (Ok x) flushed = if flushed then 0 else 124
survey_status (Err fault) flushed = 124

-- where memory or the output is refused
abbrev pub refused_status : ErrorKind → ℕ
refused_status OutOfMemory = 122
refused_status k = 124

-- All that is told of the bytes was printed, with the calls that a guest is given. Or memory or the output was refused, after
-- a beginning of it; and where it wasn't memory, the output failed.
abbrev pub Inspects : Profile → List ℕ → Option (List ℕ) → Option (List ℕ) → (failed flushed : Bool) → ℕ → Type 0
Inspects p bytes before after failed flushed status =
    ((outcome : Result (Unit {0}) LoadFault) × Tells link p bytes before after outcome × (status ≡ survey_status outcome flushed) × (failed ≡ false))
    ⊎ ((kind : ErrorKind) × (status ≡ refused_status kind)
    × PrintsBeginning link p bytes before after kind × (kind ≢ OutOfMemory → failed ≡ true))
