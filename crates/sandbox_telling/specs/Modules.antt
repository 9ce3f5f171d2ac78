-- Which modules a command takes: those with floats where its words say so (`docs/USING.md`).
use Rattle.std.specs.Prelude.{Bool, true, false}
use Rattle.wasm_syntax.specs.declared.profile.Profile.{Profile}
use Rattle.wasm_syntax.specs.declared.profile.Profile.TheVariants.{Integers, Floats}

abbrev pub profile_for : (floats : Bool) → Profile
profile_for true = Floats
profile_for false = Integers
