-- A run that could not begin, and formatting: they read nothing and print nothing on the output (`docs/USING.md`, "How a run ends").
use Rattle.std.specs.Prelude.{◌≡◌, List, ℕ, Option}
use Rattle.std.specs.Io.KnownBytes.{Keeps}
use Rattle.sandbox_runs.specs.declared.program.Executed.{Executed}

module _ {D R W1 W2 : Type 0} (out_contents : W1 → Option (List ℕ)) (err_contents : W2 → Option (List ℕ)) where
  -- Nothing was read, and nothing printed on the output. What was on the side of errors is followed as is said.
  pub record IsSilent (Follows : Option (List ℕ) → Option (List ℕ) → Type 0) (input : R) (out : W1) (err : W2) (left : Executed D R W1 W2) : Type 0 where
    pub input_is : left.input ≡ input
    pub out_keeps : Keeps (out_contents out) (out_contents left.out)
    pub err_follows : Follows (err_contents err) (err_contents left.err)
