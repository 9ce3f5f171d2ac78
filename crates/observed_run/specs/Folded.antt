-- A profile as folded stacks, the text that tools for flame graphs read: a line for each stack in which units were taken, with its
-- functions, the outermost first, and its units. Where units went to a function below the one that took them, a last line tells so.
use Rattle.std.specs.Prelude.{ℕ, zero, suc, Bool, true, false, ◌<◌, List, [], ◌∷◌, ◌++◌, codes, decimal}
use Rattle.observed_run.specs.declared.stacks.Call.{Call}
use Rattle.observed_run.specs.Stacks.{IsStack}

abbrev pub Text : Type 0
Text = List ℕ

module _ (name : ℕ → Text) where
  -- of functions whose innermost comes first, the outermost first, with a semicolon between two
  abbrev pub stack_text : List ℕ → Text
  stack_text [] = []
  stack_text (function ∷ []) = name function
  stack_text (function ∷ (caller ∷ below)) = stack_text (caller ∷ below) ++ codes ";" ++ name function

  -- and the units that were taken there
  abbrev pub line_text : List ℕ → ℕ → Text
  line_text functions units = stack_text functions ++ codes " " ++ decimal units ++ codes "\n"

-- the last line of stacks that are cut; it is the only one with 0 units
abbrev pub cut_text : Bool → Text
cut_text true = codes "[cut] 0\n"
cut_text false = []

-- The text of these nodes, from this one on, which have these units: a line for each that has some.
pub data IsFolded (calls : List Call) (name : ℕ → Text) : ℕ → List ℕ → Text → Type 0 where
  nothing : (node : ℕ) → IsFolded calls name node [] []
  none : (node : ℕ) (more : List ℕ) (rest : Text) → IsFolded calls name (suc node) more rest → IsFolded calls name node (zero ∷ more) rest
  some : (node units : ℕ) (more functions : List ℕ) (rest : Text) → 0 < units → IsStack calls node functions
      → IsFolded calls name (suc node) more rest → IsFolded calls name node (units ∷ more) (line_text name functions units ++ rest)
