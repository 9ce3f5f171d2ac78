-- Where a run stopped: the lines of its report that tell of the functions that were at work then, and of how its calls were answered
-- (`docs/USING.md`, "The report of a run"). Which functions says `TellsFrames` (`crates/observed_run/specs`), and how many calls
-- `Tallies` (`crates/sandbox_core/specs`); here stands what a line says of them.
use Rattle.std.specs.Prelude.{◌≡◌, ◌⊎◌, ◌+◌, ◌-◌, ◌==◌, ℕ, zero, suc, List, [], ◌∷◌, ◌++◌, drop, length, Option, Some, None, codes, decimal, if◌then◌else◌}
use Rattle.std.specs.List.{concat}
use Rattle.meanings.specs.Tables.{errno_text}
use Rattle.wasm_syntax.specs.declared.module.Module.{Module}
use Rattle.wasm_syntax.specs.declared.profile.Profile.{Profile}
use Rattle.wasm_syntax.specs.Module.{SpellsWith}
use Rattle.wasm_interp.specs.declared.frames.Frame.{Frame}
use Rattle.sandbox_inspect.specs.Sites.{IsSite}
use Rattle.sandbox_args.specs.Request.{Text}
use Rattle.sandbox_telling.specs.declared.stopping.Stopped.{Stopped}

-- the instruction at which a function stands that has so many inside it: the one that comes next, of a caller its call
abbrev pub instruction_of : ℕ → ℕ → ℕ
instruction_of inside next = if inside == 0 then next else next - 1

-- a line for each of these frames, the innermost first
pub data AreFrameLines (bytes : List ℕ) (m : Module) : List Frame → Text → Type 0 where
  none : AreFrameLines bytes m [] []
  one_more : (frames : List Frame) (text : Text) (frame : Frame) (site : Text) → AreFrameLines bytes m frames text
      → IsSite bytes m frame.own (instruction_of (length frames) frame.next) site
      → AreFrameLines bytes m (frames ++ (frame ∷ [])) (text ++ (codes "frame:" ++ (site ++ codes "\n")))

-- how many functions were at work, and a line for each that is told; without frames nothing
abbrev pub AreLinesOf : List ℕ → Module → (most : ℕ) → Stopped → Text → Type 0
AreLinesOf bytes m zero stopped text = text ≡ []
AreLinesOf bytes m (suc most) stopped text =
    (lines : Text) × AreFrameLines bytes m stopped.innermost.items lines × (text ≡ (codes "frames:" ++ (decimal stopped.depth ++ codes "\n")) ++ lines)

-- the line of an errno that so many calls were answered with: its number, how many, and what it means by the register
abbrev pub answer_line : (errno count : ℕ) → Text
answer_line errno count = if count == 0 then [] else
    concat (codes "answered:" ∷ decimal errno ∷ codes " " ∷ decimal count ∷ codes " " ∷ errno_text errno ∷ codes "\n" ∷ [])

-- a line for each errno from this one on that calls were answered with, where these are their counts
abbrev pub answers_from : ℕ → List ℕ → Text
answers_from errno [] = []
answers_from errno (count ∷ counts) = answer_line errno count ++ answers_from (errno + 1) counts

-- the same of all but success, which is the first
abbrev pub answers_text : List ℕ → Text
answers_text counts = answers_from 1 (drop 1 counts)

-- what is told of a run that didn't begin
abbrev pub AreLinesOfNone : Text → Type 0
AreLinesOfNone text = (text ≡ []) ⊎ (text ≡ codes "frames:0\n")

-- where it stopped, and behind that how its calls were answered
abbrev pub HasLines : List ℕ → Module → (most : ℕ) → Stopped → Text → Type 0
HasLines bytes m most stopped text = (frames : Text) × AreLinesOf bytes m most stopped frames × (text ≡ frames ++ answers_text stopped.answers)

-- What is told of a run of this module, or nothing where memory was refused.
abbrev pub AreLinesBy : List ℕ → Module → (most : ℕ) → Option Stopped → Text → Type 0
AreLinesBy bytes m most None text = AreLinesOfNone text
AreLinesBy bytes m most (Some stopped) text = (text ≡ []) ⊎ HasLines bytes m most stopped text

-- the same of the module that the bytes spell
abbrev pub TellsLines : Profile → List ℕ → (most : ℕ) → Option Stopped → Text → Type 0
TellsLines p bytes most None text = AreLinesOfNone text
TellsLines p bytes most (Some stopped) text = (m : Module) × SpellsWith p bytes m × ((text ≡ []) ⊎ HasLines bytes m most stopped text)
