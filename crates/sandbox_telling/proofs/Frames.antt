-- The frames that are told of a run, and the lines that tell of them.
use Rattle.std.proofs.Common.{◌≡◌, ◌<◌, ◌≤◌, ◌+◌, ◌∷◌, ◌++◌, ℕ, zero, suc, List, [], Option, Some, None, length, take, slice_get, get_or, codes, append_assoc, append-nil, refl, sym, ◌∙◌, ap, subst, arith}
use Rattle.std.proofs.lemmas.List.{length-take-le, take_more}
use Rattle.wasm_syntax.specs.declared.module.Module.{Module}
use Rattle.wasm_syntax.specs.declared.profile.Profile.{Profile}
use Rattle.wasm_syntax.specs.Module.{SpellsWith}
use Rattle.wasm_interp.specs.declared.frames.Frame.{Frame}
use Rattle.observed_run.specs.Telling.{TellsFrames}
use Rattle.sandbox_args.specs.Request.{Text}
use Rattle.sandbox_telling.specs.declared.stopping.Stopped.{Stopped}
use Rattle.sandbox_inspect.specs.Sites.{IsSite}
use Rattle.sandbox_telling.specs.Stopping.{AreFrameLines, AreLinesBy, TellsLines, instruction_of, one_more}

-- what the first of a list are, they are in the whole
slice_get_taken : {X : Type 0} (xs : List X) (d k : ℕ) → k < d → slice_get (take d xs) k ≡ slice_get xs k
slice_get_taken xs zero k below = absurd (omega (arith, below))
slice_get_taken [] (suc d) k below = refl
slice_get_taken (x ∷ xs) (suc d) zero below = refl
slice_get_taken (x ∷ xs) (suc d) (suc k) below = slice_get_taken xs d k (omega (arith, below))

length_taken : {X : Type 0} (xs : List X) (d k : ℕ) → k < length (take d xs) → k < length xs
length_taken xs zero k below = absurd (omega (arith, below))
length_taken [] (suc d) k below = below
length_taken (x ∷ xs) (suc d) zero below = omega arith
length_taken (x ∷ xs) (suc d) (suc k) below = let rest = length_taken xs d k (omega (arith, below)) in omega (arith, rest)

-- what was written into a whole room is the room
pub room_left : (n : ℕ) (room rest : List Frame) → length room ≡ n → take n (room ++ rest) ≡ room
room_left n room rest full = subst (λ (k : ℕ). take k (room ++ rest) ≡ room) full (taken_before room rest)
  where
    taken_before : (xs ys : List Frame) → take (length xs) (xs ++ ys) ≡ xs
    taken_before [] ys = refl
    taken_before (x ∷ xs) ys = ap (λ zs. x ∷ zs) (taken_before xs ys)

-- of a room of which the first are taken
pub first_frames : (frames room : List Frame) (depth : ℕ) (stopped : Stopped) → TellsFrames frames room depth → stopped.depth ≡ depth → stopped.innermost.items ≡ take depth room
    → TellsFrames frames stopped.innermost.items stopped.depth
first_frames frames room depth stopped tells depth_is taken = subst (λ (d : ℕ). TellsFrames frames stopped.innermost.items d) (sym depth_is)
    (subst (λ (fs : List Frame). TellsFrames frames fs depth) (sym taken) (record {
      count = tells.count;
      innermost = λ k within there. slice_get_taken room depth k there ∙ tells.innermost k (length_taken room depth k within) there;
    }))

-- ---- their lines

pub nothing_more : (text : Text) → text ≡ text ++ []
nothing_more text = sym (append-nil text)

pub taken_all : (frames : List Frame) (i : ℕ) → length frames ≤ i → take i frames ≡ frames
taken_all [] zero past = refl
taken_all [] (suc i) past = refl
taken_all (f ∷ frames) zero past = absurd (omega (arith, past))
taken_all (f ∷ frames) (suc i) past = ap (λ rest. f ∷ rest) (taken_all frames i (omega (arith, past)))

pub one_line_more : (bytes : List ℕ) (m : Module) (frames : List Frame) (i : ℕ) (d : Frame) (start before after lines site : Text) → i < length frames
    → AreFrameLines bytes m (take i frames) lines → before ≡ start ++ lines → IsSite bytes m (get_or frames i d).own (instruction_of i (get_or frames i d).next) site
    → after ≡ before ++ (codes "frame:" ++ (site ++ codes "\n")) → (more : Text) × AreFrameLines bytes m (take (i + 1) frames) more × (after ≡ start ++ more)
one_line_more bytes m frames i d start before after lines site within so_far begins is adds =
    let frame = get_or frames i d in
    let line = codes "frame:" ++ (site ++ codes "\n") in
    let inside : length (take i frames) ≡ i = length-take-le i frames (omega (arith, within)) in
    let told : AreFrameLines bytes m (take i frames ++ (frame ∷ [])) (lines ++ line) =
    one_more (take i frames) lines frame site so_far (subst (λ (n : ℕ). IsSite bytes m frame.own (instruction_of n frame.next) site) (sym inside) is) in (
      lines ++ line,
      subst (λ (fs : List Frame). AreFrameLines bytes m fs (lines ++ line)) (sym (take_more frames i d within)) told,
      adds ∙ (ap (λ (t : Text). t ++ line) begins ∙ append_assoc start lines line),
    )

-- of the module that the bytes spell
pub lines_told : (p : Profile) (bytes : List ℕ) (m : Module) (most : ℕ) (stopped : Option Stopped) (text : Text) → SpellsWith p bytes m → AreLinesBy bytes m most stopped text → TellsLines p bytes most stopped text
lines_told p bytes m most None text spells lines = lines
lines_told p bytes m most (Some stopped) text spells lines = (m, spells, lines)
