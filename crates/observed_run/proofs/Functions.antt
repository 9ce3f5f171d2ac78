-- One function more is read.
use Rattle.std.proofs.Common.{◌≡◌, ◌+◌, ℕ, zero, suc, Bool, true, List, [], ◌∷◌, ◌++◌, take, map, Some, None, if◌then◌else◌, refl, sym, ap, ◌∙◌, arith}
use Rattle.std.specs.Prelude.{slice_get}
use Rattle.std.specs.Option.{option_map}
use Rattle.std.proofs.lemmas.Option.{slice_get-map}
use Rattle.wasm_interp.specs.declared.frames.Frame.{Frame}

take_one : (xs : List ℕ) (i x : ℕ) → slice_get xs i ≡ Some x → take (suc i) xs ≡ take i xs ++ x ∷ []
take_one [] i x is = cc
take_one (y ∷ xs) zero x is = cc
take_one (y ∷ xs) (suc i) x is = ap (λ (rest : List ℕ). y ∷ rest) (take_one xs i x is)

take_all : (xs : List ℕ) (i : ℕ) → slice_get xs i ≡ None → take i xs ≡ xs
take_all [] zero none = refl
take_all [] (suc i) none = refl
take_all (y ∷ xs) zero none = cc
take_all (y ∷ xs) (suc i) none = ap (λ (rest : List ℕ). y ∷ rest) (take_all xs i none)

abbrev functions : List Frame → List ℕ
functions frames = map (λ (f : Frame). f.own) frames

pub read_one : (frames : List Frame) (index : ℕ) (frame : Frame) (old new : List ℕ) (pushed : Bool) → old ≡ take index (functions frames) → slice_get frames index ≡ Some frame
    → new ≡ (if pushed then old ++ frame.own ∷ [] else old) → pushed ≡ true → new ≡ take (index + 1) (functions frames)
read_one frames index frame old new pushed was is items ok =
    let next : suc index ≡ index + 1 = omega arith in
    items ∙ ap (λ (b : Bool). if b then old ++ frame.own ∷ [] else old) ok ∙ ap (λ (xs : List ℕ). xs ++ frame.own ∷ []) was
    ∙ sym (take_one (functions frames) index frame.own (slice_get-map (λ (f : Frame). f.own) frames index ∙ ap (option_map (λ (f : Frame). f.own)) is))
    ∙ ap (λ (n : ℕ). take n (functions frames)) next

pub read_all : (frames : List Frame) (index : ℕ) (items : List ℕ) → items ≡ take index (functions frames) → slice_get frames index ≡ None → items ≡ functions frames
read_all frames index items was none =
    was ∙ take_all (functions frames) index (slice_get-map (λ (f : Frame). f.own) frames index ∙ ap (option_map (λ (f : Frame). f.own)) none)
