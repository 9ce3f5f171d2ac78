-- Lists of operands and of open blocks, as the code keeps them.
use Rattle.std.proofs.Common.{◌≡◌, ℕ, ◌-◌, ◌<◌, ◌≤◌, List, [], ◌∷◌, length, drop, reverse, Option, Some, Bool, true, false, eqb, refl, sym, ap, ◌∙◌, arith, length-drop, get_or, map}
use Rattle.std.proofs.lemmas.Bool.{eqb-true}
use Rattle.std.proofs.lemmas.Bool.Decides.{Decides-eqb}
use Rattle.std.proofs.lemmas.List.{length-reverse, get_or-reverse}
use Rattle.std.specs.List.{slice_get}
use Rattle.std.specs.Option.{option_map}
use Rattle.std.proofs.lemmas.Option.{slice_get-map, slice_get_read}
use Rattle.std.proofs.lemmas.Bool.{false≢true}
use Rattle.wasm_syntax.specs.declared.instruction.ValueType.{ValueType}
use Rattle.wasm_syntax.specs.declared.instruction.BlockType.{BlockType}
use Rattle.wasm_valid.specs.declared.control_frames.ControlFrame.{ControlFrame}
use Rattle.wasm_valid.specs.Arities.{results_of}
use Rattle.wasm_valid.specs.internal.Stack.{is_nil}
use Rattle.wasm_valid.specs.internal.Blocks.{label_of}

nil_none : (xs : List (Option ValueType)) → length xs ≡ 0 → is_nil xs ≡ true
nil_none [] e = refl
nil_none (x ∷ xs) e = absurd (omega arith)

nil_some : (xs : List (Option ValueType)) → 0 < length xs → is_nil xs ≡ false
nil_some [] e = absurd (omega arith)
nil_some (x ∷ xs) e = refl

-- none is left above the height exactly where all are below it
pub bare_is : (types : List (Option ValueType)) (height : ℕ) → height ≤ length types → eqb (length types) height ≡ is_nil (reverse (drop height types))
bare_is types height h = by_test (eqb (length types) height) refl where
  by_test : (t : Bool) → eqb (length types) height ≡ t → t ≡ is_nil (reverse (drop height types))
  by_test true e =
      let same : length types ≡ height = eqb-true (length types) height e in
      sym (nil_none (reverse (drop height types)) (omega (arith, length-reverse (drop height types), length-drop height types)))
  by_test false e = sym (nil_some (reverse (drop height types)) (more e)) where
    more : eqb (length types) height ≡ false → 0 < length (reverse (drop height types))
    more e = by_length (eqb (length types) height) e (Decides-eqb (length types) height).1 where
      by_length : (t : Bool) → t ≡ false → (length types ≡ height → t ≡ true) → 0 < length (reverse (drop height types))
      by_length true e f = absurd (false≢true (sym e))
      by_length false e f =
          let other : length types ≡ height → ⊥ = (λ s. false≢true (f s)) in
          omega (arith, other, length-reverse (drop height types), length-drop height types)

-- the label of the block at a place, counted from the innermost
pub label_at : (items : List ControlFrame) (index place : ℕ) (f : ControlFrame) (t : BlockType) → index < length items → place ≡ length items - 1 - index → f ≡ get_or items place f → results_of t ≡ label_of f.kind f.block_type → Some (results_of t) ≡ slice_get (map (λ g. label_of g.kind g.block_type) (reverse items)) index
label_at items index place f t below is here same =
    let there : f ≡ get_or (reverse items) index f = here ∙ ap (λ n. get_or items n f) is ∙ sym (get_or-reverse items index f below) in
    let found : slice_get (reverse items) index ≡ Some f = slice_get_read (reverse items) (length (reverse items)) index f refl (omega (arith, length-reverse items)) there in
    ap Some same ∙ ap (option_map (λ (g : ControlFrame). label_of g.kind g.block_type)) (sym found) ∙ sym (slice_get-map (λ (g : ControlFrame). label_of g.kind g.block_type) (reverse items) index)
