-- The open blocks, as the code keeps them, and what it does to them.
use Rattle.std.proofs.Common.{◌≡◌, ℕ, zero, suc, ◌+◌, ◌<◌, ◌≤◌, List, [], ◌∷◌, ◌++◌, length, take, drop, reverse, length-append, Option, Some, None, Bool, true, false, ◌&&◌, refl, sym, ap, ◌∙◌, subst, arith}
use Rattle.std.specs.List.{slice_get}
use Rattle.std.proofs.Math.ListN.{set}
use Rattle.std.specs.Option.{MatchOption}
use Rattle.std.proofs.lemmas.List.{take_at, drop_at, reverse-reverse, reverse-append}
use Rattle.wasm_syntax.specs.declared.instruction.ValueType.{ValueType}
use Rattle.wasm_syntax.specs.declared.instruction.BlockType.{BlockType}
use Rattle.wasm_syntax.specs.declared.instruction.Instruction.{Instruction}
use Rattle.wasm_valid.specs.declared.control_frames.ControlFrame.{ControlFrame}
use Rattle.wasm_valid.specs.declared.control_frames.BlockKind.{BlockKind}
use Rattle.wasm_valid.specs.declared.control_frames.BlockKind.TheVariants.{Block}
use Rattle.wasm_valid.specs.Arities.{results_of}
use Rattle.wasm_valid.specs.Typing.{Context, Labels}
use Rattle.wasm_valid.specs.internal.Stack.{Stack, nothing, pop, push, can_be, if_true}
use Rattle.wasm_valid.specs.internal.Effects.{after}
use Rattle.wasm_valid.specs.internal.Blocks.{OpenBlock, label_of, labels_of, new_block, with_stack, may_end, ends, is_if, on_stack, opened_in, popped_in, ended_in, elsed_in, plain_in, is_finished}
use Rattle.wasm_valid.specs.internal.Operands.{Operands, operands, stack_of, split_at, blocks_of, control_frame_labels, AreNested, StepsTo}

-- ---- the innermost block

pub labels_are : (fs : List ControlFrame) (o : Operands) → labels_of (blocks_of o fs) ≡ control_frame_labels fs
labels_are [] o = refl
labels_are (f ∷ fs) o = ap (λ (ls : Labels). label_of f.kind f.block_type ∷ ls) (labels_are fs (split_at f.around.height f.around.unreachable o.below))

-- another stack, above the same
abbrev top : Operands → ControlFrame → List ControlFrame → OpenBlock
top o f fs = record { kind = f.kind; block_type = f.block_type; stack = o.stack }

abbrev others : Operands → ControlFrame → List ControlFrame → List OpenBlock
others o f fs = blocks_of (split_at f.around.height f.around.unreachable o.below) fs

restacked : (o p : Operands) (f : ControlFrame) (fs : List ControlFrame) → p.below ≡ o.below → with_stack (top o f fs) p.stack ∷ others o f fs ≡ blocks_of p (f ∷ fs)
restacked o p f fs same =
    ap (λ (below : List (Option ValueType)). with_stack (top o f fs) p.stack ∷ blocks_of (split_at f.around.height f.around.unreachable below) fs) (sym same)

on_top : (o p : Operands) (f : ControlFrame) (fs : List ControlFrame) (t : Bool) (r : Option Stack) → p.below ≡ o.below → StepsTo t r p.stack → StepsTo t (on_stack (top o f fs) (others o f fs) r) (blocks_of p (f ∷ fs))
on_top o p f fs true r same e = ap (on_stack (top o f fs) (others o f fs)) e ∙ ap Some (restacked o p f fs same)
on_top o p f fs false r same e = ap (on_stack (top o f fs) (others o f fs)) e

pub pop_answers : (v : ValueType) (o p : Operands) (fs : List ControlFrame) (t : Bool) → 0 < length fs → p.below ≡ o.below → StepsTo t (pop v o.stack) p.stack → StepsTo t (popped_in v (blocks_of o fs)) (blocks_of p fs)
pop_answers v o p [] t some same e = absurd (omega arith)
pop_answers v o p (f ∷ fs) t some same e = on_top o p f fs t (pop v o.stack) same e

pub plain_answers : (c : Context) (i : Instruction) (o p : Operands) (fs : List ControlFrame) (t : Bool) → 0 < length fs → p.below ≡ o.below → StepsTo t (after c (control_frame_labels fs) i o.stack) p.stack → StepsTo t (plain_in c i (blocks_of o fs)) (blocks_of p fs)
plain_answers c i o p [] t some same e = absurd (omega arith)
plain_answers c i o p (f ∷ fs) t some same e =
    on_top o p f fs t (after c (labels_of (blocks_of o (f ∷ fs))) i o.stack) same (subst (λ (ls : Labels). StepsTo t (after c ls i o.stack) p.stack) (sym (labels_are (f ∷ fs) o)) e)

pub nested_still : (o p : Operands) (fs : List ControlFrame) → p.below ≡ o.below → (0 < length fs) × AreNested o.below fs → (0 < length fs) × AreNested p.below fs
nested_still o p fs same h = (h.0, subst (λ (b : List (Option ValueType)). AreNested b fs) (sym same) h.1)

-- ---- the beginning of a block

entered : (o : Operands) → split_at (length o.below) o.stack.unreachable (o.below ++ reverse o.stack.known) ≡ o
entered o =
    let under : take (length o.below) (o.below ++ reverse o.stack.known) ≡ o.below = take_at o.below (reverse o.stack.known) (length o.below) refl in
    let over : drop (length o.below) (o.below ++ reverse o.stack.known) ≡ reverse o.stack.known = drop_at o.below (reverse o.stack.known) (length o.below) refl in
    ap (λ (b : List (Option ValueType)). operands b (stack_of (drop (length o.below) (o.below ++ reverse o.stack.known)) o.stack.unreachable)) under
    ∙ ap (λ (k : List (Option ValueType)). operands o.below (record { known = k; unreachable = o.stack.unreachable })) (ap reverse over ∙ reverse-reverse o.stack.known)

abbrev pub entering : BlockKind → BlockType → Operands → ControlFrame
entering k t o = record { kind = k; block_type = t; around = record { height = length o.below; unreachable = o.stack.unreachable } }

pub open_answers : (k : BlockKind) (t : BlockType) (o p : Operands) (fs gs : List ControlFrame) → 0 < length fs → gs ≡ entering k t o ∷ fs → p ≡ operands (o.below ++ reverse o.stack.known) nothing → opened_in k t (blocks_of o fs) ≡ Some (blocks_of p gs)
open_answers k t o p [] gs some are is = absurd (omega arith)
open_answers k t o p (f ∷ fs) gs some are is =
    let made : blocks_of (operands (o.below ++ reverse o.stack.known) nothing) (entering k t o ∷ f ∷ fs) ≡ new_block k t ∷ blocks_of o (f ∷ fs) =
    ap (λ (q : Operands). new_block k t ∷ blocks_of q (f ∷ fs)) (entered o) in
    ap Some (sym made ∙ ap (λ (q : Operands). blocks_of q (entering k t o ∷ f ∷ fs)) (sym is) ∙ ap (blocks_of p) (sym are))

pub open_nested : (k : BlockKind) (t : BlockType) (o p : Operands) (fs gs : List ControlFrame) → AreNested o.below fs → gs ≡ entering k t o ∷ fs → p ≡ operands (o.below ++ reverse o.stack.known) nothing → (0 < length gs) × AreNested p.below gs
open_nested k t o p fs gs nested are is =
    let under : take (length o.below) (o.below ++ reverse o.stack.known) ≡ o.below = take_at o.below (reverse o.stack.known) (length o.below) refl in
    let made : AreNested (o.below ++ reverse o.stack.known) (entering k t o ∷ fs) = (omega (arith, length-append o.below (reverse o.stack.known)), subst (λ (b : List (Option ValueType)). AreNested b fs) (sym under) nested) in
    let whole = subst (λ (q : Operands). AreNested q.below (entering k t o ∷ fs)) (sym is) made in
    (subst (λ (hs : List ControlFrame). 0 < length hs) (sym are) (omega arith), subst (AreNested p.below) (sym are) whole)

-- ---- the end of a block

pub head_is : (fs : List ControlFrame) (f : ControlFrame) → Some f ≡ slice_get fs 0 → (rest : List ControlFrame) × (fs ≡ f ∷ rest)
head_is [] f e = cc
head_is (g ∷ rest) f e = let same : g ≡ f = cc in (rest, ap (λ (h : ControlFrame). h ∷ rest) same)

-- of the frames, the innermost
abbrev pub IsHead : List ControlFrame → ControlFrame → Type 0
IsHead fs f = Some f ≡ slice_get fs 0

if_false : {A : Type 0} (t : Bool) (x : A) → t ≡ false → if_true t x ≡ None
if_false true x e = cc
if_false false x e = refl

and_false_left : (a b : Bool) → a ≡ false → a && b ≡ false
and_false_left true b e = cc
and_false_left false b e = refl

and_false_right : (a b : Bool) → b ≡ false → a && b ≡ false
and_false_right true b e = e
and_false_right false b e = refl

and_both : (a b : Bool) → a ≡ true → b ≡ true → a && b ≡ true
and_both true b p q = q
and_both false b p q = cc

not_ended : (o : Operands) (f : ControlFrame) (fs : List ControlFrame) → ends (top o f fs) ≡ false → ended_in (blocks_of o (f ∷ fs)) ≡ None
not_ended o f [] e = refl
not_ended o f (g ∷ fs) e = if_false (ends (top o f (g ∷ fs))) _ e

pub end_of_few : (o : Operands) (fs : List ControlFrame) → length fs < 2 → ended_in (blocks_of o fs) ≡ None
end_of_few o [] few = refl
end_of_few o (f ∷ []) few = refl
end_of_few o (f ∷ g ∷ fs) few = absurd (omega arith)

pub end_of_if : (o : Operands) (fs : List ControlFrame) (f : ControlFrame) → IsHead fs f → may_end f.kind f.block_type ≡ false → ended_in (blocks_of o fs) ≡ None
end_of_if o fs f is e =
    let h = head_is fs f is in
    subst (λ (gs : List ControlFrame). ended_in (blocks_of o gs) ≡ None) (sym h.1) (not_ended o f h.0 (and_false_left (may_end f.kind f.block_type) (can_be (results_of f.block_type) o.stack) e))

pub end_of_other : (o : Operands) (fs : List ControlFrame) (f : ControlFrame) → IsHead fs f → can_be (results_of f.block_type) o.stack ≡ false → ended_in (blocks_of o fs) ≡ None
end_of_other o fs f is e =
    let h = head_is fs f is in
    subst (λ (gs : List ControlFrame). ended_in (blocks_of o gs) ≡ None) (sym h.1) (not_ended o f h.0 (and_false_right (may_end f.kind f.block_type) (can_be (results_of f.block_type) o.stack) e))

pub end_answers : (o p q r : Operands) (fs gs : List ControlFrame) (f : ControlFrame) → 2 ≤ length fs → fs ≡ f ∷ gs → may_end f.kind f.block_type ≡ true → can_be (results_of f.block_type) o.stack ≡ true → p.below ≡ o.below
    → q ≡ split_at f.around.height f.around.unreachable p.below → r.below ≡ q.below → r.stack ≡ push (results_of f.block_type) q.stack → ended_in (blocks_of o fs) ≡ Some (blocks_of r gs)
end_answers o p q r fs [] f few are e h same is_q is_b is_s = absurd (omega (arith, ap length are))
end_answers o p q r fs (g ∷ gs) f few are e h same is_q is_b is_s =
    let d = split_at f.around.height f.around.unreachable o.below in
    let b = top o f (g ∷ gs) in
    let n = top d g gs in
    let to = operands d.below (push (results_of f.block_type) d.stack) in
    let one : ended_in (blocks_of o (f ∷ g ∷ gs)) ≡ Some (blocks_of to (g ∷ gs)) = ap (λ (t : Bool). if_true t (with_stack n (push (results_of f.block_type) d.stack) ∷ others d g gs)) (and_both (may_end f.kind f.block_type) (can_be (results_of f.block_type) o.stack) e h) in
    let is_d : q ≡ d = is_q ∙ ap (split_at f.around.height f.around.unreachable) same in
    let is_to : r ≡ to = ap (λ (b : List (Option ValueType)). operands b r.stack) is_b ∙ ap (operands q.below) is_s ∙ ap (λ (x : Operands). operands x.below (push (results_of f.block_type) x.stack)) is_d in
    ap (λ (l : List ControlFrame). ended_in (blocks_of o l)) are ∙ one ∙ ap (λ (x : Operands). Some (blocks_of x (g ∷ gs))) (sym is_to)

-- what was popped is the head
pub popped_head : (r : Option ControlFrame) (fs gs : List ControlFrame) (f : ControlFrame) → MatchOption r (fs ≡ []) (λ g. fs ≡ g ∷ gs) → IsHead fs f → fs ≡ f ∷ gs
popped_head None fs gs f e is = let h = head_is fs f is in let k = h.1 in cc
popped_head (Some g) fs gs f are is =
    let h = head_is fs f is in
    let k = h.1 in
    let same : g ≡ f = cc in
    are ∙ ap (λ (x : ControlFrame). x ∷ gs) same

pub height_fits : (o p : Operands) (fs gs : List ControlFrame) (f : ControlFrame) → AreNested o.below fs → fs ≡ f ∷ gs → p.below ≡ o.below → f.around.height ≤ length p.below
height_fits o p fs gs f nested are same =
    let h = (subst (AreNested o.below) are nested).0 in omega (arith, h, ap length same)

pub end_nested : (o p q r : Operands) (fs gs : List ControlFrame) (f : ControlFrame) → AreNested o.below fs → 2 ≤ length fs → fs ≡ f ∷ gs → p.below ≡ o.below → q ≡ split_at f.around.height f.around.unreachable p.below → r.below ≡ q.below → (0 < length gs) × AreNested r.below gs
end_nested o p q r fs gs f nested few are same is_q is_r =
    let n = (subst (AreNested o.below) are nested).1 in
    let below : take f.around.height o.below ≡ r.below = ap (take f.around.height) (sym same) ∙ ap (λ (x : Operands). x.below) (sym is_q) ∙ sym is_r in
    (omega (arith, ap length are), subst (λ (b : List (Option ValueType)). AreNested b gs) below n)

-- ---- an else

pub no_else : (o : Operands) (fs : List ControlFrame) (f : ControlFrame) → IsHead fs f → is_if f.kind ≡ false → elsed_in (blocks_of o fs) ≡ None
no_else o fs f is e =
    let h = head_is fs f is in
    subst (λ (gs : List ControlFrame). elsed_in (blocks_of o gs) ≡ None) (sym h.1) (if_false (is_if f.kind && can_be (results_of f.block_type) o.stack) _ (and_false_left (is_if f.kind) (can_be (results_of f.block_type) o.stack) e))

pub no_else_yet : (o : Operands) (fs : List ControlFrame) (f : ControlFrame) → IsHead fs f → can_be (results_of f.block_type) o.stack ≡ false → elsed_in (blocks_of o fs) ≡ None
no_else_yet o fs f is e =
    let h = head_is fs f is in
    subst (λ (gs : List ControlFrame). elsed_in (blocks_of o gs) ≡ None) (sym h.1) (if_false (is_if f.kind && can_be (results_of f.block_type) o.stack) _ (and_false_right (is_if f.kind) (can_be (results_of f.block_type) o.stack) e))

abbrev pub restarted : ControlFrame → ControlFrame
restarted f = record { kind = Block; block_type = f.block_type; around = f.around }

pub else_answers : (o p q : Operands) (fs gs : List ControlFrame) (f : ControlFrame) → IsHead fs f → is_if f.kind ≡ true → can_be (results_of f.block_type) o.stack ≡ true → p.below ≡ o.below → q ≡ operands p.below nothing → gs ≡ restarted f ∷ drop 1 fs → elsed_in (blocks_of o fs) ≡ Some (blocks_of q gs)
else_answers o p q fs gs f is e h same is_q are =
    let k = head_is fs f is in
    let one : elsed_in (blocks_of o (f ∷ k.0)) ≡ Some (blocks_of (operands o.below nothing) (restarted f ∷ k.0)) = ap (λ (t : Bool). if_true t (new_block Block f.block_type ∷ others o f k.0)) (and_both (is_if f.kind) (can_be (results_of f.block_type) o.stack) e h) in
    let same_q : operands o.below nothing ≡ q = ap (λ (b : List (Option ValueType)). operands b nothing) (sym same) ∙ sym is_q in
    let same_gs : restarted f ∷ k.0 ≡ gs = ap (λ (l : List ControlFrame). restarted f ∷ drop 1 l) (sym k.1) ∙ sym are in
    ap (λ (l : List ControlFrame). elsed_in (blocks_of o l)) k.1 ∙ one ∙ ap (λ (x : Operands). Some (blocks_of x (restarted f ∷ k.0))) same_q ∙ ap (λ (l : List ControlFrame). Some (blocks_of q l)) same_gs

pub else_nested : (o p q : Operands) (fs gs : List ControlFrame) (f : ControlFrame) → AreNested o.below fs → IsHead fs f → p.below ≡ o.below → q.below ≡ p.below → gs ≡ restarted f ∷ drop 1 fs → (0 < length gs) × AreNested q.below gs
else_nested o p q fs gs f nested is same is_q are =
    let k = head_is fs f is in
    let same_gs : restarted f ∷ k.0 ≡ gs = ap (λ (l : List ControlFrame). restarted f ∷ drop 1 l) (sym k.1) ∙ sym are in
    let n : AreNested o.below (restarted f ∷ k.0) = subst (AreNested o.below) k.1 nested in
    (subst (λ (l : List ControlFrame). 0 < length l) same_gs (omega arith), subst (AreNested q.below) same_gs (subst (λ (b : List (Option ValueType)). AreNested b (restarted f ∷ k.0)) (sym (is_q ∙ same)) n))

-- ---- the end of the body

pub not_finished : (o : Operands) (fs : List ControlFrame) → 1 < length fs → false ≡ is_finished (blocks_of o fs)
not_finished o [] many = absurd (omega arith)
not_finished o (f ∷ []) many = absurd (omega arith)
not_finished o (f ∷ g ∷ fs) many = refl

pub no_head : (fs : List ControlFrame) → 0 < length fs → None ≡ slice_get fs 0 → ⊥
no_head [] some e = absurd (omega arith)
no_head (f ∷ fs) some e = cc

pub finish_of_if : (o : Operands) (fs : List ControlFrame) (f : ControlFrame) → IsHead fs f → may_end f.kind f.block_type ≡ false → false ≡ is_finished (blocks_of o fs)
finish_of_if o fs f is e =
    let h = head_is fs f is in subst (λ (gs : List ControlFrame). false ≡ is_finished (blocks_of o gs)) (sym h.1) (by_rest h.0) where
      by_rest : (rest : List ControlFrame) → false ≡ is_finished (blocks_of o (f ∷ rest))
      by_rest [] = sym (and_false_left (may_end f.kind f.block_type) (can_be (results_of f.block_type) o.stack) e)
      by_rest (g ∷ rest) = refl

pub finish_is : (o : Operands) (fs : List ControlFrame) (f : ControlFrame) (t : Bool) → length fs ≤ 1 → IsHead fs f → may_end f.kind f.block_type ≡ true → t ≡ can_be (results_of f.block_type) o.stack → t ≡ is_finished (blocks_of o fs)
finish_is o fs f t few is e h =
    let k = head_is fs f is in subst (λ (gs : List ControlFrame). t ≡ is_finished (blocks_of o gs)) (sym k.1) (by_rest k.0 (omega (arith, ap length k.1))) where
      by_rest : (rest : List ControlFrame) → length (f ∷ rest) ≤ 1 → t ≡ is_finished (blocks_of o (f ∷ rest))
      by_rest [] few = h ∙ ap (λ (m : Bool). m && can_be (results_of f.block_type) o.stack) (sym e)
      by_rest (g ∷ rest) few = absurd (omega arith)

-- ---- the last of a list

pub last_set : {A : Type 0} (xs : List A) (n : ℕ) (x : A) → length xs ≡ n + 1 → reverse (set xs n x) ≡ x ∷ drop 1 (reverse xs)
last_set {A} xs n x long =
    let h = parted xs n long in
    ap reverse h.3 ∙ reverse-append h.0 (x ∷ []) ∙ ap (λ (l : List A). x ∷ l) (sym (ap (drop 1) (ap reverse h.2 ∙ reverse-append h.0 (h.1 ∷ [])))) where
      parted : (xs : List A) (n : ℕ) → length xs ≡ n + 1 → (front : List A) × (y : A) × (xs ≡ front ++ y ∷ []) × (set xs n x ≡ front ++ x ∷ [])
      parted [] n long = absurd (omega arith)
      parted (y ∷ []) zero long = ([], y, refl, refl)
      parted (y ∷ []) (suc n) long = absurd (omega arith)
      parted (y ∷ z ∷ zs) zero long = absurd (omega arith)
      parted (y ∷ z ∷ zs) (suc n) long =
          let r = parted (z ∷ zs) n (omega arith) in
          (y ∷ r.0, r.1, ap (λ (l : List A). y ∷ l) r.2, ap (λ (l : List A). y ∷ l) r.3)
