-- A stack that a walk knows in part stands for the stacks that fit it. What each instruction makes of it stands for
-- exactly what the typings of the instruction leave.
use Rattle.std.proofs.Common.{◌≡◌, List, [], ◌∷◌, ◌++◌, Option, Some, None, Bool, true, false, refl, sym, ap, ◌∙◌, subst}
use Rattle.std.specs.Option.{option_map, option_and_then}
use Rattle.wasm_syntax.specs.declared.instruction.ValueType.{ValueType}
use Rattle.wasm_syntax.specs.declared.instruction.ValueType.TheVariants.{I32, I64, F32, F64}
use Rattle.wasm_valid.specs.Typing.{Moves, Leaves}
use Rattle.wasm_valid.specs.internal.Fits.{Agrees, FitsList, FitsTypes}
use Rattle.wasm_valid.specs.internal.Stack.{Stack, anything, if_true, when, is_same, agrees, pop_any_of, pop_any, pop, pops, push_any, push, moved, left, dropped, meet, select_from, selected, is_emptied, can_be}

-- ---- answers that may be none

pub and_then_some : {A B : Type 0} (f : A → Option B) (o : Option A) (r : B) → option_and_then f o ≡ Some r → (m : A) × (o ≡ Some m) × (f m ≡ Some r)
and_then_some f None r e = cc
and_then_some f (Some m) r e = (m, refl, e)

pub map_some : {A B : Type 0} (f : A → B) (o : Option A) (r : B) → option_map f o ≡ Some r → (m : A) × (o ≡ Some m) × (f m ≡ r)
map_some f None r e = cc
map_some f (Some m) r e = (m, refl, cc)

pub if_true_some : {A : Type 0} (b : Bool) (x r : A) → if_true b x ≡ Some r → (b ≡ true) × (x ≡ r)
if_true_some true x r e = (refl, cc)
if_true_some false x r e = cc

-- ---- types

pub is_same_true : (t u : ValueType) → is_same t u ≡ true → t ≡ u
is_same_true I32 I32 e = refl
is_same_true I64 I64 e = refl
is_same_true F32 F32 e = refl
is_same_true F64 F64 e = refl
is_same_true t u e = cc

pub is_same_same : (t u : ValueType) → t ≡ u → is_same t u ≡ true
is_same_same I32 I32 e = refl
is_same_same I64 I64 e = refl
is_same_same F32 F32 e = refl
is_same_same F64 F64 e = refl
is_same_same t u e = cc

agrees_true : (o : Option ValueType) (t : ValueType) → agrees o t ≡ true → Agrees o t
agrees_true None t e = tt
agrees_true (Some u) t e = is_same_true u t e

agrees_same : (o : Option ValueType) (t : ValueType) → Agrees o t → agrees o t ≡ true
agrees_same None t e = refl
agrees_same (Some u) t e = is_same_same u t e

-- ---- the top

any_complete : (os : List (Option ValueType)) (u : Bool) (t : ValueType) (ts : List ValueType) → FitsList os u (t ∷ ts) → (p : Option ValueType × Stack) × (pop_any_of os u ≡ Some p) × Agrees p.0 t × FitsTypes p.1 ts
any_complete [] false t ts f = cc
any_complete [] true t ts f = ((None, anything), refl, tt, tt)
any_complete (o ∷ os) u t ts f = ((o, record { known = os; unreachable = u }), refl, f.0, f.1)

any_sound : (os : List (Option ValueType)) (u : Bool) (p : Option ValueType × Stack) (t : ValueType) (ts : List ValueType) → pop_any_of os u ≡ Some p → Agrees p.0 t → FitsTypes p.1 ts → FitsList os u (t ∷ ts)
any_sound [] false p t ts e a f = cc
any_sound [] true p t ts e a f = tt
any_sound (o ∷ os) u p t ts e a f =
    let q : Option ValueType × Stack = (o, record { known = os; unreachable = u }) in
    let g : q ≡ p = cc in
    (subst (λ (y : Option ValueType × Stack). Agrees y.0 t) (sym g) a, subst (λ (y : Option ValueType × Stack). FitsTypes y.1 ts) (sym g) f)

pub pop_complete : (s : Stack) (t : ValueType) (ts : List ValueType) → FitsTypes s (t ∷ ts) → (r : Stack) × (pop t s ≡ Some r) × FitsTypes r ts
pop_complete s t ts f =
    let p = any_complete s.known s.unreachable t ts f in
    (p.0.1, ap (option_and_then (λ (y : Option ValueType × Stack). if_true (agrees y.0 t) y.1)) p.1 ∙ ap (λ (b : Bool). if_true b p.0.1) (agrees_same p.0.0 t p.2), p.3)

pub pop_sound : (s r : Stack) (t : ValueType) (ts : List ValueType) → pop t s ≡ Some r → FitsTypes r ts → FitsTypes s (t ∷ ts)
pop_sound s r t ts e f =
    let p = and_then_some (λ (y : Option ValueType × Stack). if_true (agrees y.0 t) y.1) (pop_any s) r e in
    let q = if_true_some (agrees p.0.0 t) p.0.1 r p.2 in
    any_sound s.known s.unreachable p.0 t ts p.1 (agrees_true p.0.0 t q.0) (subst (λ (y : Stack). FitsTypes y ts) (sym q.1) f)

pub pops_complete : (takes : List ValueType) (s : Stack) (ts : List ValueType) → FitsTypes s (takes ++ ts) → (r : Stack) × (pops takes s ≡ Some r) × FitsTypes r ts
pops_complete [] s ts f = (s, refl, f)
pops_complete (t ∷ takes) s ts f =
    let p = pop_complete s t (takes ++ ts) f in
    let q = pops_complete takes p.0 ts p.2 in
    (q.0, ap (option_and_then (pops takes)) p.1 ∙ q.1, q.2)

pub pops_sound : (takes : List ValueType) (s r : Stack) (ts : List ValueType) → pops takes s ≡ Some r → FitsTypes r ts → FitsTypes s (takes ++ ts)
pops_sound [] s r ts e f = let g : s ≡ r = cc in subst (λ (y : Stack). FitsTypes y ts) (sym g) f
pops_sound (t ∷ takes) s r ts e f =
    let m = and_then_some (pops takes) (pop t s) r e in
    pop_sound s m.0 t (takes ++ ts) m.1 (pops_sound takes m.0 r ts m.2 f)

pub push_complete : (gives : List ValueType) (s : Stack) (ts : List ValueType) → FitsTypes s ts → FitsTypes (push gives s) (gives ++ ts)
push_complete [] s ts f = f
push_complete (t ∷ gives) s ts f = (refl, push_complete gives s ts f)

pub push_sound : (gives : List ValueType) (s : Stack) (b : List ValueType) → FitsTypes (push gives s) b → (ts : List ValueType) × (b ≡ gives ++ ts) × FitsTypes s ts
push_sound [] s b f = (b, refl, f)
push_sound (t ∷ gives) s [] f = absurd f
push_sound (t ∷ gives) s (u ∷ b) f =
    let p = push_sound gives s b f.1 in
    (p.0, (let h = f.0 in let h1 = p.1 in cc), p.2)

-- some type agrees, and some list fits
some_type : (o : Option ValueType) → (t : ValueType) × Agrees o t
some_type None = (I32, tt)
some_type (Some u) = (u, refl)

some_list : (os : List (Option ValueType)) (u : Bool) → (ts : List ValueType) × FitsList os u ts
some_list [] false = ([], refl)
some_list [] true = ([], tt)
some_list (o ∷ os) u = let t = some_type o in let r = some_list os u in (t.0 ∷ r.0, (t.1, r.1))

pub some_fit : (s : Stack) → (ts : List ValueType) × FitsTypes s ts
some_fit s = some_list s.known s.unreachable

-- ---- what is on the stack at the end of a block

emptied_fits : (os : List (Option ValueType)) (u : Bool) → is_emptied (Some (record { known = os; unreachable = u })) ≡ true → FitsList os u []
emptied_fits [] false e = refl
emptied_fits [] true e = tt
emptied_fits (o ∷ os) u e = cc

fits_emptied : (os : List (Option ValueType)) (u : Bool) → FitsList os u [] → is_emptied (Some (record { known = os; unreachable = u })) ≡ true
fits_emptied [] false e = refl
fits_emptied [] true e = refl
fits_emptied (o ∷ os) u e = absurd e

emptied_some : (o : Option Stack) → is_emptied o ≡ true → (r : Stack) × (o ≡ Some r) × FitsTypes r []
emptied_some None e = cc
emptied_some (Some r) e = (r, refl, emptied_fits r.known r.unreachable e)

no_more : (ts : List ValueType) → ts ++ [] ≡ ts
no_more [] = refl
no_more (t ∷ ts) = ap (λ (l : List ValueType). t ∷ l) (no_more ts)

pub can_be_fits : (ts : List ValueType) (s : Stack) → can_be ts s ≡ true → FitsTypes s ts
can_be_fits ts s e =
    let r = emptied_some (pops ts s) e in
    subst (λ (l : List ValueType). FitsTypes s l) (no_more ts) (pops_sound ts s r.0 [] r.1 r.2)

pub fits_can_be : (ts : List ValueType) (s : Stack) → FitsTypes s ts → can_be ts s ≡ true
fits_can_be ts s f =
    let r = pops_complete ts s [] (subst (λ (l : List ValueType). FitsTypes s l) (sym (no_more ts)) f) in
    ap is_emptied r.1 ∙ fits_emptied r.0.known r.0.unreachable r.2

-- ---- what goes from one stack to another

-- what this makes of a stack is what the relation leaves of what fits it
pub record ComputesTyping (R : List ValueType → List ValueType → Type 0) (s : Stack) (o : Option Stack) : Type 0 where
  pub complete : (a b : List ValueType) → FitsTypes s a → R a b → (r : Stack) × (o ≡ Some r) × FitsTypes r b
  pub sound : (r : Stack) (b : List ValueType) → o ≡ Some r → FitsTypes r b → (a : List ValueType) × FitsTypes s a × R a b

pub ComputesTyping-same : (R Q : List ValueType → List ValueType → Type 0) (s : Stack) (o : Option Stack) → ((a b : List ValueType) → R a b → Q a b) → ((a b : List ValueType) → Q a b → R a b) → ComputesTyping R s o → ComputesTyping Q s o
ComputesTyping-same R Q s o to from w = record {
  complete = λ a b f q. w.complete a b f (from a b q);
  sound = λ r b e f. let x = w.sound r b e f in (x.0, x.1, to x.0 b x.2);
}

pub ComputesTyping-is : (R : List ValueType → List ValueType → Type 0) (s : Stack) (o p : Option Stack) → o ≡ p → ComputesTyping R s o → ComputesTyping R s p
ComputesTyping-is R s o p e w = subst (ComputesTyping R s) e w

-- what there is only with some value
pub ComputesTyping-with : {A : Type 0} (R : A → List ValueType → List ValueType → Type 0) (s : Stack) (g : A → Option Stack) (o : Option A) → ((x : A) → ComputesTyping (R x) s (g x)) → ComputesTyping (λ a b. (x : A) × (o ≡ Some x) × R x a b) s (option_and_then g o)
ComputesTyping-with {A} R s g None w = record {
  complete = λ a b f q. let e = q.1 in cc;
  sound = λ r b e f. cc;
}
ComputesTyping-with {A} R s g (Some y) w = record {
  complete = λ a b f q. let h = q.1 in let e : q.0 ≡ y = cc in (w y).complete a b f (subst (λ (x : A). R x a b) e q.2);
  sound = λ r b e f. let x = (w y).sound r b e f in (x.0, x.1, (y, refl, x.2));
}

-- what there is only where a test holds
pub ComputesTyping-when : (R : List ValueType → List ValueType → Type 0) (s : Stack) (g : Option Stack) (t : Bool) → ComputesTyping R s g → ComputesTyping (λ a b. (t ≡ true) × R a b) s (when t g)
ComputesTyping-when R s g true w = record {
  complete = λ a b f q. w.complete a b f q.1;
  sound = λ r b e f. let x = w.sound r b e f in (x.0, x.1, (refl, x.2));
}
ComputesTyping-when R s g false w = record {
  complete = λ a b f q. let h = q.0 in cc;
  sound = λ r b e f. cc;
}

pub ComputesTyping-never : (R : List ValueType → List ValueType → Type 0) (s : Stack) → ((a b : List ValueType) → R a b → ⊥) → ComputesTyping R s None
ComputesTyping-never R s never = record {
  complete = λ a b f q. absurd (never a b q);
  sound = λ r b e f. cc;
}

pub moved_walks : (takes gives : List ValueType) (s : Stack) → ComputesTyping (λ a b. Moves takes gives a b) s (moved takes gives s)
moved_walks takes gives s = record {
  complete = λ a b f m.
      let p = pops_complete takes s m.0 (subst (λ (y : List ValueType). FitsTypes s y) m.1 f) in
      (push gives p.0, ap (option_map (push gives)) p.1, subst (λ (y : List ValueType). FitsTypes (push gives p.0) y) (sym m.2) (push_complete gives p.0 m.0 p.2));
  sound = λ r b e f.
      let m = map_some (push gives) (pops takes s) r e in
      let q = push_sound gives m.0 b (subst (λ (y : Stack). FitsTypes y b) (sym m.2) f) in
      (takes ++ q.0, pops_sound takes s m.0 q.0 m.1 q.2, (q.0, refl, q.1));
}

pub left_walks : (takes : List ValueType) (s : Stack) → ComputesTyping (λ a b. Leaves takes a) s (left takes s)
left_walks takes s = record {
  complete = λ a b f m.
      let p = pops_complete takes s m.0 (subst (λ (y : List ValueType). FitsTypes s y) m.1 f) in
      (anything, ap (option_map (λ (y : Stack). anything)) p.1, tt);
  sound = λ r b e f.
      let m = map_some (λ (y : Stack). anything) (pops takes s) r e in
      let x = some_fit m.0 in
      (takes ++ x.0, pops_sound takes s m.0 x.0 m.1 x.1, (x.0, refl));
}

pub unreachable_walks : (s : Stack) → ComputesTyping (λ a b. Unit {0}) s (Some anything)
unreachable_walks s = record {
  complete = λ a b f m. (anything, refl, tt);
  sound = λ r b e f. let x = some_fit s in (x.0, x.1, tt);
}

pub dropped_walks : (s : Stack) → ComputesTyping (λ a b. (t : ValueType) × Moves (t ∷ []) [] a b) s (dropped s)
dropped_walks s = record {
  complete = λ a b f m.
      let p = any_complete s.known s.unreachable m.0 m.1.0 (subst (λ (y : List ValueType). FitsTypes s y) m.1.1 f) in
      (p.0.1, ap (option_map (λ (y : Option ValueType × Stack). y.1)) p.1, subst (λ (y : List ValueType). FitsTypes p.0.1 y) (sym m.1.2) p.3);
  sound = λ r b e f.
      let m = map_some (λ (y : Option ValueType × Stack). y.1) (pop_any s) r e in
      let t = some_type m.0.0 in
      (t.0 ∷ b, any_sound s.known s.unreachable m.0 t.0 b m.1 t.1 (subst (λ (y : Stack). FitsTypes y b) (sym m.2) f), (t.0, (b, refl, refl)));
}

-- ---- select

meet_complete : (x y : Option ValueType) (t : ValueType) → Agrees x t → Agrees y t → (z : Option ValueType) × (meet x y ≡ Some z) × Agrees z t
meet_complete None y t a b = (y, refl, b)
meet_complete (Some u) None t a b = (Some u, refl, a)
meet_complete (Some u) (Some v) t a b = (Some u, ap (λ (q : Bool). if_true q (Some u)) (is_same_same u v (a ∙ sym b)), a)

meet_sound : (x y z : Option ValueType) (t : ValueType) → meet x y ≡ Some z → Agrees z t → Agrees x t × Agrees y t
meet_sound None y z t e a = let g : z ≡ y = cc in (tt, subst (λ (q : Option ValueType). Agrees q t) g a)
meet_sound (Some u) None z t e a = let g : z ≡ Some u = cc in (subst (λ (q : Option ValueType). Agrees q t) g a, tt)
meet_sound (Some u) (Some v) z t e a =
    let q = if_true_some (is_same u v) (Some u) z e in
    let k : u ≡ t = subst (λ (w : Option ValueType). Agrees w t) (sym q.1) a in
    (k, sym (is_same_true u v q.0) ∙ k)

abbrev Selects : List ValueType → List ValueType → Type 0
Selects a b = (t : ValueType) × Moves (I32 ∷ t ∷ t ∷ []) (t ∷ []) a b

select_complete : (s : Stack) (a b : List ValueType) → FitsTypes s a → Selects a b → (r : Stack) × (selected s ≡ Some r) × FitsTypes r b
select_complete s a b f m =
    let t = m.0 in
    let rest = m.1.0 in
    let p = pop_complete s I32 (t ∷ t ∷ rest) (subst (λ (y : List ValueType). FitsTypes s y) m.1.1 f) in
    let x = any_complete p.0.known p.0.unreachable t (t ∷ rest) p.2 in
    let y = any_complete x.0.1.known x.0.1.unreachable t rest x.3 in
    let z = meet_complete x.0.0 y.0.0 t x.2 y.2 in
    let r = push_any z.0 y.0.1 in
    let is : selected s ≡ Some r =
    ap (option_and_then (λ (q : Stack). option_and_then select_from (pop_any q))) p.1
    ∙ ap (option_and_then select_from) x.1
    ∙ ap (option_and_then (λ (q : Option ValueType × Stack). option_map (λ (w : Option ValueType). push_any w q.1) (meet x.0.0 q.0))) y.1
    ∙ ap (option_map (λ (w : Option ValueType). push_any w y.0.1)) z.1 in
    (r, is, subst (λ (l : List ValueType). FitsTypes r l) (sym m.1.2) (z.2, y.3))

select_below : (s p : Stack) (x y : Option ValueType × Stack) (z : Option ValueType) (b : List ValueType) → pop I32 s ≡ Some p → pop_any p ≡ Some x → pop_any x.1 ≡ Some y → meet x.0 y.0 ≡ Some z → FitsTypes (push_any z y.1) b → (a : List ValueType) × FitsTypes s a × Selects a b
select_below s p x y z [] is_p is_x is_y is_z f = absurd f
select_below s p x y z (t ∷ rest) is_p is_x is_y is_z f =
    let m = meet_sound x.0 y.0 z t is_z f.0 in
    let second = any_sound x.1.known x.1.unreachable y t rest is_y m.1 f.1 in
    let first = any_sound p.known p.unreachable x t (t ∷ rest) is_x m.0 second in
    (I32 ∷ t ∷ t ∷ rest, pop_sound s p I32 (t ∷ t ∷ rest) is_p first, (t, (rest, refl, refl)))

select_sound : (s r : Stack) (b : List ValueType) → selected s ≡ Some r → FitsTypes r b → (a : List ValueType) × FitsTypes s a × Selects a b
select_sound s r b e f =
    let p = and_then_some (λ (q : Stack). option_and_then select_from (pop_any q)) (pop I32 s) r e in
    let x = and_then_some select_from (pop_any p.0) r p.2 in
    let y = and_then_some (λ (q : Option ValueType × Stack). option_map (λ (w : Option ValueType). push_any w q.1) (meet x.0.0 q.0)) (pop_any x.0.1) r x.2 in
    let z = map_some (λ (w : Option ValueType). push_any w y.0.1) (meet x.0.0 y.0.0) r y.2 in
    select_below s p.0 x.0 y.0 z.0 b p.1 x.1 y.1 z.1 (subst (λ (q : Stack). FitsTypes q b) (sym z.2) f)

pub selected_walks : (s : Stack) → ComputesTyping (λ a b. Selects a b) s (selected s)
selected_walks s = record { complete = select_complete s; sound = select_sound s }
