-- Lists of values, their numbers and their types.
use Rattle.std.proofs.Common.{◌≡◌, suc, List, [], ◌∷◌, ◌++◌, length, reverse, refl, sym, ap, ◌∙◌}
use Rattle.std.proofs.lemmas.List.{reverse-append}
use Rattle.wasm_syntax.specs.declared.instruction.ValueType.{ValueType}
use Rattle.wasm_steps.specs.Configuration.{Val, number_of, numbers, type_of, types}

-- numbers of two lists of values
pub numbers-append : (vs ws : List Val) → numbers (vs ++ ws) ≡ numbers vs ++ numbers ws
numbers-append [] ws = refl
numbers-append (v ∷ vs) ws = ap (λ y. number_of v ∷ y) (numbers-append vs ws)

-- types of two lists of values
pub types-append : (vs ws : List Val) → types (vs ++ ws) ≡ types vs ++ types ws
types-append [] ws = refl
types-append (v ∷ vs) ws = ap (λ y. type_of v ∷ y) (types-append vs ws)

-- each value has one type
pub length-types : (vs : List Val) → length (types vs) ≡ length vs
length-types [] = refl
length-types (v ∷ vs) = ap suc (length-types vs)

-- the first element comes last
reverse-cons : {X : Type 0} (x : X) (xs : List X) → reverse (x ∷ xs) ≡ reverse xs ++ x ∷ []
reverse-cons x xs = reverse-append (x ∷ []) xs

-- numbers of values turned round
pub numbers-reverse : (vs : List Val) → numbers (reverse vs) ≡ reverse (numbers vs)
numbers-reverse [] = refl
numbers-reverse (v ∷ vs) =
    ap numbers (reverse-cons v vs) ∙ numbers-append (reverse vs) (v ∷ []) ∙ ap (λ y. y ++ number_of v ∷ []) (numbers-reverse vs) ∙ sym (reverse-cons (number_of v) (numbers vs))

-- values whose types begin with these
pub record Split (ts us : List ValueType) (all : List Val) : Type 0 where
  pub above : List Val
  pub below : List Val
  pub is : all ≡ above ++ below
  pub above_types : types above ≡ ts
  pub below_types : types below ≡ us

-- values whose types begin with ts can be split there
pub split : (ts us : List ValueType) (all : List Val) → types all ≡ ts ++ us → Split ts us all
split [] us all e = record { above = []; below = all; is = refl; above_types = refl; below_types = e }
split (t ∷ ts) us [] e = cc
split (t ∷ ts) us (v ∷ vs) e =
    let h : type_of v ≡ t = cc in
    let r : types vs ≡ ts ++ us = cc in
    let s = split ts us vs r in
    record { above = v ∷ s.above; below = s.below; is = ap (λ y. v ∷ y) s.is; above_types = cc (s.above_types); below_types = s.below_types }

-- each value has one number
pub length-numbers : (vs : List Val) → length (numbers vs) ≡ length vs
length-numbers [] = refl
length-numbers (v ∷ vs) = ap suc (length-numbers vs)

-- no types, no values
pub numbers_nil : (vs : List Val) → types vs ≡ [] → vs ≡ []
numbers_nil [] e = refl
numbers_nil (v ∷ vs) e = cc
