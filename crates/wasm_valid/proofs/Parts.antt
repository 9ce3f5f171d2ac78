-- What holds of each element of two lists joined holds in both.
use Rattle.std.proofs.Common.{◌+◌, List, ◌++◌, length, All, arith, length-append, subst}
use Rattle.std.proofs.lemmas.List.{get_or_append_left, get_or-append-add}

pub All-front : {X : Type 0} (P : X → Type 0) (xs ys : List X) → All P (xs ++ ys) → All P xs
All-front {X} P xs ys h = λ k d below. subst P (get_or_append_left xs ys d k below) (h k d (omega (arith, length-append {A = X})))

pub All-back : {X : Type 0} (P : X → Type 0) (xs ys : List X) → All P (xs ++ ys) → All P ys
All-back {X} P xs ys h = λ k d below. subst P (get_or-append-add xs ys k d) (h (length xs + k) d (omega (arith, length-append {A = X})))
