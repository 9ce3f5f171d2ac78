-- The types that the instructions of a block have on the stack, as far as one walk over the code knows them. The type
-- on top comes first.
use Rattle.std.specs.Prelude.{List, [], ◌∷◌, Option, Some, None, Bool, true, false}
use Rattle.std.specs.Option.{option_map, option_and_then}
use Rattle.wasm_syntax.specs.declared.instruction.ValueType.{ValueType}
use Rattle.wasm_syntax.specs.declared.instruction.ValueType.TheVariants.{I32, I64, F32, F64}

-- The types on top, None for one that may be any. Below them is nothing, or, where the code can't be reached, any types.
pub record Stack : Type 0 where
  pub known : List (Option ValueType)
  pub unreachable : Bool

abbrev pub nothing : Stack
nothing = record { known = []; unreachable = false }

abbrev pub anything : Stack
anything = record { known = []; unreachable = true }

abbrev pub if_true : {T : Type 0} → Bool → T → Option T
if_true true x = Some x
if_true false x = None

abbrev pub when : {T : Type 0} → Bool → Option T → Option T
when true o = o
when false o = None

abbrev pub is_same : ValueType → ValueType → Bool
is_same I32 I32 = true
is_same I64 I64 = true
is_same F32 F32 = true
is_same F64 F64 = true
is_same t u = false

-- whether a type may be this one
abbrev pub agrees : Option ValueType → ValueType → Bool
agrees None t = true
agrees (Some u) t = is_same u t

abbrev pub pop_any_of : List (Option ValueType) → Bool → Option (Option ValueType × Stack)
pop_any_of [] false = None
pop_any_of [] true = Some (None, anything)
pop_any_of (o ∷ os) u = Some (o, record { known = os; unreachable = u })

-- the type on top, and what is below it
abbrev pub pop_any : Stack → Option (Option ValueType × Stack)
pop_any s = pop_any_of s.known s.unreachable

-- what is below a type that may be this one
abbrev pub pop : ValueType → Stack → Option Stack
pop t s = option_and_then (λ p. if_true (agrees p.0 t) p.1) (pop_any s)

abbrev pub pops : List ValueType → Stack → Option Stack
pops [] s = Some s
pops (t ∷ ts) s = option_and_then (pops ts) (pop t s)

abbrev pub push_any : Option ValueType → Stack → Stack
push_any o s = record { known = o ∷ s.known; unreachable = s.unreachable }

abbrev pub push : List ValueType → Stack → Stack
push [] s = s
push (t ∷ ts) s = push_any (Some t) (push ts s)

-- what takes and leaves these types
abbrev pub moved : List ValueType → List ValueType → Stack → Option Stack
moved takes gives s = option_map (push gives) (pops takes s)

-- what takes these types, and doesn't go on
abbrev pub left : List ValueType → Stack → Option Stack
left takes s = option_map (λ _. anything) (pops takes s)

-- drop
abbrev pub dropped : Stack → Option Stack
dropped s = option_map (λ p. p.1) (pop_any s)

-- the type of two that are to be the same
abbrev pub meet : Option ValueType → Option ValueType → Option (Option ValueType)
meet None y = Some y
meet (Some x) None = Some (Some x)
meet (Some x) (Some y) = if_true (is_same x y) (Some x)

abbrev pub select_from : Option ValueType × Stack → Option Stack
select_from x = option_and_then (λ y. option_map (λ t. push_any t y.1) (meet x.0 y.0)) (pop_any x.1)

-- select
abbrev pub selected : Stack → Option Stack
selected s = option_and_then (λ r. option_and_then select_from (pop_any r)) (pop I32 s)

abbrev pub is_nil : List (Option ValueType) → Bool
is_nil [] = true
is_nil (o ∷ os) = false

abbrev pub is_emptied : Option Stack → Bool
is_emptied None = false
is_emptied (Some s) = is_nil s.known

-- whether these types can be on the stack, and no others
abbrev pub can_be : List ValueType → Stack → Bool
can_be ts s = is_emptied (pops ts s)
