-- Types by their keys.
use Rattle.std.proofs.Common.{◌≡◌, ◌≢◌, ℕ, ◌+◌, ◌<◌, List, [], ◌∷◌, ◌++◌, Option, Some, None, Bool, true, false, cond, refl, sym, ap, ◌∙◌, subst, arith, inl, inr}
use Rattle.std.specs.Global.{Vec}
use Rattle.std.specs.Prelude.{map, slice_get, ◌⊎◌}
use Rattle.std.specs.Ordering.{nat_cmp, is_eq}
use Rattle.std.proofs.Common.{Ordering, Less, Equal, Greater}
use Rattle.std.specs.Cmp.Lexicographic.{slice_cmp}
use Rattle.std.proofs.lemmas.Cmp.{tied_itself, nat_list_cmp_total}
use Rattle.std.proofs.lemmas.Map.Lookups.{exact_bytes}
use Rattle.std.proofs.lemmas.Bool.{cases_eq}
use Rattle.wasm_syntax.specs.declared.instruction.ValueType.{ValueType}
use Rattle.wasm_syntax.specs.declared.instruction.ValueType.TheVariants.{I32, I64, F32, F64}
use Rattle.wasm_syntax.specs.declared.module.FuncType.{FuncType}
use Rattle.wasm_operands.specs.internal.Signatures.{IsLeast}
use Rattle.wasm_operands.specs.internal.Keys.{Sees, at_key, type_code, key_of}

-- ---- a key tells a type from all others

same_code : (a b : ValueType) → type_code a ≡ type_code b → a ≡ b
same_code I32 I32 e = refl
same_code I32 I64 e = absurd (omega arith)
same_code I32 F32 e = absurd (omega arith)
same_code I32 F64 e = absurd (omega arith)
same_code I64 I32 e = absurd (omega arith)
same_code I64 I64 e = refl
same_code I64 F32 e = absurd (omega arith)
same_code I64 F64 e = absurd (omega arith)
same_code F32 I32 e = absurd (omega arith)
same_code F32 I64 e = absurd (omega arith)
same_code F32 F32 e = refl
same_code F32 F64 e = absurd (omega arith)
same_code F64 I32 e = absurd (omega arith)
same_code F64 I64 e = absurd (omega arith)
same_code F64 F32 e = absurd (omega arith)
same_code F64 F64 e = refl

apart : (a : ValueType) → type_code a ≢ 2
apart I32 e = absurd (omega arith)
apart I64 e = absurd (omega arith)
apart F32 e = absurd (omega arith)
apart F64 e = absurd (omega arith)

same_codes : (xs ys : List ValueType) → map type_code xs ≡ map type_code ys → xs ≡ ys
same_codes [] [] e = refl
same_codes [] (y ∷ ys) e = cc
same_codes (x ∷ xs) [] e = cc
same_codes (x ∷ xs) (y ∷ ys) e =
    let h : type_code x ≡ type_code y = cc in
    let t : map type_code xs ≡ map type_code ys = cc in
    let a = same_code x y h in
    let b = same_codes xs ys t in
    cc

same_parts : (xs ys us vs : List ValueType) → map type_code xs ++ 2 ∷ map type_code us ≡ map type_code ys ++ 2 ∷ map type_code vs → (xs ≡ ys) × (us ≡ vs)
same_parts [] [] us vs e = let t : map type_code us ≡ map type_code vs = cc in (refl, same_codes us vs t)
same_parts [] (y ∷ ys) us vs e = let h : type_code y ≡ 2 = cc in absurd (apart y h)
same_parts (x ∷ xs) [] us vs e = let h : type_code x ≡ 2 = cc in absurd (apart x h)
same_parts (x ∷ xs) (y ∷ ys) us vs e =
    let h : type_code x ≡ type_code y = cc in
    let t : map type_code xs ++ 2 ∷ map type_code us ≡ map type_code ys ++ 2 ∷ map type_code vs = cc in
    let a = same_code x y h in
    let b = same_parts xs ys us vs t in
    (ap (λ z. z ∷ xs) a ∙ ap (λ zs. y ∷ zs) b.0, b.1)

pub same_key : (f g : FuncType) → key_of f ≡ key_of g → f ≡ g
same_key f g e =
    let p = same_parts f.params g.params f.results g.results e in
    ap (λ y. record { params = y; results = f.results }) p.0 ∙ ap (λ y. record { params = g.params; results = y }) p.1

-- ---- the first types of each key so far

-- the type of each key that is there is the first of its kind, and no other type has been seen
pub record Firsts (types : List FuncType) (at : List ℕ → Option ℕ) (i : ℕ) : Type 0 where
  pub known : (q : Vec ℕ) (k : ℕ) → at q.items ≡ Some k → (t : FuncType) × (slice_get types k ≡ Some t) × (key_of t ≡ q.items) × ((j : ℕ) → j < k → slice_get types j ≢ Some t)
  pub missing : (q : Vec ℕ) → at q.items ≡ None → (j : ℕ) (t : FuncType) → j < i → slice_get types j ≡ Some t → key_of t ≢ q.items

some_same : (u t : FuncType) → Some u ≡ Some t → u ≡ t
some_same u t e = cc

module _ (types : List FuncType) (at : List ℕ → Option ℕ) (i : ℕ) (t : FuncType) (key : Vec ℕ) (here : slice_get types i ≡ Some t) (key_is : key.items ≡ key_of t) (f : Firsts types at i) where
  -- the key is there
  pub first_known : (k : ℕ) → at key.items ≡ Some k → IsLeast types i k
  first_known k e =
      let n = f.known key k e in
      let same : n.0 ≡ t = same_key n.0 t (n.2 ∙ key_is) in
      record { same = n.1 ∙ ap Some same ∙ sym here; first = λ j l h. n.3 j l (h ∙ here ∙ ap Some (sym same)) }

  pub firsts_more : (k : ℕ) → at key.items ≡ Some k → Firsts types at (i + 1)
  firsts_more k e = record { known = f.known; missing = missing } where
    missing : (q : Vec ℕ) → at q.items ≡ None → (j : ℕ) (u : FuncType) → j < i + 1 → slice_get types j ≡ Some u → key_of u ≢ q.items
    missing q none j u l h same = by_place (cases_eq j i) where
      by_place : (j ≡ i) ⊎ (j ≢ i) → ⊥
      by_place (inr ne) = f.missing q none j u (omega (arith, l, ne)) h same
      by_place (inl is) =
          let same_type : Some u ≡ Some t = sym h ∙ ap (slice_get types) is ∙ here in
          let items : q.items ≡ key.items = sym same ∙ ap key_of (some_same u t same_type) ∙ sym key_is in
          let bad : None ≡ Some k = sym none ∙ ap at items ∙ e in
          absurd (cc)

  -- or it is not, and is put there
  pub first_new : at key.items ≡ None → IsLeast types i i
  first_new e = record { same = refl; first = λ j l h. f.missing key e j t l (h ∙ here) (sym key_is) }

  module _ (new : List ℕ → Option ℕ) (e : at key.items ≡ None) (puts : (q : Vec ℕ) → new q.items ≡ cond (is_eq (slice_cmp nat_cmp key.items q.items)) (Some i) (at q.items)) where
    by_test : (q : Vec ℕ) (b : Bool) → b ≡ is_eq (slice_cmp nat_cmp key.items q.items) → new q.items ≡ cond b (Some i) (at q.items)
    by_test q b is = puts q ∙ ap (λ y. cond y (Some i) (at q.items)) (sym is)

    equal : (o : Ordering) → true ≡ is_eq o → o ≡ Equal
    equal Less h = cc
    equal Equal h = refl
    equal Greater h = cc

    known_by : (q : Vec ℕ) (k : ℕ) (b : Bool) → b ≡ is_eq (slice_cmp nat_cmp key.items q.items) → new q.items ≡ Some k → (u : FuncType) × (slice_get types k ≡ Some u) × (key_of u ≡ q.items) × ((j : ℕ) → j < k → slice_get types j ≢ Some u)
    known_by q k true is h =
        let n : Some i ≡ Some k = sym (by_test q true is) ∙ h in
        let place : i ≡ k = cc in
        let items : key_of t ≡ q.items = sym key_is ∙ exact_bytes key.items q.items (equal (slice_cmp nat_cmp key.items q.items) is) in
        (t, ap (slice_get types) (sym place) ∙ here, items, λ j l g. f.missing key e j t (omega (arith, l, place)) g (sym key_is))
    known_by q k false is h = f.known q k (sym (by_test q false is) ∙ h)

    missing_by : (q : Vec ℕ) (b : Bool) → b ≡ is_eq (slice_cmp nat_cmp key.items q.items) → new q.items ≡ None → (j : ℕ) (u : FuncType) → j < i + 1 → slice_get types j ≡ Some u → key_of u ≢ q.items
    missing_by q true is h j u l g same = let bad : Some i ≡ None = sym (by_test q true is) ∙ h in absurd (cc)
    missing_by q false is h j u l g same = by_place (cases_eq j i) where
      by_place : (j ≡ i) ⊎ (j ≢ i) → ⊥
      by_place (inr ne) = f.missing q (sym (by_test q false is) ∙ h) j u (omega (arith, l, ne)) g same
      by_place (inl place) =
          let same_type : Some u ≡ Some t = sym g ∙ ap (slice_get types) place ∙ here in
          let items : key.items ≡ q.items = key_is ∙ ap key_of (sym (some_same u t same_type)) ∙ same in
          let tied : slice_cmp nat_cmp key.items q.items ≡ Equal = ap (slice_cmp nat_cmp key.items) (sym items) ∙ tied_itself nat_list_cmp_total key.items in
          let bad : false ≡ true = is ∙ ap is_eq tied in
          absurd (cc)

    pub firsts_new : Firsts types new (i + 1)
    firsts_new = record {
      known = λ q k h. known_by q k (is_eq (slice_cmp nat_cmp key.items q.items)) refl h;
      missing = λ q h. missing_by q (is_eq (slice_cmp nat_cmp key.items q.items)) refl h;
    }

-- what was seen, either way
pub seen : (types : List FuncType) (old new : List (Vec ℕ × ℕ)) (i k : ℕ) (t : FuncType) (key : Vec ℕ) → slice_get types i ≡ Some t → key.items ≡ key_of t → Firsts types (at_key old) i → Sees old new key.items i k → IsLeast types i k × Firsts types (at_key new) (i + 1)
seen types old new i k t key here is f (inl e) = (
  first_known types (at_key old) i t key here is f k e.0,
  subst (λ y. Firsts types (at_key y) (i + 1)) (sym e.1) (firsts_more types (at_key old) i t key here is f k e.0),
)
seen types old new i k t key here is f (inr e) = (
  subst (IsLeast types i) (sym e.1) (first_new types (at_key old) i t key here is f e.0),
  firsts_new types (at_key old) i t key here is f (at_key new) e.0 e.2,
)
