-- Locals in groups, found by where each group ends.
use Rattle.std.proofs.Common.{◌≡◌, ℕ, zero, suc, ◌+◌, ◌-◌, ◌^◌, ◌<◌, ◌≤◌, List, [], ◌∷◌, ◌++◌, length, drop, get_or, Some, true, false, leb, refl, sym, ap, ◌∙◌, subst, arith, min, replicate, append_assoc}
use Rattle.std.specs.List.{slice_get}
use Rattle.std.specs.List.Sorted.{IsPartitionedBy, IsPartitionPoint}
use Rattle.std.specs.Option.{option_map}
use Rattle.std.proofs.lemmas.List.{at_drop_more}
use Rattle.std.proofs.lemmas.Bool.{leb-true, leb-false, le-leb}
use Rattle.wasm_syntax.specs.declared.instruction.ValueType.{ValueType}
use Rattle.wasm_syntax.specs.declared.module.Locals.{Locals}
use Rattle.wasm_valid.specs.Spaces.{local_types}
use Rattle.wasm_valid.specs.internal.Ends.{ends_from}

abbrev most : ℕ
most = 2 ^ 64 - 1

-- ---- ends rise

at_least : (gs : List Locals) (end j d : ℕ) → end ≤ most → j < length (ends_from end gs) → end ≤ get_or (ends_from end gs) j d
at_least [] end j d small below = absurd (omega arith)
at_least (g ∷ gs) end zero d small below = omega arith
at_least (g ∷ gs) end (suc j) d small below =
    let rest = at_least gs (min (end + g.count) most) j d (omega arith) (omega arith) in omega arith

rising : (gs : List Locals) (end i j d : ℕ) → i ≤ j → j < length (ends_from end gs) → get_or (ends_from end gs) i d ≤ get_or (ends_from end gs) j d
rising [] end i j d le below = absurd (omega arith)
rising (g ∷ gs) end zero zero d le below = omega arith
rising (g ∷ gs) end zero (suc j) d le below = at_least gs (min (end + g.count) most) j d (omega arith) (omega arith)
rising (g ∷ gs) end (suc i) zero d le below = absurd (omega arith)
rising (g ∷ gs) end (suc i) (suc j) d le below = rising gs (min (end + g.count) most) i j d (omega arith) (omega arith)

pub ends_part : (gs : List Locals) (end place : ℕ) → IsPartitionedBy (λ e. leb e place) (ends_from end gs)
ends_part gs end place i j d le below h =
    le-leb (get_or (ends_from end gs) i d) place (let r = rising gs end i j d le below in let t = leb-true (get_or (ends_from end gs) j d) place h in omega arith)

-- ---- a local in its group

in_group : (n : ℕ) (t : ValueType) (rest : List ValueType) (i : ℕ) → i < n → slice_get (replicate n t ++ rest) i ≡ Some t
in_group zero t rest i below = absurd (omega arith)
in_group (suc n) t rest zero below = refl
in_group (suc n) t rest (suc i) below = in_group n t rest i (omega arith)

past_group : (n : ℕ) (t : ValueType) (rest : List ValueType) (i k : ℕ) → i ≡ n + k → slice_get (replicate n t ++ rest) i ≡ slice_get rest k
past_group zero t rest i k e = ap (slice_get rest) (omega arith)
past_group (suc n) t rest zero k e = absurd (omega arith)
past_group (suc n) t rest (suc i) k e = past_group n t rest i k (omega arith)

pub past_front : (front rest : List ValueType) (i k : ℕ) → i ≡ length front + k → slice_get (front ++ rest) i ≡ slice_get rest k
past_front [] rest i k e = ap (slice_get rest) (omega arith)
past_front (t ∷ front) rest zero k e = absurd (omega arith)
past_front (t ∷ front) rest (suc i) k e = past_front front rest i k (omega arith)

-- the group whose end is the first past a place has the local of that place
pub group_has : (gs : List Locals) (end place k i : ℕ) → place < most → place ≡ end + i → IsPartitionPoint (λ e. leb e place ≡ true) (λ e. leb e place ≡ false) (ends_from end gs) k → slice_get (local_types gs) i ≡ option_map (λ (g : Locals). g.value_type) (slice_get gs k)
group_has [] end place k i small is p = refl
group_has (g ∷ gs) end place zero i small is p =
    let past = leb-false (min (end + g.count) most) place (p.1 0 0 (omega arith) (omega arith)) in
    in_group g.count g.value_type (local_types gs) i (omega arith)
group_has (g ∷ gs) end place (suc k) i small is p =
    let before = leb-true (min (end + g.count) most) place (p.0 0 0 (omega arith) (omega arith)) in
    let whole : min (end + g.count) most ≡ end + g.count = omega arith in
    let j = i - g.count in
    past_group g.count g.value_type (local_types gs) i j (omega arith)
    ∙ group_has gs (min (end + g.count) most) place k j small (omega arith)
    ((λ n d low high. p.0 (suc n) d (omega arith) (omega arith)), (λ n d low high. p.1 (suc n) d (omega arith) (omega arith)))

-- a local past the parameters
pub located : (params : List ValueType) (gs : List Locals) (ends : List ℕ) (place k : ℕ) → length params ≤ place → place < 2 ^ 32 → ends ≡ ends_from (length params) gs → IsPartitionPoint (λ e. leb e place ≡ true) (λ e. leb e place ≡ false) ends k
    → slice_get (params ++ local_types gs) place ≡ option_map (λ (g : Locals). g.value_type) (slice_get gs k)
located params gs ends place k past small are p =
    past_front params (local_types gs) place (place - length params) (omega arith)
    ∙ group_has gs (length params) place k (place - length params) (omega arith) (omega arith) (subst (λ (es : List ℕ). IsPartitionPoint (λ e. leb e place ≡ true) (λ e. leb e place ≡ false) es k) are p)

pub ends_part_of : (gs : List Locals) (end place : ℕ) (ends : List ℕ) → ends ≡ ends_from end gs → IsPartitionedBy (λ e. leb e place) ends
ends_part_of gs end place ends are = subst (IsPartitionedBy (λ e. leb e place)) (sym are) (ends_part gs end place)

-- one group more
pub ends_more : (gs : List Locals) (i end count next : ℕ) (d : Locals) (so_far more total : List ℕ) → i < length gs → count ≡ (get_or gs i d).count → next ≡ min (end + count) most → more ≡ so_far ++ next ∷ []
    → so_far ++ ends_from end (drop i gs) ≡ total → more ++ ends_from next (drop (i + 1) gs) ≡ total
ends_more gs i end count next d so_far more total lt has is pushed before =
    let end-is : next ≡ min (end + (get_or gs i d).count) most = is ∙ ap (λ (n : ℕ). min (end + n) most) has in
    let turn : ends_from end (drop i gs) ≡ next ∷ ends_from next (drop (i + 1) gs) = at_drop_more (ends_from end) gs i d lt ∙ ap (λ (n : ℕ). n ∷ ends_from n (drop (i + 1) gs)) (sym end-is) in
    rw pushed (append_assoc so_far (next ∷ []) (ends_from next (drop (i + 1) gs)) ∙ ap (λ (l : List ℕ). so_far ++ l) (sym turn) ∙ before)
