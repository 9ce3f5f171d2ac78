-- Lemmas on picks: what each gives, and that some give each image that a crash may leave.
use Rattle.std.proofs.Common.{◌≡◌, ◌≢◌, inl, inr, ◌+◌, ◌-◌, ◌≤◌, ◌<◌, ◌==◌, min, if◌then◌else◌, Bool, true, false, ℕ, zero, suc, List, [], ◌∷◌, ◌++◌, length, drop, get_or, refl, sym, ◌∙◌, ap, subst, add-one, arith}
use Rattle.std.proofs.lemmas.Bool.{cases_eq, cases_lt}
use Rattle.std.proofs.lemmas.Bool.Decides.{nat_tests}
use Rattle.std.proofs.lemmas.List.{length_push, drop_more}
use Rattle.vol_sector.specs.Disk.{Image}
use Rattle.vol_sector.specs.Record.{newest, choices, Among, LeftBy}
use Rattle.vol_sector.specs.Crash.{written_since, written_below, pick_of, picked, crashed_image}
use Rattle.vol_sector.specs.declared.record.Operation.{Operation}
use Rattle.vol_sector.specs.declared.record.Operation.TheVariants.{Write, Sync}
use Rattle.vol_sector.proofs.Records.{newest_write, newest_sync, choices_write, choices_sync}

-- the operation at an index decides on from what was written so far
pub written_next : (n : ℕ) (ops : List Operation) (i : ℕ) (o : Operation) (so_far : Bool) → i < length ops → get_or ops i (Write 0 []) ≡ o → written_since n so_far (drop i ops) ≡ written_since n so_far (o ∷ drop (i + 1) ops)
written_next n ops i o so_far lt is =
    ap (λ (l : List Operation). written_since n so_far l) (drop_more ops i (Write 0 []) lt ∙ ap (λ (x : Operation). x ∷ drop (i + 1) ops) is)

pub written_here : (n sector : ℕ) (so_far : Bool) → sector ≡ n → (if n == sector then true else so_far) ≡ true
written_here n sector so_far is = grind (arith, nat_tests)

pub written_elsewhere : (n sector : ℕ) (so_far : Bool) → sector ≢ n → (if n == sector then true else so_far) ≡ so_far
written_elsewhere n sector so_far other = let apart : n ≢ sector = omega arith in grind (arith, nat_tests)

get_or_old : (values : List (List ℕ)) (last : List ℕ) (i : ℕ) → i < length values → get_or (values ++ last ∷ []) i [] ≡ get_or values i []
get_or_old [] last i lt = absurd (omega arith)
get_or_old (one ∷ values) last zero lt = refl
get_or_old (one ∷ values) last (suc i) lt = get_or_old values last i (omega arith)

get_or_new : (values : List (List ℕ)) (last : List ℕ) → get_or (values ++ last ∷ []) (length values) [] ≡ last
get_or_new [] last = refl
get_or_new (one ∷ values) last = get_or_new values last

number_old : (values : List ℕ) (last : ℕ) (i : ℕ) → i < length values → get_or (values ++ last ∷ []) i 0 ≡ get_or values i 0
number_old [] last i lt = absurd (omega arith)
number_old (one ∷ values) last zero lt = refl
number_old (one ∷ values) last (suc i) lt = number_old values last i (omega arith)

number_new : (values : List ℕ) (last : ℕ) → get_or (values ++ last ∷ []) (length values) 0 ≡ last
number_new [] last = refl
number_new (one ∷ values) last = number_new values last

number_past : (values : List ℕ) (i : ℕ) → length values ≤ i → get_or values i 0 ≡ 0
number_past [] i le = refl
number_past (one ∷ values) zero le = absurd (omega arith)
number_past (one ∷ values) (suc i) le = number_past values i (omega arith)

-- where the loop over a record stands
pub record Chosen (n : ℕ) (value : List ℕ) (ops : List Operation) (pick : ℕ) (newest_so_far chosen_so_far : List ℕ) (counted : ℕ) : Type 0 where
  pub newest : newest_so_far ≡ newest n value ops
  pub some : 1 ≤ length (choices n value (value ∷ []) ops)
  pub chosen : chosen_so_far ≡ picked (choices n value (value ∷ []) ops) pick
  pub count : counted ≡ min pick (length (choices n value (value ∷ []) ops) - 1)

pub chosen_start : (n : ℕ) (value : List ℕ) (pick : ℕ) → Chosen n value [] pick value value 0
chosen_start n value pick = record { newest = refl; some = omega arith; chosen = sym (ap (λ (i : ℕ). get_or (value ∷ []) i []) zero_is); count = sym zero_is }
  where
    zero_is : min pick (length (value ∷ []) - 1) ≡ 0
    zero_is = omega arith

pub chosen_sync : (n : ℕ) (value : List ℕ) (ops : List Operation) (pick : ℕ) (new old : List ℕ) (count : ℕ) → Chosen n value ops pick new old count → Chosen n value (ops ++ Sync ∷ []) pick new new 0
chosen_sync n value ops pick new old count so_far = record {
  newest = so_far.newest ∙ sym (newest_sync n value ops);
  some = subst (λ (l : List (List ℕ)). 1 ≤ length l) (sym alone) (omega arith);
  chosen = subst (λ (l : List (List ℕ)). new ≡ picked l pick) (sym alone) (sym (ap (λ (i : ℕ). get_or (new ∷ []) i []) zero_is));
  count = subst (λ (l : List (List ℕ)). 0 ≡ min pick (length l - 1)) (sym alone) (sym zero_is);
}
  where
    zero_is : min pick (length (new ∷ []) - 1) ≡ 0
    zero_is = omega arith

    alone : choices n value (value ∷ []) (ops ++ Sync ∷ []) ≡ new ∷ []
    alone = choices_sync n value (value ∷ []) ops ∙ ap (λ (x : List ℕ). x ∷ []) (sym so_far.newest)

choices_same : (n : ℕ) (value : List ℕ) (ops : List Operation) (m : ℕ) (image : List ℕ) → m ≡ n → choices n value (value ∷ []) (ops ++ Write m image ∷ []) ≡ choices n value (value ∷ []) ops ++ image ∷ []
choices_same n value ops m image is = choices_write n value (value ∷ []) ops m image ∙ hit
  where
    hit : (if n == m then choices n value (value ∷ []) ops ++ image ∷ [] else choices n value (value ∷ []) ops) ≡ choices n value (value ∷ []) ops ++ image ∷ []
    hit = grind (arith, nat_tests)

choices_other : (n : ℕ) (value : List ℕ) (ops : List Operation) (m : ℕ) (image : List ℕ) → m ≢ n → choices n value (value ∷ []) (ops ++ Write m image ∷ []) ≡ choices n value (value ∷ []) ops
choices_other n value ops m image other = choices_write n value (value ∷ []) ops m image ∙ miss (λ is. other (sym is))
  where
    miss : n ≢ m → (if n == m then choices n value (value ∷ []) ops ++ image ∷ [] else choices n value (value ∷ []) ops) ≡ choices n value (value ∷ []) ops
    miss ne = grind (arith, nat_tests)

newest_same : (n : ℕ) (value : List ℕ) (ops : List Operation) (m : ℕ) (image : List ℕ) → m ≡ n → newest n value (ops ++ Write m image ∷ []) ≡ image
newest_same n value ops m image is = newest_write n value ops m image ∙ hit
  where
    hit : (if n == m then image else newest n value ops) ≡ image
    hit = grind (arith, nat_tests)

newest_other : (n : ℕ) (value : List ℕ) (ops : List Operation) (m : ℕ) (image : List ℕ) → m ≢ n → newest n value (ops ++ Write m image ∷ []) ≡ newest n value ops
newest_other n value ops m image other = newest_write n value ops m image ∙ miss (λ is. other (sym is))
  where
    miss : n ≢ m → (if n == m then image else newest n value ops) ≡ newest n value ops
    miss ne = grind (arith, nat_tests)

picked_new : (values : List (List ℕ)) (last : List ℕ) (pick : ℕ) → 1 ≤ length values → min pick (length values - 1) < pick → picked (values ++ last ∷ []) pick ≡ last
picked_new values last pick some more =
    let at : min pick (length (values ++ last ∷ []) - 1) ≡ length values = omega (arith, length_push values last) in
    ap (λ (i : ℕ). get_or (values ++ last ∷ []) i []) at ∙ get_or_new values last

picked_old : (values : List (List ℕ)) (last : List ℕ) (pick : ℕ) → 1 ≤ length values → pick ≤ min pick (length values - 1) → picked (values ++ last ∷ []) pick ≡ picked values pick
picked_old values last pick some enough =
    let at : min pick (length (values ++ last ∷ []) - 1) ≡ min pick (length values - 1) = omega (arith, length_push values last) in
    ap (λ (i : ℕ). get_or (values ++ last ∷ []) i []) at ∙ get_or_old values last (min pick (length values - 1)) (omega arith)

pub chosen_taken : (n : ℕ) (value : List ℕ) (ops : List Operation) (pick m : ℕ) (image new old : List ℕ) (count : ℕ) → m ≡ n → count < pick → Chosen n value ops pick new old count → Chosen n value (ops ++ Write m image ∷ []) pick image image (count + 1)
chosen_taken n value ops pick m image new old count same more so_far =
    let values = choices n value (value ∷ []) ops in
    let are : choices n value (value ∷ []) (ops ++ Write m image ∷ []) ≡ values ++ image ∷ [] = choices_same n value ops m image same in
    let counted = so_far.count in
    let some = so_far.some in
    record {
      newest = sym (newest_same n value ops m image same);
      some = subst (λ (l : List (List ℕ)). 1 ≤ length l) (sym are) (omega (arith, length_push values image));
      chosen = subst (λ (l : List (List ℕ)). image ≡ picked l pick) (sym are) (sym (picked_new values image pick some (omega arith)));
      count = subst (λ (l : List (List ℕ)). count + 1 ≡ min pick (length l - 1)) (sym are) (omega (arith, length_push values image));
    }

pub chosen_kept : (n : ℕ) (value : List ℕ) (ops : List Operation) (pick m : ℕ) (image new old : List ℕ) (count : ℕ) → m ≡ n → pick ≤ count → Chosen n value ops pick new old count → Chosen n value (ops ++ Write m image ∷ []) pick image old count
chosen_kept n value ops pick m image new old count same enough so_far =
    let values = choices n value (value ∷ []) ops in
    let are : choices n value (value ∷ []) (ops ++ Write m image ∷ []) ≡ values ++ image ∷ [] = choices_same n value ops m image same in
    let counted = so_far.count in
    let some = so_far.some in
    record {
      newest = sym (newest_same n value ops m image same);
      some = subst (λ (l : List (List ℕ)). 1 ≤ length l) (sym are) (omega (arith, length_push values image));
      chosen = subst (λ (l : List (List ℕ)). old ≡ picked l pick) (sym are) (so_far.chosen ∙ sym (picked_old values image pick some (omega arith)));
      count = subst (λ (l : List (List ℕ)). count ≡ min pick (length l - 1)) (sym are) (omega (arith, length_push values image));
    }

pub chosen_other : (n : ℕ) (value : List ℕ) (ops : List Operation) (pick m : ℕ) (image new old : List ℕ) (count : ℕ) → m ≢ n → Chosen n value ops pick new old count → Chosen n value (ops ++ Write m image ∷ []) pick new old count
chosen_other n value ops pick m image new old count other so_far =
    let are : choices n value (value ∷ []) (ops ++ Write m image ∷ []) ≡ choices n value (value ∷ []) ops = choices_other n value ops m image other in
    record {
      newest = so_far.newest ∙ sym (newest_other n value ops m image other);
      some = subst (λ (l : List (List ℕ)). 1 ≤ length l) (sym are) so_far.some;
      chosen = subst (λ (l : List (List ℕ)). old ≡ picked l pick) (sym are) so_far.chosen;
      count = subst (λ (l : List (List ℕ)). count ≡ min pick (length l - 1)) (sym are) so_far.count;
    }

-- there is always a choice
choices_some : (n : ℕ) (value : List ℕ) (so_far : List (List ℕ)) (ops : List Operation) → 1 ≤ length so_far → 1 ≤ length (choices n value so_far ops)
choices_some n value so_far [] some = some
choices_some n value so_far (Write sector image ∷ ops) some = choices_some n (if n == sector then image else value) (if n == sector then so_far ++ image ∷ [] else so_far) ops (step (n == sector))
  where
    step : (b : Bool) → 1 ≤ length (if b then so_far ++ image ∷ [] else so_far)
    step true = omega (arith, length_push so_far image)
    step false = some
choices_some n value so_far (Sync ∷ ops) some = choices_some n value (value ∷ []) ops (omega arith)

-- there are no more choices than operations
choices_few : (n : ℕ) (value : List ℕ) (so_far : List (List ℕ)) (ops : List Operation) → 1 ≤ length so_far → length (choices n value so_far ops) ≤ length so_far + length ops
choices_few n value so_far [] some = omega arith
choices_few n value so_far (Write sector image ∷ ops) some =
    let rest = choices_few n (if n == sector then image else value) (if n == sector then so_far ++ image ∷ [] else so_far) ops (some_more (n == sector)) in
    omega (arith, rest, few_more (n == sector))
  where
    some_more : (b : Bool) → 1 ≤ length (if b then so_far ++ image ∷ [] else so_far)
    some_more true = omega (arith, length_push so_far image)
    some_more false = some

    few_more : (b : Bool) → length (if b then so_far ++ image ∷ [] else so_far) ≤ length so_far + 1
    few_more true = omega (arith, length_push so_far image)
    few_more false = omega arith
choices_few n value so_far (Sync ∷ ops) some = let h = choices_few n value (value ∷ []) ops (omega arith) in omega (arith, h)

-- a sector that was not written has one choice
choices_alone : (n : ℕ) (value : List ℕ) (so_far : List (List ℕ)) (b : Bool) (ops : List Operation) → (b ≡ false → length so_far ≡ 1) → written_since n b ops ≡ false → length (choices n value so_far ops) ≡ 1
choices_alone n value so_far b [] one none = one none
choices_alone n value so_far b (Write sector image ∷ ops) one none =
    choices_alone n (if n == sector then image else value) (if n == sector then so_far ++ image ∷ [] else so_far) (if n == sector then true else b) ops (step (n == sector)) none
  where
    step : (t : Bool) → (if t then true else b) ≡ false → length (if t then so_far ++ image ∷ [] else so_far) ≡ 1
    step true is = cc
    step false is = one is
choices_alone n value so_far b (Sync ∷ ops) one none = choices_alone n value (value ∷ []) false ops (λ is. refl) none

among_at : (values : List (List ℕ)) (i : ℕ) → i < length values → Among values (get_or values i [])
among_at [] i lt = absurd (omega arith)
among_at (one ∷ values) zero lt = inl refl
among_at (one ∷ values) (suc i) lt = inr (among_at values i (omega arith))

among_index : (values : List (List ℕ)) (value : List ℕ) → Among values value → (i : ℕ) × (i < length values) × (get_or values i [] ≡ value)
among_index [] value none = absurd none
among_index (one ∷ values) value (inl is) = (0, omega arith, sym is)
among_index (one ∷ values) value (inr more) = let rest = among_index values value more in (suc rest.0, (let lt = rest.1 in omega arith), rest.2)

-- each pick names a choice
pub picked_is_left : (first : Image) (ops : List Operation) (picks : List ℕ) → LeftBy first ops (crashed_image first ops picks)
picked_is_left first ops picks n =
    let values = choices n (first n) (first n ∷ []) ops in
    let some : 1 ≤ length values = choices_some n (first n) (first n ∷ []) ops (omega arith) in
    among_at values (min (pick_of ops picks n) (length values - 1)) (omega arith)

image_written : (first : Image) (ops : List Operation) (picks : List ℕ) (n : ℕ) → written_since n false ops ≡ true → crashed_image first ops picks n ≡ picked (choices n (first n) (first n ∷ []) ops) (get_or picks (written_below ops n) 0)
image_written first ops picks n yes_is = ap (λ (b : Bool). picked (choices n (first n) (first n ∷ []) ops) (if b then get_or picks (written_below ops n) 0 else 0)) yes_is

image_unwritten : (first : Image) (ops : List Operation) (picks : List ℕ) (n : ℕ) → written_since n false ops ≡ false → crashed_image first ops picks n ≡ picked (choices n (first n) (first n ∷ []) ops) 0
image_unwritten first ops picks n no_is = ap (λ (b : Bool). picked (choices n (first n) (first n ∷ []) ops) (if b then get_or picks (written_below ops n) 0 else 0)) no_is

below_written : (ops : List Operation) (n : ℕ) → written_since n false ops ≡ true → written_below ops (suc n) ≡ written_below ops n + 1
below_written ops n is = ap (λ (b : Bool). if b then written_below ops n + 1 else written_below ops n) is

below_unwritten : (ops : List Operation) (n : ℕ) → written_since n false ops ≡ false → written_below ops (suc n) ≡ written_below ops n
below_unwritten ops n is = ap (λ (b : Bool). if b then written_below ops n + 1 else written_below ops n) is

below_grows : (ops : List Operation) (n : ℕ) → written_below ops n ≤ written_below ops (suc n)
below_grows ops n = step (written_since n false ops)
  where
    step : (b : Bool) → written_below ops n ≤ (if b then written_below ops n + 1 else written_below ops n)
    step true = omega arith
    step false = omega arith

-- the written sectors below a number come before it
below_less : (ops : List Operation) (n size : ℕ) → n < size → written_since n false ops ≡ true → written_below ops n < written_below ops size
below_less ops n zero lt is = absurd (omega arith)
below_less ops n (suc size) lt is = elim (cases_eq n size) [
  | inl same ↦ let here = below_written ops n is in
      subst (λ (k : ℕ). written_below ops n < written_below ops (suc k)) same (omega (arith, here))
  | inr other ↦ let before = below_less ops n size (omega arith) is in omega (arith, before, below_grows ops size)
]

-- picks for the sectors below a number
pub record Picks (first : Image) (ops : List Operation) (c : Image) (size : ℕ) (picks : List ℕ) : Type 0 where
  pub count : length picks ≡ written_below ops size
  pub small : (k : ℕ) → get_or picks k 0 ≤ length ops
  pub gives : (n : ℕ) → n < size → crashed_image first ops picks n ≡ c n

unwritten_is : (first : Image) (ops : List Operation) (c : Image) (picks : List ℕ) (n : ℕ) → LeftBy first ops c → written_since n false ops ≡ false → crashed_image first ops picks n ≡ c n
unwritten_is first ops c picks n left no_is =
    let values = choices n (first n) (first n ∷ []) ops in
    let alone : length values ≡ 1 = choices_alone n (first n) (first n ∷ []) false ops (λ is. refl) no_is in
    let found = among_index values (c n) (left n) in
    let lt = found.1 in
    let same : min 0 (length values - 1) ≡ found.0 = omega arith in
    image_unwritten first ops picks n no_is ∙ ap (λ (i : ℕ). get_or values i []) same ∙ found.2

picks_more : (first : Image) (ops : List Operation) (c : Image) (size : ℕ) (picks : List ℕ) → LeftBy first ops c → Picks first ops c size picks → (b : Bool) → written_since size false ops ≡ b → (more : List ℕ) × Picks first ops c (suc size) more
picks_more first ops c size picks left so_far false no_is = (
  picks,
  record {
    count = so_far.count ∙ sym (below_unwritten ops size no_is);
    small = so_far.small;
    gives = λ n lt. elim (cases_eq n size) [
      | inl same ↦ subst (λ (k : ℕ). crashed_image first ops picks k ≡ c k) (sym same) (unwritten_is first ops c picks size left no_is)
      | inr other ↦ so_far.gives n (omega arith)
    ];
  },
)
picks_more first ops c size picks left so_far true yes_is = (
  picks ++ found.0 ∷ [],
  record {
    count = (let counted = so_far.count in omega (arith, length_push picks found.0, below_written ops size yes_is));
    small = small;
    gives = λ n lt. elim (cases_eq n size) [
      | inl same ↦ subst (λ (k : ℕ). crashed_image first ops (picks ++ found.0 ∷ []) k ≡ c k) (sym same) here
      | inr other ↦ before n (omega arith)
    ];
  },
)
  where
    found : (i : ℕ) × (i < length (choices size (first size) (first size ∷ []) ops)) × (get_or (choices size (first size) (first size ∷ []) ops) i [] ≡ c size)
    found = among_index (choices size (first size) (first size ∷ []) ops) (c size) (left size)

    few : found.0 ≤ length ops
    few = let lt = found.1 in omega (arith, choices_few size (first size) (first size ∷ []) ops (omega arith))

    small : (k : ℕ) → get_or (picks ++ found.0 ∷ []) k 0 ≤ length ops
    small k = elim (cases_eq k (length picks)) [
      | inl same ↦ subst (λ (j : ℕ). get_or (picks ++ found.0 ∷ []) j 0 ≤ length ops) (sym same) (subst (λ (x : ℕ). x ≤ length ops) (sym (number_new picks found.0)) few)
      | inr other ↦ elim (cases_lt k (length picks)) [
        | inl lt ↦ subst (λ (x : ℕ). x ≤ length ops) (sym (number_old picks found.0 k lt)) (so_far.small k)
        | inr past ↦ subst (λ (x : ℕ). x ≤ length ops) (sym (number_past (picks ++ found.0 ∷ []) k (omega (arith, length_push picks found.0)))) (omega arith)
      ]
    ]

    here : crashed_image first ops (picks ++ found.0 ∷ []) size ≡ c size
    here =
        let values = choices size (first size) (first size ∷ []) ops in
        let lt = found.1 in
        let at : get_or (picks ++ found.0 ∷ []) (written_below ops size) 0 ≡ found.0 = ap (λ (i : ℕ). get_or (picks ++ found.0 ∷ []) i 0) (sym so_far.count) ∙ number_new picks found.0 in
        let is : min found.0 (length values - 1) ≡ found.0 = omega arith in
        image_written first ops (picks ++ found.0 ∷ []) size yes_is ∙ ap (λ (p : ℕ). picked values p) at ∙ ap (λ (i : ℕ). get_or values i []) is ∙ found.2

    before_if : (n : ℕ) → n < size → (b : Bool) → written_since n false ops ≡ b → crashed_image first ops (picks ++ found.0 ∷ []) n ≡ c n
    before_if n lt false no_is = unwritten_is first ops c (picks ++ found.0 ∷ []) n left no_is
    before_if n lt true is =
        let values = choices n (first n) (first n ∷ []) ops in
        let counted = so_far.count in
        let less : written_below ops n < length picks = omega (arith, below_less ops n size lt is) in
        image_written first ops (picks ++ found.0 ∷ []) n is ∙ ap (λ (p : ℕ). picked values p) (number_old picks found.0 (written_below ops n) less)
        ∙ sym (image_written first ops picks n is) ∙ so_far.gives n lt

    before : (n : ℕ) → n < size → crashed_image first ops (picks ++ found.0 ∷ []) n ≡ c n
    before n lt = before_if n lt (written_since n false ops) refl

-- some picks give the image
pub find_picks : (first : Image) (ops : List Operation) (c : Image) (size : ℕ) → LeftBy first ops c → (picks : List ℕ) × Picks first ops c size picks
find_picks first ops c zero left = ([], record { count = refl; small = λ k. omega arith; gives = λ n lt. absurd (omega arith) })
find_picks first ops c (suc size) left = let so_far = find_picks first ops c size left in picks_more first ops c size so_far.0 left so_far.1 (written_since size false ops) refl

-- a place past the last pick has none
pub pick_at : (picks : List ℕ) (used below : ℕ) → used ≡ min below (length picks) → get_or picks used 0 ≡ get_or picks below 0
pick_at picks used below is = elim (cases_lt below (length picks)) [
  | inl lt ↦ (let same : used ≡ below = omega arith in ap (λ (i : ℕ). get_or picks i 0) same)
  | inr past ↦ number_past picks used (omega arith) ∙ sym (number_past picks below past)
]

pub value_written : (first : Image) (ops : List Operation) (picks : List ℕ) (n used : ℕ) (value : List ℕ) (pick : ℕ) (here : List ℕ) → written_since n false ops ≡ true → used ≡ min (written_below ops n) (length picks) → pick ≡ get_or picks used 0 → here ≡ first n → value ≡ picked (choices n here (here ∷ []) ops) pick → value ≡ crashed_image first ops picks n
value_written first ops picks n used value pick here is counted pick_is here_is value_is =
    value_is
    ∙ ap (λ (x : List ℕ). picked (choices n x (x ∷ []) ops) pick) here_is
    ∙ ap (λ (p : ℕ). picked (choices n (first n) (first n ∷ []) ops) p) (pick_is ∙ pick_at picks used (written_below ops n) counted)
    ∙ sym (image_written first ops picks n is)

pub value_unwritten : (first : Image) (ops : List Operation) (picks : List ℕ) (n : ℕ) (value : List ℕ) (pick : ℕ) (here : List ℕ) → written_since n false ops ≡ false → pick ≡ 0 → here ≡ first n → value ≡ picked (choices n here (here ∷ []) ops) pick → value ≡ crashed_image first ops picks n
value_unwritten first ops picks n value pick here is pick_is here_is value_is =
    value_is
    ∙ ap (λ (x : List ℕ). picked (choices n x (x ∷ []) ops) pick) here_is
    ∙ ap (λ (p : ℕ). picked (choices n (first n) (first n ∷ []) ops) p) pick_is
    ∙ sym (image_unwritten first ops picks n is)

pub used_written : (ops : List Operation) (n used picks new : ℕ) → written_since n false ops ≡ true → used ≡ min (written_below ops n) picks → new ≡ min (used + 1) picks → new ≡ min (written_below ops (n + 1)) picks
used_written ops n used picks new is counted more = let below : written_below ops (n + 1) ≡ written_below ops n + 1 = rw add-one (below_written ops n is) in omega arith

pub used_unwritten : (ops : List Operation) (n used picks : ℕ) → written_since n false ops ≡ false → used ≡ min (written_below ops n) picks → used ≡ min (written_below ops (n + 1)) picks
used_unwritten ops n used picks is counted = let below : written_below ops (n + 1) ≡ written_below ops n = rw add-one (below_unwritten ops n is) in omega arith

pub sectors_more : (image more : List (List ℕ)) (value : List ℕ) (c : Image) (n : ℕ) → length image ≡ n → more ≡ image ++ value ∷ [] → value ≡ c n → ((k : ℕ) → k < n → get_or image k [] ≡ c k) → (k : ℕ) → k < n + 1 → get_or more k [] ≡ c k
sectors_more image more value c n long more_is value_is so_far k lt = elim (cases_lt k n) [
  | inl before ↦ ap (λ (l : List (List ℕ)). get_or l k []) more_is ∙ get_or_old image value k (omega arith) ∙ so_far k before
  | inr past ↦ (let same : k ≡ length image = omega arith in let at : k ≡ n = omega arith in
      ap (λ (l : List (List ℕ)). get_or l k []) more_is ∙ ap (λ (i : ℕ). get_or (image ++ value ∷ []) i []) same ∙ get_or_new image value ∙ value_is ∙ ap c (sym at))
]
