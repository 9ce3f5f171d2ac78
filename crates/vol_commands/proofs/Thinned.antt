-- A tree from which entries at or below one are taken, a leaf at a time.
use Rattle.std.proofs.Common.{is_some, ◌≡◌, ◌≢◌, ⊎_elim, ℕ, zero, suc, ◌+◌, ◌≤◌, Bool, true, false, List, [], ◌∷◌, ◌++◌, length, get_or, set, Option, Some, None, IsSome, if◌then◌else◌, inl, inr, refl, sym, ◌∙◌, ap, subst, arith, length-set, ext_get_or}
use Rattle.std.proofs.lemmas.Option.{same_Some, none-some}
use Rattle.std.proofs.lemmas.Bool.{cases_Bool, cases_eq, cond-true, cond-false, false≢true}
use Rattle.vol_tree.specs.Tree.{Tree, Path, Entry, entry, changed, Leads, IsTree, root}
use Rattle.std.specs.Option.{option_map_or}
use Rattle.vol_tree.specs.Calls.{is_within, parent_at}
use Rattle.vol_tree.specs.PathLaws.{IsBelow}
use Rattle.vol_tree.proofs.Entries.{entry-changed_same, entry-changed_other, leads_on}
use Rattle.vol_tree.proofs.Determines.{opened}
use Rattle.vol_tree.proofs.Trees.{Childless, empty_childless, without_is_tree}
use Rattle.vol_tree.proofs.Within.{within_below}
use Rattle.vol_commands.specs.Changes.{IsThinned, kept_from, without}
use Rattle.vol_commands.specs.internal.Changing.{IsLeafBelow}

-- ---- the slots that are kept

if_none : (b : Bool) (o : Option Entry) → o ≡ None → (if b then None else o) ≡ None
if_none true o h = refl
if_none false o h = h

length-kept_from : (n : ℕ) (goes : ℕ → Bool) (T : Tree) → length (kept_from n goes T) ≡ length T
length-kept_from n goes [] = refl
length-kept_from n goes (e ∷ T) = ap suc (length-kept_from (suc n) goes T)

get_or-kept_from : (n k : ℕ) (goes : ℕ → Bool) (T : Tree) (i : ℕ) → k ≡ n + i → get_or (kept_from n goes T) i None ≡ (if goes k then None else get_or T i None)
get_or-kept_from n k goes [] i at = sym (if_none (goes k) None refl)
get_or-kept_from n k goes (e ∷ T) zero at = ap (λ (m : ℕ). if goes m then None else e) (let same : n ≡ k = omega arith in same)
get_or-kept_from n k goes (e ∷ T) (suc i) at = get_or-kept_from (suc n) k goes T i (omega arith)

pub entry-without : (T : Tree) (top s : ℕ) → entry (without T top) s ≡ (if is_within (length T) T top s then None else entry T s)
entry-without T top zero = sym (if_none (is_within (length T) T top zero) None refl)
entry-without T top (suc i) = get_or-kept_from 1 (suc i) (is_within (length T) T top) T i (omega arith)

length-changed : (T : Tree) (s : ℕ) (o : Option Entry) → length (changed T s o) ≡ length T
length-changed T zero o = refl
length-changed T (suc slot) o = length-set T slot o

-- ---- how many entries there are

abbrev pub used_in : Tree → ℕ
used_in [] = 0
used_in (None ∷ T) = used_in T
used_in (Some e ∷ T) = suc (used_in T)

pub used-le-length : (T : Tree) → used_in T ≤ length T
used-le-length [] = omega arith
used-le-length (None ∷ T) = let rest = used-le-length T in omega (arith, rest)
used-le-length (Some e ∷ T) = let rest = used-le-length T in omega (arith, rest)

used-set : (T : Tree) (i : ℕ) (e : Entry) → get_or T i None ≡ Some e → suc (used_in (set T i None)) ≡ used_in T
used-set [] i e h = absurd (none-some e h)
used-set (None ∷ T) zero e h = absurd (none-some e h)
used-set (Some d ∷ T) zero e h = refl
used-set (None ∷ T) (suc i) e h = used-set T i e h
used-set (Some d ∷ T) (suc i) e h = ap suc (used-set T i e h)

used-changed : (T : Tree) (s : ℕ) (e : Entry) → entry T s ≡ Some e → suc (used_in (changed T s None)) ≡ used_in T
used-changed T zero e h = absurd (none-some e h)
used-changed T (suc slot) e h = used-set T slot e h

-- ---- the root isn't below another entry

from_zero : (T : Tree) (top : ℕ) → IsSome (entry T top) → (path : Path) → Leads T top path 0 → ⊥
from_zero T top used [] h = false≢true (ap (λ (s : ℕ). is_some (entry T s)) h ∙ used)
from_zero T top used (n ∷ path) h = none-some h.0 h.1

pub never_root : (T : Tree) → IsTree T → (top : ℕ) → top ≢ 1 → IsSome (entry T top) → (path : Path) → Leads T top path 1 → ⊥
never_root T t top other used [] h = other (sym h)
never_root T t top other used (n ∷ path) h =
    let same : h.0 ≡ root = same_Some h.0 root (sym h.1 ∙ t.top) in
    from_zero T top used path (subst (λ (e : Entry). Leads T top path e.parent) same h.3)

-- ---- one leaf after another

pub thinned_not : (T : Tree) (top : ℕ) → IsTree T → IsThinned T top T
thinned_not T top t = record { slots = refl; tree = t; entries = λ s. inl refl }

module _ (T : Tree) (top : ℕ) (U : Tree) (thin : IsThinned T top U) where
  -- an entry that is left is that of the tree
  same_left : (s : ℕ) (e : Entry) → entry U s ≡ Some e → entry T s ≡ Some e
  same_left s e h = ⊎_elim (λ same. sym same ∙ h) (λ gone. absurd (none-some e (sym gone.1 ∙ h))) (thin.entries s)

  leads_left : (above : ℕ) (path : Path) (s : ℕ) → Leads U above path s → Leads T above path s
  leads_left above [] s h = h
  leads_left above (n ∷ path) s h = (h.0, same_left s h.0 h.1, h.2, leads_left above path h.0.parent h.3)

  pub below_left : (here leaf : ℕ) → IsBelow T top here → IsBelow U here leaf → IsBelow T top leaf
  below_left here leaf first next = (next.0 ++ first.0, leads_on T top here leaf first.0 next.0 first.1 (leads_left here next.0 leaf next.1))

  module _ (leaf : ℕ) (e : Entry) (there : entry U leaf ≡ Some e) (other : leaf ≢ 1) (bare : Childless U leaf) (below : IsBelow T top leaf) where
    pub thinned_more : IsThinned T top (changed U leaf None)
    thinned_more = record {
      slots = length-changed U leaf None ∙ thin.slots;
      tree = without_is_tree U thin.tree leaf e there other bare;
      entries = λ s. elim (cases_eq s leaf) [
        | inl same ↦ inr (subst (λ (x : ℕ). IsBelow T top x) (sym same) below, ap (entry (changed U leaf None)) same ∙ entry-changed_same U leaf e None there)
        | inr apart ↦ let as_was = entry-changed_other U leaf s None apart in ⊎_elim (λ is. inl (as_was ∙ is)) (λ gone. inr (gone.0, as_was ∙ gone.1)) (thin.entries s)
      ];
    }

    -- the directory that it stands in is there still
    pub parent_left : IsSome (entry (changed U leaf None) e.parent)
    parent_left =
        let above = thin.tree.inside leaf e there other in
        ap is_some (entry-changed_other U leaf e.parent None (bare leaf e there) ∙ above.1)

    -- and is the top or below it
    pub parent_below : leaf ≢ top → IsBelow T top e.parent
    parent_below apart = go below.0 below.1
      where
        go : (path : Path) → Leads T top path leaf → IsBelow T top e.parent
        go [] h = absurd (apart h)
        go (n ∷ path) h = (path, subst (λ (d : Entry). Leads T top path d.parent) (same_Some h.0 e (sym h.1 ∙ same_left leaf e there)) h.3)

  module _ (t : IsTree T) (other : top ≢ 1) (used : IsSome (entry T top)) (e : Entry) (there : entry U top ≡ Some e) (bare : Childless U top) where
    not_root : (n : List ℕ) (path : Path) (s : ℕ) → Leads T top (n ∷ path) s → s ≢ 1
    not_root n path s h one = never_root T t top other used (n ∷ path) (subst (λ (x : ℕ). Leads T top (n ∷ path) x) one h)

    up_from : (n : List ℕ) (path : Path) (s : ℕ) (d : Entry) → entry U s ≡ Some d → Leads T top (n ∷ path) s → Leads T top path d.parent
    up_from n path s d at h = subst (λ (e : Entry). Leads T top path e.parent) (same_Some h.0 d (sym h.1 ∙ same_left s d at)) h.3

    -- where nothing stands in the top, nothing is left below it
    all_gone : (n : List ℕ) (path : Path) (s : ℕ) (d : Entry) → entry U s ≡ Some d → Leads T top (n ∷ path) s → ⊥
    all_gone n [] s d at h = bare s d at (up_from n [] s d at h)
    all_gone n (m ∷ rest) s d at h =
        let above = thin.tree.inside s d at (not_root n (m ∷ rest) s h) in
        all_gone m rest d.parent above.0 above.1 (up_from n (m ∷ rest) s d at h)

    gone_other : (s : ℕ) → s ≢ top → (o : Option Entry) → entry U s ≡ o → (path : Path) → Leads T top path s → o ≡ None
    gone_other s apart None at path h = refl
    gone_other s apart (Some d) at [] h = absurd (apart h)
    gone_other s apart (Some d) at (n ∷ path) h = absurd (all_gone n path s d at h)

    gone : (s : ℕ) → IsBelow T top s → entry (changed U top None) s ≡ None
    gone s b = elim (cases_eq s top) [
      | inl same ↦ ap (entry (changed U top None)) same ∙ entry-changed_same U top e None there
      | inr apart ↦ entry-changed_other U top s None apart ∙ gone_other s apart (entry U s) refl b.0 b.1
    ]

    kept : (s : ℕ) → (IsBelow T top s → ⊥) → entry (changed U top None) s ≡ entry T s
    kept s stays =
        let apart : s ≢ top = λ same. stays ([], same) in
        entry-changed_other U top s None apart ∙ ⊎_elim (λ is. is) (λ less. absurd (stays less.0)) (thin.entries s)

    each : (s : ℕ) → entry (changed U top None) s ≡ (if is_within (length T) T top s then None else entry T s)
    each s = let law = within_below T top s t used in elim (cases_Bool (is_within (length T) T top s)) [
      | inl within ↦ gone s (law.0 within) ∙ sym (cond-true _ _ _ within)
      | inr outside ↦ kept s (λ b. false≢true (sym outside ∙ law.1 b.0 b.1)) ∙ sym (cond-false _ _ _ outside)
    ]

    pub whole_gone : changed U top None ≡ without T top
    whole_gone = ext_get_or None (changed U top None) (without T top)
        (length-changed U top None ∙ (thin.slots ∙ sym (length-kept_from 1 (is_within (length T) T top) T)))
        (λ i low. each (suc i) ∙ sym (entry-without T top (suc i)))

-- ---- the state of a removal

-- so many turns have taken an entry each; the top is there still, and the entry at hand is at or below it
pub record IsAmid (T : Tree) (top : ℕ) (U : Tree) (here turns : ℕ) : Type 0 where
  pub thinned : IsThinned T top U
  pub below : IsBelow T top here
  pub top_used : IsSome (entry U top)
  pub counted : turns + used_in U ≡ used_in T

pub amid_first : (T : Tree) (top : ℕ) → IsTree T → IsSome (entry T top) → IsAmid T top T top 0
amid_first T top t used = record { thinned = thinned_not T top t; below = ([], refl); top_used = used; counted = omega arith }

-- there are no more turns than slots
pub amid_ends : (T : Tree) (top : ℕ) (U : Tree) (here turns : ℕ) → IsAmid T top U here turns → turns ≤ length T
amid_ends T top U here turns amid = omega (arith, amid.counted, used-le-length T)

module _ (T : Tree) (top : ℕ) (U : Tree) (here turns leaf : ℕ) (amid : IsAmid T top U here turns) (t : IsTree T) (other : top ≢ 1) (used : IsSome (entry T top)) (at : IsLeafBelow U here leaf) where
  leaf_below : IsBelow T top leaf
  leaf_below = below_left T top U amid.thinned here leaf amid.below at.below

  pub leaf_not_root : leaf ≢ 1
  leaf_not_root one = never_root T t top other used leaf_below.0 (subst (λ (x : ℕ). Leads T top leaf_below.0 x) one leaf_below.1)

  childless : Childless U leaf
  childless = empty_childless U leaf at.bare

  module _ (there : IsSome (entry U leaf)) where
    is : (e : Entry) × (entry U leaf ≡ Some e)
    is = opened (entry U leaf) there

    parent_is : parent_at U leaf ≡ is.0.parent
    parent_is = ap (λ (o : Option Entry). option_map_or (λ (e : Entry). e.parent) o 0) is.1

    pub leaf_gone : IsThinned T top (changed U leaf None)
    leaf_gone = thinned_more T top U amid.thinned leaf is.0 is.1 leaf_not_root childless leaf_below

    pub next_used : IsSome (entry (changed U leaf None) (parent_at U leaf))
    next_used = ap (λ (x : ℕ). is_some (entry (changed U leaf None) x)) parent_is ∙ parent_left T top U amid.thinned leaf is.0 is.1 leaf_not_root childless leaf_below

    pub amid_next : leaf ≢ top → IsAmid T top (changed U leaf None) (parent_at U leaf) (turns + 1)
    amid_next apart = record {
      thinned = leaf_gone;
      below = subst (λ (x : ℕ). IsBelow T top x) (sym parent_is) (parent_below T top U amid.thinned leaf is.0 is.1 leaf_not_root childless leaf_below apart);
      top_used = ap is_some (entry-changed_other U leaf top None (λ same. apart (sym same))) ∙ amid.top_used;
      counted = omega (arith, amid.counted, used-changed U leaf is.0 is.1);
    }

    pub amid_last : leaf ≡ top → changed U leaf None ≡ without T top
    amid_last same =
        let at_top : entry U top ≡ Some is.0 = ap (entry U) (sym same) ∙ is.1 in
        let bare : Childless U top = subst (λ (x : ℕ). Childless U x) same childless in
        ap (λ (x : ℕ). changed U x None) same ∙ whole_gone T top U amid.thinned t other used is.0 at_top bare
