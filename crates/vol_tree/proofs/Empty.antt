-- The empty volume stands for the empty tree.
use Rattle.std.proofs.Common.{is_some, ◌≡◌, ℕ, zero, suc, ◌-◌, ◌≤◌, ◌<◌, ◌/◌, ◌%◌, ◌==◌, Bool, true, false, if◌then◌else◌, nat_lt, List, [], ◌∷◌, map, get_or, replicate, Option, Some, None, All, refl, sym, ◌∙◌, ap, subst, arith}
use Rattle.std.specs.Option.{option_map}
use Rattle.std.specs.List.{sum_by}
use Rattle.std.proofs.lemmas.List.{length-replicate}
use Rattle.std.proofs.lemmas.Option.{same_Some, none-some}
use Rattle.std.proofs.lemmas.Bool.{false≢true}
use Rattle.std.proofs.lemmas.Bool.Decides.{nat_tests}
use Rattle.vol_sector.specs.Disk.{Image}
use Rattle.vol_log.proofs.Commit.{no_places, has_own}
use Rattle.vol_inode.specs.declared.entry.Entry.{Entry}
use Rattle.vol_inode.specs.declared.version.Version.{Version}
use Rattle.vol_inode.specs.declared.version.Version.TheVariants.{One, Two, Four}
use Rattle.vol_inode.specs.Entry.{IsEntry}
use Rattle.vol_inode.specs.Space.{size_limit}
use Rattle.vol_inode.specs.Spelling.{spelling, unused}
use Rattle.vol_body.specs.Body.{BlockPosition, data_block, indirect_block, inner_block, double_indirect_block, triple_indirect_block, named, number_in, block_bytes, IsBody}
use Rattle.vol_tree.specs.declared.superblock.Superblock.{Superblock}
use Rattle.vol_tree.specs.Superblock.{superblock, HasRanges}
use Rattle.vol_tree.specs.Tree as tree
use Rattle.vol_tree.specs.Tree.{Tree, IsTree, IsAt, root, entry}
use Rattle.vol_tree.specs.Space.{space, need_in}
use Rattle.vol_tree.specs.Stands.{Slots, slot, entry_of, tree_of, KeepApart, IsVolume, StandsAs, empty_tree}
use Rattle.vol_tree.specs.internal.Formatting.{root_entry, fresh_slot, HasFreshSlots, IsFresh}

-- ---- lists of one value

pub none_at : {X : Type 0} (n i : ℕ) → get_or (replicate {A = Option X} n None) i None ≡ None
none_at zero i = refl
none_at (suc n) zero = refl
none_at (suc n) (suc i) = none_at n i

pub zero_at : (n i : ℕ) → get_or (replicate {A = ℕ} n 0) i 0 ≡ 0
zero_at zero i = refl
zero_at (suc n) zero = refl
zero_at (suc n) (suc i) = zero_at n i

zero_in : (n i d : ℕ) → i < n → get_or (replicate {A = ℕ} n 0) i d ≡ 0
zero_in zero i d lt = absurd (omega arith)
zero_in (suc n) zero d lt = refl
zero_in (suc n) (suc i) d lt = zero_in n i d (omega arith)

all_zeros : (n : ℕ) → All (λ (b : ℕ). b ≡ 0) (replicate n 0)
all_zeros n = λ i d lt. let l : i < n = omega (arith, length-replicate {A = ℕ} n 0) in zero_in n i d l

map_none : {X Y : Type 0} (f : X → Y) (n : ℕ) → map (option_map f) (replicate n None) ≡ replicate n None
map_none f zero = refl
map_none f (suc n) = ap (λ (l : List (Option _)). None ∷ l) (map_none f n)

pub no_need : (n : ℕ) → sum_by need_in (replicate n None) ≡ 0
no_need zero = refl
no_need (suc n) = no_need n

-- ---- the root

limit : (version : Version) → 0 ≤ size_limit version
limit One = omega arith
limit Two = omega arith
limit Four = omega arith

pub root_is_entry : (version : Version) → IsEntry version root_entry
root_is_entry version = record {
  widths = record {
    parent = omega arith;
    size = omega arith;
    name = refl;
    pointers = refl;
    each = λ k. let z : get_or (replicate 61 0) k 0 ≡ 0 = zero_at 61 k in omega arith;
  };
  rules = record {
    name = record { root_kind = λ none. refl; root_name = λ none. refl; name = λ some. absurd (some refl) };
    padded = all_zeros 255;
    size = record { directory = λ is. refl; small = limit version };
    pointers = λ k lt le. zero_at 61 k;
  };
}

pick : (b c : Bool) (x y : ℕ) → x ≡ 0 → y ≡ 0 → (if b then x else (if c then 0 else y)) ≡ 0
pick true c x y none other = none
pick false true x y none other = refl
pick false false x y none other = other

double_none : (content : Image) (d : ℕ) → named content root_entry (double_indirect_block d) ≡ 0
double_none content zero = refl
double_none content (suc m) = refl

inner_none : (content : Image) (i : ℕ) → named content root_entry (inner_block i) ≡ 0
inner_none content i = ap (λ (n : ℕ). number_in content n (i % 128)) (double_none content (i / 128))

pub names_none : (content : Image) (p : BlockPosition) → named content root_entry p ≡ 0
names_none content (data_block j) = pick (nat_lt j 58) (nat_lt j 186) (get_or (replicate 61 0) j 0) _ (zero_at 61 j) (ap (λ (n : ℕ). number_in content n ((j - 186) % 128)) (inner_none content ((j - 186) / 128)))
names_none content indirect_block = refl
names_none content (inner_block i) = inner_none content i
names_none content (double_indirect_block d) = double_none content d
names_none content triple_indirect_block = refl

root_is_body : (content : Image) → IsBody content root_entry
root_is_body content = record {
  distinct = λ p q a b some same. absurd (some (names_none content p));
  past = λ p a le. names_none content p;
  zeros = λ k le lt. ap (λ (n : ℕ). get_or (block_bytes content n) (k % 512) 0) (names_none content (data_block (k / 512))) ∙ zero_at 512 (k % 512);
}

-- ---- the slots

abbrev pub fresh_slots : ℕ → Slots
fresh_slots n = Some root_entry ∷ replicate (n - 1) None

past_first : (s : ℕ) (x y : List ℕ) → (if suc s == 0 then x else y) ≡ y
past_first s x y = grind (arith, nat_tests)

-- no slot but the first is used
pub later_slot : (s : ℕ) → 1 ≤ s → fresh_slot s ≡ unused
later_slot zero later = absurd (omega arith)
later_slot (suc s) later = past_first s (spelling root_entry) unused

slot_is : (n s : ℕ) → slot (get_or (fresh_slots n) s None) ≡ fresh_slot s
slot_is n zero = refl
slot_is n (suc s) = ap slot (none_at (n - 1) s) ∙ sym (later_slot (suc s) (omega arith))

pub only_entry : (n s : ℕ) (e : Entry) → get_or (fresh_slots n) s None ≡ Some e → (s ≡ 0) × (e ≡ root_entry)
only_entry n zero e is = (refl, sym (same_Some root_entry e is))
only_entry n (suc s) e is = absurd (none-some e (sym (none_at (n - 1) s) ∙ is))

keep_apart : (content : Image) (v : Superblock) → HasRanges v → KeepApart content v (fresh_slots v.slots)
keep_apart content v ranges = record {
  bodies = λ s e is. subst (λ (e : Entry). IsBody content e) (sym (only_entry v.slots s e is).1) (root_is_body content);
  after_slots = λ s e p is place some. absurd (some (nothing s e p is));
  there = λ s e p is place. let none : named content e p ≡ 0 = nothing s e p is in omega (arith, ranges.least);
  apart = λ s t d e p q is too a b some same. absurd (some (nothing s d p is));
}
  where
    nothing : (s : ℕ) (e : Entry) (p : BlockPosition) → get_or (fresh_slots v.slots) s None ≡ Some e → named content e p ≡ 0
    nothing s e p is = ap (λ (e : Entry). named content e p) (only_entry v.slots s e is).1 ∙ names_none content p

-- ---- the tree

only_root : (n s : ℕ) (e : tree.Entry) → entry (empty_tree n) s ≡ Some e → (s ≡ 1) × (e ≡ root)
only_root n zero e is = absurd (none-some e is)
only_root n (suc zero) e is = (refl, sym (same_Some root e is))
only_root n (suc (suc s)) e is = absurd (none-some e (sym (none_at (n - 1) s) ∙ is))

reached : (n s : ℕ) → is_some (entry (empty_tree n) s) ≡ true → (path : tree.Path) × IsAt (empty_tree n) path s
reached n zero used = absurd (false≢true used)
reached n (suc zero) used = ([], refl)
reached n (suc (suc s)) used = absurd (false≢true (sym (ap is_some (none_at (n - 1) s)) ∙ used))

empty_is_tree : (n : ℕ) → IsTree (empty_tree n)
empty_is_tree n = record {
  top = refl;
  named = λ s e is other. absurd (other (only_root n s e is).0);
  inside = λ s e is other. absurd (other (only_root n s e is).0);
  apart = λ s t d e is too parents names. (only_root n s d is).0 ∙ sym (only_root n t e too).0;
  reached = reached n;
}

pub tree_is : (content : Image) (n : ℕ) → tree_of content (fresh_slots n) ≡ empty_tree n
tree_is content n = ap (λ (l : Tree). Some root ∷ l) (map_none (entry_of content) (n - 1))

-- ---- the volume

pub fresh_volume : (content : Image) (v : Superblock) → HasRanges v → HasFreshSlots v.slots content → IsVolume content v (fresh_slots v.slots)
fresh_volume content v ranges written = record {
  count = omega (arith, length-replicate {A = Option Entry} (v.slots - 1) None, ranges.some_slots);
  holds = record {
    bytes = λ s lt. let l : s < v.slots = omega (arith, lt, length-replicate {A = Option Entry} (v.slots - 1) None, ranges.some_slots) in written s l ∙ sym (slot_is v.slots s);
    entries = λ s e is. subst (λ (e : Entry). IsEntry v.version e) (sym (only_entry v.slots s e is).1) (root_is_entry v.version);
  };
  sectors = keep_apart content v ranges;
  tree = subst IsTree (sym (tree_is content v.slots)) (empty_is_tree v.slots);
  space = let none : space (tree_of content (fresh_slots v.slots)) ≡ 0 = ap space (tree_is content v.slots) ∙ no_need (v.slots - 1) in omega arith;
}

pub stands_empty : (v : Superblock) (m : Image) → HasRanges v → m 0 ≡ superblock v → IsFresh v.slots m → StandsAs m v (empty_tree v.slots)
stands_empty v m ranges front written = record {
  front = front;
  ranges = ranges;
  content = m;
  log = has_own v.sectors m m (record { places = no_places v.sectors; spelled = written.log }) (λ k is. refl);
  slots = fresh_slots v.slots;
  volume = fresh_volume m v ranges written.entries;
  is = sym (tree_is m v.slots);
}
