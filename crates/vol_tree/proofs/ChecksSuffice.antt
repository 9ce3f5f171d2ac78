-- What passes all checks of opening is a volume.
use Rattle.std.proofs.Common.{is_some, inl, inr, ◌≡◌, ◌≢◌, ◌↔◌, ◌+◌, ◌-◌, ◌≤◌, ◌<◌, ℕ, zero, suc, Bool, true, false, List, [], ◌∷◌, length, take, map, get_or, Option, Some, None, IsTrue, refl, sym, ◌∙◌, ap, subst, arith}
use Rattle.std.specs.Option.{option_map}
use Rattle.std.specs.List.{sum_by, flat_map, Contains}
use Rattle.std.proofs.lemmas.Bool.{false≢true, cases_eq, cases_lt}
use Rattle.std.proofs.lemmas.Option.{none-some}
use Rattle.std.proofs.lemmas.List.{take_all, get_or-map, length-map, get_or_default, get_or_past}
use Rattle.vol_sector.specs.Disk.{Image}
use Rattle.vol_inode.specs.declared.entry.Entry.{Entry}
use Rattle.vol_inode.specs.declared.entry.Kind.{Kind}
use Rattle.vol_inode.specs.declared.entry.Kind.TheVariants as kinds
use Rattle.vol_inode.specs.Entry.{IsEntry, name_of}
use Rattle.vol_inode.specs.Name.{IsName}
use Rattle.vol_alloc.specs.Numbers.{AreDistinct}
use Rattle.vol_alloc.specs.Numbers as numbers
use Rattle.vol_alloc.specs.declared.sectors.Alloc.{Alloc}
use Rattle.vol_alloc.specs.Alloc.{taken_of}
use Rattle.vol_body.specs.Body.{named, bytes_of, IsBody, NamesOthers}
use Rattle.vol_body.specs.Survey.{sectors_named}
use Rattle.vol_body.proofs.Surveyed.{named_stands, stands_named, keeps_rules}
use Rattle.vol_tree.specs.declared.superblock.Superblock.{Superblock}
use Rattle.vol_tree.specs.declared.reading.Entries.{Entries}
use Rattle.vol_tree.specs.Superblock.{HasRanges}
use Rattle.vol_tree.specs.Tree as tree
use Rattle.vol_tree.specs.Tree.{Tree, Directory, Path, IsAt, IsDirectory, IsTree, root}
use Rattle.vol_tree.specs.Space.{space}
use Rattle.vol_tree.specs.Stands.{Slots, entry_of, node_by, KeepApart}
use Rattle.vol_tree.specs.Clauses.{slots_in, tree_in}
use Rattle.vol_tree.specs.internal.Parts.{IsContent, AreTaken}
use Rattle.vol_tree.specs.internal.Replacing.{kind_is_directory}
use Rattle.vol_tree.specs.internal.Climbs.{climb, AllLeadUp, StandInDirectories}
use Rattle.vol_tree.specs.internal.Reads.{parent_in, directory_in, named_in, reserved_in, IsPlaced, IsRight, AreWithin, HaveRead}
use Rattle.vol_tree.proofs.SlotsRead.{slots_count}
use Rattle.vol_tree.proofs.Finding.{entry_at, slot_within, slot_of_entry}
use Rattle.vol_tree.proofs.AllNamed.{in_flat, from_flat, one_distinct, apart_in}
use Rattle.vol_inode.specs.Spelling.{spelling}
use Rattle.vol_tree.proofs.ChecksHold.{space_is}
use Rattle.vol_dirs.specs.Slots.{slot_sector}

-- what every check that passed gives
pub record HasPassed (content : Image) (v : Superblock) (found : Entries) : Type 0 where
  pub ranges : HasRanges v
  pub read : HaveRead content v v.slots found
  pub within : AreWithin v found
  pub distinct : AreDistinct found.named.items
  pub top : get_or found.directories.items 0 false ≡ true
  pub stand : StandInDirectories found.parents.items found.directories.items
  pub lead : AllLeadUp found.parents.items

directory_node : (k : Kind) (bytes : List ℕ) → kind_is_directory k ≡ true → node_by k bytes ≡ Directory
directory_node kinds.Directory bytes is = refl
directory_node kinds.File bytes is = absurd (false≢true is)

by_kind : (k : Kind) (bytes : List ℕ) → k ≡ kinds.Directory → node_by k bytes ≡ Directory
by_kind k bytes is = ap (λ (x : Kind). node_by x bytes) is

module _ (content : Image) (v : Superblock) (found : Entries) (p : HasPassed content v found) where
  abbrev slots : Slots
  slots = slots_in content v.slots

  abbrev T : Tree
  T = tree_in content v

  long : length slots ≡ v.slots
  long = slots_count content v.slots

  whole : take v.slots slots ≡ slots
  whole = take_all v.slots slots (omega (arith, long))

  named_are : found.named.items ≡ flat_map (named_in content) slots
  named_are = p.read.named ∙ ap (flat_map (named_in content)) whole

  parents_are : found.parents.items ≡ map parent_in slots
  parents_are = p.read.parents ∙ ap (map parent_in) whole

  directories_are : found.directories.items ≡ map directory_in slots
  directories_are = p.read.directories ∙ ap (map directory_in) whole

  many : length found.parents.items ≡ v.slots
  many = ap length parents_are ∙ length-map slots parent_in ∙ long

  parent_at : (s : ℕ) → s < v.slots → get_or found.parents.items s 0 ≡ parent_in (get_or slots s None)
  parent_at s lt = ap (λ (l : List ℕ). get_or l s 0) parents_are ∙ get_or-map parent_in slots s None 0 (omega (arith, lt, long))

  directory_at : (s : ℕ) → s < length slots → get_or found.directories.items s false ≡ directory_in (get_or slots s None)
  directory_at s lt = ap (λ (l : List Bool). get_or l s false) directories_are ∙ get_or-map directory_in slots s None false lt

  inside_slots : (s : ℕ) (e : Entry) → get_or slots s None ≡ Some e → s < v.slots
  inside_slots s e at = slot_within content v.slots s e at

  right : (s : ℕ) (e : Entry) → get_or slots s None ≡ Some e → IsRight content v s (Some e)
  right s e at = subst (IsRight content v s) at (p.read.right s (inside_slots s e at))

  entry_right : (s : ℕ) (e : Entry) → get_or slots s None ≡ Some e → IsEntry v.version e
  entry_right s e at = (right s e at).entry e refl

  placed : (s : ℕ) (e : Entry) → get_or slots s None ≡ Some e → IsPlaced content v s e
  placed s e at = (right s e at).placed e refl

  there : (s : ℕ) (e : Entry) → get_or slots s None ≡ Some e → tree.entry T (suc s) ≡ Some (entry_of content e)
  there s e at = entry_at content slots s ∙ ap (option_map (entry_of content)) at

  -- ---- the sectors

  in_list : (s : ℕ) (e : Entry) → get_or slots s None ≡ Some e → s < length slots
  in_list s e at = omega (arith, long, inside_slots s e at)

  distinct_all : AreDistinct (flat_map (named_in content) slots)
  distinct_all = subst AreDistinct named_are p.distinct

  own_named : (s n : ℕ) (e : Entry) → get_or slots s None ≡ Some e → Contains (sectors_named content e) n → Contains (named_in content (get_or slots s None)) n
  own_named s n e at has = subst (λ (o : Option Entry). Contains (named_in content o) n) (sym at) has

  all_named : (s n : ℕ) (e : Entry) → get_or slots s None ≡ Some e → Contains (sectors_named content e) n → Contains found.named.items n
  all_named s n e at has = subst (λ (l : List ℕ). Contains l n) (sym named_are) (in_flat (named_in content) None slots s n (in_list s e at) (own_named s n e at has))

  body : (s : ℕ) (e : Entry) → get_or slots s None ≡ Some e → IsBody content e
  body s e at = keeps_rules content e
      (subst (λ (o : Option Entry). AreDistinct (named_in content o)) at (one_distinct (named_in content) None slots distinct_all s (in_list s e at)))
      ((right s e at).trimmed e refl)

  sectors : KeepApart content v slots
  sectors = record {
    bodies = body;
    after_slots = λ s e q at place some. (p.within.inside.inside (named content e q) (all_named s (named content e q) e at (named_stands content e q place some))).0;
    there = λ s e q at place. elim (cases_eq (named content e q) 0) [
      | inl none ↦ omega (arith, none, p.ranges.least)
      | inr some ↦ (p.within.inside.inside (named content e q) (all_named s (named content e q) e at (named_stands content e q place some))).1
    ];
    apart = λ s t d e q r at_d at_e place_q place_r some same.
        let n = named content d q in
        let other : Contains (sectors_named content e) n = subst (Contains (sectors_named content e)) (sym same) (named_stands content e r place_r (λ none. some (same ∙ none))) in
        apart_in (named_in content) None slots distinct_all s t n (in_list s d at_d) (in_list t e at_e) (own_named s n d at_d (named_stands content d q place_q some)) (own_named t n e at_e other);
  }

  -- ---- the tree

  slot_with : (s : ℕ) (o : Option Entry) → get_or slots s None ≡ o → directory_in o ≡ true → (e : Entry) × (get_or slots s None ≡ Some e) × (kind_is_directory e.kind ≡ true)
  slot_with s None at flag = absurd (false≢true flag)
  slot_with s (Some e) at flag = (e, at, flag)

  top : tree.entry T 1 ≡ Some root
  top =
      let first : 0 < length slots = omega (arith, long, p.ranges.some_slots) in
      let e = slot_with 0 (get_or slots 0 None) refl (sym (directory_at 0 first) ∙ p.top) in
      let name = (entry_right 0 e.0 e.1).rules.name in
      let parent : e.0.parent ≡ 0 = (placed 0 e.0 e.1).top refl in
      let is_empty : name_of e.0 ≡ [] = ap (λ (n : ℕ). take n e.0.name) (name.root_name parent) in
      let node : node_by e.0.kind (bytes_of content e.0) ≡ Directory = by_kind e.0.kind (bytes_of content e.0) (name.root_kind parent) in
      let same : entry_of content e.0 ≡ root = λ i. record { parent = parent i; name = is_empty i; node = node i } in
      there 0 e.0 e.1 ∙ ap Some same

  not_top : (s : ℕ) (e : Entry) → get_or slots s None ≡ Some e → suc s ≢ 1 → e.parent ≢ 0
  not_top s e at other = (placed s e at).below (λ none. other (omega (arith, none)))

  in_directory : (s : ℕ) (e : Entry) → get_or slots s None ≡ Some e → e.parent ≢ 0 → IsDirectory T e.parent
  in_directory s e at some = by e.parent refl
    where
      by : (q : ℕ) → e.parent ≡ q → IsDirectory T q
      by zero is = absurd (some is)
      by (suc k) is =
          let lt = inside_slots s e at in
          let here : get_or found.parents.items s 0 ≡ e.parent = parent_at s lt ∙ ap parent_in at in
          let back : get_or found.parents.items s 0 - 1 ≡ k = omega (arith, here, is) in
          let flag : get_or found.directories.items k false ≡ true = ap (λ (i : ℕ). get_or found.directories.items i false) (sym back) ∙ p.stand s (omega (arith, lt, many)) (λ none. some (sym here ∙ none)) in
          let below : k < length slots = flagged k flag in
          let f = slot_with k (get_or slots k None) refl (sym (directory_at k below) ∙ flag) in
          (entry_of content f.0, there k f.0 f.1, directory_node f.0.kind (bytes_of content f.0) f.2)
        where
          flagged : (k : ℕ) → get_or found.directories.items k false ≡ true → k < length slots
          flagged k flag = elim (cases_lt k (length slots)) [
            | inl lt ↦ lt
            | inr past ↦ absurd (false≢true (sym (get_or_past found.directories.items k false (omega (arith, past, ap length directories_are, length-map slots directory_in))) ∙ flag))
          ]

  least_of : (s t : ℕ) (d e : Entry) → get_or slots s None ≡ Some d → get_or slots t None ≡ Some e → d.parent ≡ e.parent → name_of d ≡ name_of e → s ≤ t
  least_of s t d e at_d at_e parent name = elim (cases_eq d.parent 0) [
    | inl none ↦ elim (cases_eq (suc s) 1) [
      | inl one ↦ omega (arith, one)
      | inr other ↦ absurd (not_top s d at_d other none)
    ]
    | inr some ↦ elim (cases_lt t s) [
      | inl before ↦
          let is : content (slot_sector (t + 1)) ≡ spelling e = ap content (omega arith) ∙ (right t e at_e).bytes in
          absurd ((placed s d at_d).first some (t + 1) (record {
            first = omega arith;
            last = omega (arith, before);
            spelled = record { entry = e; right = entry_right t e at_e; spelled = is; parent_is = parent; name_is = name };
          }))
      | inr le ↦ le
    ]
  ]

  -- from an entry up to the root
  path_up : (n q : ℕ) → ((s : ℕ) (e : Entry) → get_or slots s None ≡ Some e → climb n found.parents.items (suc s) ≡ 1 → (path : Path) × IsAt T path (suc s)) → IsDirectory T q → climb n found.parents.items q ≡ 1
      → (path : Path) × IsAt T path q
  path_up n zero next d is = absurd (none-some d.0 d.1)
  path_up n (suc k) next d is = let e = slot_of_entry content v k d.0 d.1 in next k e.0 e.1 is

  path_of : (n s : ℕ) (e : Entry) → get_or slots s None ≡ Some e → climb n found.parents.items (suc s) ≡ 1 → (path : Path) × IsAt T path (suc s)
  path_of zero s e at is = ([], is)
  path_of (suc n) s e at is = elim (cases_eq (suc s) 1) [
    | inl one ↦ ([], one)
    | inr other ↦
        let lt = inside_slots s e at in
        let back : suc s - 1 ≡ s = omega arith in
        let here : get_or found.parents.items (suc s - 1) 0 ≡ e.parent = ap (λ (i : ℕ). get_or found.parents.items i 0) back ∙ parent_at s lt ∙ ap parent_in at in
        let rest = path_up n e.parent (path_of n) (in_directory s e at (not_top s e at other)) (ap (climb n found.parents.items) (sym here) ∙ is) in
        (name_of e ∷ rest.0, (entry_of content e, there s e at, refl, rest.1))
  ]

  is_tree : IsTree T
  is_tree = record {
    top = top;
    named = λ serial e at other. named_at serial e at other;
    inside = λ serial e at other. inside_at serial e at other;
    apart = λ s t d e at_d at_e parent name. apart_at s t d e at_d at_e parent name;
    reached = λ serial used. reached_at serial (tree.entry T serial) refl used;
  }
    where
      named_at : (serial : ℕ) (e : tree.Entry) → tree.entry T serial ≡ Some e → serial ≢ 1 → IsName e.name
      named_at zero e at other = absurd (none-some e at)
      named_at (suc s) e at other =
          let d = slot_of_entry content v s e at in
          subst IsName (ap (λ (x : tree.Entry). x.name) d.2) ((entry_right s d.0 d.1).rules.name.name (not_top s d.0 d.1 other))

      inside_at : (serial : ℕ) (e : tree.Entry) → tree.entry T serial ≡ Some e → serial ≢ 1 → IsDirectory T e.parent
      inside_at zero e at other = absurd (none-some e at)
      inside_at (suc s) e at other =
          let d = slot_of_entry content v s e at in
          subst (IsDirectory T) (ap (λ (x : tree.Entry). x.parent) d.2) (in_directory s d.0 d.1 (not_top s d.0 d.1 other))

      apart_at : (s t : ℕ) (d e : tree.Entry) → tree.entry T s ≡ Some d → tree.entry T t ≡ Some e → d.parent ≡ e.parent → d.name ≡ e.name → s ≡ t
      apart_at zero t d e at_d at_e parent name = absurd (none-some d at_d)
      apart_at (suc s) zero d e at_d at_e parent name = absurd (none-some e at_e)
      apart_at (suc s) (suc t) d e at_d at_e parent name =
          let a = slot_of_entry content v s d at_d in
          let b = slot_of_entry content v t e at_e in
          let parents : a.0.parent ≡ b.0.parent = ap (λ (x : tree.Entry). x.parent) a.2 ∙ parent ∙ sym (ap (λ (x : tree.Entry). x.parent) b.2) in
          let names : name_of a.0 ≡ name_of b.0 = ap (λ (x : tree.Entry). x.name) a.2 ∙ name ∙ sym (ap (λ (x : tree.Entry). x.name) b.2) in
          omega (arith, least_of s t a.0 b.0 a.1 b.1 parents names, least_of t s b.0 a.0 b.1 a.1 (sym parents) (sym names))

      reached_at : (serial : ℕ) (o : Option tree.Entry) → tree.entry T serial ≡ o → is_some (tree.entry T serial) ≡ true → (path : Path) × IsAt T path serial
      reached_at serial None at used = absurd (false≢true (ap (λ (o : Option tree.Entry). is_some o) (sym at) ∙ used))
      reached_at zero (Some e) at used = absurd (none-some e at)
      reached_at (suc s) (Some e) at used =
          let d = slot_of_entry content v s e at in
          elim (cases_eq (suc s) 1) [
            | inl one ↦ ([], one)
            | inr other ↦
                let lt = inside_slots s d.0 d.1 in
                let here : get_or found.parents.items s 0 ≡ d.0.parent = parent_at s lt ∙ ap parent_in d.1 in
                let leads = p.lead s (omega (arith, lt, many)) (λ none. not_top s d.0 d.1 other (sym here ∙ none)) in
                let same : s + 1 ≡ suc s = omega arith in
                path_of leads.0 s d.0 d.1 (ap (climb leads.0 found.parents.items) (sym same) ∙ leads.1)
          ]

  -- ---- all together

  pub space_found : found.reserved ≡ space T
  space_found = p.read.reserved ∙ ap (sum_by reserved_in) whole ∙ space_is content v.version slots entry_right

  pub is_content : IsContent content v
  is_content = record {
    volume = record {
      count = long;
      holds = record { bytes = λ s lt. (p.read.right s (omega (arith, lt, long))).bytes; entries = entry_right };
      sectors = sectors;
      tree = is_tree;
      space = omega (arith, space_found, p.within.room);
    };
  }

  -- the sectors that are taken
  pub taken_found : (a : Alloc) → ((n : ℕ) → IsTrue (taken_of a n) ↔ numbers.ListsNumber found.named.items n) → AreTaken content v slots a
  taken_found a taken = record {
    named = λ s e at q place some.
        let n = named content e q in
        let has = all_named s n e at (named_stands content e q place some) in
        (taken n).1 (has.0, has.1, sym (get_or_default found.named.items has.0 n 0 has.1) ∙ has.2);
    only = λ n is_taken none.
        let names = (taken n).0 is_taken in
        let has : Contains found.named.items n = (names.0, names.1, get_or_default found.named.items names.0 n 0 names.1 ∙ names.2) in
        let at = from_flat (named_in content) None slots n (subst (λ (l : List ℕ). Contains l n) named_are has) in
        whose n at.0 (get_or slots at.0 None) refl at.2 none;
  }
    where
      whose : (n s : ℕ) (o : Option Entry) → get_or slots s None ≡ o → Contains (named_in content o) n → ((t : ℕ) (e : Entry) → get_or slots t None ≡ Some e → NamesOthers content e n) → ⊥
      whose n s None at has none = omega (arith, has.1)
      whose n s (Some e) at has none = let q = stands_named content e n has in none s e at q.position.0 q.position.1 q.position.2
