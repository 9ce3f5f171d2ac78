-- A volume passes each check of opening.
use Rattle.std.proofs.Common.{is_some, inl, inr, ◌≡◌, ◌≢◌, ◌+◌, ◌-◌, ◌≤◌, ◌<◌, ℕ, zero, suc, Bool, true, false, List, [], ◌∷◌, ◌++◌, length, take, map, get_or, Option, Some, None, refl, sym, ◌∙◌, ap, subst, arith, eqb}
use Rattle.std.specs.Option.{option_map, option_map_or}
use Rattle.std.specs.List.{sum_by, flat_map, Contains}
use Rattle.std.proofs.lemmas.Bool.{false≢true, or_cases, eqb-true}
use Rattle.std.proofs.lemmas.Option.{same_Some, none-some}
use Rattle.std.proofs.lemmas.List.Elements.{Contains-get_or}
use Rattle.std.proofs.lemmas.List.{take_all, take_more, flat_map_more, get_or-map, length-map}
use Rattle.std.proofs.lemmas.List.FromFn.{length-map-range_with_len}
use Rattle.std.proofs.lemmas.List.Sums.{sum_by-cons, sum_by_more_le}
use Rattle.vol_sector.specs.Disk.{Image}
use Rattle.vol_inode.specs.declared.entry.Entry.{Entry}
use Rattle.vol_inode.specs.declared.entry.Kind.{Kind}
use Rattle.vol_inode.specs.declared.entry.Kind.TheVariants as kinds
use Rattle.vol_inode.specs.declared.version.Version.{Version}
use Rattle.vol_inode.specs.Entry.{IsEntry}
use Rattle.vol_inode.specs.Space.{need_of}
use Rattle.vol_alloc.specs.Numbers.{AreDistinct, ArePlaces}
use Rattle.vol_body.specs.Body.{bytes_of, byte_at}
use Rattle.vol_body.specs.Survey.{AreInside}
use Rattle.vol_body.proofs.Repeats.{names_none_twice}
use Rattle.vol_body.proofs.Surveyed.{stands_named}
use Rattle.vol_tree.specs.declared.superblock.Superblock.{Superblock}
use Rattle.vol_tree.specs.declared.reading.Entries.{Entries}
use Rattle.vol_tree.specs.Tree as tree
use Rattle.vol_tree.specs.Tree.{Tree, Directory, root}
use Rattle.vol_tree.specs.Calls.{is_within}
use Rattle.vol_tree.specs.Space.{space, need_in}
use Rattle.vol_tree.specs.Stands.{Slots, entry_of, tree_of, node_by}
use Rattle.vol_tree.specs.Clauses.{slots_in, tree_in}
use Rattle.vol_tree.specs.internal.Parts.{IsContent}
use Rattle.vol_tree.specs.internal.Replacing.{kind_is_directory}
use Rattle.vol_tree.specs.internal.Climbs.{climb, AllLeadUpSoon, StandInDirectories}
use Rattle.vol_tree.specs.internal.Reads.{held_at, parent_in, directory_in, named_in, reserved_in, IsPlaced, IsRight, FitIn, HaveRead, HaveTreeSoon}
use Rattle.vol_tree.proofs.SlotsRead.{slots_count}
use Rattle.vol_tree.proofs.Checked.{held_some}
use Rattle.vol_inode.specs.Spelling.{spelling}
use Rattle.vol_tree.proofs.Finding.{entry_at, slot_within, slot_of_entry, size_back}
use Rattle.vol_tree.proofs.Within.{within_below}
use Rattle.vol_tree.proofs.AllNamed.{from_flat, all_distinct, inside_so_far}
use Rattle.vol_log.specs.declared.layout.TheConstants.{FIRST_AFTER_LOG}
use Rattle.vol_dirs.specs.Slots.{slot_sector}

-- ---- the space

needs : (content : Image) (version : Version) (o : Option Entry) → ((e : Entry) → o ≡ Some e → IsEntry version e) → reserved_in o ≡ need_in (option_map (entry_of content) o)
needs content version None right = refl
needs content version (Some e) right = ap need_of (size_back e.kind e.size (bytes_of content e) (right e refl).rules.size.directory (length-map-range_with_len (byte_at content e) 0 e.size))

pub space_is : (content : Image) (version : Version) (slots : Slots) → ((s : ℕ) (e : Entry) → get_or slots s None ≡ Some e → IsEntry version e) → sum_by reserved_in slots ≡ space (tree_of content slots)
space_is content version [] right = refl
space_is content version (o ∷ slots) right =
    let rest = space_is content version slots (λ s e at. right (suc s) e at) in
    let one = needs content version o (λ e at. right zero e at) in
    omega (arith, rest, one, sum_by-cons reserved_in o slots, sum_by-cons need_in (option_map (entry_of content) o) (tree_of content slots))

-- ---- kinds

pub kind_back : (k : Kind) (bytes : List ℕ) → node_by k bytes ≡ Directory → kind_is_directory k ≡ true
kind_back kinds.Directory bytes is = refl
kind_back kinds.File bytes is = absurd (cc)

module _ (content : Image) (v : Superblock) (is : IsContent content v) where
  abbrev slots : Slots
  slots = slots_in content v.slots

  abbrev T : Tree
  T = tree_in content v

  there : (s : ℕ) (e : Entry) → get_or slots s None ≡ Some e → tree.entry T (suc s) ≡ Some (entry_of content e)
  there s e at = entry_at content slots s ∙ ap (option_map (entry_of content)) at

  -- ---- each slot

  placed : (s : ℕ) (e : Entry) → get_or slots s None ≡ Some e → IsPlaced content v s e
  placed s e at = record {
    top = λ zeroth.
        let same : entry_of content e ≡ root = same_Some (entry_of content e) root (sym (there s e at) ∙ ap (λ (k : ℕ). tree.entry T (suc k)) zeroth ∙ is.volume.tree.top) in
        ap (λ (d : tree.Entry). d.parent) same;
    below = λ other none.
        let inside = is.volume.tree.inside (suc s) (entry_of content e) (there s e at) (λ one. other (omega (arith, one))) in
        none-some inside.0 (sym (ap (tree.entry T) none) ∙ inside.1);
    first = λ some t before.
        let spelled = before.spelled in
        let d = spelled.entry in
        let lt : t - 1 < v.slots = omega (arith, before.first, before.last, slot_within content v.slots s e at) in
        let own : content (slot_sector (t - 1 + 1)) ≡ spelling d = ap content (omega (arith, before.first)) ∙ spelled.spelled in
        let at_d : get_or slots (t - 1) None ≡ Some d = held_some content v (t - 1) lt d spelled.right own in
        let same = is.volume.tree.apart (suc s) (suc (t - 1)) (entry_of content e) (entry_of content d) (there s e at) (there (t - 1) d at_d) spelled.parent_is spelled.name_is in
        omega (arith, same, before.first, before.last);
  }

  pub right : (s : ℕ) → s < v.slots → IsRight content v s (held_at content v s)
  right s lt = record {
    bytes = is.volume.holds.bytes s (omega (arith, lt, is.volume.count));
    entry = λ e at. is.volume.holds.entries s e at;
    placed = λ e at. placed s e at;
    trimmed = λ e at. let body = is.volume.sectors.bodies s e at in record { past = body.past; zeros = body.zeros };
  }

  -- ---- the sectors that are named

  named_at : (s n : ℕ) (o : Option Entry) → get_or slots s None ≡ o → Contains (named_in content o) n → (e : Entry) × (get_or slots s None ≡ Some e) × Contains (named_in content (Some e)) n
  named_at s n None at has = absurd (omega (arith, has.1))
  named_at s n (Some e) at has = (e, at, has)

  each_distinct : (o : Option Entry) (s : ℕ) → get_or slots s None ≡ o → AreDistinct (named_in content o)
  each_distinct None s at j k lt below = absurd (omega (arith, lt, below))
  each_distinct (Some e) s at j k lt below = names_none_twice content e (is.volume.sectors.bodies s e at) j k lt below

  distinct : AreDistinct (flat_map (named_in content) slots)
  distinct = all_distinct (named_in content) None slots (λ s lt. each_distinct (get_or slots s None) s refl) (λ s t n s_in t_in one other.
      let d = named_at s n (get_or slots s None) refl one in
      let e = named_at t n (get_or slots t None) refl other in
      let p = stands_named content d.0 n d.2 in
      let q = stands_named content e.0 n e.2 in
      is.volume.sectors.apart s t d.0 e.0 p.position.0 q.position.0 d.1 e.1 p.position.1 q.position.1 (λ none. p.some (sym p.position.2 ∙ none)) (p.position.2 ∙ sym q.position.2))

  inside : (n : ℕ) → Contains (flat_map (named_in content) slots) n → (FIRST_AFTER_LOG + v.slots ≤ n) × (n < v.sectors)
  inside n has =
      let at = from_flat (named_in content) None slots n has in
      let e = named_at at.0 n (get_or slots at.0 None) refl at.2 in
      let p = stands_named content e.0 n e.2 in
      let after_slots = is.volume.sectors.after_slots at.0 e.0 p.position.0 e.1 p.position.1 (λ none. p.some (sym p.position.2 ∙ none)) in
      let below = is.volume.sectors.there at.0 e.0 p.position.0 e.1 p.position.1 in
      (omega (arith, after_slots, p.position.2), omega (arith, below, p.position.2))

  pub fits : (s : ℕ) (found : Entries) → s < v.slots → HaveRead content v s found → FitIn content v (held_at content v s) found
  fits s found lt read =
      let o = held_at content v s in
      let within : s < length slots = omega (arith, lt, slots_count content v.slots) in
      let more : flat_map (named_in content) (take (s + 1) slots) ≡ found.named.items ++ named_in content o =
      ap (flat_map (named_in content)) (take_more slots s None within) ∙ sym (flat_map_more (named_in content) [] (take s slots) o) ∙ ap (λ (l : List ℕ). l ++ named_in content o) (sym read.named) in
      record {
        inside = subst (AreInside (FIRST_AFTER_LOG + v.slots) v.sectors) more (inside_so_far (named_in content) None (FIRST_AFTER_LOG + v.slots) v.sectors slots (s + 1) distinct inside);
        room = omega (arith, read.reserved, sum_by_more_le reserved_in slots s None within, space_is content v.version slots is.volume.holds.entries, is.volume.space);
      }

  -- a slot is not refused
  pub not_refused : (s : ℕ) (found : Entries) → s < v.slots → HaveRead content v s found
      → (IsRight content v s (held_at content v s) → FitIn content v (held_at content v s) found → ⊥) → ⊥
  not_refused s found lt read none = none (right s lt) (fits s found lt read)

  -- ---- the directories that entries are in

  pub distinct_found : (found : Entries) → found.named.items ≡ flat_map (named_in content) slots → AreDistinct found.named.items
  distinct_found found named_is = subst AreDistinct (sym named_is) distinct

  pub inside_found : (found : Entries) → found.named.items ≡ flat_map (named_in content) slots → (n : ℕ) → Contains found.named.items n → (FIRST_AFTER_LOG + v.slots ≤ n) × (n < v.sectors)
  inside_found found named_is n has = inside n (subst (λ (l : List ℕ). Contains l n) named_is has)

  module _ (parents : List ℕ) (directories : List Bool) (parents_are : parents ≡ map parent_in slots) (directories_are : directories ≡ map directory_in slots) where
    many : length parents ≡ v.slots
    many = ap length parents_are ∙ length-map slots parent_in ∙ slots_count content v.slots

    parent_at : (s : ℕ) → s < v.slots → get_or parents s 0 ≡ parent_in (get_or slots s None)
    parent_at s lt = ap (λ (l : List ℕ). get_or l s 0) parents_are ∙ get_or-map parent_in slots s None 0 (omega (arith, lt, slots_count content v.slots))

    directory_at : (s : ℕ) → s < v.slots → get_or directories s false ≡ directory_in (get_or slots s None)
    directory_at s lt = ap (λ (l : List Bool). get_or l s false) directories_are ∙ get_or-map directory_in slots s None false (omega (arith, lt, slots_count content v.slots))

    -- a directory of the tree has its flag
    has_flag : (k : ℕ) (f : tree.Entry) → tree.entry T (suc k) ≡ Some f → f.node ≡ Directory → get_or directories k false ≡ true
    has_flag k f at node =
        let d = slot_of_entry content v k f at in
        directory_at k (slot_within content v.slots k d.0 d.1) ∙ ap directory_in d.1 ∙ kind_back d.0.kind (bytes_of content d.0) (ap (λ (x : tree.Entry). x.node) d.2 ∙ node)

    pub top_passes : get_or directories 0 false ≡ true
    top_passes = has_flag 0 root is.volume.tree.top refl

    parent_of : (s : ℕ) (o : Option Entry) → get_or slots s None ≡ o → parent_in o ≢ 0 → (e : Entry) × (get_or slots s None ≡ Some e) × (e.parent ≡ parent_in o)
    parent_of s None at some = absurd (some refl)
    parent_of s (Some e) at some = (e, at, refl)

    flag_of : (p : ℕ) → (f : tree.Entry) → tree.entry T p ≡ Some f → f.node ≡ Directory → get_or directories (p - 1) false ≡ true
    flag_of zero f at node = absurd (none-some f at)
    flag_of (suc k) f at node = let same : k ≡ suc k - 1 = omega arith in ap (λ (i : ℕ). get_or directories i false) (sym same) ∙ has_flag k f at node

    pub stand_passes : StandInDirectories parents directories
    stand_passes s lt some =
        let within : s < v.slots = omega (arith, lt, many) in
        let here = parent_at s within in
        let e = parent_of s (get_or slots s None) refl (λ none. some (here ∙ none)) in
        let parent : e.0.parent ≡ get_or parents s 0 = e.2 ∙ sym here in
        let p = placed s e.0 e.1 in
        let other : suc s ≢ 1 = λ one. some (sym parent ∙ p.top (omega (arith, one))) in
        let up = is.volume.tree.inside (suc s) (entry_of content e.0) (there s e.0 e.1) other in
        flag_of (get_or parents s 0) up.0 (ap (tree.entry T) (sym parent) ∙ up.1) up.2

    -- ---- the ways up

    above : (n serial : ℕ) → ((x : ℕ) → is_within n T 1 x ≡ true → (m : ℕ) × (m ≤ n) × (climb m parents x ≡ 1)) → (o : Option tree.Entry) → tree.entry T serial ≡ o
        → option_map_or (λ (e : tree.Entry). is_within n T 1 e.parent) o false ≡ true → (m : ℕ) × (m ≤ suc n) × (climb m parents serial ≡ 1)
    above n serial next None at test = absurd (false≢true test)
    above n zero next (Some e) at test = absurd (none-some e at)
    above n (suc k) next (Some e) at test =
        let d = slot_of_entry content v k e at in
        let rest = next e.parent test in
        let same : suc k - 1 ≡ k = omega arith in
        let parent : get_or parents (suc k - 1) 0 ≡ e.parent = ap (λ (i : ℕ). get_or parents i 0) same ∙ parent_at k (slot_within content v.slots k d.0 d.1) ∙ ap parent_in d.1 ∙ ap (λ (x : tree.Entry). x.parent) d.2 in
        (suc rest.0, omega (arith, rest.1), ap (climb rest.0 parents) parent ∙ rest.2)

    soon : (n serial : ℕ) → is_within n T 1 serial ≡ true → (m : ℕ) × (m ≤ n) × (climb m parents serial ≡ 1)
    soon zero serial test = (0, omega arith, eqb-true serial 1 test)
    soon (suc n) serial test = elim (or_cases (eqb serial 1) _ test) [
      | inl here ↦ (0, omega arith, eqb-true serial 1 here)
      | inr up ↦ above n serial (soon n) (tree.entry T serial) refl up
    ]

    pub lead_passes : AllLeadUpSoon parents
    lead_passes s lt some =
        let within : s < v.slots = omega (arith, lt, many) in
        let here = parent_at s within in
        let e = parent_of s (get_or slots s None) refl (λ none. some (here ∙ none)) in
        let used = ap (λ (o : Option tree.Entry). is_some o) (there s e.0 e.1) in
        let path = is.volume.tree.reached (suc s) used in
        let test = (within_below T 1 (suc s) is.volume.tree (ap (λ (o : Option tree.Entry). is_some o) is.volume.tree.top)).1 path.0 path.1 in
        let found = soon (length T) (suc s) test in
        let one : suc s ≡ s + 1 = omega arith in
        (found.0, omega (arith, found.1, many, length-map slots (option_map (entry_of content)), slots_count content v.slots), ap (climb found.0 parents) (sym one) ∙ found.2)

  -- ---- all slots

  module _ (found : Entries) (read : HaveRead content v v.slots found) where
    whole : take v.slots slots ≡ slots
    whole = take_all v.slots slots (omega (arith, slots_count content v.slots))

    named_is : found.named.items ≡ flat_map (named_in content) slots
    named_is = read.named ∙ ap (flat_map (named_in content)) whole

    parents_are : found.parents.items ≡ map parent_in slots
    parents_are = read.parents ∙ ap (map parent_in) whole

    directories_are : found.directories.items ≡ map directory_in slots
    directories_are = read.directories ∙ ap (map directory_in) whole

    pub tree_passes : HaveTreeSoon found
    tree_passes = record {
      top = top_passes found.parents.items found.directories.items parents_are directories_are;
      stand = stand_passes found.parents.items found.directories.items parents_are directories_are;
      lead = lead_passes found.parents.items found.directories.items parents_are directories_are;
    }

    pub places_pass : ArePlaces (FIRST_AFTER_LOG + v.slots) v.sectors found.named.items
    places_pass = record {
      from = λ k lt. (inside_found found named_is (get_or found.named.items k 0) (Contains-get_or found.named.items k 0 lt)).0;
      below = λ k lt. (inside_found found named_is (get_or found.named.items k 0) (Contains-get_or found.named.items k 0 lt)).1;
      distinct = distinct_found found named_is;
    }
