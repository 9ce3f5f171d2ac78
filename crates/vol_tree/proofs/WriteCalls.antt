-- What holds of a file whose entry was read.
use Rattle.std.proofs.Common.{is_some, ◌≡◌, ◌==◌, ℕ, zero, suc, ◌+◌, ◌-◌, ◌≤◌, ◌<◌, true, false, not, List, [], ◌∷◌, length, map, replicate, get_or, max, Option, Some, None, refl, sym, ◌∙◌, ap, arith}
use Rattle.std.specs.Option.{option_map, option_map_or}
use Rattle.std.specs.List.{sum_by}
use Rattle.std.proofs.lemmas.Bool.{false≢true}
use Rattle.std.proofs.lemmas.List.{length-append, length-take, length-replicate}
use Rattle.std.proofs.lemmas.List.FromFn.{length-map-range_with_len}
use Rattle.std.proofs.lemmas.List.Sums.{sum_by-cons, count_by-le-length, get_or-le-sum_by}
use Rattle.vol_sector.specs.Disk.{Image}
use Rattle.vol_inode.specs.declared.entry.Entry.{Entry}
use Rattle.vol_inode.specs.declared.entry.Kind.{Kind}
use Rattle.vol_inode.specs.declared.entry.Kind.TheVariants as kinds
use Rattle.vol_inode.specs.Space.{need_of}
use Rattle.vol_body.specs.Body.{named, bytes_of, byte_at, positions_of}
use Rattle.vol_body.specs.Change.{used_of}
use Rattle.vol_body.proofs.Needed.{length-positions_of}
use Rattle.vol_alloc.specs.declared.sectors.Alloc.{Alloc}
use Rattle.vol_alloc.specs.Alloc.{first_of, end_of, free_of}
use Rattle.vol_tree.specs.declared.superblock.Superblock.{Superblock}
use Rattle.vol_tree.specs.Tree as tree
use Rattle.vol_tree.specs.Tree.{Tree, File, changed}
use Rattle.vol_tree.specs.Calls.{bytes_at, is_file_at, is_directory}
use Rattle.vol_tree.specs.Calls as calls
use Rattle.vol_tree.specs.Space.{space, need_in, size_of}
use Rattle.vol_tree.specs.Stands.{entry_of, node_by}
use Rattle.vol_tree.specs.Clauses.{slots_in, tree_in}
use Rattle.vol_tree.specs.Opened.{data_sectors}
use Rattle.vol_tree.specs.internal.Slots.{slot_of}
use Rattle.vol_tree.specs.internal.Parts.{IsContent, AreTaken}
use Rattle.vol_tree.proofs.Counts.{used_in, free_and_used}
use Rattle.vol_tree.proofs.SlotsRead.{slots_count}
use Rattle.vol_tree.proofs.Finding.{tree_entry, slot_within, size_back, length_tree}
use Rattle.vol_body.specs.Bytes.{zero_extended, resized_bytes, written_bytes}
use Rattle.vol_tree.proofs.Writes.{length_written, space_changed}
use Rattle.vol_log.specs.declared.layout.TheConstants.{FIRST_AFTER_LOG}

-- ---- each file uses no more sectors than it needs

used_needs : (content : Image) (v : Superblock) (is : IsContent content v) (s : ℕ) (o : Option Entry) → get_or (slots_in content v.slots) s None ≡ o → used_in content o ≤ need_in (option_map (entry_of content) o)
used_needs content v is s None at = omega arith
used_needs content v is s (Some d) at =
    let right = is.volume.holds.entries s d at in
    let size : d.size ≡ size_of (node_by d.kind (bytes_of content d)) = size_back d.kind d.size (bytes_of content d) right.rules.size.directory (length-map-range_with_len (byte_at content d) 0 d.size) in
    let needs : need_of d.size ≡ need_of (size_of (node_by d.kind (bytes_of content d))) = ap need_of size in
    let few : used_of content d ≤ length (positions_of d.size) = count_by-le-length (λ p. not (named content d p == 0)) (positions_of d.size) in
    omega (arith, few, length-positions_of d.size, needs)

-- two sums of which one is no greater, but for one place
sum_le_but_one : {X Y : Type 0} (f : X → ℕ) (g : Y → ℕ) (d : X) (h : X → Y) (xs : List X) (s : ℕ) → s < length xs → ((t : ℕ) → t < length xs → f (get_or xs t d) ≤ g (h (get_or xs t d)))
    → sum_by f xs + g (h (get_or xs s d)) ≤ sum_by g (map h xs) + f (get_or xs s d)
sum_le_but_one f g d h [] s lt le = absurd (omega arith)
sum_le_but_one f g d h (x ∷ xs) zero lt le =
    let rest = sum_le f g d h xs (λ t l. le (suc t) (omega arith)) in
    omega (arith, sum_by-cons f x xs, sum_by-cons g (h x) (map h xs), rest)
  where
    sum_le : {X Y : Type 0} (f : X → ℕ) (g : Y → ℕ) (d : X) (h : X → Y) (xs : List X) → ((t : ℕ) → t < length xs → f (get_or xs t d) ≤ g (h (get_or xs t d))) → sum_by f xs ≤ sum_by g (map h xs)
    sum_le f g d h [] le = omega arith
    sum_le f g d h (x ∷ xs) le =
        let here = le 0 (omega arith) in
        let rest = sum_le f g d h xs (λ t l. le (suc t) (omega arith)) in
        omega (arith, sum_by-cons f x xs, sum_by-cons g (h x) (map h xs), here, rest)
sum_le_but_one f g d h (x ∷ xs) (suc s) lt le =
    let here = le 0 (omega arith) in
    let rest = sum_le_but_one f g d h xs s (omega arith) (λ t l. le (suc t) (omega arith)) in
    omega (arith, sum_by-cons f x xs, sum_by-cons g (h x) (map h xs), here, rest)

module _ (content : Image) (v : Superblock) (is : IsContent content v) (file : ℕ) (first : 1 ≤ file) (d : Entry) (slot_is : slot_of content v file ≡ Some d) (file_is : is_file_at (tree_in content v) file ≡ true) where
  abbrev T : Tree
  T = tree_in content v

  abbrev e : tree.Entry
  e = entry_of content d

  pub at_file : tree.entry T file ≡ Some e
  at_file = tree_entry content v file d first slot_is

  kind_file : (k : Kind) (bytes : List ℕ) → not (is_directory (node_by k bytes)) ≡ true → k ≡ kinds.File
  kind_file kinds.Directory bytes isnt = absurd (false≢true isnt)
  kind_file kinds.File bytes isnt = refl

  pub is_file : d.kind ≡ kinds.File
  is_file = kind_file d.kind (bytes_of content d) (ap (λ (o : Option tree.Entry). option_map_or (λ (c : tree.Entry). not (is_directory c.node)) o false) (sym at_file) ∙ file_is)

  pub node_is : e.node ≡ File (bytes_of content d)
  node_is = ap (λ (k : Kind). node_by k (bytes_of content d)) is_file

  pub old_bytes : bytes_at T file ≡ bytes_of content d
  old_bytes = ap (λ (o : Option tree.Entry). option_map_or (λ (c : tree.Entry). calls.bytes_of c.node) o []) at_file ∙ ap calls.bytes_of node_is

  within : file - 1 < v.slots
  within = slot_within content v.slots (file - 1) d slot_is

  long : length (bytes_at T file) ≡ d.size
  long = ap length old_bytes ∙ length-map-range_with_len (byte_at content d) 0 d.size

  old_size : size_of e.node ≡ d.size
  old_size = ap size_of node_is ∙ length-map-range_with_len (byte_at content d) 0 d.size

  pub long_written : (offset : ℕ) (bytes : List ℕ) → 0 < length bytes → length (written_bytes (bytes_at T file) offset bytes) ≡ max d.size (offset + length bytes)
  long_written offset bytes some = length_written (bytes_at T file) offset bytes some ∙ ap (λ (n : ℕ). max n (offset + length bytes)) long

  -- with other bytes
  pub space_with : (bytes : List ℕ) → space (changed T file (Some (record e { node = File bytes }))) + need_of d.size ≡ space T + need_of (length bytes)
  space_with bytes =
      let here : file ≡ suc (file - 1) = omega arith in
      let was : need_of (size_of e.node) ≡ need_of d.size = ap need_of old_size in
      let lt : file - 1 < length T = omega (arith, within, length_tree content v) in
      let same : space (changed T file (Some (record e { node = File bytes }))) ≡ space (changed T (suc (file - 1)) (Some (record e { node = File bytes }))) = ap (λ (s : ℕ). space (changed T s (Some (record e { node = File bytes })))) here in
      let sums = space_changed T (file - 1) e (record e { node = File bytes }) (ap (tree.entry T) (sym here) ∙ at_file) lt in
      omega (arith, same, sums, was)

  -- a file needs no more than all files
  pub need_le : need_of d.size ≤ space T
  need_le =
      let here : file ≡ suc (file - 1) = omega arith in
      let lt : file - 1 < length T = omega (arith, within, length_tree content v) in
      let own : need_in (get_or T (file - 1) None) ≡ need_of d.size = ap need_in (ap (tree.entry T) (sym here) ∙ at_file) ∙ ap need_of old_size in
      omega (arith, get_or-le-sum_by need_in T (file - 1) None lt, own)

  -- the space that a file needs is there
  pub enough : (sectors : Alloc) (size : ℕ) → AreTaken content v (slots_in content v.slots) sectors → first_of sectors ≡ FIRST_AFTER_LOG + v.slots → end_of sectors ≡ v.sectors → space T + need_of size ≤ data_sectors v + need_of d.size → need_of size ≤ free_of sectors + used_of content d
  enough sectors size taken first_is end_is fits =
      let count = free_and_used content v sectors is taken first_is end_is in
      let slots = slots_in content v.slots in
      let lt : file - 1 < length slots = omega (arith, within, slots_count content v.slots) in
      let sums = sum_le_but_one (used_in content) need_in None (option_map (entry_of content)) slots (file - 1) lt (λ t l. used_needs content v is t (get_or slots t None) refl) in
      let own_used : used_in content (get_or slots (file - 1) None) ≡ used_of content d = ap (used_in content) slot_is in
      let own_need : need_in (option_map (entry_of content) (get_or slots (file - 1) None)) ≡ need_of d.size = ap (λ (o : Option Entry). need_in (option_map (entry_of content) o)) slot_is ∙ ap need_of old_size in
      omega (arith, sums, own_used, own_need, count, fits)

-- a file is an entry
pub file_used : (T : Tree) (s : ℕ) → is_file_at T s ≡ true → is_some (tree.entry T s) ≡ true
file_used T s is = go (tree.entry T s) is
  where
    go : (o : Option tree.Entry) → option_map_or (λ (c : tree.Entry). not (is_directory c.node)) o false ≡ true → is_some o ≡ true
    go None p = absurd (false≢true p)
    go (Some c) p = refl

pub long_resized : (size : ℕ) (old : List ℕ) → length (resized_bytes size old) ≡ size
long_resized size old = omega (arith, length-take size (zero_extended size old), length-append old (replicate (size - length old) 0), length-replicate {A = ℕ} (size - length old) 0)
