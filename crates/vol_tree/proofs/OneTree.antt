-- An image stands for at most one tree, under one volume's numbers.
use Rattle.std.proofs.Common.{◌≡◌, ◌≢◌, inr, ℕ, suc, ◌+◌, ◌^◌, ◌≤◌, ◌<◌, List, [], ◌∷◌, length, map, get_or, drop, Option, Some, None, refl, sym, ◌∙◌, ap, subst, arith}
use Rattle.std.specs.Option.{option_map}
use Rattle.std.proofs.lemmas.List.{ext_get_or}
use Rattle.byteorder.specs.Endian.{little_number}
use Rattle.byteorder.specs.Numbers.{little_number-reads_back}
use Rattle.vol_sector.specs.Disk.{Image}
use Rattle.vol_log.specs.Header.{IsHeader}
use Rattle.vol_log.specs.Batch.{over, logged, SameContent, HasContent}
use Rattle.vol_log.proofs.Parse.{count_is, number_is}
use Rattle.vol_inode.specs.declared.entry.Entry.{Entry}
use Rattle.vol_inode.specs.declared.entry.Kind.{Kind}
use Rattle.vol_inode.specs.declared.entry.Kind.TheVariants as kinds
use Rattle.vol_inode.specs.declared.version.Version.{Version}
use Rattle.vol_inode.specs.declared.version.Version.TheVariants.{One, Two, Four}
use Rattle.vol_inode.specs.Entry.{HasWidths, IsEntry, name_of}
use Rattle.vol_inode.specs.Space.{size_limit}
use Rattle.vol_inode.specs.Spelling.{spelling, kind_byte}
use Rattle.vol_inode.proofs.Fields.{parent_is, size_is, name_is, pointers_are, pointer_is}
use Rattle.vol_body.specs.Body.{named, SameSectors}
use Rattle.vol_body.proofs.Same.{same_file, same_list}
use Rattle.vol_tree.specs.declared.superblock.Superblock.{Superblock}
use Rattle.vol_tree.specs.Superblock.{superblock, HasRanges, version_number}
use Rattle.vol_tree.specs.Tree as tree
use Rattle.vol_tree.specs.Tree.{Tree}
use Rattle.vol_tree.specs.Stands.{Slots, slot, Holds, entry_of, tree_of, node_by, KeepApart, StandsAs}
use Rattle.vol_log.specs.declared.layout.TheConstants.{FIRST_AFTER_LOG}
use Rattle.vol_dirs.specs.Slots.{slot_sector}
use Rattle.vol_inode.specs.declared.version.TheConstants.{LARGEST_SIZE}

-- ---- the superblock

same_version : (v w : Version) → version_number v ≡ version_number w → v ≡ w
same_version One One same = refl
same_version One Two same = absurd (omega arith)
same_version Two One same = absurd (omega arith)
same_version Two Two same = refl
same_version One Four same = absurd (omega arith)
same_version Two Four same = absurd (omega arith)
same_version Four One same = absurd (omega arith)
same_version Four Two same = absurd (omega arith)
same_version Four Four same = refl

small_version : (v : Version) → version_number v < 256 ^ 4
small_version One = omega arith
small_version Two = omega arith
small_version Four = omega arith

pub version_is : (bytes : List ℕ) (v : Superblock) → bytes ≡ superblock v → little_number 4 (drop 8 bytes) ≡ version_number v.version
version_is bytes v is = ap (λ (l : List ℕ). little_number 4 (drop 8 l)) is ∙ little_number-reads_back 4 (version_number v.version) (drop 12 (superblock v)) (small_version v.version)

pub sectors_is : (bytes : List ℕ) (v : Superblock) → HasRanges v → bytes ≡ superblock v → little_number 4 (drop 12 bytes) ≡ v.sectors
sectors_is bytes v ranges is =
    let small : v.sectors < 256 ^ 4 = omega (arith, ranges.most) in
    ap (λ (l : List ℕ). little_number 4 (drop 12 l)) is ∙ little_number-reads_back 4 v.sectors (drop 16 (superblock v)) small

pub slots_is : (bytes : List ℕ) (v : Superblock) → HasRanges v → bytes ≡ superblock v → little_number 4 (drop 16 bytes) ≡ v.slots
slots_is bytes v ranges is =
    let small : v.slots < 256 ^ 4 = omega (arith, ranges.few_slots) in
    ap (λ (l : List ℕ). little_number 4 (drop 16 l)) is ∙ little_number-reads_back 4 v.slots (drop 20 (superblock v)) small

pub same_superblock : (bytes : List ℕ) (v w : Superblock) → HasRanges v → HasRanges w → bytes ≡ superblock v → bytes ≡ superblock w → v ≡ w
same_superblock bytes v w one other is too =
    let version : v.version ≡ w.version = same_version v.version w.version (sym (version_is bytes v is) ∙ version_is bytes w too) in
    let sectors : v.sectors ≡ w.sectors = sym (sectors_is bytes v one is) ∙ sectors_is bytes w other too in
    let slots : v.slots ≡ w.slots = sym (slots_is bytes v one is) ∙ slots_is bytes w other too in
    λ i. record { version = version i; sectors = sectors i; slots = slots i }

-- ---- the content

same_log : (sectors : ℕ) (header ns ms : List ℕ) → sectors < 256 ^ 4 → IsHeader sectors header ns → IsHeader sectors header ms → ns ≡ ms
same_log sectors header ns ms fits one other =
    let long : length ns ≡ length ms = sym (count_is sectors header ns one) ∙ count_is sectors header ms other in
    ext_get_or 0 ns ms long (λ i lt. let l : i < length ms = omega arith in sym (number_is sectors header ns i fits one lt) ∙ number_is sectors header ms i fits other l)

same_content : (sectors : ℕ) (image one other : Image) → sectors < 256 ^ 4 → HasContent sectors image one → HasContent sectors image other → SameContent one other
same_content sectors image one other fits has too k is =
    let log : has.log ≡ too.log = same_log sectors (image 1) has.log too.log fits has.header too.header in
    sym (has.same k is) ∙ ap (λ (ns : List ℕ). over (logged ns 2 image) image k) log ∙ too.same k is

-- ---- the slots

same_kind : (k l : Kind) → kind_byte k ≡ kind_byte l → k ≡ l
same_kind kinds.Directory kinds.Directory same = refl
same_kind kinds.Directory kinds.File same = absurd (omega arith)
same_kind kinds.File kinds.Directory same = absurd (omega arith)
same_kind kinds.File kinds.File same = refl

some_kind : (k : Kind) → kind_byte k ≢ 0
some_kind kinds.Directory none = omega arith
some_kind kinds.File none = omega arith

same_entry : (d e : Entry) → HasWidths d → HasWidths e → spelling d ≡ spelling e → d ≡ e
same_entry d e one other same =
    let bytes = spelling d in
    let kind : d.kind ≡ e.kind = same_kind d.kind e.kind (ap (λ (l : List ℕ). get_or l 0 0) same) in
    let name_length : d.name_length ≡ e.name_length = ap (λ (l : List ℕ). get_or l 1 0) same in
    let parent : d.parent ≡ e.parent = sym (parent_is bytes d one refl) ∙ parent_is bytes e other same in
    let size : d.size ≡ e.size = sym (size_is bytes d one refl) ∙ size_is bytes e other same in
    let name : d.name ≡ e.name = sym (name_is bytes d one refl) ∙ name_is bytes e other same in
    let pointers : d.pointers ≡ e.pointers = pointers_are bytes e d.pointers other same one.pointers (λ k lt. sym (pointer_is bytes d k one refl lt)) in
    λ i. record { kind = kind i; name_length = name_length i; parent = parent i; size = size i; name = name i; pointers = pointers i }

abbrev IsSlot : Version → Option Entry → Type 0
IsSlot version o = (e : Entry) → o ≡ Some e → IsEntry version e

same_slot : (version : Version) (o p : Option Entry) → IsSlot version o → IsSlot version p → slot o ≡ slot p → o ≡ p
same_slot version None None one other same = refl
same_slot version None (Some e) one other same = absurd (some_kind e.kind (sym (ap (λ (l : List ℕ). get_or l 0 0) same)))
same_slot version (Some d) None one other same = absurd (some_kind d.kind (ap (λ (l : List ℕ). get_or l 0 0) same))
same_slot version (Some d) (Some e) one other same = ap Some (same_entry d e (one d refl).widths (other e refl).widths same)

pub same_slots : (version : Version) (a b : Image) (one other : Slots) → length one ≡ length other → SameContent a b → Holds a version one → Holds b version other → one ≡ other
same_slots version a b one other long same has too = ext_get_or None one other long (λ s lt.
    let l : s < length other = omega arith in
    let after_log : FIRST_AFTER_LOG ≤ slot_sector (s + 1) = omega arith in
    same_slot version (get_or one s None) (get_or other s None) (has.entries s) (too.entries s)
    (sym (has.bytes s lt) ∙ same (slot_sector (s + 1)) (inr after_log) ∙ too.bytes s l))

-- ---- the tree

map_same : {X Y : Type 0} (f g : X → Y) (d : X) (xs : List X) → ((i : ℕ) → i < length xs → f (get_or xs i d) ≡ g (get_or xs i d)) → map f xs ≡ map g xs
map_same f g d [] same = refl
map_same f g d (x ∷ xs) same =
    let here : f x ≡ g x = same 0 (omega arith) in
    let rest : map f xs ≡ map g xs = map_same f g d xs (λ i lt. same (suc i) (omega arith)) in
    λ j. here j ∷ rest j

pub limit_small : (version : Version) → size_limit version ≤ LARGEST_SIZE
limit_small One = omega arith
limit_small Two = omega arith
limit_small Four = omega arith

pub same_tree_entry : (a b : Image) (version : Version) (e : Entry) → IsEntry version e → SameSectors a b e → entry_of b e ≡ entry_of a e
same_tree_entry a b version e is same =
    let small : e.size ≤ LARGEST_SIZE = omega (arith, is.rules.size.small, limit_small version) in
    ap (λ (bytes : List ℕ). (let r : tree.Entry = record { parent = e.parent; name = name_of e; node = node_by e.kind bytes } in r)) (same_list a b e (same_file a b e same) small)

same_option : (a b : Image) (o : Option Entry) → ((e : Entry) → o ≡ Some e → entry_of b e ≡ entry_of a e) → option_map (entry_of a) o ≡ option_map (entry_of b) o
same_option a b None same = refl
same_option a b (Some e) same = ap Some (sym (same e refl))

-- the trees are the same where each entry is
pub same_options : (a b : Image) (slots : Slots) → ((s : ℕ) (e : Entry) → get_or slots s None ≡ Some e → entry_of b e ≡ entry_of a e) → tree_of a slots ≡ tree_of b slots
same_options a b slots same = map_same (option_map (entry_of a)) (option_map (entry_of b)) None slots (λ s lt. same_option a b (get_or slots s None) (same s))

pub same_tree : (a b : Image) (v : Superblock) (slots : Slots) → SameContent a b → Holds a v.version slots → KeepApart a v slots → tree_of a slots ≡ tree_of b slots
same_tree a b v slots same holds apart = same_options a b slots (λ s e is.
    same_tree_entry a b v.version e (holds.entries s e is) (λ p place some.
    let after_log : FIRST_AFTER_LOG ≤ named a e p = omega (arith, apart.after_slots s e p is place some) in
    sym (same (named a e p) (inr after_log))))

pub one_tree : (image : Image) (v : Superblock) (T U : Tree) → StandsAs image v T → StandsAs image v U → T ≡ U
one_tree image v T U one other =
    let fits : v.sectors < 256 ^ 4 = omega (arith, one.ranges.most) in
    let same : SameContent one.content other.content = same_content v.sectors image one.content other.content fits one.log other.log in
    let long : length one.slots ≡ length other.slots = one.volume.count ∙ sym other.volume.count in
    let slots : one.slots ≡ other.slots = same_slots v.version one.content other.content one.slots other.slots long same one.volume.holds other.volume.holds in
    one.is ∙ same_tree one.content other.content v one.slots same one.volume.holds one.volume.sectors ∙ ap (tree_of other.content) slots ∙ sym other.is

pub one_volume : (image : Image) (v w : Superblock) (T U : Tree) → StandsAs image v T → StandsAs image w U → (v ≡ w) × (T ≡ U)
one_volume image v w T U one other =
    let same : v ≡ w = same_superblock (image 0) v w one.ranges other.ranges one.front other.front in
    (same, one_tree image v T U one (subst (λ (u : Superblock). StandsAs image u U) (sym same) other))
