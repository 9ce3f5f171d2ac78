-- Creating an entry, from what the names say to the tree.
use Rattle.std.proofs.Common.{is_some, ◌≡◌, ℕ, zero, suc, ◌+◌, ◌-◌, ◌≤◌, ◌<◌, ◌^◌, true, false, List, [], ◌++◌, length, take, drop, get_or, replicate, All, Option, Some, None, Ok, Err, refl, sym, ◌∙◌, ap, subst, arith}
use Rattle.std.proofs.lemmas.Bool.{false≢true}
use Rattle.std.proofs.lemmas.List.{length-append, length-replicate, take_at, drop_at}
use Rattle.vol_sector.specs.Disk.{Image, put}
use Rattle.vol_inode.specs.declared.entry.Entry.{Entry}
use Rattle.vol_inode.specs.declared.entry.Kind.{Kind}
use Rattle.vol_inode.specs.declared.version.Version.{Version}
use Rattle.vol_inode.specs.declared.version.Version.TheVariants.{One, Two, Four}
use Rattle.vol_inode.specs.Entry.{IsEntry, name_of, first_block_of_pointer}
use Rattle.vol_inode.specs.Name.{IsName}
use Rattle.vol_inode.specs.Space.{size_limit, blocks_for_size}
use Rattle.vol_inode.specs.Spelling.{spelling}
use Rattle.vol_alloc.specs.declared.sectors.Alloc.{Alloc}
use Rattle.vol_tree.specs.declared.superblock.Superblock.{Superblock}
use Rattle.vol_tree.specs.declared.errno.Errno.TheVariants as errno
use Rattle.vol_tree.specs.Tree as tree
use Rattle.vol_tree.specs.Tree.{Tree, Name, Node, IsTree, IsDirectory, lookup, least_from, is_unused, changed}
use Rattle.vol_tree.specs.Calls.{created}
use Rattle.vol_tree.specs.Space.{space}
use Rattle.vol_tree.specs.Stands.{node_by, entry_of}
use Rattle.vol_tree.specs.Clauses.{slots_in, tree_in}
use Rattle.vol_tree.specs.internal.Parts.{IsContent, AreTaken}
use Rattle.vol_tree.proofs.LeastSerial.{created_least}
use Rattle.vol_tree.proofs.Grows.{created_grows}
use Rattle.vol_tree.proofs.Adding.{created_is, created_exists, added_tree, added_reserved, added_front, added_content, added_taken, added_is, zero_at}
use Rattle.vol_log.specs.declared.layout.TheConstants.{FIRST_AFTER_LOG}
use Rattle.vol_dirs.specs.Slots.{slot_sector}

pub found_exists : (T : Tree) (parent : ℕ) (name : Name) (node : Node) (o : Option ℕ) → o ≡ lookup T parent name → is_some o ≡ true → created T parent name node ≡ Err errno.Exist
found_exists T parent name node None is some = absurd (false≢true some)
found_exists T parent name node (Some found) is some = created_exists T parent found name node (sym is)

pub missing_none : (T : Tree) (parent : ℕ) (name : Name) (o : Option ℕ) → o ≡ lookup T parent name → is_some o ≡ false → lookup T parent name ≡ None
missing_none T parent name None is none = sym is
missing_none T parent name (Some found) is none = absurd (false≢true (sym none))

-- an entry with nothing in it, by its fields
limit : (version : Version) → 0 ≤ size_limit version
limit One = omega arith
limit Two = omega arith
limit Four = omega arith

zero_in : (n i d : ℕ) → i < n → get_or (replicate {A = ℕ} n 0) i d ≡ 0
zero_in zero i d lt = absurd (omega arith)
zero_in (suc n) zero d lt = refl
zero_in (suc n) (suc i) d lt = zero_in n i d (omega arith)

all_zeros : (n : ℕ) → All (λ (b : ℕ). b ≡ 0) (replicate n 0)
all_zeros n = λ i d lt. let l : i < n = omega (arith, length-replicate {A = ℕ} n 0) in zero_in n i d l

pub name_kept : (e : Entry) (n : List ℕ) → e.name_length ≡ length n → e.name ≡ n ++ replicate (255 - length n) 0 → name_of e ≡ n
name_kept e n long is = (λ i. take (long i) (is i)) ∙ take_at n (replicate (255 - length n) 0) (length n) refl

pub new_is_entry : (version : Version) (e : Entry) (n : List ℕ) → 1 ≤ e.parent → e.parent < 2 ^ 32 → e.size ≡ 0 → e.name_length ≡ length n → e.name ≡ n ++ replicate (255 - length n) 0 → IsName n
    → e.pointers ≡ replicate 61 0 → IsEntry version e
new_is_entry version e n some small empty long is name pointers =
    let each : (k : ℕ) → get_or e.pointers k 0 ≡ 0 = λ k. ap (λ (l : List ℕ). get_or l k 0) pointers ∙ zero_at 61 k in
    record {
      widths = record {
        parent = small;
        size = omega arith;
        name = ap length is ∙ length-append n (replicate (255 - length n) 0) ∙ (let l = length-replicate {A = ℕ} (255 - length n) 0 in let short = name.short in omega arith);
        pointers = ap length pointers;
        each = λ k. let z = each k in omega arith;
      };
      rules = record {
        name = record {
          root_kind = λ none. absurd (omega arith);
          root_name = λ none. absurd (omega arith);
          name = λ some. subst IsName (sym (name_kept e n long is)) name;
        };
        padded = subst (All (λ (b : ℕ). b ≡ 0)) (sym ((λ i. drop (long i) (is i)) ∙ drop_at n (replicate (255 - length n) 0) (length n) refl)) (all_zeros (255 - length n));
        size = record { directory = λ is. empty; small = omega (arith, empty, limit version) };
        pointers = λ k lt le. each k;
      };
    }

-- an entry with another place and name
pub renamed_is_entry : (version : Version) (d e : Entry) (n : List ℕ) → IsEntry version d → 1 ≤ e.parent → e.parent < 2 ^ 32 → e.size ≡ d.size → e.kind ≡ d.kind → e.name_length ≡ length n → e.name ≡ n ++ replicate (255 - length n) 0
    → IsName n → e.pointers ≡ d.pointers → IsEntry version e
renamed_is_entry version d e n was some small size kind long is name pointers = record {
  widths = record {
    parent = small;
    size = subst (λ (k : ℕ). k < 2 ^ 32) (sym size) was.widths.size;
    name = ap length is ∙ length-append n (replicate (255 - length n) 0) ∙ (let l = length-replicate {A = ℕ} (255 - length n) 0 in let short = name.short in omega arith);
    pointers = ap length pointers ∙ was.widths.pointers;
    each = subst (λ (l : List ℕ). (k : ℕ) → get_or l k 0 < 2 ^ 32) (sym pointers) was.widths.each;
  };
  rules = record {
    name = record {
      root_kind = λ none. absurd (omega arith);
      root_name = λ none. absurd (omega arith);
      name = λ some. subst IsName (sym (name_kept e n long is)) name;
    };
    padded = subst (All (λ (b : ℕ). b ≡ 0)) (sym ((λ i. drop (long i) (is i)) ∙ drop_at n (replicate (255 - length n) 0) (length n) refl)) (all_zeros (255 - length n));
    size = record { directory = λ directory. size ∙ was.rules.size.directory (sym kind ∙ directory); small = subst (λ (k : ℕ). k ≤ size_limit version) (sym size) was.rules.size.small };
    pointers = λ k lt le. ap (λ (l : List ℕ). get_or l k 0) pointers ∙ was.rules.pointers k lt (subst (λ (m : ℕ). blocks_for_size m ≤ first_block_of_pointer k) size le);
  };
}

-- what a creation makes of a content
pub record Created (a b : Image) (v : Superblock) (sectors : Alloc) (parent : ℕ) (name : Name) (kind : Kind) (serial : ℕ) : Type 0 where
  pub front : b 0 ≡ a 0
  pub content : IsContent b v
  pub space : space (tree_in b v) ≡ space (tree_in a v)
  pub taken : AreTaken b v (slots_in b v.slots) sectors
  pub tree : created (tree_in a v) parent name (node_by kind []) ≡ Ok (tree_in b v, serial)

pub creates : (a b : Image) (v : Superblock) (sectors : Alloc) (parent : ℕ) (name : Name) (kind : Kind) (serial : ℕ) (e : Entry) → FIRST_AFTER_LOG + v.slots < v.sectors → IsContent a v → 1 ≤ serial → serial ≤ v.slots
    → lookup (tree_in a v) parent name ≡ None → least_from 1 is_unused (tree_in a v) ≡ Some serial → IsName name → IsDirectory (tree_in a v) parent
    → IsEntry v.version e → e.parent ≡ parent → name_of e ≡ name → e.kind ≡ kind → e.size ≡ 0 → e.pointers ≡ replicate 61 0
    → b ≡ put (slot_sector serial) (spelling e) a → AreTaken a v (slots_in a v.slots) sectors → Created a b v sectors parent name kind serial
creates a b v sectors parent name kind zero e ranges is first last missing least is_name inside right p n k empty pointers is_put taken = absurd (omega arith)
creates a b v sectors parent name kind (suc s) e ranges is first last missing least is_name inside right p n k empty pointers is_put taken =
    let T : Tree = tree_in a v in
    let new : tree.Entry = record { parent = parent; name = name; node = node_by kind [] } in
    let U : Tree = changed T (suc s) (Some new) in
    let made : created T parent name (node_by kind []) ≡ Ok (U, suc s) = created_is T parent (suc s) name (node_by kind []) missing least in
    let fresh = created_least T U parent (suc s) name (node_by kind []) made in
    let grown : IsTree U = created_grows T U parent (suc s) name (node_by kind []) is.volume.tree is_name inside made in
    let lt : s < v.slots = omega arith in
    let each : (i : ℕ) → get_or e.pointers i 0 ≡ 0 = λ i. ap (λ (l : List ℕ). get_or l i 0) pointers ∙ zero_at 61 i in
    let here : slot_sector (suc s) ≡ slot_sector (s + 1) = omega arith in
    let put_is : b ≡ put (slot_sector (s + 1)) (spelling e) a = is_put ∙ ap (λ (x : ℕ). put x (spelling e) a) here in
    let added : entry_of b e ≡ new = added_is a b v is s lt fresh.unused e right each empty put_is ranges parent name p n ∙ ap (λ (x : Kind). (let r : tree.Entry = record { parent = parent; name = name; node = node_by x [] } in r)) k in
    let tree_is : tree_in b v ≡ U = added_tree a b v is s lt fresh.unused e right each empty put_is ranges ∙ ap (λ (x : tree.Entry). changed T (suc s) (Some x)) added in
    record {
      front = added_front a b v is s lt fresh.unused e right each empty put_is ranges;
      content = added_content a b v is s lt fresh.unused e right each empty put_is ranges (subst (λ (x : tree.Entry). IsTree (changed T (suc s) (Some x))) (sym added) grown);
      space = added_reserved a b v is s lt fresh.unused e right each empty put_is ranges;
      taken = added_taken a b v is s lt fresh.unused e right each empty put_is ranges sectors taken;
      tree = made ∙ ap (λ (x : Tree). Ok (x, suc s)) (sym tree_is);
    }
