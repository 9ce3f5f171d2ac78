-- Going up from a directory.
use Rattle.std.proofs.Common.{is_some, ◌≡◌, ◌≢◌, inl, inr, ℕ, zero, suc, ◌≤◌, ◌==◌, ◌||◌, ◌&&◌, not, true, false, Bool, [], ◌∷◌, length, Option, Some, None, Result, Ok, Err, refl, sym, ◌∙◌, ap, arith}
use Rattle.std.specs.Option.{option_map_or}
use Rattle.std.proofs.lemmas.Bool.{cases_Bool, cases_eq, false≢true, eq-eqb, eqb-true, cond-false, cond-true}
use Rattle.std.proofs.lemmas.Option.{none-some, same_Some}
use Rattle.vol_sector.specs.Disk.{Image}
use Rattle.vol_inode.specs.declared.entry.Entry.{Entry as SlotEntry}
use Rattle.vol_inode.specs.declared.entry.Kind.{Kind}
use Rattle.vol_inode.specs.declared.entry.Kind.TheVariants as kinds
use Rattle.vol_inode.specs.Name.{IsName}
use Rattle.vol_tree.specs.declared.superblock.Superblock.{Superblock}
use Rattle.vol_tree.specs.declared.errno.Errno.{Errno}
use Rattle.vol_tree.specs.declared.errno.Errno.TheVariants as errno
use Rattle.vol_tree.specs.Tree.{Tree, Path, Name, Entry, entry, Leads, IsTree, IsDirectory, lookup, changed, is_empty, root}
use Rattle.vol_tree.specs.Calls.{is_within, unless, renamed, moved, moved_onto, directory_at, is_directory}
use Rattle.vol_tree.specs.Stands.{entry_of, node_by}
use Rattle.vol_tree.specs.Clauses.{tree_in}
use Rattle.vol_tree.specs.internal.Slots.{slot_of}
use Rattle.vol_body.specs.Body.{bytes_of}
use Rattle.vol_tree.specs.internal.Moves.{MovesToName, MovesIn, IsAbove}
use Rattle.vol_tree.specs.internal.Replacing.{kind_is_directory, replacing}
use Rattle.vol_tree.proofs.Entries.{entry-changed_same, entry-changed_other}
use Rattle.vol_tree.proofs.Finding.{tree_entry}
use Rattle.vol_tree.proofs.Grows.{not_there}
use Rattle.vol_tree.proofs.Lookups.{looked_up}
use Rattle.vol_tree.proofs.Trees.{Childless, is_directory_at}
use Rattle.vol_tree.proofs.Within.{within_below}
use Rattle.vol_tree.proofs.Writes.{first_refuses, next_decides}

not_equal : (a b : ℕ) → a ≢ b → (a == b) ≡ false
not_equal a b differ = elim (cases_Bool (a == b)) [ inl same ↦ absurd (differ (eqb-true a b same)) | inr other ↦ other ]

pub within_here : (k : ℕ) (T : Tree) (top at : ℕ) → at ≡ top → is_within k T top at ≡ true
within_here zero T top at same = eq-eqb at top same
within_here (suc k) T top at same = ap (λ (b : Bool). b || option_map_or (λ (e : Entry). is_within k T top e.parent) (entry T at) false) (eq-eqb at top same)

within_zero : (k : ℕ) (T : Tree) (top : ℕ) → 2 ≤ top → is_within k T top 0 ≡ false
within_zero zero T top two = not_equal 0 top (λ same. omega arith)
within_zero (suc k) T top two = ap (λ (b : Bool). b || false) (not_equal 0 top (λ same. omega arith))

pub within_root : (k : ℕ) (T : Tree) (top : ℕ) → IsTree T → 2 ≤ top → is_within k T top 1 ≡ false
within_root zero T top t two = not_equal 1 top (λ same. omega arith)
within_root (suc k) T top t two =
    ap (λ (b : Bool). b || option_map_or (λ (e : Entry). is_within k T top e.parent) (entry T 1) false) (not_equal 1 top (λ same. omega arith))
    ∙ ap (λ (o : Option Entry). option_map_or (λ (e : Entry). is_within k T top e.parent) o false) t.top
    ∙ within_zero k T top two

pub within_step : (k : ℕ) (T : Tree) (top at p : ℕ) → at ≢ top → IsAbove T at p → is_within (suc k) T top at ≡ is_within k T top p
within_step k T top at p differ above =
    ap (λ (b : Bool). b || option_map_or (λ (e : Entry). is_within k T top e.parent) (entry T at) false) (not_equal at top differ)
    ∙ ap (λ (o : Option Entry). option_map_or (λ (e : Entry). is_within k T top e.parent) o false) above.at
    ∙ ap (is_within k T top) above.is

pub above_used : (T : Tree) → IsTree T → (at p : ℕ) → at ≢ 1 → IsAbove T at p → is_some (entry T p) ≡ true
above_used T t at p other above = let up = t.inside at above.below above.at other in ap is_some (ap (entry T) (sym above.is) ∙ up.1)

-- ---- what a rename answers

pub renamed_root : (T : Tree) (serial parent : ℕ) (name : Name) → serial ≡ 1 → renamed T serial parent name ≡ Err errno.Invalid
renamed_root T serial parent name same = first_refuses (serial == 1) errno.Invalid ((is_within (length T) T serial parent, errno.Invalid) ∷ []) _ (eq-eqb serial 1 same)

pub renamed_within : (T : Tree) (serial parent : ℕ) (name : Name) → serial ≢ 1 → is_within (length T) T serial parent ≡ true → renamed T serial parent name ≡ Err errno.Invalid
renamed_within T serial parent name other within =
    next_decides (serial == 1) errno.Invalid ((is_within (length T) T serial parent, errno.Invalid) ∷ []) _ (not_equal serial 1 other)
    ∙ first_refuses (is_within (length T) T serial parent) errno.Invalid [] _ within

renamed_by : (T : Tree) (serial parent : ℕ) (name : Name) → serial ≢ 1 → is_within (length T) T serial parent ≡ false
    → renamed T serial parent name ≡ option_map_or (moved_onto T serial parent name) (lookup T parent name) (Ok (moved T serial parent name))
renamed_by T serial parent name other within =
    next_decides (serial == 1) errno.Invalid ((is_within (length T) T serial parent, errno.Invalid) ∷ []) _ (not_equal serial 1 other)
    ∙ next_decides (is_within (length T) T serial parent) errno.Invalid [] _ within

pub renamed_free : (T : Tree) (serial parent : ℕ) (name : Name) → serial ≢ 1 → is_within (length T) T serial parent ≡ false → lookup T parent name ≡ None → renamed T serial parent name ≡ Ok (moved T serial parent name)
renamed_free T serial parent name other within none =
    renamed_by T serial parent name other within ∙ ap (λ (o : Option ℕ). option_map_or (moved_onto T serial parent name) o (Ok (moved T serial parent name))) none

pub renamed_onto : (T : Tree) (serial parent target : ℕ) (name : Name) → serial ≢ 1 → is_within (length T) T serial parent ≡ false → lookup T parent name ≡ Some target → renamed T serial parent name ≡ moved_onto T serial parent name target
renamed_onto T serial parent target name other within some =
    renamed_by T serial parent name other within ∙ ap (λ (o : Option ℕ). option_map_or (moved_onto T serial parent name) o (Ok (moved T serial parent name))) some

pub onto_itself : (T : Tree) (serial parent target : ℕ) (name : Name) → target ≡ serial → moved_onto T serial parent name target ≡ Ok T
onto_itself T serial parent target name same = cond-true (target == serial) _ _ (eq-eqb target serial same)

-- by kinds
onto_by : (T : Tree) (serial parent target : ℕ) (name : Name) (a b f : Bool) → target ≢ serial → directory_at T serial ≡ a → directory_at T target ≡ b → not (is_empty T target) ≡ f
    → moved_onto T serial parent name target ≡ unless ((a && not b, errno.NotDirectory) ∷ (not a && b, errno.IsDirectory) ∷ (b && f, errno.NotEmpty) ∷ []) (Ok (moved (changed T target None) serial parent name))
onto_by T serial parent target name a b f differ is_a is_b is_f =
    cond-false (target == serial) _ _ (not_equal target serial differ)
    ∙ (λ i. unless ((is_a i && not (is_b i), errno.NotDirectory) ∷ (not (is_a i) && is_b i, errno.IsDirectory) ∷ (is_b i && is_f i, errno.NotEmpty) ∷ []) (Ok (moved (changed T target None) serial parent name)))

answer_by : (k t : Kind) (f : Bool) (U : Tree) → Result (Unit {0}) Errno → Result Tree Errno
answer_by k t f U (Ok x) = Ok U
answer_by k t f U (Err e) = Err e

kinds_decide : (k t : Kind) (f : Bool) (U : Tree)
    → unless ((kind_is_directory k && not (kind_is_directory t), errno.NotDirectory) ∷ (not (kind_is_directory k) && kind_is_directory t, errno.IsDirectory) ∷ (kind_is_directory t && f, errno.NotEmpty) ∷ []) (Ok U) ≡ answer_by k t f U (replacing k t f)
unfolding answer_by
kinds_decide kinds.Directory kinds.Directory true U = refl
kinds_decide kinds.Directory kinds.Directory false U = refl
kinds_decide kinds.Directory kinds.File f U = refl
kinds_decide kinds.File kinds.Directory f U = refl
kinds_decide kinds.File kinds.File f U = refl

module _ (T : Tree) (serial parent target : ℕ) (name : Name) (k t : Kind) (f : Bool) (differ : target ≢ serial) (one : directory_at T serial ≡ kind_is_directory k) (other : directory_at T target ≡ kind_is_directory t)
    (full : not (is_empty T target) ≡ f) where
  decided : moved_onto T serial parent name target ≡ answer_by k t f (moved (changed T target None) serial parent name) (replacing k t f)
  decided = onto_by T serial parent target name (kind_is_directory k) (kind_is_directory t) f differ one other full ∙ kinds_decide k t f (moved (changed T target None) serial parent name)

  pub onto_refused : (e : Errno) → replacing k t f ≡ Err e → moved_onto T serial parent name target ≡ Err e
  unfolding answer_by
  onto_refused e is = decided ∙ ap (answer_by k t f (moved (changed T target None) serial parent name)) is

  pub onto_done : replacing k t f ≡ Ok tt → moved_onto T serial parent name target ≡ Ok (moved (changed T target None) serial parent name)
  unfolding answer_by
  onto_done is = decided ∙ ap (answer_by k t f (moved (changed T target None) serial parent name)) is

-- the kind of an entry that was read
pub kind_at : (content : Image) (v : Superblock) (serial : ℕ) (d : SlotEntry) → 1 ≤ serial → slot_of content v serial ≡ Some d → directory_at (tree_in content v) serial ≡ kind_is_directory d.kind
kind_at content v serial d first slot = is_directory_at (tree_in content v) serial (entry_of content d) (tree_entry content v serial d first slot) ∙ by_kind d.kind (bytes_of content d)
  where
    by_kind : (k : Kind) (bytes : _) → is_directory (node_by k bytes) ≡ kind_is_directory k
    by_kind kinds.Directory bytes = refl
    by_kind kinds.File bytes = refl

-- ---- what a rename asks

pub may_move_in : (T : Tree) → IsTree T → (serial parent : ℕ) → is_some (entry T serial) ≡ true → serial ≢ 1 → IsDirectory T parent → is_within (length T) T serial parent ≡ false → MovesIn T serial parent
may_move_in T t serial parent used other inside within = record {
  used = used;
  not_top = other;
  inside = inside;
  outside = λ below leads. false≢true (sym within ∙ (within_below T serial parent t used).1 below leads);
}

pub may_move : (T : Tree) (serial parent : ℕ) (name : Name) → MovesIn T serial parent → lookup T parent name ≡ None → MovesToName T serial parent name
may_move T serial parent name m none = record { into = m; free = λ x d at p n. absurd (not_there T parent name none x d at p n) }

-- a target isn't the root
pub target_not_top : (T : Tree) → IsTree T → (parent target : ℕ) (name : Name) → IsName name → lookup T parent name ≡ Some target → target ≢ 1
target_not_top T t parent target name is_name some same =
    let e = looked_up T parent target name some in
    let is : e.0 ≡ root = same_Some e.0 root (sym e.1 ∙ (ap (entry T) same ∙ t.top)) in
    let empty : name ≡ [] = sym e.3 ∙ ap (λ (d : Entry). d.name) is in
    let long : length name ≡ 0 = ap length empty in
    omega (arith, is_name.some, long)

-- after the target has gone
module _ (T : Tree) (t : IsTree T) (serial parent target : ℕ) (name : Name) (m : MovesIn T serial parent) (differ : target ≢ serial) (some : lookup T parent name ≡ Some target) (bare : Childless T target) where
  abbrev Less : Tree
  Less = changed T target None

  there : (e : Entry) × (entry T target ≡ Some e) × (e.parent ≡ parent) × (e.name ≡ name)
  there = looked_up T parent target name some

  stays : (x : ℕ) → x ≢ target → entry Less x ≡ entry T x
  stays x apart = entry-changed_other T target x None apart

  left : (x : ℕ) (d : Entry) → entry Less x ≡ Some d → (x ≢ target) × (entry T x ≡ Some d)
  left x d is = elim (cases_eq x target) [
    | inl same ↦ absurd (none-some d (sym (ap (entry Less) same ∙ entry-changed_same T target there.0 None there.1) ∙ is))
    | inr apart ↦ (apart, sym (stays x apart) ∙ is)
  ]

  pub leads_left : (above : ℕ) (path : Path) (x : ℕ) → Leads Less above path x → Leads T above path x
  leads_left above [] x leads = leads
  leads_left above (n ∷ path) x leads = (leads.0, (left x leads.0 leads.1).1, leads.2, leads_left above path leads.0.parent leads.3)

  pub parent_apart : parent ≢ target
  parent_apart same = bare target there.0 there.1 (there.2 ∙ same)

  pub moves_after : MovesToName Less serial parent name
  moves_after = record {
    into = record {
      used = ap is_some (stays serial (λ same. differ (sym same))) ∙ m.used;
      not_top = m.not_top;
      inside = (m.inside.0, stays parent parent_apart ∙ m.inside.1, m.inside.2);
      outside = λ below leads. m.outside below (leads_left serial below parent leads);
    };
    free = λ x d at p n.
        let was = left x d at in
        absurd (was.0 (t.apart x target d there.0 was.1 there.1 (p ∙ sym there.2) (n ∙ sym there.3)));
  }
