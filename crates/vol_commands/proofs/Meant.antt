-- What a change means, by what its paths reach.
use Rattle.std.proofs.Common.{◌≡◌, ◌≢◌, ◌⊎◌, ⊎_elim, inl, inr, ◌&&◌, ◌==◌, ◌||◌, not, ℕ, zero, suc, Bool, true, false, List, [], ◌∷◌, length, Option, Some, IsSome, Result, Ok, Err, if◌then◌else◌, refl, sym, ◌∙◌, ap, subst}
use Rattle.std.specs.Option.{option_map_or}
use Rattle.std.proofs.lemmas.Bool.{cases_Bool, cond-true, cond-false, ne_eqb, true≢false}
use Rattle.std.proofs.lemmas.Option.{none-some}
use Rattle.vol_tree.specs.declared.errno.Errno.{Errno}
use Rattle.vol_tree.specs.declared.errno.Errno.TheVariants as errno
use Rattle.vol_tree.specs.Tree.{Tree, Name, Path, Leads, Directory, Entry, IsTree, entry, root, is_child, is_empty, least_from, lookup}
use Rattle.vol_tree.specs.Calls.{unless, created, directory_at, directory_removed, is_within, moved, moved_onto, renamed, unlinked, name_at, parent_at}
use Rattle.vol_tree.proofs.Trees.{empty_childless, is_directory_at, Childless}
use Rattle.path_walk.specs.Paths.{Reached, Found, Missing, ◌>>=◌}
use Rattle.vol_commands.specs.Tasks.{entry_found, entry_named, reached}
use Rattle.vol_commands.specs.Changes.{directory_in, directory_made, entry_moved, entry_removed, moved_to}

abbrev Both : Type 0
Both = Result (Reached × Bool) Errno

-- the first refusal is that of the whole
pub stops : {A B : Type 0} (r : Result A Errno) (f : A → Result B Errno) (e : Errno) → (r ≡ Err e) ⊎ (e ≡ errno.Io) → ((r >>= f) ≡ Err e) ⊎ (e ≡ errno.Io)
stops {A} {B} r f e why = ⊎_elim (λ is. inl (ap (λ (x : Result A Errno). let y : Result B Errno = x >>= f in y) is)) (λ io. inr io) why

-- ---- a directory

pub made_found : (T : Tree) (path : List ℕ) (found : Reached) (wants : Bool) (serial : ℕ) → reached T path ≡ Ok (found, wants) → found ≡ Found serial → directory_made T path ≡ Err errno.Exist
made_found T path found wants serial is there =
    ap (λ (x : Both). x >>= directory_in T) (is ∙ ap (λ (x : Reached). let a : Both = Ok (x, wants) in a) there)

pub made_missing : (T : Tree) (path : List ℕ) (found : Reached) (wants : Bool) (parent : ℕ) (name : Name) → reached T path ≡ Ok (found, wants) → found ≡ Missing parent name
    → (created T parent name Directory >>= λ made. Ok made.0) ≡ directory_made T path
made_missing T path found wants parent name is missing =
    sym (ap (λ (x : Both). x >>= directory_in T) (is ∙ ap (λ (x : Reached). let a : Both = Ok (x, wants) in a) missing))

-- ---- removing

pub removed_directory : (T : Tree) (path : List ℕ) (serial : ℕ) → entry_named T path ≡ Ok (serial, true) → directory_removed T serial ≡ entry_removed T path
removed_directory T path serial is =
    sym (ap (λ (x : Result (ℕ × Bool) Errno). x >>= λ e. if e.1 then directory_removed T e.0 else Ok (unlinked T e.0)) is)

pub removed_file : (T : Tree) (path : List ℕ) (serial : ℕ) → entry_named T path ≡ Ok (serial, false) → Ok (unlinked T serial) ≡ entry_removed T path
removed_file T path serial is =
    sym (ap (λ (x : Result (ℕ × Bool) Errno). x >>= λ e. if e.1 then directory_removed T e.0 else Ok (unlinked T e.0)) is)

-- ---- moving

pub onto_same : (T : Tree) (source target p : ℕ) (n : Name) (e : Entry) → entry T target ≡ Some e → p ≡ e.parent → n ≡ e.name
    → renamed T source p n ≡ renamed T source (parent_at T target) (name_at T target)
onto_same T source target p n e there parent name =
    let parents : p ≡ parent_at T target = parent ∙ sym (ap (λ (o : Option Entry). option_map_or (λ (e : Entry). e.parent) o 0) there) in
    let names : n ≡ name_at T target = name ∙ sym (ap (λ (o : Option Entry). option_map_or (λ (e : Entry). e.name) o []) there) in
    λ i. renamed T source (parents i) (names i)

pub root_stays : (T : Tree) (source : ℕ) → source ≡ 1 → renamed T source (parent_at T 1) (name_at T 1) ≡ Err errno.Invalid
root_stays T source is = ap (λ (s : ℕ). renamed T s (parent_at T 1) (name_at T 1)) is

-- nothing leads up from no entry
within_none : (n : ℕ) (T : Tree) (source : ℕ) → (0 == source) ≡ false → is_within n T source 0 ≡ false
within_none zero T source apart = apart
within_none (suc n) T source apart = ap (λ (b : Bool). b || false) apart

root_first : (T : Tree) → IsTree T → lookup T 0 [] ≡ Some 1
root_first [] t = absurd (none-some root t.top)
root_first (o ∷ T) t = ap (λ (x : Option Entry). least_from 1 (is_child 0 []) (x ∷ T)) t.top

only_itself : (T : Tree) (s : ℕ) → Childless T s → (path : Path) (x : ℕ) → Leads T s path x → x ≡ s
only_itself T s childless [] x g = g
only_itself T s childless (n ∷ path) x g = absurd (childless x g.0 g.1 (only_itself T s childless path g.0.parent g.3))

-- the root holds every other entry
root_full : (T : Tree) (source : ℕ) → IsTree T → IsSome (entry T source) → source ≢ 1 → is_empty T 1 ≡ false
root_full T source t used other = elim (cases_Bool (is_empty T 1)) [
  | inl empty ↦ let path = t.reached source used in absurd (other (only_itself T 1 (empty_childless T 1 empty) path.0 source path.1))
  | inr full ↦ full
]

onto_root : (d top empty : Bool) (answer : Result Tree Errno) → top ≡ true → empty ≡ false
    → unless ((d && not top, errno.NotDirectory) ∷ (not d && top, errno.IsDirectory) ∷ (top && not empty, errno.NotEmpty) ∷ []) answer ≡ (if d then Err errno.NotEmpty else Err errno.IsDirectory)
onto_root true true false answer is full = refl
onto_root false true false answer is full = refl
onto_root d false empty answer is full = absurd (true≢false (sym is))
onto_root d true true answer is full = absurd (true≢false full)

-- the root's place is taken
pub root_taken : (T : Tree) (source : ℕ) → IsTree T → IsSome (entry T source) → source ≢ 1
    → renamed T source (parent_at T 1) (name_at T 1) ≡ (if directory_at T source then Err errno.NotEmpty else Err errno.IsDirectory)
root_taken T source t used other =
    let parents : parent_at T 1 ≡ 0 = ap (λ (o : Option Entry). option_map_or (λ (e : Entry). e.parent) o 0) t.top in
    let names : name_at T 1 ≡ [] = ap (λ (o : Option Entry). option_map_or (λ (e : Entry). e.name) o []) t.top in
    let none : source ≢ 0 = λ is. is_none source is used in
    let top : directory_at T 1 ≡ true = is_directory_at T 1 root t.top in
    (λ i. renamed T source (parents i) (names i))
    ∙ (cond-false (source == 1) _ _ (ne_eqb source 1 other)
    ∙ (cond-false (is_within (length T) T source 0) _ _ (within_none (length T) T source (ne_eqb 0 source (λ is. none (sym is))))
    ∙ (ap (λ (o : Option ℕ). option_map_or (moved_onto T source 0 []) o (Ok (moved T source 0 []))) (root_first T t)
    ∙ (cond-false (1 == source) _ _ (ne_eqb 1 source (λ is. other (sym is)))
    ∙ onto_root (directory_at T source) (directory_at T 1) (is_empty T 1) _ top (root_full T source t used other)))))
  where
    is_none : (s : ℕ) → s ≡ 0 → IsSome (entry T s) → ⊥
    is_none s is some = let no : IsSome (entry T 0) = subst (λ (k : ℕ). IsSome (entry T k)) is some in absurd (true≢false (sym no))

pub into_refused : (T : Tree) (source parent : ℕ) (name : Name) (wants : Bool) → wants ≡ true → directory_at T source ≡ false → moved_to T source (Missing parent name, wants) ≡ Err errno.NotDirectory
into_refused T source parent name wants asks file = cond-true (wants && not (directory_at T source)) _ _ (λ i. asks i && not (file i))

pub into_done : (T : Tree) (source parent : ℕ) (name : Name) (wants d : Bool) → directory_at T source ≡ d → (wants && not d) ≡ false → renamed T source parent name ≡ moved_to T source (Missing parent name, wants)
into_done T source parent name wants d is may = sym (cond-false (wants && not (directory_at T source)) _ _ (ap (λ (b : Bool). wants && not b) is ∙ may))

-- both paths lead to something
pub moved_found : (T : Tree) (from to : List ℕ) (source target : Reached) (w wants : Bool) (serial : ℕ) → reached T from ≡ Ok (source, w) → reached T to ≡ Ok (target, wants) → source ≡ Found serial
    → moved_to T serial (target, wants) ≡ entry_moved T from to
moved_found T from to source target w wants serial first second there =
    let one : entry_moved T from to ≡ (reached T to >>= λ t. entry_found (source, w) >>= λ s. moved_to T s t) = ap (λ (x : Both). x >>= λ f. reached T to >>= λ t. entry_found f >>= λ s. moved_to T s t) first in
    let two : (reached T to >>= λ t. entry_found (source, w) >>= λ s. moved_to T s t) ≡ (entry_found (source, w) >>= λ s. moved_to T s (target, wants)) = ap (λ (x : Both). x >>= λ t. entry_found (source, w) >>= λ s. moved_to T s t) second in
    let three : (entry_found (source, w) >>= λ s. moved_to T s (target, wants)) ≡ moved_to T serial (target, wants) = ap (λ (x : Reached). entry_found (x, w) >>= λ s. moved_to T s (target, wants)) there in
    sym (one ∙ (two ∙ three))

pub moved_missing : (T : Tree) (from to : List ℕ) (source target : Reached) (w wants : Bool) (parent : ℕ) (name : Name) → reached T from ≡ Ok (source, w) → reached T to ≡ Ok (target, wants) → source ≡ Missing parent name
    → entry_moved T from to ≡ Err errno.NotFound
moved_missing T from to source target w wants parent name first second missing =
    let one : entry_moved T from to ≡ (reached T to >>= λ t. entry_found (source, w) >>= λ s. moved_to T s t) = ap (λ (x : Both). x >>= λ f. reached T to >>= λ t. entry_found f >>= λ s. moved_to T s t) first in
    let two : (reached T to >>= λ t. entry_found (source, w) >>= λ s. moved_to T s t) ≡ (entry_found (source, w) >>= λ s. moved_to T s (target, wants)) = ap (λ (x : Both). x >>= λ t. entry_found (source, w) >>= λ s. moved_to T s t) second in
    let three : (entry_found (source, w) >>= λ s. moved_to T s (target, wants)) ≡ Err errno.NotFound = ap (λ (x : Reached). entry_found (x, w) >>= λ s. moved_to T s (target, wants)) missing in
    one ∙ (two ∙ three)

-- the second path is refused
pub moved_stops : (T : Tree) (from to : List ℕ) (found : Reached × Bool) (e : Errno) → reached T from ≡ Ok found → (reached T to ≡ Err e) ⊎ (e ≡ errno.Io) → (entry_moved T from to ≡ Err e) ⊎ (e ≡ errno.Io)
moved_stops T from to found e first why =
    let one : entry_moved T from to ≡ (reached T to >>= λ t. entry_found found >>= λ s. moved_to T s t) = ap (λ (x : Both). x >>= λ f. reached T to >>= λ t. entry_found f >>= λ s. moved_to T s t) first in
    ⊎_elim (λ is. inl (one ∙ ap (λ (x : Both). x >>= λ t. entry_found found >>= λ s. moved_to T s t) is)) (λ io. inr io) why
