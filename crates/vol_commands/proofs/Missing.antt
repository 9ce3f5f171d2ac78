-- A path that reaches no entry.
use Rattle.std.proofs.Common.{◌≡◌, ℕ, Bool, true, false, List, [], ◌∷◌, Option, Some, None, Result, Ok, Err, inl, inr, refl, sym, ◌∙◌, ap, subst}
use Rattle.std.specs.Option.{option_map_or}
use Rattle.std.proofs.lemmas.Bool.{cases_Bool, cond-true, cond-false, false≢true}
use Rattle.std.specs.Prelude.{◌==◌}
use Rattle.vol_tree.specs.declared.errno.Errno.{Errno}
use Rattle.vol_tree.specs.declared.errno.Errno.TheVariants as errno
use Rattle.vol_tree.specs.declared.superblock.Superblock.{Superblock}
use Rattle.vol_tree.specs.Tree.{Tree, Name, Node, Directory, File, Entry, entry, IsDirectory}
use Rattle.vol_tree.specs.Calls.{directory_at, is_directory, created}
use Rattle.vol_tree.specs.Clauses.{Answers}
use Rattle.vol_tree.specs.Opened.{geometry}
use Rattle.path_walk.specs.Paths.{Reached, Found, Missing, path_read, resolved, slash, wants_directory, ◌>>=◌}
use Rattle.path_walk.proofs.Walks.{missing_free}
use Rattle.vol_commands.specs.Tasks.{begun, begun_at, emptied, reached}
use Rattle.path_walk.specs.Rooted.{reached_from_root}

-- the entry of a directory
directory_is : (T : Tree) (serial : ℕ) → directory_at T serial ≡ true → IsDirectory T serial
directory_is T serial h = go (entry T serial) refl h
  where
    node_is : (n : Node) → is_directory n ≡ true → n ≡ Directory
    node_is Directory is = refl
    node_is (File bytes) is = absurd (false≢true is)

    go : (o : Option Entry) → entry T serial ≡ o → option_map_or (λ (c : Entry). is_directory c.node) o false ≡ true → IsDirectory T serial
    go None at is = absurd (false≢true is)
    go (Some e) at is = (e, at, node_is e.node is)

abbrev Both : Type 0
Both = Result (Reached × Bool) Errno

same_ok : (x y : Reached × Bool) → ◌≡◌ {A = Both} (Ok x) (Ok y) → x ≡ y
same_ok x y h = cc

-- what a walk from the root misses is missing in a directory
walk_misses : (T : Tree) (wants w : Bool) (r : Result (List Name) Errno) (parent : ℕ) (name : Name)
    → (r >>= λ names. resolved T 1 wants names >>= λ found. let answer : Both = Ok (found, wants) in answer) ≡ Ok (Missing parent name, w) → directory_at T parent ≡ true
walk_misses T wants w (Err e) parent name h = absurd (let no : ◌≡◌ {A = Both} (Err e) (Ok (Missing parent name, w)) = h in cc)
walk_misses T wants w (Ok names) parent name h = go (resolved T 1 wants names) refl h
  where
    go : (found : Result Reached Errno) → resolved T 1 wants names ≡ found → (found >>= λ x. let answer : Both = Ok (x, wants) in answer) ≡ Ok (Missing parent name, w) → directory_at T parent ≡ true
    go (Err e) is h = absurd (let no : ◌≡◌ {A = Both} (Err e) (Ok (Missing parent name, w)) = h in cc)
    go (Ok x) is h =
        let same : x ≡ Missing parent name = ap (λ (p : Reached × Bool). p.0) (same_ok (x, wants) (Missing parent name, w) h) in
        (missing_free T 1 parent name wants names (is ∙ ap Ok same)).directory

root_misses : (T : Tree) (rest : List ℕ) (parent : ℕ) (name : Name) (w : Bool) → reached_from_root T rest ≡ Ok (Missing parent name, w) → directory_at T parent ≡ true
root_misses T [] parent name w h = absurd (let no : (Found 1, false) ≡ (Missing parent name, w) = same_ok (Found 1, false) (Missing parent name, w) h in let n : Found 1 ≡ Missing parent name = ap (λ (p : Reached × Bool). p.0) no in cc)
root_misses T (c ∷ rest) parent name w h = walk_misses T (wants_directory (c ∷ rest)) w (path_read (c ∷ rest)) parent name h

path_misses : (T : Tree) (path : List ℕ) (parent : ℕ) (name : Name) (w : Bool) → reached T path ≡ Ok (Missing parent name, w) → directory_at T parent ≡ true
path_misses T [] parent name w h = absurd (let no : ◌≡◌ {A = Both} (Err errno.Invalid) (Ok (Missing parent name, w)) = h in cc)
path_misses T (c ∷ rest) parent name w h = elim (cases_Bool (c == slash)) [
  | inl slashed ↦ root_misses T rest parent name w (sym (cond-true _ _ _ slashed) ∙ h)
  | inr other ↦ absurd (let no : ◌≡◌ {A = Both} (Err errno.Invalid) (Ok (Missing parent name, w)) = sym (cond-false _ _ _ other) ∙ h in cc)
]

pub missing_in : (T M : Tree) (path : List ℕ) (found : Reached) (wants : Bool) (parent : ℕ) (name : Name) → M ≡ T → reached T path ≡ Ok (found, wants)
    → found ≡ Missing parent name → IsDirectory M parent
missing_in T M path found wants parent name same is missing =
    directory_is M parent (ap (λ (X : Tree). directory_at X parent) same ∙ path_misses T path parent name wants (is ∙ ap (λ (x : Reached). let a : Both = Ok (x, wants) in a) missing))

-- making the file is how `put` begins then
pub begun_missing : (v : Superblock) (T M U : Tree) (path : List ℕ) (found : Reached) (wants : Bool) (parent : ℕ) (name : Name) (result : Result ℕ Errno) → M ≡ T
    → reached T path ≡ Ok (found, wants) → found ≡ Missing parent name → wants ≡ false
    → Answers (created M parent name (File [])) M U result → Answers (begun v T path) T U result
begun_missing v T M U path found wants parent name result same is missing plain answer =
    let at = λ (x : Reached) (w : Bool). let a : Both = Ok (x, w) in a in
    let begins : begun v T path ≡ created T parent name (File []) =
    ap (λ (x : Both). x >>= begun_at v T) (is ∙ (ap (λ (x : Reached). at x wants) missing ∙ ap (λ (w : Bool). at (Missing parent name) w) plain)) in
    subst (λ (meant : Result (Tree × ℕ) Errno). Answers meant T U result) (sym begins)
    (subst (λ (X : Tree). Answers (created X parent name (File [])) X U result) same answer)

-- and taking away what it has, where it is there
pub begun_found : (v w : Superblock) (T M U : Tree) (path : List ℕ) (found : Reached) (wants : Bool) (serial : ℕ) (result : Result ℕ Errno) → M ≡ T → w ≡ v
    → reached T path ≡ Ok (found, wants) → found ≡ Found serial
    → Answers (emptied (geometry w) M serial) M U result → Answers (begun v T path) T U result
begun_found v w T M U path found wants serial result same numbers is there answer =
    let begins : begun v T path ≡ emptied (geometry v) T serial =
    ap (λ (x : Both). x >>= begun_at v T) (is ∙ ap (λ (x : Reached). let a : Both = Ok (x, wants) in a) there) in
    subst (λ (meant : Result (Tree × ℕ) Errno). Answers meant T U result) (sym begins)
    (subst (λ (n : Superblock). Answers (emptied (geometry n) T serial) T U result) numbers
    (subst (λ (X : Tree). Answers (emptied (geometry w) X serial) X U result) same answer))
