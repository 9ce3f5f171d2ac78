-- The texts that are printed, by what is told of a volume and its entries.
use Rattle.std.proofs.Common.{◌≡◌, ◌++◌, ℕ, List, [], ◌∷◌, take, codes, refl, ap, ◌∙◌, append_assoc, append-nil}
use Rattle.std.specs.Prelude.{decimal}
use Rattle.std.specs.List.{concat}
use Rattle.vol_inode.specs.declared.version.Version.{Version}
use Rattle.vol_tree.specs.declared.stat.Stat.{Stat}
use Rattle.vol_tree.specs.declared.stats.Stats.{Stats}
use Rattle.vol_tree.specs.declared.superblock.Superblock.{Superblock}
use Rattle.vol_tree.specs.Superblock.{version_number}
use Rattle.vol_tree.specs.Tree.{Tree, Node, Directory, File, Entry}
use Rattle.vol_tree.specs.Stat.{IsStat, kind_of}
use Rattle.vol_tree.specs.Stats.{IsStats}
use Rattle.sandbox_args.specs.declared.request.ListForm.{ListForm}
use Rattle.vol_commands.specs.Listing.{line_end, line_of, mark_of, name_as}
use Rattle.vol_commands.specs.Tasks.{summary}
use Rattle.vol_commands.specs.internal.Lines.{mark_of_kind, stat_facts, stat_line, summary_line, word_of_kind}

-- what `check` prints is the summary
pub summary_told : (v : Superblock) (T : Tree) (s : Stats) → IsStats T v s → summary_line v.version s ≡ summary v T
unfolding summary summary_line
summary_told v T s is = rw (is.entries, is.slots, is.needed, is.sectors) refl

marked : (node : Node) → mark_of_kind (kind_of node) ≡ mark_of node
marked Directory = refl
marked (File bytes) = refl

-- an entry's line is that of what is told of it
pub line_told : (form : ListForm) (serial : ℕ) (e : Entry) (s : Stat) → IsStat serial e s → stat_line form s ≡ line_of form e
unfolding stat_line line_of
line_told form serial e s is = rw (is.kind, marked, is.size, is.name) refl

-- what is put behind an empty line, one piece after the other
line_joined : (m d space n e : List ℕ) → (((([] ++ m) ++ d) ++ space) ++ n) ++ e ≡ concat (m ∷ d ∷ space ∷ n ∷ e ∷ [])
line_joined m d space n e = simp (append_assoc, append-nil)

pub line_put : (form : ListForm) (s : Stat) (none a b c d e : List ℕ) → none ≡ [] → a ≡ none ++ mark_of_kind s.kind → b ≡ a ++ decimal s.size → c ≡ b ++ codes " "
    → d ≡ c ++ name_as form (take s.name_length s.name) → e ≡ d ++ line_end form → e ≡ stat_line form s
unfolding stat_line
line_put form s none a b c d e empty is_a is_b is_c is_d is_e =
    let m = mark_of_kind s.kind in
    let n = name_as form (take s.name_length s.name) in
    let whole : e ≡ (((([] ++ m) ++ decimal s.size) ++ codes " ") ++ n) ++ line_end form = cc in
    whole ∙ line_joined m (decimal s.size) (codes " ") n (line_end form)

facts_joined : (a b c d e f g : List ℕ) → (((((([] ++ a) ++ b) ++ c) ++ d) ++ e) ++ f) ++ g ≡ concat (a ∷ b ∷ c ∷ d ∷ e ∷ f ∷ g ∷ [])
facts_joined a b c d e f g = simp (append_assoc, append-nil)

pub facts_put : (serial : ℕ) (s : Stat) (none a b c d e f g : List ℕ) → none ≡ [] → a ≡ none ++ codes "kind:" → b ≡ a ++ word_of_kind s.kind → c ≡ b ++ codes "\nsize:" → d ≡ c ++ decimal s.size
    → e ≡ d ++ codes "\nserial:" → f ≡ e ++ decimal serial → g ≡ f ++ codes "\n" → g ≡ stat_facts serial s
unfolding stat_facts
facts_put serial s none a b c d e f g empty is_a is_b is_c is_d is_e is_f is_g =
    let word = word_of_kind s.kind in
    let whole : g ≡ (((((([] ++ codes "kind:") ++ word) ++ codes "\nsize:") ++ decimal s.size) ++ codes "\nserial:") ++ decimal serial) ++ codes "\n" = cc in
    whole ∙ facts_joined (codes "kind:") word (codes "\nsize:") (decimal s.size) (codes "\nserial:") (decimal serial) (codes "\n")

-- the first and the second half of a summary
half_put : (none a b c d e f : List ℕ) (v n m : ℕ) → none ≡ [] → a ≡ none ++ codes "version " → b ≡ a ++ decimal v → c ≡ b ++ codes ", entries " → d ≡ c ++ decimal n → e ≡ d ++ codes " of " → f ≡ e ++ decimal m
    → f ≡ (((((([] ++ codes "version ") ++ decimal v) ++ codes ", entries ") ++ decimal n) ++ codes " of ") ++ decimal m)
half_put none a b c d e f v n m empty is_a is_b is_c is_d is_e is_f = cc

rest_put : (f a b c d e : List ℕ) (n m : ℕ) → a ≡ f ++ codes ", sectors " → b ≡ a ++ decimal n → c ≡ b ++ codes " of " → d ≡ c ++ decimal m → e ≡ d ++ codes "\n"
    → e ≡ ((((f ++ codes ", sectors ") ++ decimal n) ++ codes " of ") ++ decimal m) ++ codes "\n"
rest_put f a b c d e n m is_a is_b is_c is_d is_e = cc

summary_joined : (a b c d e f g h i j k : List ℕ) → (((((((((([] ++ a) ++ b) ++ c) ++ d) ++ e) ++ f) ++ g) ++ h) ++ i) ++ j) ++ k ≡ concat (a ∷ b ∷ c ∷ d ∷ e ∷ f ∷ g ∷ h ∷ i ∷ j ∷ k ∷ [])
summary_joined a b c d e f g h i j k = simp (append_assoc, append-nil)

pub summary_put : (version : Version) (s : Stats) (none a b c d e f g h i j k : List ℕ) → none ≡ [] → a ≡ none ++ codes "version " → b ≡ a ++ decimal (version_number version) → c ≡ b ++ codes ", entries "
    → d ≡ c ++ decimal s.entries → e ≡ d ++ codes " of " → f ≡ e ++ decimal s.slots → g ≡ f ++ codes ", sectors " → h ≡ g ++ decimal s.needed → i ≡ h ++ codes " of " → j ≡ i ++ decimal s.sectors → k ≡ j ++ codes "\n"
    → k ≡ summary_line version s
unfolding summary_line
summary_put version s none a b c d e f g h i j k empty is_a is_b is_c is_d is_e is_f is_g is_h is_i is_j is_k =
    let v = version_number version in
    let half = half_put none a b c d e f v s.entries s.slots empty is_a is_b is_c is_d is_e is_f in
    rest_put f g h i j k s.needed s.sectors is_g is_h is_i is_j is_k
    ∙ (ap (λ (text : List ℕ). ((((text ++ codes ", sectors ") ++ decimal s.needed) ++ codes " of ") ++ decimal s.sectors) ++ codes "\n") half
    ∙ summary_joined (codes "version ") (decimal v) (codes ", entries ") (decimal s.entries) (codes " of ") (decimal s.slots) (codes ", sectors ") (decimal s.needed) (codes " of ") (decimal s.sectors) (codes "\n"))
