-- The lines that `ls` and `stat` print of an entry, made from a `Stat` of `vol_tree`, and that `check` prints, made from its
-- `Stats`, as the code makes them. The proofs show that they are the texts `line_of`, `facts_of` and `summary`, which `Listing`
-- and `Tasks` define on the entries of a tree.
use Rattle.std.specs.Prelude.{ℕ, List, [], ◌∷◌, take, codes, decimal}
use Rattle.std.specs.List.{concat}
use Rattle.vol_inode.specs.declared.entry.Kind.{Kind}
use Rattle.vol_inode.specs.declared.entry.Kind.TheVariants as kinds
use Rattle.vol_inode.specs.declared.version.Version.{Version}
use Rattle.vol_tree.specs.declared.stat.Stat.{Stat}
use Rattle.vol_tree.specs.declared.stats.Stats.{Stats}
use Rattle.vol_tree.specs.Superblock.{version_number}
use Rattle.sandbox_args.specs.declared.request.ListForm.{ListForm}
use Rattle.vol_commands.specs.Listing.{line_end, name_as}

abbrev pub mark_of_kind : Kind → List ℕ
mark_of_kind kinds.Directory = codes "d "
mark_of_kind kinds.File = codes "f "

unfoldable pub stat_line : ListForm → Stat → List ℕ
stat_line form s = concat (mark_of_kind s.kind ∷ decimal s.size ∷ codes " " ∷ name_as form (take s.name_length s.name) ∷ line_end form ∷ [])

abbrev pub word_of_kind : Kind → List ℕ
word_of_kind kinds.Directory = codes "directory"
word_of_kind kinds.File = codes "file"

unfoldable pub stat_facts : ℕ → Stat → List ℕ
stat_facts serial s = concat (codes "kind:" ∷ word_of_kind s.kind ∷ codes "\nsize:" ∷ decimal s.size ∷ codes "\nserial:" ∷ decimal serial ∷ codes "\n" ∷ [])

unfoldable pub summary_line : Version → Stats → List ℕ
summary_line version s = concat
    (codes "version " ∷ decimal (version_number version)
    ∷ codes ", entries " ∷ decimal s.entries ∷ codes " of " ∷ decimal s.slots
    ∷ codes ", sectors " ∷ decimal s.needed ∷ codes " of " ∷ decimal s.sectors ∷ codes "\n" ∷ [])
