-- What is told of an entry.
use Rattle.std.proofs.Common.{◌≡◌, ℕ, List, [], ◌∷◌, Some, Option, codes, refl, sym, ◌∙◌, ap}
use Rattle.std.specs.Prelude.{decimal}
use Rattle.std.specs.List.{concat}
use Rattle.std.specs.Option.{option_map_or}
use Rattle.vol_tree.specs.declared.stat.Stat.{Stat}
use Rattle.vol_tree.specs.Tree.{Tree, Node, Directory, File, Entry, entry}
use Rattle.vol_tree.specs.Stat.{IsStat, kind_of}
use Rattle.vol_commands.specs.Tasks.{facts_at, facts_of, word_of}
use Rattle.vol_commands.specs.internal.Lines.{stat_facts, word_of_kind}

worded : (node : Node) → word_of_kind (kind_of node) ≡ word_of node
worded Directory = refl
worded (File bytes) = refl

told : (serial : ℕ) (e : Entry) (s : Stat) → IsStat serial e s → stat_facts serial s ≡ facts_of serial e
unfolding stat_facts facts_of
told serial e s is = rw (is.kind, worded, is.size) refl

-- the facts of what is told are those of the entry
pub facts_told : (T : Tree) (serial : ℕ) (e : Entry) (s : Stat) → entry T serial ≡ Some e → IsStat serial e s → stat_facts serial s ≡ facts_at T serial
facts_told T serial e s there is = told serial e s is ∙ sym (ap (λ (o : Option Entry). option_map_or (facts_of serial) o []) there)
