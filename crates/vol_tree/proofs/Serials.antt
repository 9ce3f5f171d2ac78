-- Which numbers the entries of a volume have.
use Rattle.std.proofs.Common.{◌≡◌, ◌==◌, if◌then◌else◌, ◌≤◌, ℕ, zero, suc, Some, None, MatchOption, Option, Result, Ok, Err, IsErrAnd, inl, inr, sym, ◌∙◌, subst, arith, List}
use Rattle.std.proofs.lemmas.Bool.{cases_eq, cond-true, cond-false, eq-eqb, ne_eqb}
use Rattle.std.proofs.lemmas.Option.{none-some}
use Rattle.vol_sector.specs.Disk.{Image}
use Rattle.vol_inode.specs.declared.entry.Entry.{Entry}
use Rattle.vol_dirs.specs.declared.dirs.Dirs.{Dirs}
use Rattle.vol_dirs.specs.Names.{slots_of, Names}
use Rattle.vol_tree.specs.declared.superblock.Superblock.{Superblock}
use Rattle.vol_tree.specs.declared.errno.Errno.{Errno}
use Rattle.vol_tree.specs.declared.errno.Errno.TheVariants as errno
use Rattle.vol_tree.specs.declared.stat.Stat.{Stat}
use Rattle.vol_tree.specs.Stat.{TellsStat}
use Rattle.vol_tree.specs.Tree as tree
use Rattle.vol_tree.specs.Tree.{Tree}
use Rattle.vol_tree.specs.Clauses.{tree_in}
use Rattle.vol_tree.specs.Opened.{IsSerial}
use Rattle.vol_tree.specs.internal.Slots.{slot_of}
use Rattle.vol_tree.specs.internal.Parts.{IsContent}
use Rattle.vol_tree.proofs.Entries.{used_within}
use Rattle.vol_tree.proofs.Finding.{length_tree, tree_entry}

-- an entry's number is one of them
pub used_serial : (content : Image) (v : Superblock) (serial : ℕ) (e : tree.Entry) → tree.entry (tree_in content v) serial ≡ Some e → IsSerial v serial
used_serial content v zero e is = absurd (none-some e is)
used_serial content v (suc slot) e is =
    let within = used_within (tree_in content v) slot e is in
    record { first = omega arith; last = omega (arith, within, length_tree content v) }

-- and so is that of the directory that it is in
pub parent_serial : (content : Image) (v : Superblock) (serial : ℕ) (d : Entry) (parent : ℕ) → IsContent content v → 1 ≤ serial → slot_of content v serial ≡ Some d
    → parent ≡ (if serial == 1 then 1 else d.parent) → IsSerial v parent
parent_serial content v serial d parent is first slot_is parent_is = elim (cases_eq serial 1) [
  | inl root ↦
      let top = used_serial content v 1 tree.root is.volume.tree.top in
      subst (λ (n : ℕ). IsSerial v n) (sym (parent_is ∙ cond-true _ 1 d.parent (eq-eqb serial 1 root))) top
  | inr other ↦
      let above = is.volume.tree.inside serial _ (tree_entry content v serial d first slot_is) other in
      subst (λ (n : ℕ). IsSerial v n) (sym (parent_is ∙ cond-false _ 1 d.parent (ne_eqb serial 1 other))) (used_serial content v d.parent above.0 above.1)
]

-- a name that is held is one of a slot
pub held_serial : (dirs : Dirs) (v : Superblock) (parent : ℕ) (name : List ℕ) (found : Option ℕ) → slots_of dirs ≡ v.slots
    → ((p : ℕ) (n : List ℕ) (s : ℕ) → Names dirs p n s → 1 ≤ s) → ((p : ℕ) (n : List ℕ) (s : ℕ) → Names dirs p n s → s ≤ slots_of dirs)
    → MatchOption found ((s : ℕ) → Names dirs parent name s → ⊥) (λ s. Names dirs parent name s) → MatchOption found (Unit {0}) (λ s. IsSerial v s)
held_serial dirs v parent name None slots first last is = tt
held_serial dirs v parent name (Some s) slots first last is = record { first = first parent name s is; last = omega (arith, last parent name s is, slots) }

-- where the entry was refused, so is what is told of it
pub stat_refused : (serial : ℕ) (old new : Tree) (r : Result Stat Errno) (x : Errno) → IsErrAnd r (λ y. y ≡ x) → x ≡ errno.Io → new ≡ old → TellsStat serial old new r
stat_refused serial old new (Ok s) x p io same = absurd p
stat_refused serial old new (Err e) x p io same = (p ∙ io, same)
