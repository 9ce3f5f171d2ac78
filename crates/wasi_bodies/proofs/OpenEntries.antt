-- Entries that are open.
use Rattle.std.proofs.Common.{◌≡◌, ℕ, Bool, true, false, cond, not, ◌==◌, List, [], Option, Some, None, IsSome, Ok, refl, sym, ◌∙◌, ap, subst}
use Rattle.std.specs.Option.{option_map_or}
use Rattle.vol_inode.specs.declared.version.Version.TheVariants.{One}
use Rattle.vol_tree.specs.Tree.{Tree, Entry as TreeEntry, entry}
use Rattle.vol_tree.specs.Calls.{is_directory, is_file_at}
use Rattle.vol_tree.specs.Opened.{Opened}
use Rattle.std.proofs.lemmas.Option.{none-some}
use Rattle.wasi_fd.specs.declared.descriptor.Stream.{Stream as StreamValue}
use Rattle.wasi_fd.specs.declared.descriptor.Stream.TheVariants.{Input, Output, Error}
use Rattle.wasi_fd.specs.declared.descriptor.Descriptor.{Descriptor}
use Rattle.wasi_fd.specs.declared.descriptor.Descriptor.TheVariants.{Stream, Entry}
use Rattle.wasi_fd.specs.declared.descriptor.Opened.{Opened as OpenedEntry}
use Rattle.wasi_fd.specs.Table.{Table, streams}
use Rattle.wasi_bodies.specs.supplies.Random.{listed}
use Rattle.wasi_bodies.specs.World.{World}
use Rattle.wasi_bodies.specs.Checks.{Refusals, get, of_kind, descriptor, entry_at, range, only_directories, only_files}
use Rattle.wasi_bodies.specs.internal.descriptors.Positions.{seekable}
use Rattle.wasi_bodies.specs.internal.Entries.{KnowsEntries, IsFileOf}
use Rattle.path_walk.specs.Walk.{IsEntryOf}
use Rattle.wasi_bodies.specs.internal.paths.Walks.{starting_directory}
use Rattle.wasi_bodies.proofs.checks.Chains.{bound, passed}
use Rattle.wasi_bodies.proofs.checks.Passing as parts
use Rattle.wasi_bodies.proofs.checks.Passing.{described, same_Ok, ok_or_some, opened_is, is_file_kind}

-- a world with this table
unfoldable pub some_world : Table → World
some_world table = record {
  volume = record { version = One; data_sectors = 0 };
  tree = [];
  table = table;
  input = [];
  pieces = [];
  output = [];
  errors = [];
  random = listed [];
  given = record { args = []; env = []; moment = 0 };
  interactive = None;
  volume_failed = false;
  input_failed = false;
  input_ended = false;
  output_failed = false;
  errors_failed = false;
}

file_there : (T : Tree) (serial : ℕ) (e : TreeEntry) → entry T serial ≡ Some e → is_directory e.node ≡ false → is_file_at T serial ≡ true
file_there T serial e used file = ap (λ (o : Option TreeEntry). option_map_or (λ (e : TreeEntry). not (is_directory e.node)) o false) used ∙ ap not file

-- a call that refuses directories has a file
pub file_of : {D : Type 0} (honest : D → Type 0) (v : Opened D) (table : Table) → KnowsEntries honest v table → (fd : ℕ) (r : Refusals) (n rights : ℕ) (o : OpenedEntry) → r.directory ≡ Some n
    → ((w : World) → w.table ≡ table → entry_at w fd r rights ≡ Ok o) → IsFileOf honest v o.serial
unfolding some_world
file_of honest v table known fd r n rights o refuses at =
    let of = parts.entered (some_world table) fd r rights o (at (some_world table) refl) in
    let number = known.numbers fd o of.0 in
    record {
      first = number.first;
      last = number.last;
      used = λ h.
          let there = known.there h fd o of.0 in
          file_there v.tree o.serial there.e there.used (there.kind ∙ is_file_kind r n refuses o.kind of.1);
    }

pub at_descriptor : (table : Table) (fd : ℕ) (r : Refusals) (rights : ℕ) (d : Descriptor) → ((w : World) → w.table ≡ table → descriptor w fd r rights ≡ Ok d) → table fd ≡ Some d
unfolding some_world
at_descriptor table fd r rights d at = (described (some_world table) fd r rights d (at (some_world table) refl)).0

pub is_used : (T : Tree) (serial : ℕ) (e : TreeEntry) → entry T serial ≡ Some e → IsSome (entry T serial)
is_used T serial e used = subst (λ (o : Option TreeEntry). IsSome o) (sym used) refl

-- ---- a directory that a path is walked from

pub entry_of : {D : Type 0} (honest : D → Type 0) (v : Opened D) (table : Table) → KnowsEntries honest v table → (m : List ℕ) (fd rights path len : ℕ) (o : OpenedEntry)
    → ((w : World) → w.table ≡ table → starting_directory w m fd rights path len ≡ Ok o) → IsEntryOf honest v o.serial
unfolding some_world
entry_of honest v table known m fd rights path len o at =
    let w = some_world table in
    let one = bound (entry_at w fd only_directories rights) _ o (at w refl) in
    let two = bound (range m path len) _ o one.2 in
    let same : one.0 ≡ o = same_Ok one.0 o two.2 in
    let of = parts.entered w fd only_directories rights o (one.1 ∙ ap Ok same) in
    record {
      number = known.numbers fd o of.0;
      used = λ h. let there = known.there h fd o of.0 in is_used v.tree o.serial there.e there.used;
    }

-- ---- a new table

no_entry_if : (b : Bool) (s : StreamValue) (d : Option Descriptor) (o : OpenedEntry) → (d ≡ Some (Entry o) → ⊥) → cond b (Some (Stream s)) d ≡ Some (Entry o) → ⊥
no_entry_if true s d o none h = cc
no_entry_if false s d o none h = none h

pub no_entries : (table : Table) → ((n : ℕ) → table n ≡ streams n) → (fd : ℕ) (o : OpenedEntry) → table fd ≡ Some (Entry o) → ⊥
no_entries table new fd o is =
    no_entry_if (fd == 0) Input _ o (no_entry_if (fd == 1) Output _ o (no_entry_if (fd == 2) Error _ o (none-some (Entry o)))) (sym (new fd) ∙ is)

-- ---- a file that is moved

pub file_at : {D : Type 0} (honest : D → Type 0) (v : Opened D) (table : Table) → KnowsEntries honest v table → (fd : ℕ) (r : Refusals) (n : ℕ) (o : OpenedEntry) → r.directory ≡ Some n
    → table fd ≡ Some (Entry o) → of_kind r (Entry o) ≡ Ok tt → IsFileOf honest v o.serial
file_at honest v table known fd r n o refuses at kind =
    let number = known.numbers fd o at in
    record {
      first = number.first;
      last = number.last;
      used = λ h.
          let there = known.there h fd o at in
          file_there v.tree o.serial there.e there.used (there.kind ∙ is_file_kind r n refuses o.kind kind);
    }

pub seek_open : (table : Table) (m : List ℕ) (fd delta whence result : ℕ) (o : OpenedEntry) → ((w : World) → w.table ≡ table → seekable w m fd delta whence result ≡ Ok o)
    → (table fd ≡ Some (Entry o)) × (of_kind only_files (Entry o) ≡ Ok tt)
unfolding some_world
seek_open table m fd delta whence result o at =
    let w = some_world table in
    let one = bound (get w fd) _ o (at w refl) in
    let two = bound (of_kind only_files one.0) _ o one.2 in
    let three = passed _ 76 _ o two.2 in
    let four = passed _ 28 _ o three.1 in
    let five = bound (range m result 8) _ o four.1 in
    let same : one.0 ≡ Entry o = opened_is one.0 o five.2 in
    (ok_or_some (table fd) 8 (Entry o) (one.1 ∙ ap Ok same), subst (λ (d : Descriptor). of_kind only_files d ≡ Ok tt) same two.1)
