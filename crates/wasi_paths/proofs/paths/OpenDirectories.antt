-- The directories that paths are opened from and renamed between.
use Rattle.std.proofs.Common.{◌≡◌, ◌^◌, ℕ, List, Some, Ok, refl, ◌∙◌, ap}
use Rattle.vol_tree.specs.Opened.{Opened}
use Rattle.wasi_fd.specs.declared.descriptor.Descriptor.{Descriptor}
use Rattle.wasi_fd.specs.declared.descriptor.Descriptor.TheVariants.{Entry}
use Rattle.wasi_fd.specs.declared.descriptor.Opened.{Opened as OpenedEntry}
use Rattle.wasi_fd.specs.Table.{Table}
use Rattle.wasi_bodies.specs.World.{World}
use Rattle.wasi_bodies.specs.Checks.{get, of_kind, entry_at, range, only_directories, has, opened_entry}
use Rattle.wasi_bodies.specs.internal.Entries.{KnowsEntries}
use Rattle.path_walk.specs.Walk.{IsEntryOf}
use Rattle.wasi_bodies.proofs.checks.Chains.{bound, passed}
use Rattle.wasi_paths.specs.internal.paths.Opening.{open_entered, flags_checked}
use Rattle.wasi_paths.specs.declared.paths.opening.OpenCall.{OpenCall}
use Rattle.wasi_paths.specs.internal.paths.Renaming.{rename_allowed, rename_entered}
use Rattle.wasi_paths.specs.declared.paths.renaming.RenameCall.{RenameCall}
use Rattle.wasi_bodies.specs.paths.Rows.{open_rights}
use Rattle.wasi_bodies.proofs.checks.Passing as parts
use Rattle.wasi_bodies.proofs.checks.Passing.{same_Ok}
use Rattle.wasi_bodies.proofs.OpenEntries.{some_world, is_used}

-- ---- a directory that a path is opened from

pub opened_at : {D : Type 0} (honest : D → Type 0) (v : Opened D) (table : Table) → KnowsEntries honest v table → (m : List ℕ) (a : OpenCall) (o : OpenedEntry)
    → ((w : World) → w.table ≡ table → open_entered w m a ≡ Ok o) → IsEntryOf honest v o.serial
unfolding some_world
opened_at honest v table known m a o at =
    let w = some_world table in
    let one = bound (entry_at w a.fd only_directories (open_rights a.oflags)) _ o (at w refl) in
    let two = bound (flags_checked a.oflags a.fdflags) _ o one.2 in
    let three = bound (range m a.path a.len) _ o two.2 in
    let four = bound (range m a.result_at 4) _ o three.2 in
    let same : one.0 ≡ o = same_Ok one.0 o four.2 in
    let of = parts.entered w a.fd only_directories (open_rights a.oflags) o (one.1 ∙ ap Ok same) in
    record {
      number = known.numbers a.fd o of.0;
      used = λ h. let there = known.there h a.fd o of.0 in is_used v.tree o.serial there.e there.used;
    }

-- ---- the directories of a rename

entry_open : {D : Type 0} (honest : D → Type 0) (v : Opened D) (table : Table) → KnowsEntries honest v table → (fd : ℕ) (o : OpenedEntry) → table fd ≡ Some (Entry o) → IsEntryOf honest v o.serial
entry_open honest v table known fd o at = record {
  number = known.numbers fd o at;
  used = λ h. let there = known.there h fd o at in is_used v.tree o.serial there.e there.used;
}

pub renames_at : {D : Type 0} (honest : D → Type 0) (v : Opened D) (table : Table) → KnowsEntries honest v table → (m : List ℕ) (a : RenameCall) (o p : OpenedEntry)
    → ((w : World) → w.table ≡ table → rename_entered w m a ≡ Ok (o, p)) → IsEntryOf honest v o.serial × IsEntryOf honest v p.serial
unfolding some_world
renames_at honest v table known m a o p at =
    let w = some_world table in
    let allowed = bound (rename_allowed w a) _ (o, p) (at w refl) in
    let pair = allowed.0 in
    let one = bound (get w a.from_fd) _ pair allowed.1 in
    let two = bound (get w a.to_fd) _ pair one.2 in
    let three = bound (of_kind only_directories one.0) _ pair two.2 in
    let four = bound (of_kind only_directories two.0) _ pair three.2 in
    let five = passed (has one.0 (2 ^ 16)) 76 _ pair four.2 in
    let six = passed (has two.0 (2 ^ 17)) 76 _ pair five.1 in
    let same : ◌≡◌ {A = Descriptor × Descriptor} (one.0, two.0) pair = same_Ok (one.0, two.0) pair six.1 in
    let seven = bound (range m a.from_path a.from_len) _ (o, p) allowed.2 in
    let eight = bound (range m a.to_path a.to_len) _ (o, p) seven.2 in
    let nine = bound (opened_entry pair.0) _ (o, p) eight.2 in
    let ten = bound (opened_entry pair.1) _ (o, p) nine.2 in
    let both : ◌≡◌ {A = OpenedEntry × OpenedEntry} (nine.0, ten.0) (o, p) = same_Ok (nine.0, ten.0) (o, p) ten.2 in
    let from : table a.from_fd ≡ Some (Entry o) =
    parts.ok_or_some (table a.from_fd) 8 one.0 one.1 ∙ ap Some (ap (λ (q : Descriptor × Descriptor). q.0) same ∙ parts.opened_is pair.0 nine.0 nine.1 ∙ ap (λ (q : OpenedEntry × OpenedEntry). Entry q.0) both) in
    let to : table a.to_fd ≡ Some (Entry p) =
    parts.ok_or_some (table a.to_fd) 8 two.0 two.1 ∙ ap Some (ap (λ (q : Descriptor × Descriptor). q.1) same ∙ parts.opened_is pair.1 ten.0 ten.1 ∙ ap (λ (q : OpenedEntry × OpenedEntry). Entry q.1) both) in
    (entry_open honest v table known a.from_fd o from, entry_open honest v table known a.to_fd p to)
