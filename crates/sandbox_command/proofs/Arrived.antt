-- The volume that is made of a tar stream has the tree of its members: an image stands for one tree alone.
use Rattle.std.proofs.Common.{◌≡◌, ◌∙◌, ℕ, List, [], Some, Result, Ok, IfErr, length, codes, inl, inr, refl, sym, subst}
use Rattle.vol_sector.specs.Disk.{Image}
use Rattle.vol_sector.specs.Record.{image_of}
use Rattle.vol_tree.specs.declared.superblock.Superblock.{Superblock}
use Rattle.vol_tree.specs.Tree.{Tree}
use Rattle.vol_tree.specs.Stands.{StandsAs, empty_tree}
use Rattle.vol_tree.specs.Opened.{Opened, geometry}
use Rattle.sandbox_device.specs.declared.ram_device.RamDevice.{RamDevice}
use Rattle.vol_tar.specs.Export.{Exports}
use Rattle.vol_tar.specs.Import.{Imports}
use Rattle.vol_commands.specs.declared.exporting.ExportFailure.{ExportFailure}
use Rattle.vol_commands.specs.declared.importing.ImportFailure.{ImportFailure}
use Rattle.vol_commands.specs.Importing.{WasBrought}
use Rattle.vol_commands.specs.Tasks.{directory_named}
use Rattle.vol_commands.specs.Volumes.{IsOpen}
use Rattle.sandbox_command.specs.Around.{in_memory}
use Rattle.sandbox_command.specs.Archive.{BeginsWithItsStream, GivesItsTree, HasStream, IsImported, blocks_of, slots_of}

-- an image stands for one tree, under one volume's numbers
abbrev pub OneTree : Type 0
OneTree = (image : Image) (v w : Superblock) (T U : Tree) → StandsAs image v T → StandsAs image w U → (v ≡ w) × (T ≡ U)

module _ (one : OneTree) (bytes : List ℕ) (device : RamDevice) (v : Opened RamDevice) (count : ℕ) (it : IsImported bytes device (Ok count))
    (opened : IsOpen in_memory.honest in_memory.disk in_memory.size in_memory.failures device v) where
  abbrev blocks : ℕ
  blocks = blocks_of (length bytes)

  abbrev Brought : Type 0
  Brought = WasBrought in_memory.honest in_memory.disk in_memory.size in_memory.failures (codes "/") it.empty (Some bytes) it.unread device (Ok count)

  of_brought : Brought → HasStream bytes v
  of_brought w =
      let before = one (image_of it.empty.sectors) _ _ _ _ (it.formatted.formats.empty tt (image_of it.empty.sectors) refl) w.stands.stands in
      let after = one (image_of device.sectors) _ _ _ _ (w.lasts (image_of device.sectors) refl) (opened.stands tt).stands in
      record {
        numbers = sym (before.0 ∙ after.0);
        root = w.brings.0;
        is_root = subst (λ (T : Tree). directory_named T (codes "/") ≡ Ok w.brings.0) (sym before.1) w.brings.1;
        count = count;
        unread = it.unread;
        imports = subst (λ (n : Superblock). Imports (geometry n) (empty_tree (slots_of blocks)) w.brings.0 (Some bytes) it.unread count v.tree) after.0
            (subst (λ (T : Tree). Imports (geometry w.numbers) T w.brings.0 (Some bytes) it.unread count v.tree) (sym before.1)
            (subst (λ (U : Tree). Imports (geometry w.numbers) w.tree w.brings.0 (Some bytes) it.unread count U) after.1 w.brings.2));
      }

  pub of_imported : HasStream bytes v
  of_imported = elim (it.imports.ends tt) [
    | inl w ↦ of_brought w
    | inr none ↦ absurd (subst (λ (r : Result ℕ ImportFailure). IfErr r (λ e. ⊥)) none.is tt)
  ]

pub begins : OneTree → BeginsWithItsStream
begins one bytes device v (count, it) opened = of_imported one bytes device v count it opened

-- what is printed of a device is its one tree
pub gives : OneTree → GivesItsTree
gives one device after stream numbers tree stands it = elim (it.ends tt) [
  | inl w ↦ (
      let same : tree ≡ w.tree = (one (image_of device.sectors) _ _ _ _ stands w.stands.stands).1 in
      (w.prints.0, subst (λ (T : Tree). directory_named T (codes "/") ≡ Ok w.prints.0) (sym same) w.prints.1, subst (λ (T : Tree). Exports T w.prints.0 (Some []) (Some stream)) (sym same) w.prints.2)
      )
  | inr none ↦ absurd (subst (λ (r : Result (Unit {0}) ExportFailure). IfErr r (λ e. ⊥)) none.is tt)
]
