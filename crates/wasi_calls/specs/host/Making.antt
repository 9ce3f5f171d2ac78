-- How a host is made, and what it is made of (`docs/DECISIONS.md`, "WASI calls"). A new host has its streams as
-- descriptors 0 to 2, and `preopen` then opens the directories of the settings from 3 on, or none.
use Rattle.std.specs.Prelude.{◌≡◌, ◌-◌, ◌==◌, nat_lt, ℕ, true, false, List, [], ◌∷◌, Bool, Option, Some, None, Result, Ok, Err, slice_get, if◌then◌else◌}
use Rattle.std.specs.Option.{option_map, option_map_or}
use Rattle.vol_tree.specs.declared.errno.Errno.{Errno}
use Rattle.vol_tree.specs.Tree.{Tree}
use Rattle.vol_tree.specs.Calls.{directory_at}
use Rattle.path_walk.specs.Paths.{Reached, Found, Missing, slash, path_read, wants_directory, resolved, ◌>>=◌}
use Rattle.wasi_fd.specs.declared.descriptor.Descriptor.{Descriptor}
use Rattle.wasi_fd.specs.declared.descriptor.Descriptor.TheVariants.{Entry}
use Rattle.wasi_fd.specs.declared.descriptor.EntryKind.TheVariants as kinds
use Rattle.wasi_fd.specs.Rights.{directory_rights, all_rights}
use Rattle.wasi_fd.specs.Table.{Table, table_of, streams}
use Rattle.wasi_bodies.specs.declared.settings.Preopen.{Preopen as PreopenValue}
use Rattle.wasi_calls.specs.declared.host.wasi_host.HostParts.{HostParts}
use Rattle.wasi_calls.specs.declared.host.fault.HostFault.{HostFault}
use Rattle.wasi_calls.specs.declared.host.fault.HostFault.TheVariants.{Setting, Preopen, Device, Memory}
use Rattle.wasi_bodies.specs.host.Settings.{settings_fit}
use Rattle.wasi_bodies.specs.host.Worlds.{HostState}

module _ {D R W1 W2 : Type 0} where
  -- what a host was made of, as it is now
  abbrev pub parts_of : HostState D R W1 W2 → HostParts D R W1 W2
  parts_of h = record { settings = h.settings; volume = h.volume; input = h.input.reader; out = h.out.writer; err = h.err.writer }

  -- the settings fit, the streams are the descriptors 0 to 2, none has failed, and the host is neither seeded nor interactive
  pub record IsNewHost (parts : HostParts D R W1 W2) (h : HostState D R W1 W2) : Type 0 where
    pub fits : settings_fit parts.settings ≡ true
    pub volume : h.volume ≡ parts.volume
    pub table : (n : ℕ) → table_of h.descriptors n ≡ streams n
    pub input : h.input ≡ record { reader = parts.input; failed = false; ended = false }
    pub out : h.out ≡ record { writer = parts.out; failed = false }
    pub err : h.err ≡ record { writer = parts.err; failed = false }
    pub settings : h.settings ≡ parts.settings
    pub generator : h.generator ≡ None
    pub interactive : h.interactive ≡ None

  -- the settings exactly where they don't fit
  abbrev pub IsRefusedFor : HostParts D R W1 W2 → HostFault → Type 0
  IsRefusedFor parts Setting = settings_fit parts.settings ≡ false
  IsRefusedFor parts Preopen = ⊥
  IsRefusedFor parts Device = ⊥
  IsRefusedFor parts Memory = settings_fit parts.settings ≡ true

-- ---- preopened directories

-- the directory that a walk reached
abbrev pub found_directory : Tree → Result Reached Errno → Option ℕ
found_directory T (Ok (Found serial)) = if directory_at T serial then Some serial else None
found_directory T (Ok (Missing parent name)) = None
found_directory T (Err e) = None

-- the directory that the rest of a path names, from the root; an empty rest is the root
abbrev pub from_root : Tree → List ℕ → Option ℕ
from_root T [] = Some 1
from_root T (c ∷ rest) = found_directory T (path_read (c ∷ rest) >>= resolved T 1 (wants_directory (c ∷ rest)))

-- the directory that a path of the volume names: it begins with a slash, the rest leads from the root, and an empty rest
-- is the root
abbrev pub directory_named : Tree → List ℕ → Option ℕ
directory_named T [] = None
directory_named T (c ∷ rest) = if c == slash then from_root T rest else None

-- the descriptor of a preopened directory
abbrev pub preopened : PreopenValue → ℕ → Descriptor
preopened p serial = Entry (record {
  serial = serial;
  kind = kinds.Directory;
  position = 0;
  append = false;
  base = record { 0 = directory_rights };
  inheriting = record { 0 = all_rights };
  guest_name = Some p.guest_name;
})

-- the descriptors of these directories in order, if each path names one
abbrev pub preopens_of : Tree → List PreopenValue → Option (List Descriptor)
preopens_of T [] = Some []
preopens_of T (p ∷ ps) = option_map_or (λ serial. option_map (λ (ds : List Descriptor). preopened p serial ∷ ds) (preopens_of T ps)) (directory_named T p.path.now) None

-- the streams as 0 to 2, and these descriptors from 3 on
abbrev pub table_with : List Descriptor → Table
table_with ds n = if nat_lt n 3 then streams n else slice_get ds (n - 3)

-- the preopened directories of the settings, in order from 3 on
pub record HasPreopens (T : Tree) (ps : List PreopenValue) (table : Table) : Type 0 where
  pub directories : List Descriptor
  pub named : preopens_of T ps ≡ Some directories
  pub opened : (n : ℕ) → table n ≡ table_with directories n

module _ {D R W1 W2 : Type 0} where
  -- Why no directory was opened: a path names none, or the volume has failed or fails.
  abbrev pub IsRefusedPreopen : (D → Type 0) → HostState D R W1 W2 → HostState D R W1 W2 → HostFault → Type 0
  IsRefusedPreopen honest old new Setting = ⊥
  IsRefusedPreopen honest old new Preopen = honest old.volume.device → preopens_of old.volume.tree old.settings.preopens.now ≡ None
  IsRefusedPreopen honest old new Device = new.volume.failed ≡ true
  IsRefusedPreopen honest old new Memory = ⊥

  -- the descriptors are the same, too
  abbrev pub HasNoMore : HostState D R W1 W2 → HostState D R W1 W2 → Type 0
  HasNoMore old new = (n : ℕ) → table_of new.descriptors n ≡ table_of old.descriptors n

  -- streams, settings, the generator and what is interactive are as they were
  pub record KeepsStreams (old new : HostState D R W1 W2) : Type 0 where
    pub input : new.input ≡ old.input
    pub out : new.out ≡ old.out
    pub err : new.err ≡ old.err
    pub settings : new.settings ≡ old.settings
    pub generator : new.generator ≡ old.generator
    pub interactive : new.interactive ≡ old.interactive

-- refused because the volume fails
abbrev pub is_device : {X : Type 0} → Result X HostFault → Bool
is_device (Ok x) = false
is_device (Err Setting) = false
is_device (Err Preopen) = false
is_device (Err Device) = true
is_device (Err Memory) = false
