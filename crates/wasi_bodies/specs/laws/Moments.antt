-- What a crash may leave of the volume of a host, during a call, during a resume, and over any list of resumes
-- (`docs/VOLUME.md`, "The device"). The clauses of calls give those of a resume (`PausesKeepMoments`), and those of
-- resumes give the law over a list of them (`KeepsAll`).
use Rattle.std.specs.Prelude.{◌≡◌, ◌⊎◌, ◌-◌, ◌≤◌, ◌<◌, ℕ, List, [], ◌∷◌, ◌++◌, length, get_or, Bool, true, false, IsTrue, if◌then◌else◌}
use Rattle.vol_sector.specs.Disk.{Image, Disk, Leaves}
use Rattle.vol_tree.specs.Tree.{Tree}
use Rattle.vol_tree.specs.declared.superblock.Superblock.{Superblock}
use Rattle.vol_tree.specs.Stands.{StandsAs}
use Rattle.vol_tree.specs.Opened.{Reflects}
use Rattle.wasm_store.specs.declared.call.HostCall.{HostCall}
use Rattle.wasm_store.specs.declared.call.HostCall.TheVariants as call
use Rattle.wasm_store.specs.declared.call.Errno.{Errno}
use Rattle.wasm_store.specs.declared.call.Answer.TheVariants.{Value as value, Exit as exit}
use Rattle.wasm_steps.specs.declared.pause.Pause.{Pause}
use Rattle.wasm_steps.specs.declared.pause.Pause.TheVariants.{Called, Spent, Ended}
use Rattle.wasm_steps.specs.Configuration.{Instance, Configuration}
use Rattle.wasm_steps.specs.Outcomes.{Paused}
use Rattle.wasm_steps.specs.Steps.{CallsOf}
use Rattle.wasi_bodies.specs.Errnos.{SUCCESS}

-- this moment is one of those since an earlier one, and since this one there is no other
pub record CountsMoments (d : Disk) : Type 0 where
  pub counts_now : (t : ℕ) (image : Image) → t ≤ d.operation_count → d.may_leave image → d.left_since t image
  pub only_now : (image : Image) → d.left_since d.operation_count image → d.may_leave image

-- `fd_sync` and `fd_datasync`
abbrev pub is_sync : HostCall → Bool
is_sync call.FdSync = true
is_sync call.FdDatasync = true
is_sync other = false

-- From one moment to another: each image since is one that a crash could leave at the first, or stands for a tree that a
-- crash could leave then, or for the tree then, or for the tree now, all under the volume's numbers.
abbrev pub IsTurn : Disk → Disk → Superblock → Tree → Tree → Type 0
IsTurn old new v before after = Leaves old new (λ image. Reflects old v image ⊎ (StandsAs image v before ⊎ StandsAs image v after))

-- after a sync that was acknowledged each image stands for the tree, under the volume's numbers
abbrev pub IsSynced : HostCall → ℕ → Disk → Superblock → Tree → Type 0
IsSynced c errno d v T = IsTrue (is_sync c) → errno ≡ SUCCESS → (image : Image) → d.may_leave image → StandsAs image v T

-- What a host shows of its volume.
module _ {H : Type 0} (disk : H → Disk) (numbers : H → Superblock) (tree : H → Tree) (honest : H → Type 0) where
  -- What each answered call says beside its row. The last one holds of the host's disk at any time.
  pub record CallsKeepMoments (Calls : CallsOf H) : Type 0 where
    pub turn : (h h' : H) (m m' : List ℕ) (used : ℕ) (c : HostCall) (args : List ℕ) (e : Errno) → Calls h m used c args h' m' (value e)
        → honest h → IsTurn (disk h) (disk h') (numbers h) (tree h) (tree h')
    pub synced : (h h' : H) (m m' : List ℕ) (used : ℕ) (c : HostCall) (args : List ℕ) (e : Errno) → Calls h m used c args h' m' (value e)
        → honest h → IsSynced c e.0 (disk h') (numbers h') (tree h')
    pub same_numbers : (h h' : H) (m m' : List ℕ) (used : ℕ) (c : HostCall) (args : List ℕ) (e : Errno) → Calls h m used c args h' m' (value e) → numbers h' ≡ numbers h
    pub exits : (h h' : H) (m m' : List ℕ) (used : ℕ) (c : HostCall) (args : List ℕ) (status : ℕ) → Calls h m used c args h' m' (exit status) → h' ≡ h
    pub stays_honest : (h h' : H) (m m' : List ℕ) (used : ℕ) (c : HostCall) (args : List ℕ) (e : Errno) → Calls h m used c args h' m' (value e) → honest h → honest h'
    pub counts : (h : H) → honest h → CountsMoments (disk h)

  -- what a pause says of a sync
  abbrev pub PauseSynced : Pause → H → Type 0
  PauseSynced (Called c e) h = IsSynced c e.0 (disk h) (numbers h) (tree h)
  PauseSynced Spent h = Unit {0}
  PauseSynced (Ended o) h = Unit {0}

  -- What a pause says of the steps before it: it follows from the clauses of the calls, since at most one of them is
  -- answered and nothing else changes the host.
  abbrev pub PausesKeepMoments : CallsOf H → Type 0
  PausesKeepMoments Calls = (h h' : H) (p : Pause) (i : Instance) (c d : Configuration) → CallsKeepMoments Calls
      → Paused H Calls i p h c h' d → honest h
      → IsTurn (disk h) (disk h') (numbers h) (tree h) (tree h') × PauseSynced p h' × honest h' × (numbers h' ≡ numbers h)

-- ---- any list of resumes

-- the image stands for one of the trees from one place on up to another, under the volume's numbers
pub record Kept (image : Image) (v : Superblock) (trees : List Tree) (from to : ℕ) : Type 0 where
  pub count : ℕ
  pub after : from ≤ count
  pub before : count ≤ to
  pub there : count < length trees
  pub stands : StandsAs image v (get_or trees count [])

-- one resume, as its contract tells of it: the host before and after, and whether it answered a sync with 0
pub record Turn (H : Type 0) : Type 0 where
  pub old : H
  pub new : H
  pub synced : Bool

module _ {H : Type 0} (disk : H → Disk) (numbers : H → Superblock) (tree : H → Tree) where
  -- each resume begins where the one before it ended, and leaves the volume's numbers
  abbrev pub Turns : H → List (Turn H) → Type 0
  Turns h [] = Unit {0}
  Turns h (t ∷ ts) = (t.old ≡ h) × (numbers t.new ≡ numbers t.old) × IsTurn (disk t.old) (disk t.new) (numbers t.old) (tree t.old) (tree t.new)
      × (IsTrue t.synced → (image : Image) → (disk t.new).may_leave image → StandsAs image (numbers t.new) (tree t.new))
      × CountsMoments (disk t.new) × Turns t.new ts

  -- `trees` are the trees so far, one at first and one after each resume, and the last is the host's; from the place
  -- `from` on they are those that a crash may leave.
  pub record IsSafe (h : H) (trees : List Tree) (from : ℕ) : Type 0 where
    pub some : from < length trees
    pub now : get_or trees (length trees - 1) [] ≡ tree h
    pub counts : CountsMoments (disk h)
    pub each : (image : Image) → (disk h).may_leave image → Kept image (numbers h) trees from (length trees - 1)

  -- Each image during a resume is kept from the last sync answered before it up to the tree at its end; after a resume
  -- that answered a sync, from there on.
  abbrev pub AllKept : Superblock → List Tree → ℕ → List (Turn H) → Type 0
  AllKept v trees from [] = Unit {0}
  AllKept v trees from (t ∷ ts) =
      let more : List Tree = trees ++ tree t.new ∷ [] in
      ((image : Image) → (disk t.new).left_since (disk t.old).operation_count image → Kept image v more from (length trees))
      × (IsTrue t.synced → (image : Image) → (disk t.new).may_leave image → Kept image v more (length trees) (length trees))
      × AllKept v more (if t.synced then length trees else from) ts

  abbrev pub KeepsAll : Type 0
  KeepsAll = (h : H) (trees : List Tree) (from : ℕ) (turns : List (Turn H)) → IsSafe h trees from → Turns h turns → AllKept (numbers h) trees from turns
