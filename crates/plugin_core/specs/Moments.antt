-- What a crash may leave of the volume in an instance's life.
use Rattle.std.specs.Prelude.{◌≡◌, ◌⊎◌, ◌==◌, ◌&&◌, ℕ, Bool, List, [], ◌∷◌, map}
use Rattle.vol_sector.specs.Disk.{Image, Disk, Leaves}
use Rattle.vol_tree.specs.Tree.{Tree}
use Rattle.vol_tree.specs.Opened.{Reflects}
use Rattle.vol_tree.specs.Stands.{StandsAs}
use Rattle.vol_tree.specs.declared.superblock.Superblock.{Superblock}
use Rattle.wasm_syntax.specs.declared.module.Module.{Module}
use Rattle.wasm_store.specs.declared.call.HostCall.{HostCall}
use Rattle.wasm_store.specs.declared.call.Errno.{Errno}
use Rattle.wasm_steps.specs.Configuration.{Store}
use Rattle.wasm_steps.specs.Steps.{CallsOf}
use Rattle.wasi_bodies.specs.Errnos.{SUCCESS}
use Rattle.wasi_bodies.specs.laws.Moments.{Turn, IsSafe, AllKept, CallsKeepMoments, is_sync}
use Rattle.plugin_steps.specs.Lives.{Invocation}
use Rattle.wasm_store.specs.Allocation.{AllLinks}
use Rattle.plugin_core.specs.WholeLives.{Life, answered_in}

-- a sync that was answered with success
abbrev pub is_synced : HostCall × Errno → Bool
is_synced (c, e) = is_sync c && (e.0 == SUCCESS)

module _ {H : Type 0} (disk : H → Disk) (numbers : H → Superblock) (tree : H → Tree) (honest : H → Type 0) where
  -- the host changes by these turns alone
  abbrev pub ChangesBy : H → List (Turn H) → H → Type 0
  ChangesBy h [] h' = h' ≡ h
  ChangesBy h (t ∷ ts) h' = (t.old ≡ h) × ChangesBy t.new ts h'

  -- the tree at first, or that after one of these turns
  abbrev pub IsPassed : H → List (Turn H) → Tree → Type 0
  IsPassed h [] T = T ≡ tree h
  IsPassed h (t ∷ ts) T = (T ≡ tree h) ⊎ IsPassed t.new ts T

  -- the image stands for such a tree, under the volume's numbers at first
  abbrev pub StandsPassed : H → List (Turn H) → Image → Type 0
  StandsPassed h turns image = (T : Tree) × IsPassed h turns T × StandsAs image (numbers h) T

  -- From a host to another by these answers: each is a turn, nothing else changes the host, and each image that is left in a turn
  -- stands for a tree of the life, from that of the last sync on that was answered with success, under the volume's numbers. The
  -- trees so far are given, and the place from which on a crash may leave them.
  pub record KeptIn (trees : List Tree) (from : ℕ) (h : H) (answers : List (HostCall × Errno)) (h' : H) : Type 0 where
    pub turns : List (Turn H)
    pub one_each : map (λ t. t.synced) turns ≡ map is_synced answers
    pub changes : ChangesBy h turns h'
    pub kept : AllKept disk numbers tree (numbers h) trees from turns
    -- At any moment in between a crash leaves what it could leave at first, an image that stands for a tree that one could leave then, or
    -- one that stands for a tree that the turns come by.
    pub crash : Leaves (disk h) (disk h') (λ image. Reflects (disk h) (numbers h) image ⊎ StandsPassed h turns image)
    pub last_tree : IsPassed h turns (tree h')
    pub same_numbers : numbers h' ≡ numbers h
    pub still_honest : honest h'

  abbrev pub KeepsLives : CallsOf H → Type 0
  KeepsLives Calls = (links : AllLinks) (pages : ℕ) (m : Module) (h h' : H) (vs : List Invocation) (s : Store) (trees : List Tree) (from : ℕ)
      → CallsKeepMoments disk numbers tree honest Calls → honest h → IsSafe disk numbers tree h trees from
      → (life : Life H Calls links pages m h vs h' s) → KeptIn trees from h (answered_in H Calls links pages m life) h'
