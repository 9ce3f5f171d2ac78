-- An output: what its file has stays until the first write or flush, which cuts it, and no other call does. `CutsOnce`, `Puts` and
-- `Flushes` say so of any file, and `Refuses` what failed; the rest is of files of the system.
use Rattle.std.specs.Prelude.{◌≡◌, ◌⊎◌, ℕ, Bool, true, false, List}
use Rattle.std.specs.declared.fs.File.{File}
use Rattle.sandbox_device.specs.declared.opening.OutputOn.{OutputOn}

-- a file that was cut is left as it is
abbrev pub CutsUnless : {F : Type 0} → (cut : F → F → Type 0) → Bool → F → F → Type 0
CutsUnless cut true old new = new ≡ old
CutsUnless cut false old new = cut old new

module _ {F : Type 0} (cut : F → F → Type 0) where
  -- It is cut now, and was cut no second time.
  pub record CutsOnce (old new : OutputOn F) : Type 0 where
    pub cuts : CutsUnless cut old.is_cut old.file new.file
    pub is_cut : new.is_cut ≡ true
    pub same : new.is_new ≡ old.is_new

  -- It was cut, if it wasn't before, and then these bytes were written.
  pub record Puts (wrote : F → List ℕ → F → Type 0) (old : OutputOn F) (bytes : List ℕ) (new : OutputOn F) : Type 0 where
    pub cut_first : OutputOn F
    pub cuts : CutsOnce old cut_first
    pub writes : wrote cut_first.file bytes new.file
    pub is_cut : new.is_cut ≡ true
    pub same : new.is_new ≡ old.is_new

  -- It was cut, if it wasn't before, and then what was written was flushed.
  pub record Flushes (flushed : F → F → Type 0) (old new : OutputOn F) : Type 0 where
    pub cut_first : OutputOn F
    pub cuts : CutsOnce old cut_first
    pub flushes : flushed cut_first.file new.file
    pub is_cut : new.is_cut ≡ true
    pub same : new.is_new ≡ old.is_new

-- It wasn't cut, and refused to be.
pub record RefusesCut {F : Type 0} (refused : F → F → Type 0) (old new : OutputOn F) : Type 0 where
  pub uncut : old.is_cut ≡ false
  pub refuses : refused old.file new.file
  pub is_cut : new.is_cut ≡ false
  pub same : new.is_new ≡ old.is_new

-- It was cut, if it wasn't before, and then it refused what was asked.
pub record RefusesCutFile {F : Type 0} (cut refused : F → F → Type 0) (old new : OutputOn F) : Type 0 where
  pub cut_first : OutputOn F
  pub cuts : CutsOnce cut old cut_first
  pub refuses : refused cut_first.file new.file
  pub is_cut : new.is_cut ≡ true
  pub same : new.is_new ≡ old.is_new

-- It refused to be cut, or what was asked then.
abbrev pub Refuses : {F : Type 0} → (cut refused : F → F → Type 0) → OutputOn F → OutputOn F → Type 0
Refuses cut refused old new = RefusesCut refused old new ⊎ RefusesCutFile cut refused old new

-- No contract says what the system does, so `was_cut` and its like show it of any file; but only the proofs of `WrittenFile` for `File`
-- cite them.
pub WasLockedToWrite : File → Type 0
WasLockedToWrite file = Unit {0}

pub was_locked_to_write : (file : File) → WasLockedToWrite file
unfolding WasLockedToWrite
was_locked_to_write file = tt

pub WasCut : File → File → Type 0
WasCut old new = Unit {0}

pub was_cut : (old new : File) → WasCut old new
unfolding WasCut
was_cut old new = tt

pub WasPut : File → List ℕ → File → Type 0
WasPut old bytes new = Unit {0}

pub was_put : (old : File) (bytes : List ℕ) (new : File) → WasPut old bytes new
unfolding WasPut
was_put old bytes new = tt

pub WasFlushed : File → File → Type 0
WasFlushed old new = Unit {0}

pub was_flushed : (old new : File) → WasFlushed old new
unfolding WasFlushed
was_flushed old new = tt
