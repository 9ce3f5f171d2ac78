-- What became of a file of the system. No contract says what the system does, so `was_written` and its like show it of any file;
-- but only the proofs of `SectorFile` for `File` cite them, and all others see relations of which they know nothing: so who says that
-- a file was written has asked for that, and was answered with success.
use Rattle.std.specs.Prelude.{◌≡◌, ◌⊎◌, ◌≤◌, ◌<◌, ℕ, List, length, min}
use Rattle.std.specs.IoError.{error_kind}
use Rattle.std.specs.declared.io.Error.{Error}
use Rattle.std.specs.declared.io.ErrorKind.TheVariants.{OutOfMemory}
use Rattle.std.specs.declared.fs.File.{File}
use Rattle.vol_sector.specs.Record.{image_of}

-- these bytes were written to the sector with this number
pub WasWritten : File → ℕ → List ℕ → File → Type 0
WasWritten old n bytes new = Unit {0}

pub was_written : (old : File) (n : ℕ) (bytes : List ℕ) (new : File) → WasWritten old n bytes new
unfolding WasWritten
was_written old n bytes new = tt

-- what was written before lasts
pub WasSynced : File → File → Type 0
WasSynced old new = Unit {0}

pub was_synced : (old new : File) → WasSynced old new
unfolding WasSynced
was_synced old new = tt

-- a call of the system failed
pub WasRefused : File → File → Type 0
WasRefused old new = Unit {0}

pub was_refused : (old new : File) → WasRefused old new
unfolding WasRefused
was_refused old new = tt

-- it had this many whole sectors
pub WasMeasured : File → ℕ → Type 0
WasMeasured file sectors = Unit {0}

pub was_measured : (file : File) (sectors : ℕ) → WasMeasured file sectors
unfolding WasMeasured
was_measured file sectors = tt

-- the sector with this number was read, and had these bytes
pub WasRead : File → ℕ → List ℕ → Type 0
WasRead file n bytes = Unit {0}

pub was_read : (file : File) (n : ℕ) (bytes : List ℕ) → WasRead file n bytes
unfolding WasRead
was_read file n bytes = tt

-- its lock was taken
pub WasLocked : File → Type 0
WasLocked file = Unit {0}

pub was_locked : (file : File) → WasLocked file
unfolding WasLocked
was_locked file = tt

-- The first of these sectors were read of the file.
abbrev pub AreReadTo : {F : Type 0} → (gave : F → ℕ → List ℕ → Type 0) → F → ℕ → List (List ℕ) → Type 0
AreReadTo gave file count sectors = (n : ℕ) → n < count → gave file n (image_of sectors n)

-- All of them were.
abbrev pub AreRead : {F : Type 0} → (gave : F → ℕ → List ℕ → Type 0) → F → List (List ℕ) → Type 0
AreRead gave file sectors = AreReadTo gave file (length sectors) sectors

-- What was written before lasts, and the file had all its sectors still.
abbrev pub IsSettled : {F : Type 0} → (synced : F → F → Type 0) → (measured : F → ℕ → Type 0) → ℕ → F → F → Type 0
IsSettled synced measured sectors old new = synced old new × (n : ℕ) × measured new n × (sectors ≤ n)

-- It refused to make it last; or did so, but its length couldn't be asked for, or it had fewer sectors.
abbrev pub IsUnsettled : {F : Type 0} → (refused synced : F → F → Type 0) → (measured : F → ℕ → Type 0) → ℕ → F → F → Type 0
IsUnsettled refused synced measured sectors old new = refused old new ⊎ (synced old new × (refused new new ⊎ ((n : ℕ) × measured new n × (n < sectors))))

-- It was found to have as many sectors as these, or more where those are as many as this, or 16,777,216.
abbrev pub IsLongAs : {F : Type 0} → (measured : F → ℕ → Type 0) → (most : ℕ) → F → List (List ℕ) → Type 0
IsLongAs measured most file sectors = (n : ℕ) × measured file n × (min (min n 16777216) most ≤ length sectors)

-- It was found to have fewer sectors than this.
abbrev pub IsShorter : {F : Type 0} → (measured : F → ℕ → Type 0) → ℕ → F → Type 0
IsShorter measured sectors file = (n : ℕ) × measured file n × (n < sectors)

-- Why a file is no device: memory was refused, or the file refused a call.
abbrev pub IsNoDevice : {F : Type 0} → (refused : F → F → Type 0) → F → Error → Type 0
IsNoDevice refused file error = (error_kind error ≡ OutOfMemory) ⊎ refused file file
