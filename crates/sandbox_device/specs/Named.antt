-- Which file of the system stands under a name. No contract says what the system does, so `was_opened` and its like show it of any file;
-- but only the proofs of what asks the system cite them (`open_named`, `behind_links`, `write_contents`, `Identity::of`), and all others see relations of
-- which they know nothing: who says that a file is that of a name has opened it under that name.
use Rattle.std.specs.Prelude.{◌≡◌, ◌⊎◌, ◌≤ℤ◌, ℕ, List, [], ◌∷◌, Option, Some, None, IfSome, codes, pos, string_bytes}
use Rattle.std.specs.Coded.{×_prop, Unit-prop}
use Rattle.std.specs.Fd.{file_raw_fd}
use Rattle.std.specs.declared.fs.File.{File}
use Rattle.sandbox_device.specs.declared.identity.Identity.{Identity}
use Rattle.sandbox_device.specs.FileEvidence.{WasRefused}
use Rattle.sandbox_device.specs.declared.replacing.Replacement.{Replacement}
use Rattle.sandbox_device.specs.Replaced.{WasNotReplaced, WasReplaced}

-- it was opened under this name, or made
pub WasOpened : List ℕ → File → Type 0
WasOpened path file = Unit {0}

pub was_opened : (path : List ℕ) (file : File) → WasOpened path file
unfolding WasOpened
was_opened path file = tt

WasOpened-prop : (path : List ℕ) (file : File) → IsProp (WasOpened path file)
unfolding WasOpened
WasOpened-prop path file = Unit-prop

-- the system opened no file under this name, or gave it no other number
pub WasNotOpened : List ℕ → Type 0
WasNotOpened path = Unit {0}

pub was_not_opened : (path : List ℕ) → WasNotOpened path
unfolding WasNotOpened
was_not_opened path = tt

-- another file had this name, when the system was asked, or none
pub HasLost : List ℕ → File → Type 0
HasLost path file = Unit {0}

pub has_lost : (path : List ℕ) (file : File) → HasLost path file
unfolding HasLost
has_lost path file = tt

-- it was found to be this regular file, or none
pub HasIdentity : File → Option Identity → Type 0
HasIdentity file it = Unit {0}

pub has_identity : (file : File) (it : Option Identity) → HasIdentity file it
unfolding HasIdentity
has_identity file it = tt

-- when the system was asked, this name led to this regular file, or to none
pub NamesIdentity : List ℕ → Option Identity → Type 0
NamesIdentity path it = Unit {0}

pub names_identity : (path : List ℕ) (it : Option Identity) → NamesIdentity path it
unfolding NamesIdentity
names_identity path it = tt

-- the regular files that are open as the standard streams: the input, the output and the errors
abbrev pub AreOfStreams : List (Option Identity) → Type 0
AreOfStreams found = (input : _) × (output : _) × (errors : _) × (found ≡ input ∷ output ∷ errors ∷ [])
    × NamesIdentity (codes "/proc/self/fd/0") input × NamesIdentity (codes "/proc/self/fd/1") output × NamesIdentity (codes "/proc/self/fd/2") errors

-- No file of this name stands apart: none was opened, or it has the number of a standard stream.
abbrev pub IsNotOpened : List ℕ → Type 0
IsNotOpened path = WasNotOpened path ⊎ ((file : File) × WasOpened path file × (file_raw_fd file ≤ℤ pos 2))

-- Why there is no file of this name to be used: none was opened, or a call of the one that was is refused, or it has lost its name.
abbrev pub IsHindered : List ℕ → Type 0
IsHindered path = IsNotOpened path ⊎ ((file : File) × WasOpened path file × (WasRefused file file ⊎ HasLost path file))

-- behind all links this name is that one
pub LeadsTo : (path target : List ℕ) → Type 0
LeadsTo path target = Unit {0}

pub leads_to : (path target : List ℕ) → LeadsTo path target
unfolding LeadsTo
leads_to path target = tt

-- the links behind this name lead nowhere, or can't be followed
pub WasNotFollowed : List ℕ → Type 0
WasNotFollowed path = Unit {0}

pub was_not_followed : (path : List ℕ) → WasNotFollowed path
unfolding WasNotFollowed
was_not_followed path = tt

-- no file could be made beside the one of this name
pub HasNoPlaceBeside : List ℕ → Type 0
HasNoPlaceBeside path = Unit {0}

pub has_no_place_beside : (path : List ℕ) → HasNoPlaceBeside path
unfolding HasNoPlaceBeside
has_no_place_beside path = tt

-- Why the file of a name isn't to be replaced: its links aren't followed, or it isn't to be had, or it isn't there, and none can be made.
abbrev pub IsNotToBeReplaced : List ℕ → Type 0
IsNotToBeReplaced path = WasNotFollowed path ⊎ IsHindered path ⊎ ((target : List ℕ) × LeadsTo path target × HasNoPlaceBeside target)

LeadsTo-prop : (path target : List ℕ) → IsProp (LeadsTo path target)
unfolding LeadsTo
LeadsTo-prop path target = Unit-prop

-- these bytes, and no others, were written over what it had
pub WasOverwritten : File → List ℕ → Type 0
WasOverwritten file bytes = Unit {0}

pub was_overwritten : (file : File) (bytes : List ℕ) → WasOverwritten file bytes
unfolding WasOverwritten
was_overwritten file bytes = tt

-- it refused to be written over, or memory for that was refused
pub WasNotOverwritten : File → Type 0
WasNotOverwritten file = Unit {0}

pub was_not_overwritten : (file : File) → WasNotOverwritten file
unfolding WasNotOverwritten
was_not_overwritten file = tt

-- what is there under a name, or else what was made there
abbrev pub IsThere : (path : List ℕ) → Option File → File → Type 0
IsThere path (Some old) file = file ≡ old
IsThere path None file = WasOpened path file

-- The file of this name got these bytes: it was replaced by them, or they were written over it.
abbrev pub IsGiven : (R : Type 0) → (path : List ℕ) → Option File → (bytes : List ℕ) → Type 0
IsGiven R path old bytes = WasReplaced R path bytes ⊎ ((file : File) × IsThere path old file × WasOverwritten file bytes)

-- What is there was found to be this regular file, or none.
abbrev pub HasIdentityThere : Option File → Option Identity → Type 0
HasIdentityThere (Some file) it = HasIdentity file it
HasIdentityThere None it = it ≡ None

-- The system doesn't tell of the file that is there.
abbrev pub IsUntold : Option File → Type 0
IsUntold old = (file : File) × (old ≡ Some file) × WasRefused file file

-- Why the file of this name didn't get these bytes: the system doesn't tell of it, or the one that has its name by now isn't to be had, or
-- none can be made beside it; or the one beside it wasn't given its name, or it wasn't written over.
pub data IsNotGiven (R : Type 0) (path : List ℕ) (old : Option File) (bytes : List ℕ) : Type 0 where
  untold : IsUntold old → IsNotGiven R path old bytes
  hindered : IsHindered path → IsNotGiven R path old bytes
  without_place : HasNoPlaceBeside path → IsNotGiven R path old bytes
  not_replaced : WasNotReplaced R path bytes → IsNotGiven R path old bytes
  not_overwritten : (file : File) → IsThere path old file → WasNotOverwritten file → IsNotGiven R path old bytes

-- It is to replace the file of this name.
abbrev pub IsForName : List ℕ → Replacement → Type 0
IsForName name it = LeadsTo name (string_bytes it.path) × IfSome it.old (WasOpened name)

WereOpened-prop : (path : List ℕ) (old : Option File) → IsProp (IfSome old (WasOpened path))
WereOpened-prop path (Some file) = WasOpened-prop path file
WereOpened-prop path None = Unit-prop

-- A struct that holds it may say that it is for a name.
pub IsForName-prop : (name : List ℕ) (it : Replacement) → IsProp (IsForName name it)
IsForName-prop name it = ×_prop (LeadsTo-prop name (string_bytes it.path)) (WereOpened-prop name it.old)
