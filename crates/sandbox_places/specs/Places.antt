-- What is asked of `Places`, through which all is done with files, by name
-- (`crates/sandbox_command/src/places.rt`): contracts over any `Places` say by `Chain` what was asked for between two
-- of its states, in which order. `WasRefused` and `WasEnded` stand for what the system refused,
-- and for what a command gave up; only the proofs of `HostPlaces` introduce them. Of files that are opened, of what is printed into
-- them, and of a volume or a tree that is given, `System` has the evidence.
use Rattle.std.specs.Prelude.{◌≡◌, ◌⊎◌, ◌≤◌, ◌++◌, ℕ, Bool, true, false, List, [], ◌∷◌, Option, Some, None}
use Rattle.std.specs.Borrow.{Bor}
use Rattle.std.specs.declared.io.ErrorKind.{ErrorKind}
use Rattle.vol_sector.specs.Disk.{Disk}
use Rattle.vol_commands.specs.Formatting.{BeginsAsVolume}
use Rattle.sandbox_device.specs.declared.ram_device.RamDevice.{RamDevice}
use Rattle.sandbox_args.specs.declared.request.Run.{Run}
use Rattle.sandbox_args.specs.Request.{Text}
use Rattle.sandbox_telling.specs.Reporting.{receiver_of}

-- A file of this name is opened to read; or opened or made, to be written from its beginning; or one that was made is cut
-- to nothing; or a file is read whole and not written; or it is that of a volume, which is locked and read, or made or
-- lengthened to these sectors before, unless it is to be new and begins as a volume; or it is opened and locked to get a volume,
-- or a tree of one as a tar stream, at the end, and gets it; or a report or a profile is printed into one that was made.
pub data Access : Type 0 where
  Opens : Text → Access
  Makes : Text → Access
  Cuts : Text → Access
  Reads : Text → Access
  Locks : Text → Access
  Lengthens : Text → ℕ → Access
  LengthensNew : Text → ℕ → Access
  Receives : Text → Access
  HandsOut : Text → Access
  HandsOver : Text → Access
  Prints : Text → Access

-- Each of these took one state on to the next: the first from p, the last to q.
abbrev pub Chain : {A P : Type 0} → (A → P → P → Type 0) → List A → P → P → Type 0
Chain step [] p q = q ≡ p
Chain step (a ∷ rest) p q = (m : _) × step a p m × Chain step rest m q

-- One of these was refused: those before it were asked for, then it was, and none behind it.
abbrev pub IsRefusedAmong : {P : Type 0} → (asks : Access → P → P → Type 0) → (refuses : Access → ErrorKind → P → P → Type 0) → List Access → ErrorKind → P → P → Type 0
IsRefusedAmong asks refuses [] kind p q = ⊥
IsRefusedAmong asks refuses (a ∷ rest) kind p q = (asks a p q × refuses a kind p q) ⊎ ((m : _) × asks a p m × IsRefusedAmong asks refuses rest kind m q)

-- All of these were asked for in turn, whatever became of each, and one at least was refused, with an error of this kind.
abbrev pub IsRefusedOfAll : {P : Type 0} → (asks : Access → P → P → Type 0) → (refuses : Access → ErrorKind → P → P → Type 0) → List Access → ErrorKind → P → P → Type 0
IsRefusedOfAll asks refuses [] kind p q = ⊥
IsRefusedOfAll asks refuses (a ∷ rest) kind p q = (m : _) × asks a p m × ((refuses a kind p m × Chain asks rest m q) ⊎ IsRefusedOfAll asks refuses rest kind m q)

-- Each of these went well or failed, one after the other, and one at least failed.
abbrev pub ChainWithFailure : {A P : Type 0} → (went failed : A → P → P → Type 0) → List A → P → P → Type 0
ChainWithFailure went failed [] p q = ⊥
ChainWithFailure went failed (a ∷ rest) p q =
    (m : _) × ((failed a p m × Chain (λ b r s. went b r s ⊎ failed b r s) rest m q) ⊎ (went a p m × ChainWithFailure went failed rest m q))

-- a file that is to be formatted is made or lengthened, whatever it is, or only if it is new
abbrev pub lengthens : (only_new : Bool) → Text → ℕ → Access
lengthens false name sectors = Lengthens name sectors
lengthens true name sectors = LengthensNew name sectors

-- It has so many sectors; or it was to be new, and begins as a volume.
abbrev pub HasRoom : {D : Type 0} → (size : D → ℕ) → (disk : D → Disk) → (only_new : Bool) → ℕ → D → Type 0
HasRoom size disk false least d = least ≤ size d
HasRoom size disk true least d = (least ≤ size d) ⊎ BeginsAsVolume (size d) (disk d).seen

-- this is done with a file, where one is named
abbrev pub where_named : (Text → Access) → Option (Bor Text) → List Access
where_named how None = []
where_named how (Some file) = how file.now ∷ []

-- a file is read whole, where one is named
abbrev pub reads_of : Option (Bor Text) → List Access
reads_of named = where_named Reads named

-- of a run the module, and then the random bytes where a file of them is named
abbrev pub file_accesses : Run → List Access
file_accesses run = Reads run.module.now ∷ reads_of run.random

-- the file of a volume, where one is named; else that of a tar stream or of an image, where one is
abbrev pub medium_accesses : (volume archive image : Option (Bor Text)) → List Access
medium_accesses (Some file) archive image = Locks file.now ∷ []
medium_accesses None (Some file) image = Reads file.now ∷ []
medium_accesses None None image = reads_of image

-- All files of a run alone but its report. All of them are asked for, whichever is refused, so that it is known which have a
-- part in the run when its report is made.
abbrev pub run_accesses : Run → List Access
run_accesses run = (Reads run.module.now ∷ []) ++ (reads_of run.random ++ (medium_accesses run.volume run.image_from run.image ++ (where_named Opens run.stdin
    ++ (where_named Makes run.stdout ++ (where_named Makes run.stderr ++ (where_named Makes run.profile ++ where_named Receives (receiver_of run)))))))

-- the file of a report is made and cut to nothing, where one is named
abbrev pub report_accesses : Option (Bor Text) → List Access
report_accesses None = []
report_accesses (Some file) = Makes file.now ∷ (Cuts file.now ∷ [])

-- there is one exactly where one is named, and it is that of the name
abbrev pub IsOfName : {X : Type 0} → (Text → X → Type 0) → Option (Bor Text) → Option X → Type 0
IsOfName is None None = Unit {0}
IsOfName is None (Some x) = ⊥
IsOfName is (Some file) None = ⊥
IsOfName is (Some file) (Some x) = is file.now x

-- the device has what was read of an image, where one is named
abbrev pub IsOfImage : (Text → RamDevice → Type 0) → Option (Bor Text) → RamDevice → Type 0
IsOfImage is_image None device = Unit {0}
IsOfImage is_image (Some file) device = is_image file.now device

-- Random bytes are the first of a file, where one is named, else none.
abbrev pub IsOfRandom : (Text → Text → Type 0) → Option (Bor Text) → Text → Type 0
IsOfRandom is_beginning None bytes = bytes ≡ []
IsOfRandom is_beginning (Some file) bytes = is_beginning file.now bytes

-- The system refused this, and why; or this was given up as it is. No contract says what the system refuses, so `was_refused` and
-- `was_ended` show it of anything; but only the proofs of `HostPlaces` cite these, and all others see relations of which they know nothing.
pub WasRefused : Access → ErrorKind → Type 0
WasRefused access kind = Unit {0}

pub was_refused : (access : Access) (kind : ErrorKind) → WasRefused access kind
unfolding WasRefused
was_refused access kind = tt

pub WasEnded : {X : Type 0} → X → Type 0
WasEnded x = Unit {0}

pub was_ended : {X : Type 0} (x : X) → WasEnded x
unfolding WasEnded
was_ended x = tt
