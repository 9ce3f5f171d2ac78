-- A host does the writes and syncs of a session in order on a disk that began with the same sectors as the session's
-- device: wherever it stops, a crash leaves the volume as it was at the opening or after a resume. The law
-- `record_is_settled` says so at the end (`IsSettled`) and after any resumes (`IsSettledSoFar`); once all is done that
-- there is after a resume which told of a sync with success, it is the volume after that resume (`IsSyncSettled`). Each holds
-- by whichever relation machines stand for configurations.
use Rattle.std.specs.Prelude.{◌≡◌, ◌==◌, ◌||◌, ◌⊎◌, ◌≤◌, ℕ, Bool, IsTrue, List, [], ◌∷◌, length, take}
use Rattle.std.specs.Borrow.{Bor}
use Rattle.vol_sector.specs.Disk.{Image}
use Rattle.vol_sector.specs.Record.{LeftBy}
use Rattle.vol_tree.specs.declared.superblock.Superblock.{Superblock}
use Rattle.vol_tree.specs.Tree.{Tree}
use Rattle.vol_tree.specs.Stands.{StandsAs}
use Rattle.wasm_syntax.specs.declared.module.Module.{Module}
use Rattle.wasm_operands.specs.Snapshots.{StandsFor}
use Rattle.sandbox_device.specs.Followed.{initial_image, done_on}
use Rattle.sandbox_host.specs.declared.numbers.Told.{Told}
use Rattle.sandbox_host.specs.declared.held.Ended.{Ended}
use Rattle.sandbox_host.specs.declared.supplies.Supplies.{Supplies}
use Rattle.sandbox_host.specs.declared.volumes.Origin.TheVariants.{Sectors}
use Rattle.sandbox_host.specs.HostTypes.{State}
use Rattle.sandbox_host.specs.Begun.{BeginsBy, PausedBy, ResumedBy}
use Rattle.sandbox_host.specs.Finishing.{Finishes}
use Rattle.sandbox_host.specs.KeptRecords.{KeepsRecord}

-- the image stands for the tree at first, or for that after one of these resumes
abbrev pub StandsForOne : Superblock → Tree → List (Told × State) → Image → Type 0
StandsForOne v tree [] c = StandsAs c v tree
StandsForOne v tree (r ∷ rs) c = StandsAs c v tree ⊎ StandsForOne v r.1.host.volume.tree rs c

-- From an opening over sectors, over any resumes, to the end: on a disk that has the sectors that the device began with the
-- first k writes and syncs are done. What a crash leaves of it stands for the tree at the opening, or after a resume.
abbrev pub IsSettled : StandsFor → Type 0
IsSettled Stands = (m : Module) (supplies : Supplies) (sectors : Bor (List (List ℕ))) (recorded huge : Bool) (s s' : State) (rs : List (Told × State)) (e : Ended) (number k : ℕ) (c : Image)
    → (begins : BeginsBy Stands m supplies (Sectors sectors recorded huge) s) → ResumedBy Stands s rs s' → Finishes s' e number
    → k ≤ length (done_on e.device) → LeftBy (initial_image e.device) (take k (done_on e.device)) c
    → StandsForOne begins.volume.numbers begins.volume.tree rs c

-- The same of a session that still runs, after any resumes: the first k that it has done by then.
abbrev pub IsSettledSoFar : StandsFor → Type 0
IsSettledSoFar Stands = (m : Module) (supplies : Supplies) (sectors : Bor (List (List ℕ))) (recorded huge : Bool) (s s' : State) (rs : List (Told × State)) (k : ℕ) (c : Image)
    → (begins : BeginsBy Stands m supplies (Sectors sectors recorded huge) s) → ResumedBy Stands s rs s'
    → k ≤ length (done_on s'.host.volume.device) → LeftBy (initial_image s'.host.volume.device) (take k (done_on s'.host.volume.device)) c
    → StandsForOne begins.volume.numbers begins.volume.tree rs c

-- What a host is told of a session's record only grows: after more resumes, and at the end, it begins with what was told before.
abbrev pub IsRecordKeptSoFar : StandsFor → Type 0
IsRecordKeptSoFar Stands = (m : Module) (supplies : Supplies) (sectors : Bor (List (List ℕ))) (recorded huge : Bool) (s old new : State) (rs more : List (Told × State))
    → BeginsBy Stands m supplies (Sectors sectors recorded huge) s → ResumedBy Stands s rs old → ResumedBy Stands old more new
    → KeepsRecord sectors.now recorded old.host.volume.device new.host.volume.device

abbrev pub IsRecordKept : StandsFor → Type 0
IsRecordKept Stands = (m : Module) (supplies : Supplies) (sectors : Bor (List (List ℕ))) (recorded huge : Bool) (s s' : State) (rs : List (Told × State)) (e : Ended) (number : ℕ)
    → BeginsBy Stands m supplies (Sectors sectors recorded huge) s → ResumedBy Stands s rs s' → Finishes s' e number
    → KeepsRecord sectors.now recorded s'.host.volume.device e.device

-- a call that syncs was answered with success
pub record TellsSync (told : Told) : Type 0 where
  pub called : told.kind ≡ 4
  pub sync : IsTrue (told.call == 20 || told.call == 21)
  pub success : told.code ≡ 0

-- After a resume that tells of a sync, all that the session has done by then: a crash leaves the tree after that resume.
abbrev pub IsSyncSettled : StandsFor → Type 0
IsSyncSettled Stands = (m : Module) (supplies : Supplies) (sectors : Bor (List (List ℕ))) (recorded huge : Bool) (s old new : State) (rs : List (Told × State)) (told : Told) (units : ℕ) (c : Image)
    → (begins : BeginsBy Stands m supplies (Sectors sectors recorded huge) s) → ResumedBy Stands s rs old → PausedBy Stands units old new told → TellsSync told
    → LeftBy (initial_image new.host.volume.device) (done_on new.host.volume.device) c
    → StandsAs c begins.volume.numbers new.host.volume.tree
