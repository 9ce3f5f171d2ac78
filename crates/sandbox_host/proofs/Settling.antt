-- A record that is done on a disk leaves the trees of the session.
use Rattle.std.proofs.Common.{◌≡◌, ◌==◌, ◌||◌, ◌⊎◌, ℕ, Bool, IsTrue, List, [], ◌∷◌, Result, Ok, Err, ⊎_elim, inl, inr, refl, ap, sym, subst, ◌∙◌, arith}
use Rattle.std.specs.Borrow.{Bor}
use Rattle.std.proofs.lemmas.Bool.{false≢true}
use Rattle.vol_sector.specs.Disk.{Image, Leaves}
use Rattle.vol_sector.specs.Record.{LeftBy}
use Rattle.vol_sector.specs.declared.fault.Refused.{Refused}
use Rattle.vol_tree.specs.declared.superblock.Superblock.{Superblock}
use Rattle.vol_tree.specs.Tree.{Tree}
use Rattle.vol_tree.specs.Stands.{StandsAs}
use Rattle.vol_tree.specs.Opened.{Reflects, ReflectsOr}
use Rattle.wasm_syntax.specs.declared.module.Module.{Module}
use Rattle.wasm_store.specs.declared.call.HostCall.{HostCall}
use Rattle.wasm_store.specs.declared.call.HostCall.TheVariants as call
use Rattle.wasm_steps.specs.declared.pause.Outcome.{Outcome}
use Rattle.wasm_steps.specs.declared.pause.Outcome.TheVariants.{Exited, Trapped, OutOfFuel, OutOfMemory}
use Rattle.wasm_steps.specs.declared.pause.Pause.{Pause}
use Rattle.wasm_steps.specs.declared.pause.Pause.TheVariants.{Called, Spent, Ended}
use Rattle.wasi_bodies.specs.host.Worlds.{HostState}
use Rattle.wasi_bodies.specs.laws.Moments.{is_sync, PauseSynced}
use Rattle.sandbox_core.specs.Session.{used_by}
use Rattle.sandbox_device.specs.declared.recorded_device.RecordedDevice.{RecordedDevice}
use Rattle.sandbox_device.specs.Followed.{IsFollowed, initial_image, done_on}
use Rattle.sandbox_device.specs.internal.RecordedLaws.{now_is_since}
use Rattle.sandbox_host.specs.declared.numbers.Told.{Told}
use Rattle.sandbox_host.specs.declared.supplies.Supplies.{Supplies}
use Rattle.sandbox_host.specs.declared.volumes.Origin.{Origin}
use Rattle.sandbox_host.specs.declared.volumes.Origin.TheVariants.{Sectors}
use Rattle.sandbox_host.specs.Numbers.{call_number, told_end, told_pause}
use Rattle.wasm_operands.specs.Snapshots.{StandsFor}
use Rattle.sandbox_host.specs.Host.{State, HostVolume, Bytes, Commits, IsHonest, disk_of}
use Rattle.sandbox_host.specs.Begun.{BeginsBy, ResumedBy}
use Rattle.sandbox_host.specs.Finishing.{returned_device}
use Rattle.sandbox_host.specs.Settled.{StandsForOne, IsSettled, IsSettledSoFar, TellsSync, IsSyncSettled}
use Rattle.sandbox_host.proofs.Carrying.{OneTree, resumed_same}

abbrev Host : Type 0
Host = HostState RecordedDevice (Bor (List ℕ)) Bytes Bytes

-- what a crash may have left of the device at any moment
abbrev SessionLeft : RecordedDevice → Image → Type 0
SessionLeft d c = (disk_of d).left_since 0 c

-- what stands for a tree that such an image stands for is such an image
abbrev IsClosed : Superblock → (Image → Type 0) → Type 0
IsClosed v P = (c d : Image) (U : Tree) → P d → StandsAs d v U → StandsAs c v U → P c

now_left : (d : RecordedDevice) (c : Image) → (disk_of d).may_leave c → SessionLeft d c
now_left d c may = now_is_since d.sectors d.history.first d.history.done d.history.outcomes 0 c (omega arith) may

reflected : (d : RecordedDevice) (v : Superblock) (P : Image → Type 0) → IsClosed v P → ((c : Image) → SessionLeft d c → P c) → (c : Image) → Reflects (disk_of d) v c → P c
reflected d v P closed all c r = closed c r.earlier r.tree (all r.earlier (now_left d r.earlier r.could)) r.stood r.stands

closed_or : OneTree → (v : Superblock) (T : Tree) (P : Image → Type 0) → IsClosed v P → IsClosed v (λ c. P c ⊎ StandsAs c v T)
closed_or one v T P closed c d U (inl p) stood stands = inl (closed c d U p stood stands)
closed_or one v T P closed c d U (inr is) stood stands = inr (subst (StandsAs c v) (sym ((one d v v T U is stood).1)) stands)

-- over resumes
resumes_left : (Stands : StandsFor) → OneTree → (v : Superblock) (P : Image → Type 0) → IsClosed v P → (s s' : State) (rs : List (Told × State)) → ResumedBy Stands s rs s' → s.host.volume.numbers ≡ v
    → ((c : Image) → SessionLeft s.host.volume.device c → P c ⊎ StandsAs c v s.host.volume.tree) → (c : Image) → SessionLeft s'.host.volume.device c → P c ⊎ StandsForOne v s.host.volume.tree rs c
resumes_left Stands one v P closed s s' [] is numbers all c left = all c (subst (λ (t : State). SessionLeft t.host.volume.device c) is left)
resumes_left Stands one v P closed s s' (r ∷ rs) is numbers all c left =
    ⊎_elim (λ before. ⊎_elim (λ p. inl p) (λ first. inr (inl first)) before) (λ later. inr (inr later))
    (resumes_left Stands one v Q closed_then r.1 s' rs is.1 (is.0.1.resumes.numbers ∙ numbers) next c left)
  where
    T : Tree
    T = s.host.volume.tree

    Q : Image → Type 0
    Q d = P d ⊎ StandsAs d v T

    closed_then : IsClosed v Q
    closed_then = closed_or one v T P closed

    next : (d : Image) → SessionLeft r.1.host.volume.device d → Q d ⊎ StandsAs d v r.1.host.volume.tree
    next d now =
        let turn = subst (λ (n : Superblock). Leaves (disk_of s.host.volume.device) (disk_of r.1.host.volume.device) (λ i. Reflects (disk_of s.host.volume.device) n i ⊎ (StandsAs i n T ⊎ StandsAs i n r.1.host.volume.tree))) numbers (is.0.1.resumes.crash tt) in
        ⊎_elim (λ old. inl (all d old)) (λ new. ⊎_elim (λ again. inl (reflected s.host.volume.device v Q closed_then all d again)) (λ stands. ⊎_elim (λ old. inl (inr old)) (λ after. inr after) stands) new)
        (turn.since 0 d (omega arith) now)

-- the tree after the last resume is one of them
last_of : (Stands : StandsFor) (v : Superblock) (s s' : State) (rs : List (Told × State)) (c : Image) → ResumedBy Stands s rs s' → StandsAs c v s'.host.volume.tree → StandsForOne v s.host.volume.tree rs c
last_of Stands v s s' [] c is stands = subst (λ (t : State). StandsAs c v t.host.volume.tree) is stands
last_of Stands v s s' (r ∷ rs) c is stands = inr (last_of Stands v r.1 s' rs c is.1 stands)

closed_one : OneTree → (v : Superblock) (T : Tree) (rs : List (Told × State)) → IsClosed v (StandsForOne v T rs)
closed_one one v T [] c d U is stood stands = subst (StandsAs c v) (sym ((one d v v T U is stood).1)) stands
closed_one one v T (r ∷ rs) c d U (inl is) stood stands = inl (subst (StandsAs c v) (sym ((one d v v T U is stood).1)) stands)
closed_one one v T (r ∷ rs) c d U (inr is) stood stands = inr (closed_one one v r.1.host.volume.tree rs c d U is stood stands)

-- the device that a commit hands back
pub committed : (v : HostVolume) (result : Result HostVolume (Refused RecordedDevice)) → (commits : Commits v result) → returned_device result ≡ commits.new.device
committed v (Ok w) commits = ap (λ (x : HostVolume). x.device) commits.handed_back
committed v (Err r) commits = commits.handed_back.0

-- from an opening over sectors on
all_left : (Stands : StandsFor) → OneTree → (m : Module) (supplies : Supplies) (sectors : Bor (List (List ℕ))) (recorded huge : Bool) (s s' : State) (rs : List (Told × State))
    → (begins : BeginsBy Stands m supplies (Sectors sectors recorded huge) s) → ResumedBy Stands s rs s' → (d : Image) → SessionLeft s'.host.volume.device d → StandsForOne begins.volume.numbers s.host.volume.tree rs d
all_left Stands one m supplies sectors recorded huge s s' rs begins resumed d now =
    ⊎_elim (λ none. absurd none) (λ is. is) (resumes_left Stands one begins.volume.numbers (λ i. ⊥) (λ i j U none a b. none) s s' rs resumed begins.shares.reads.kept.numbers at_first d now)
  where
    at_first : (i : Image) → SessionLeft s.host.volume.device i → ⊥ ⊎ StandsAs i begins.volume.numbers s.host.volume.tree
    at_first i then = inr (subst (StandsAs i begins.volume.numbers) (sym (begins.shares.reads.tree tt)) (begins.is_volume.is_in.since i (⊎_elim (λ old. old) (λ none. absurd none) ((begins.shares.reads.crash tt).since 0 i (omega arith) then))))

numbers_then : (Stands : StandsFor) (m : Module) (supplies : Supplies) (origin : Origin) (s s' : State) (rs : List (Told × State)) (begins : BeginsBy Stands m supplies origin s) → ResumedBy Stands s rs s' → s'.host.volume.numbers ≡ begins.volume.numbers
numbers_then Stands m supplies origin s s' rs begins resumed = (resumed_same Stands s s' rs resumed).numbers ∙ begins.shares.reads.kept.numbers

pub settled_so_far : (Stands : StandsFor) → OneTree → ((d : RecordedDevice) → IsFollowed d) → IsSettledSoFar Stands
settled_so_far Stands one followed m supplies sectors recorded huge s s' rs k c begins resumed le left =
    subst (λ (t : Tree). StandsForOne begins.volume.numbers t rs c) (begins.shares.reads.tree tt)
    (all_left Stands one m supplies sectors recorded huge s s' rs begins resumed c ((followed s'.host.volume.device).stops k c le left))

-- a call that is told by such a number is one that syncs
is_sync_by : (c : HostCall) → IsTrue (call_number c == 20 || call_number c == 21) → IsTrue (is_sync c)
is_sync_by call.FdSync is = refl
is_sync_by call.FdDatasync is = refl
is_sync_by other is = absurd (false≢true is)

no_end : (o : Outcome) (used : ℕ) → (told_end o used).kind ≡ 4 → ⊥
no_end (Exited status) used is = absurd (omega (arith, is))
no_end (Trapped t) used is = absurd (omega (arith, is))
no_end OutOfFuel used is = absurd (omega (arith, is))
no_end OutOfMemory used is = absurd (omega (arith, is))

-- what a pause that is told of as such a call says
told_synced : (p : Pause) (h : Host) (used : ℕ) (c : Image) → TellsSync (told_pause p used) → PauseSynced (λ (h : Host). disk_of h.volume.device) (λ h. h.volume.numbers) (λ h. h.volume.tree) (λ h. IsHonest h.volume.device) p h
    → LeftBy (initial_image h.volume.device) (done_on h.volume.device) c → StandsAs c h.volume.numbers h.volume.tree
told_synced (Called call errno) h used c is stands left = stands (is_sync_by call is.sync) is.success c left
told_synced Spent h used c is stands left = absurd (omega (arith, is.called))
told_synced (Ended outcome) h used c is stands left = absurd (no_end outcome used is.called)

pub sync_settled : (Stands : StandsFor) → IsSyncSettled Stands
sync_settled Stands m supplies sectors recorded huge s old new rs told units c begins resumed paused tells left =
    subst (λ (v : Superblock). StandsAs c v new.host.volume.tree) (paused.resumes.numbers ∙ numbers_then Stands m supplies (Sectors sectors recorded huge) s old rs begins resumed)
    (told_synced paused.pause new.host (used_by new) c (subst TellsSync paused.tells tells) (paused.resumes.synced tt) left)

pub settled : (Stands : StandsFor) → OneTree → ((d : RecordedDevice) → IsFollowed d) → IsSettled Stands
settled Stands one followed m supplies sectors recorded huge s s' rs e number k c begins resumed ends le left =
    let v = begins.volume.numbers in
    let same : s.host.volume.tree ≡ begins.volume.tree = begins.shares.reads.tree tt in
    let T : Tree = s.host.volume.tree in
    let last : RecordedDevice = s'.host.volume.device in
    let all : (d : Image) → SessionLeft last d → StandsForOne v T rs d = all_left Stands one m supplies sectors recorded huge s s' rs begins resumed in
    let numbers : s'.host.volume.numbers ≡ v = numbers_then Stands m supplies (Sectors sectors recorded huge) s s' rs begins resumed in
    let commits = ends.commits in
    let turn = subst (λ (n : Superblock). Leaves (disk_of last) (disk_of commits.new.device) (ReflectsOr (disk_of last) n s'.host.volume.tree)) numbers (commits.crash tt) in
    let moment : SessionLeft commits.new.device c = subst (λ (d : RecordedDevice). SessionLeft d c) (ends.device ∙ committed s'.host.volume ends.volume commits) ((followed e.device).stops k c le left) in
    let stands : StandsForOne v T rs c = ⊎_elim (λ old. all c old)
    (λ new. ⊎_elim (λ again. reflected last v (StandsForOne v T rs) (closed_one one v T rs) all c again) (λ tree. last_of Stands v s s' rs c resumed tree) new) (turn.since 0 c (omega arith) moment) in
    subst (λ (t : Tree). StandsForOne v t rs c) same stands
