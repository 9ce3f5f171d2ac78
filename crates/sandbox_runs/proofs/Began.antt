-- A run on a volume whose tree each crash leaves.
use Rattle.std.proofs.Common.{◌≡◌, ◌⊎◌, ⊎_elim, ℕ, List, [], Option, Some, None, Result, Ok, Err, refl, sym, ◌∙◌, ap, subst, inl, inr}
use Rattle.std.specs.Borrow.{Bor}
use Rattle.vol_sector.specs.Disk.{Image, Disk, Leaves}
use Rattle.vol_sector.specs.declared.fault.Refused.{Refused}
use Rattle.vol_log.proofs.Moments.{leaves_same, leaves_then}
use Rattle.vol_tree.specs.Tree.{Tree}
use Rattle.vol_tree.specs.declared.superblock.Superblock.{Superblock}
use Rattle.vol_tree.specs.Stands.{StandsAs}
use Rattle.vol_tree.specs.Opened.{Opened}
use Rattle.vol_tree.proofs.OneTree.{one_tree}
use Rattle.wasm_store.specs.declared.call.HostCall.{HostCall}
use Rattle.wasm_store.specs.declared.call.Errno.{Errno}
use Rattle.wasi_calls.specs.declared.host.wasi_host.HostParts.{HostParts}
use Rattle.wasm_syntax.specs.declared.module.Module.{Module}
use Rattle.wasm_steps.specs.Configuration.{Instance, Configuration}
use Rattle.wasm_steps.specs.Steps.{CallsOf, Reach, stays}
use Rattle.sandbox_core.specs.Runs.{ComesBy}
use Rattle.sandbox_core.specs.declared.fault.SessionFault.{SessionFault}
use Rattle.sandbox_core.specs.declared.fault.SessionFault.TheVariants.{Setting, Instance as NoInstance, Device, Preopen, Memory}
use Rattle.sandbox_core.specs.Session.{IsHandedBack, KeepsVolume}
use Rattle.sandbox_core.proofs.Reaching.{Left}
use Rattle.sandbox_args.specs.Request.{Text}
use Rattle.vol_commands.specs.Volumes.{IsOpenFor, LeftByOpening}
use Rattle.wasi_bodies.specs.host.Worlds.{Hearing}
use Rattle.sandbox_runs.specs.declared.program.Executed.{Executed}
use Rattle.sandbox_args.specs.declared.request.Run.{Run}
use Rattle.sandbox_runs.specs.Running.{Launches, LeftByRun, returned_device, known_of}

module _ (H : Type 0) (Calls : CallsOf H) (disk : H → Disk) (numbers : H → Superblock) (tree : H → Tree) where
  -- the image stands for the tree of a host that the run comes by
  abbrev InRun : Instance → H → Configuration → List (HostCall × Errno) → H → Configuration → Image → Type 0
  InRun i h c es h' c' image = (host : H) × ComesBy Calls i h c es h' c' host × StandsAs image (numbers h) (tree host)

  -- the run comes by the host that it begins with
  pub began : (i : Instance) (h h' : H) (c c' : Configuration) (es : List (HostCall × Errno)) (a new : Disk) (v : Superblock) (T : Tree) → Reach H Calls i h c es h' c' → v ≡ numbers h → T ≡ tree h
      → ((m : Image) → a.may_leave m → StandsAs m v T) → Leaves a (disk h) (λ m. ⊥) → Leaves (disk h) new (Left H Calls disk numbers tree i h c es h' c') → Leaves a new (InRun i h c es h' c')
  began i h h' c c' es a new v T run one same lasts first second =
      leaves_then a (disk h) new (λ m. ⊥) (Left H Calls disk numbers tree i h c es h' c') (InRun i h c es h' c') first second (λ m never. absurd never) on
    where
      on : (m : Image) → Left H Calls disk numbers tree i h c es h' c' m → InRun i h c es h' c' m
      on m (inl r) =
          let could : a.may_leave r.earlier = ⊎_elim (λ was. was) (λ never. absurd never) (first.now r.earlier r.could) in
          let stood : StandsAs r.earlier (numbers h) T = subst (λ (u : Superblock). StandsAs r.earlier u T) one (lasts r.earlier could) in
          let is : r.tree ≡ tree h = one_tree r.earlier (numbers h) r.tree T r.stood stood ∙ same in
          (h, record { at = c; before = []; after = es; parts = refl; comes = stays; goes_on = run }, subst (λ (U : Tree). StandsAs m (numbers h) U) is r.stands)
      on m (inr other) = other

-- the device of what is handed back
pub device_back : {D : Type 0} (v : Opened D) (result : Result (Opened D) (Refused D)) → IsHandedBack v result → returned_device result ≡ v.device
device_back v (Ok w) same = ap (λ o. o.device) same
device_back v (Err r) same = same.0

-- ---- from the opening of the volume on

module _ {D : Type 0} (is_honest : D → Type 0) (disk : D → Disk) (sectors_on failures : D → ℕ) (goes_on : ℕ → D → D → Type 0) where
  pub opening_crash : (file : Option (Bor Text)) (device : D) (v : Opened D) → IsOpenFor is_honest disk sectors_on failures file device v → is_honest device → Leaves (disk device) (disk v.device) (LeftByOpening is_honest disk sectors_on failures file v)
  opening_crash (Some file) device v opened h = opened.crash h
  opening_crash None device v opened h = opened.crash h

  pub opened_lasts : (file : Option (Bor Text)) (device : D) (v : Opened D) → IsOpenFor is_honest disk sectors_on failures file device v → is_honest device → (c : Image) → (disk v.device).may_leave c → StandsAs c v.numbers v.tree
  opened_lasts (Some file) device v opened h c may = opened.working.lasts h c may
  opened_lasts None device v opened h c may = opened.working.lasts h c may

  pub opened_honest : (file : Option (Bor Text)) (device : D) (v : Opened D) → IsOpenFor is_honest disk sectors_on failures file device v → is_honest device → is_honest v.device
  opened_honest (Some file) device v opened h = opened.working.honest.0 h
  opened_honest None device v opened h = opened.working.honest.0 h

  -- what was only read leaves nothing new
  pub kept_crash : (f : SessionFault) (old new : Opened D) → KeepsVolume (known_of is_honest disk sectors_on failures goes_on) f old new → is_honest old.device → Leaves (disk old.device) (disk new.device) (λ m. ⊥)
  kept_crash Setting old new same h = subst (λ (v : Opened D). Leaves (disk old.device) (disk v.device) (λ m. ⊥)) (sym same) (leaves_same (disk old.device) (λ m. ⊥))
  kept_crash (NoInstance f) old new same h = subst (λ (v : Opened D). Leaves (disk old.device) (disk v.device) (λ m. ⊥)) (sym same) (leaves_same (disk old.device) (λ m. ⊥))
  kept_crash Device old new reads h = reads.crash h
  kept_crash Preopen old new reads h = reads.crash h
  kept_crash Memory old new same h = subst (λ (v : Opened D). Leaves (disk old.device) (disk v.device) (λ m. ⊥)) (sym same) (leaves_same (disk old.device) (λ m. ⊥))

  pub kept_honest : (f : SessionFault) (old new : Opened D) → KeepsVolume (known_of is_honest disk sectors_on failures goes_on) f old new → is_honest old.device → is_honest new.device
  kept_honest Setting old new same h = subst (λ (v : Opened D). is_honest v.device) (sym same) h
  kept_honest (NoInstance f) old new same h = subst (λ (v : Opened D). is_honest v.device) (sym same) h
  kept_honest Device old new reads h = reads.kept.honest.0 h
  kept_honest Preopen old new reads h = reads.kept.honest.0 h
  kept_honest Memory old new same h = subst (λ (v : Opened D). is_honest v.device) (sym same) h

  module _ {R W1 W2 : Type 0} (remaining : R → Option (List ℕ)) (outs : W1 → Option (List ℕ)) (errs : W2 → Option (List ℕ)) (ear : Hearing R W1 W2) (m : Module) (run : Run) (parts : HostParts D R W1 W2) (left : Executed D R W1 W2) where
    pub launch_crash : (launched : Launches is_honest disk sectors_on failures goes_on remaining outs errs ear m run parts left) → is_honest parts.volume.device → ((c : Image) → (disk parts.volume.device).may_leave c → StandsAs c parts.volume.numbers parts.volume.tree)
        → Leaves (disk parts.volume.device) (disk left.device) (LeftByRun is_honest disk sectors_on failures goes_on remaining outs errs ear m run parts left launched)
    launch_crash (inl refused) h lasts =
        subst (λ (d : D). Leaves (disk parts.volume.device) (disk d) (λ c. ⊥)) (sym refused.device) (kept_crash refused.fault parts.volume refused.volume refused.kept h)
    launch_crash (inr ran) h lasts = ran.crash h lasts

    pub launch_honest : Launches is_honest disk sectors_on failures goes_on remaining outs errs ear m run parts left → is_honest parts.volume.device → is_honest left.device
    launch_honest (inl refused) h = subst is_honest (sym refused.device) (kept_honest refused.fault parts.volume refused.volume refused.kept h)
    launch_honest (inr ran) h =
        let back = ran.device ∙ device_back ran.counted.reports.volume.new ran.report.volume ran.counted.reports.volume.handed_back in
        subst is_honest (sym back) (ran.counted.reports.volume.kept.honest.0 (ran.counted.reports.honest_after (ran.shares.reads.kept.honest.0 h)))

    pub whole_crash : (file : Option (Bor Text)) (device : D) → IsOpenFor is_honest disk sectors_on failures file device parts.volume → (launched : Launches is_honest disk sectors_on failures goes_on remaining outs errs ear m run parts left) → is_honest device
        → Leaves (disk device) (disk left.device) (λ c. LeftByOpening is_honest disk sectors_on failures file parts.volume c ⊎ LeftByRun is_honest disk sectors_on failures goes_on remaining outs errs ear m run parts left launched c)
    whole_crash file device opened launched h =
        let now = opened_honest file device parts.volume opened h in
        leaves_then (disk device) (disk parts.volume.device) (disk left.device) (LeftByOpening is_honest disk sectors_on failures file parts.volume)
        (LeftByRun is_honest disk sectors_on failures goes_on remaining outs errs ear m run parts left launched)
        (λ c. LeftByOpening is_honest disk sectors_on failures file parts.volume c ⊎ LeftByRun is_honest disk sectors_on failures goes_on remaining outs errs ear m run parts left launched c)
        (opening_crash file device parts.volume opened h) (launch_crash launched now (opened_lasts file device parts.volume opened h)) (λ c p. inl p) (λ c p. inr p)
