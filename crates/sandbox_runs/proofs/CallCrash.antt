-- What a crash leaves of the volume of a function that is called.
use Rattle.std.proofs.Common.{◌≡◌, ◌⊎◌, ◌∷◌, ℕ, List, [], Option, inl, inr, sym, ◌∙◌, subst}
use Rattle.vol_sector.specs.Disk.{Disk, Image, Leaves}
use Rattle.vol_sector.specs.declared.device.Device.{Ghosts}
use Rattle.vol_log.proofs.Moments.{leaves_same, leaves_then}
use Rattle.vol_tree.specs.Stands.{StandsAs}
use Rattle.wasm_syntax.specs.declared.module.Module.{Module}
use Rattle.wasm_interp.specs.declared.frames.Frame.{Frame}
use Rattle.wasm_interp.specs.Invocations.{TellsStores}
use Rattle.wasm_interp.specs.Machine.{Represents}
use Rattle.wasi_bodies.specs.declared.streams.Terminals.{Terminals}
use Rattle.wasi_bodies.specs.host.Worlds.{Hearing}
use Rattle.wasi_calls.specs.declared.host.wasi_host.HostParts.{HostParts}
use Rattle.sandbox_core.specs.Devices.{Devices, IsHonest, disk_of, numbers_of, tree_of}
use Rattle.sandbox_core.specs.Safety.{TurnsAreSafe}
use Rattle.sandbox_core.specs.Session.{Shares}
use Rattle.plugin_core.specs.Moments.{StandsPassed}
use Rattle.plugin_core.proofs.Keeping.{whole_life}
use Rattle.plugin_session.specs.Headline.{InstanceHeadline, Upholds}
use Rattle.plugin_session.specs.Instance.{InstanceState, OpensWith, session_of}
use Rattle.invoked_run.specs.declared.calling.CalledOnce.{CalledOnce}
use Rattle.invoked_run.specs.Calling.{CallsOnceAndEnds}
use Rattle.sandbox_runs.specs.declared.program.Executed.{Executed}
use Rattle.sandbox_args.specs.declared.request.Run.{Run}
use Rattle.sandbox_args.specs.Request.{Text}
use Rattle.std.specs.Borrow.{Bor}
use Rattle.vol_commands.specs.Volumes.{IsOpenFor, LeftByOpening}
use Rattle.sandbox_telling.specs.RunHost.{returned_device}
use Rattle.sandbox_runs.specs.Invoking.{LaunchesCall, LeftByCall}
use Rattle.sandbox_runs.proofs.Began.{device_back, kept_crash, kept_honest, opened_honest, opened_lasts, opening_crash}

module _ {D R W1 W2 : Type 0} (on : Devices D R W1 W2) (headline : InstanceHeadline Represents on) (safe : TurnsAreSafe on) (tells : TellsStores Represents) (m : Module)
    (seed : Option ℕ) (terminals : Option Terminals) (parts : HostParts D R W1 W2) (s : InstanceState D R W1 W2) (opens : OpensWith seed terminals m parts s)
    (shares : Shares on.device parts (session_of s)) (name numbers : List ℕ) (fuel : ℕ) (room : List Frame) (left : CalledOnce D R W1 W2)
    (calls : CallsOnceAndEnds on s name numbers fuel room left) (is : on.device.honest parts.volume.device) where
  -- what it did is its life
  pub call_lives : ((c : Image) → (on.device.disk parts.volume.device).may_leave c → StandsAs c parts.volume.numbers parts.volume.tree)
      → Upholds on m parts.settings.pages (parts.volume.tree ∷ []) 0 s calls.acts calls.last
  call_lives lasts = headline tells seed terminals m parts (parts.volume.tree ∷ []) 0 s calls.last calls.acts opens shares is (safe.opened parts.volume is lasts) calls.follow

  -- and a crash leaves a tree of it
  pub call_leaves : (lasts : (c : Image) → (on.device.disk parts.volume.device).may_leave c → StandsAs c parts.volume.numbers parts.volume.tree)
      → Leaves (on.device.disk parts.volume.device) (on.device.disk (returned_device left.volume)) (StandsPassed (disk_of on) numbers_of tree_of (IsHonest on) s.host (call_lives lasts).kept.turns)
  call_leaves lasts =
      let kept = (call_lives lasts).kept in
      let back = device_back calls.volume.new left.volume calls.volume.handed_back in
      subst (λ (d : D). Leaves (on.device.disk parts.volume.device) (on.device.disk d) (StandsPassed (disk_of on) numbers_of tree_of (IsHonest on) s.host (call_lives lasts).kept.turns)) (sym back)
      (whole_life (disk_of on) numbers_of tree_of (IsHonest on) s.host calls.last.host kept.turns (on.device.disk parts.volume.device) (on.device.disk calls.volume.new.device) parts.volume.numbers parts.volume.tree
      (sym {b = parts.volume.numbers} shares.reads.kept.numbers) (sym {b = parts.volume.tree} (shares.reads.tree is)) lasts (shares.reads.crash is)
      kept.crash kept.last_tree kept.same_numbers (calls.volume.crash kept.still_honest))

  pub call_honest : ((c : Image) → (on.device.disk parts.volume.device).may_leave c → StandsAs c parts.volume.numbers parts.volume.tree) → on.device.honest (returned_device left.volume)
  call_honest lasts =
      let back = device_back calls.volume.new left.volume calls.volume.handed_back in
      subst on.device.honest (sym back) (calls.volume.kept.honest.0 (call_lives lasts).kept.still_honest)

-- ---- from the opening of the volume on

-- what may be left is left by more, too
leaves_more : (a b : Disk) (P Q : Image → Type 0) → Leaves a b P → ((m : Image) → P m → Q m) → Leaves a b Q
leaves_more a b P Q leaves more = leaves_then a a b Q P Q (leaves_same a Q) leaves (λ m q. q) more

module _ {D R W1 W2 : Type 0} (device : Ghosts D) (remaining : R → Option (List ℕ)) (outs : W1 → Option (List ℕ)) (errs : W2 → Option (List ℕ)) (ear : Hearing R W1 W2)
    (run : Run) (name : Text) (m : Module) (parts : HostParts D R W1 W2) (left : Executed D R W1 W2) where
  abbrev Launched : Type 0
  Launched = LaunchesCall device.honest device.disk device.size device.failures device.goes_on remaining outs errs ear name m run parts left

  abbrev LeftSo : Launched → Image → Type 0
  LeftSo = LeftByCall device.honest device.disk device.size device.failures device.goes_on remaining outs errs ear name m run parts left

  launch_crash : (launched : Launched) → device.honest parts.volume.device → ((c : Image) → (device.disk parts.volume.device).may_leave c → StandsAs c parts.volume.numbers parts.volume.tree)
      → Leaves (device.disk parts.volume.device) (device.disk left.device) (LeftSo launched)
  launch_crash (inl none) h lasts =
      subst (λ (d : D). Leaves (device.disk parts.volume.device) (device.disk d) (λ c. ⊥)) (sym none.device) (kept_crash device.honest device.disk device.size device.failures device.goes_on none.fault parts.volume none.volume none.kept h)
  launch_crash (inr called) h lasts =
      let (life, leaves) = called.crash h lasts in
      leaves_more (device.disk parts.volume.device) (device.disk left.device) _ (LeftSo (inr called)) leaves (λ c passed. (life, passed))

  launch_honest : Launched → device.honest parts.volume.device → ((c : Image) → (device.disk parts.volume.device).may_leave c → StandsAs c parts.volume.numbers parts.volume.tree) → device.honest left.device
  launch_honest (inl none) h lasts = subst device.honest (sym none.device) (kept_honest device.honest device.disk device.size device.failures device.goes_on none.fault parts.volume none.volume none.kept h)
  launch_honest (inr called) h lasts = called.honest h lasts

  module _ (file : Option (Bor Text)) (d : D) (opened : IsOpenFor device.honest device.disk device.size device.failures file d parts.volume) (launched : Launched) (h : device.honest d) where
    pub call_crash : Leaves (device.disk d) (device.disk left.device) (λ c. LeftByOpening device.honest device.disk device.size device.failures file parts.volume c ⊎ LeftSo launched c)
    call_crash =
        leaves_then (device.disk d) (device.disk parts.volume.device) (device.disk left.device) (LeftByOpening device.honest device.disk device.size device.failures file parts.volume) (LeftSo launched)
        (λ c. LeftByOpening device.honest device.disk device.size device.failures file parts.volume c ⊎ LeftSo launched c)
        (opening_crash device.honest device.disk device.size device.failures device.goes_on file d parts.volume opened h)
        (launch_crash launched (opened_honest device.honest device.disk device.size device.failures device.goes_on file d parts.volume opened h) (opened_lasts device.honest device.disk device.size device.failures device.goes_on file d parts.volume opened h))
        (λ c p. inl p) (λ c p. inr p)

    pub whole_honest : device.honest left.device
    whole_honest = launch_honest launched (opened_honest device.honest device.disk device.size device.failures device.goes_on file d parts.volume opened h) (opened_lasts device.honest device.disk device.size device.failures device.goes_on file d parts.volume opened h)
