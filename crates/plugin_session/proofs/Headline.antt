-- The headline of an instance, from what each call says.
use Rattle.std.proofs.Common.{◌≡◌, ℕ, ◌≤◌, [], ◌∷◌, sym, ◌∙◌, ap, subst}
use Rattle.vol_sector.specs.Disk.{Image}
use Rattle.wasm_syntax.specs.declared.module.Module.{Module}
use Rattle.wasm_steps.specs.Steps.{CallsOf}
use Rattle.wasm_operands.specs.Snapshots.{Snapshot, StandsFor}
use Rattle.wasi_bodies.specs.host.Worlds.{HostState, Shows}
use Rattle.wasi_bodies.specs.laws.Confined.{HasOnlyDirectoriesOpen}
use Rattle.wasi_calls.proofs.runs.HostLaws.{are_rows, keep_moments}
use Rattle.sandbox_core.specs.Devices.{Devices, Calls, disk_of, numbers_of, tree_of, IsHonest}
use Rattle.sandbox_core.proofs.Headline.{safe, still, world_begins}
use Rattle.plugin_core.specs.declared.stage.Stage.{Stage}
use Rattle.plugin_core.specs.Handling.{Act, Handled, Handles}
use Rattle.plugin_core.specs.Handling as handling
use Rattle.plugin_core.proofs.Handling.{handling_is_a_life}
use Rattle.plugin_core.proofs.Keeping.{lives_keep_moments}
use Rattle.plugin_core.proofs.Confining.{lives_stay_confined}
use Rattle.plugin_session.specs.States.{InstanceState, links, session_of}
use Rattle.plugin_session.specs.Headline.{FollowBy, History, InstanceHeadline, acts_of}

-- the module stays
module_kept : (Stands : StandsFor) (H : Type 0) (Calls : CallsOf H) (m : Module) (h h' : H) (s t : Snapshot) (k : Act) → Handled Stands H Calls m h s k h' t → t.valid ≡ s.valid
module_kept Stands H Calls m h h' s t _ (handling.invokes x args name exported v) = v.module_is
module_kept Stands H Calls m h h' s t _ (handling.writes memory long written) = ap (λ (z : Snapshot). z.valid) written.is
module_kept Stands H Calls m h h' s t _ (handling.lets_go gone) = gone.module_is
module_kept Stands H Calls m h h' s t _ (handling.pauses units p v) = v.module_is
module_kept Stands H Calls m h h' s t _ (handling.has_returned units v) = v.module_is
module_kept Stands H Calls m h h' s t _ (handling.asks units x v) = v.module_is
module_kept Stands H Calls m h h' s t _ (handling.answers results a) = a.module_is

module _ {D R W1 W2 : Type 0} (Stands : StandsFor) (on : Devices D R W1 W2) where
  abbrev S : Type 0
  S = InstanceState D R W1 W2

  abbrev Host : Type 0
  Host = HostState D R W1 W2

  handles : (m : Module) (rs : History S) (s s' : S) → s.machine.valid ≡ m → FollowBy Stands on s rs s' → Handles Stands Host (Calls on) m s.stage s.host s.machine (acts_of rs) s'.host s'.machine
  handles m [] s s' valid same = subst (λ (z : S). Handles Stands Host (Calls on) m s.stage s.host s.machine [] z.host z.machine) (sym same) handling.stops
  handles m (r ∷ rs) s s' valid (d, rest) =
      let later = handles m rs r.1 s' (module_kept Stands Host (Calls on) s.machine.valid s.host r.1.host s.machine r.1.machine r.0 d.handled ∙ valid) rest in
      handling.does r.0 d.may (subst (λ (n : Module). Handled Stands Host (Calls on) n s.host s.machine r.0 r.1.host r.1.machine) valid d.handled)
      (subst (λ (g : Stage). Handles Stands Host (Calls on) m g r.1.host r.1.machine (acts_of rs) s'.host s'.machine) d.stage later)

  pub headline : ((d : D) (t : ℕ) (image : Image) → on.device.honest d → t ≤ (on.device.disk d).operation_count → (on.device.disk d).may_leave image → (on.device.disk d).left_since t image)
      → ((d : D) (image : Image) → on.device.honest d → (on.device.disk d).left_since (on.device.disk d).operation_count image → (on.device.disk d).may_leave image)
      → InstanceHeadline Stands on
  headline now only tells seed terminals m parts trees from s s' rs opens shares is before follow =
      let pages = parts.settings.pages in
      let all = subst (λ (g : Stage). Handles Stands Host (Calls on) m g s.host s.machine (acts_of rs) s'.host s'.machine) opens.stage (handles m rs s s' opens.opens.module_is follow) in
      let lived = handling_is_a_life Stands Host (Calls on) tells links pages m s.host s'.host s.machine s'.machine (acts_of rs) opens.opens all in
      let honest : IsHonest on s.host = still on now only parts (session_of s) shares is in
      record {
        deeds = lived.0;
        last = lived.1;
        life = lived.2;
        told = lived.3;
        kept = lives_keep_moments (disk_of on) numbers_of tree_of (IsHonest on) (Calls on) links pages m s.host s'.host _ _ trees from
            (keep_moments on.device.honest on.device.disk on.device.size on.device.failures on.device.goes_on on.input.remaining on.out.contents on.err.contents on.ear now only) honest
            (safe on now only parts (session_of s) shares is trees from before) lived.2;
        confined = λ w w' shown shown_after. lives_stay_confined (Calls on) Shows (IsHonest on) links pages m s.host s'.host w w' _ _
            (are_rows on.device.honest on.device.disk on.device.size on.device.failures on.device.goes_on on.input.remaining on.out.contents on.err.contents on.ear) honest shown
            (subst HasOnlyDirectoriesOpen (sym shown.1) (world_begins on now only parts (session_of s) shares is opens.fits shown.0)) lived.2 shown_after;
      }
