-- Turns over a host are turns over worlds, which are refused memory only where the first are.
use Rattle.std.proofs.Common.{◌≡◌, List, [], refl, sym, ap, subst}
use Rattle.wasm_syntax.specs.declared.module.Module.{Module}
use Rattle.wasm_steps.specs.declared.pause.Pause.TheVariants.{Called}
use Rattle.wasm_steps.specs.Configuration.{Instance, Configuration}
use Rattle.wasm_steps.specs.Steps.{answers}
use Rattle.wasi_bodies.specs.World.{World}
use Rattle.wasi_bodies.specs.Calls as world
use Rattle.wasi_bodies.specs.host.Worlds.{HostState, StreamBytes, MayFollow, before_moving, after_moving, world_of}
use Rattle.sandbox_core.specs.Devices.{Devices, Calls}
use Rattle.plugin_core.specs.Handling.{Act, paused}
use Rattle.same_run.proofs.Worlds.{Moves, nothing, same_output, both, beside_second, before_both, after_both, RunsOver, either, follows_first, moves_on, reach_honest, reach_moves, rest, step_moves}
use Rattle.same_instance.specs.Turns.{Action, HaltsAs, Turn, Turns, RefusesMemory, WereRefusedMemory, rests, takes}
use Rattle.same_instance.specs.Turns as turns

module _ {D R W1 W2 : Type 0} (on : Devices D R W1 W2) (m : Module) (i : Instance) where
  abbrev Host : Type 0
  Host = HostState D R W1 W2

  -- bytes moved, the device keeps its model, and it is P of worlds
  abbrev MovesAs : Host → Host → (StreamBytes → StreamBytes → Type 0) → Type 0
  MovesAs h h' P = (moved : StreamBytes) × Moves on h h' moved × on.device.honest h'.volume.device
      × ((others : StreamBytes) → MayFollow h' others → P (before_moving moved others) (after_moving moved others))

  -- one part after the other
  parts : (h g h' : Host) (P Q S : StreamBytes → StreamBytes → Type 0) → MovesAs h g P → (on.device.honest g.volume.device → MovesAs g h' Q)
      → ((a b others : StreamBytes) → P (before_moving a (before_moving b others)) (after_moving a (before_moving b others)) → Q (before_moving b (beside_second a others)) (after_moving b (beside_second a others))
      → S (before_moving a (before_moving b others)) (after_moving b (beside_second a others)))
      → MovesAs h h' S
  parts h g h' P Q S (a, first, still, one) second joined =
      let (b, later, last, other) = second still in (
        both a b,
        moves_on on h g h' a b first later,
        last,
        λ others end.
            let joins : S (before_moving a (before_moving b others)) (after_moving b (beside_second a others)) =
            joined a b others (one (before_moving b others) (follows_first on g h' b others later end)) (other (beside_second a others) end) in
            subst (λ (x : StreamBytes). S x (after_moving (both a b) others)) (before_both a b others)
            (subst (λ (x : StreamBytes). S (before_moving a (before_moving b others)) x) (after_both a b others) joins),
      )

  -- nothing moves
  stays : (h h' : Host) (P : StreamBytes → StreamBytes → Type 0) → h' ≡ h → on.device.honest h.volume.device → ((others : StreamBytes) → P others others) → MovesAs h h' P
  stays h h' P same is_honest holds = subst (λ (x : Host). MovesAs h x P) (sym same)
      (nothing, rest on h, is_honest, λ others end. subst (λ (b : StreamBytes). P others b) (sym (same_output others)) (holds others))

  abbrev HaltsOver : Act → Host → Configuration → Host → Configuration → StreamBytes → StreamBytes → Type 0
  HaltsOver k g b h' d before after = HaltsAs World world.Calls i k (world_of g before) b (world_of h' after) d

  halts_move : (k : Act) (g h' : Host) (b d : Configuration) → HaltsAs Host (Calls on) i k g b h' d → on.device.honest g.volume.device → MovesAs g h' (HaltsOver k g b h' d)
  halts_move (paused (Called call e)) g h' b d step is_honest =
      let (moved, moves, still, over) = step_moves on i 0 g h' b d (answers call e) step is_honest in
      (moved, moves, still, λ others end. (over others end).0)
  halts_move k g h' b d (same, is, told) is_honest =
      stays g h' (HaltsOver k g b h' d) same is_honest (λ others. (ap (λ (x : Host). world_of x others) same, is, told))

  abbrev TurnOver : (h : Host) (c : Configuration) (a : Action) (k : Act) (h' : Host) (d : Configuration) → Turn Host (Calls on) m i h c a k h' d → StreamBytes → StreamBytes → Type 0
  TurnOver h c a k h' d turn before after = (over : Turn World world.Calls m i (world_of h before) c a k (world_of h' after) d) × (RefusesMemory over → RefusesMemory turn)

  turn_moves : (h h' : Host) (c d : Configuration) (a : Action) (k : Act) (turn : Turn Host (Calls on) m i h c a k h' d) → on.device.honest h.volume.device → MovesAs h h' (TurnOver h c a k h' d turn)
  turn_moves h h' c d _ k (turns.goes {g = g} {b = b} units _ run halts rise) is_honest =
      let (moved, moves, over) = reach_moves on i h g c b [] run is_honest in
      parts h g h' (RunsOver on i h c [] g b run) (HaltsOver k g b h' d) (TurnOver h c (turns.go units) k h' d (turns.goes units k run halts rise))
      (moved, moves, reach_honest on i h g c b [] run is_honest, over) (λ still. halts_move k g h' b d halts still)
      (λ x y others one other. (turns.goes units k one.0 other rise, λ refused. either on one.1 (λ r. r) refused))
  turn_moves h h' c d a k (turns.changes _ _ change) is_honest =
      stays h h (TurnOver h c a k h d (turns.changes a k change)) refl is_honest (λ others. (turns.changes a k change, λ refused. refused))

  abbrev TurnsOver : (h : Host) (c : Configuration) (actions : List Action) (ks : List Act) (h' : Host) (d : Configuration) → Turns Host (Calls on) m i h c actions ks h' d → StreamBytes → StreamBytes → Type 0
  TurnsOver h c actions ks h' d all before after = (over : Turns World world.Calls m i (world_of h before) c actions ks (world_of h' after) d) × (WereRefusedMemory over → WereRefusedMemory all)

  pub turns_move : (h h' : Host) (c d : Configuration) (actions : List Action) (ks : List Act) (all : Turns Host (Calls on) m i h c actions ks h' d) → on.device.honest h.volume.device
      → MovesAs h h' (TurnsOver h c actions ks h' d all)
  turns_move h h' c d _ _ rests is_honest = stays h h (TurnsOver h c [] [] h c rests) refl is_honest (λ others. (rests, λ refused. refused))
  turns_move h h' c d _ _ (takes {h' = g} {d = b} {later = later} {ks = ks} a k turn more) is_honest =
      parts h g h' (TurnOver h c a k g b turn) (TurnsOver g b later ks h' d more) (TurnsOver h c _ _ h' d (takes a k turn more))
      (turn_moves h g c b a k turn is_honest) (λ still. turns_move g h' b d later ks more still)
      (λ x y others one other. (takes a k one.0 other.0, λ refused. either on one.1 other.1 refused))
