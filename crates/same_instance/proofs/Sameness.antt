-- Turns over two hosts that show the same world are the same.
use Rattle.std.proofs.Common.{◌≡◌, ℕ, List, [], ◌++◌, refl, sym, ◌∙◌, ap, subst}
use Rattle.std.proofs.lemmas.List.{append_cancel_right}
use Rattle.wasm_syntax.specs.declared.module.Module.{Module}
use Rattle.wasm_valid.specs.Validity.{IsValid}
use Rattle.wasm_steps.specs.Configuration.{Instance, Configuration}
use Rattle.wasi_bodies.specs.host.Worlds.{HostState, StreamBytes, before_moving, after_moving, world_of}
use Rattle.wasi_bodies.specs.World.{World}
use Rattle.wasi_bodies.specs.Calls as world
use Rattle.sandbox_core.specs.Devices.{Devices, Calls, IsHonest}
use Rattle.plugin_core.specs.Handling.{Act}
use Rattle.same_run.specs.Failures.{has_failed}
use Rattle.same_run.specs.SameWorld.{unplaced_world, IsSameWorld}
use Rattle.same_run.specs.SameSupplies.{ShowAlike}
use Rattle.same_run.specs.Alike.{GaveOf}
use Rattle.same_run.proofs.Answering.{answers_alike, failures_stay}
use Rattle.same_instance.specs.Turns.{Action, Turns}
use Rattle.same_instance.specs.SameInstance.{EndAlike, IsServed, ReadAndWrote, TurnAlike}
use Rattle.same_instance.proofs.Turning.{turns_alike}
use Rattle.same_instance.proofs.Worlds.{turns_move}

module _ {D R W1 W2 D' R' W1' W2' : Type 0} (on : Devices D R W1 W2) (on' : Devices D' R' W1' W2') (m : Module) (valid : IsValid m) where
  abbrev Done : (i : Instance) (h : HostState D R W1 W2) (c : Configuration) (actions : List Action) (ks : List Act) (last : HostState D R W1 W2) (d : Configuration) → Type 0
  Done i h c actions ks last d = Turns (HostState D R W1 W2) (Calls on) m i h c actions ks last d

  abbrev Done' : (i : Instance) (h : HostState D' R' W1' W2') (c : Configuration) (actions : List Action) (ks : List Act) (last : HostState D' R' W1' W2') (d : Configuration) → Type 0
  Done' i h c actions ks last d = Turns (HostState D' R' W1' W2') (Calls on') m i h c actions ks last d

  done_alike : (i : Instance) (h last : HostState D R W1 W2) (h' last' : HostState D' R' W1' W2') (c d d' : Configuration) (actions : List Action) (ks ks' : List Act) → IsHonest on h → IsHonest on' h' → ShowAlike on on' h h'
      → (turns : Done i h c actions ks last d) → (turns' : Done' i h' c actions ks' last' d') → IsServed on turns → IsServed on' turns' → TurnAlike on on' turns turns'
  done_alike i h last h' last' c d d' actions ks ks' is_honest is_honest' alike turns turns' served served' =
      let (moved, moves, still, over) = turns_move on m i h last c d actions ks turns is_honest in
      let (moved', moves', still', over') = turns_move on' m i h' last' c d' actions ks' turns' is_honest' in
      record { some = (moved, record { moves = moves; over_paths = over }); some' = (moved', record { moves = moves'; over_paths = over' }); same = the_same }
    where
      the_same : (input pieces : List ℕ) (moved moved' : StreamBytes) → ReadAndWrote on turns moved → ReadAndWrote on' turns' moved' → GaveOf input pieces last moved → GaveOf input pieces last' moved'
          → EndAlike on on' turns turns' moved moved'
      the_same input pieces moved moved' did did' gave gave' =
          let left : List ℕ = gave.left in
          let left' : List ℕ = gave'.left in
          let later : List ℕ = gave.later in
          let later' : List ℕ = gave'.later in
          let others : StreamBytes = record { input = left; pieces = later; output = []; errors = [] } in
          let others' : StreamBytes = record { input = left'; pieces = later'; output = []; errors = [] } in
          let before : before_moving moved' others' ≡ before_moving moved others =
          λ k. record { input = (sym gave'.bytes ∙ gave.bytes) k; pieces = (sym gave'.lengths ∙ gave.lengths) k; output = []; errors = [] } in
          let first : IsSameWorld (world_of h (before_moving moved others)) (world_of h' (before_moving moved' others')) =
          alike (before_moving moved others) ∙ ap (λ (b : StreamBytes). unplaced_world (world_of h' b)) (sym before) in
          let (one, given) = did.over_paths others gave.ended in
          let (other, given') = did'.over_paths others' gave'.ended in
          let same = turns_alike World world.Calls m valid i IsSameWorld (λ w v is. sym is) has_failed answers_alike failures_stay (world_of h (before_moving moved others)) (world_of h' (before_moving moved' others'))
          (world_of last (after_moving moved others)) (world_of last' (after_moving moved' others')) c c d d' actions ks ks' first refl one other
          (λ refused. served.memory (given refused)) (λ refused. served'.memory (given' refused)) served.nothing_failed served'.nothing_failed in
          let lefts : left ≡ left' = ap (λ (w : World). w.input) same.1 in
          let inputs : moved.input ≡ moved'.input = append_cancel_right moved.input moved'.input left
          (sym gave.bytes ∙ (gave'.bytes ∙ ap (λ (xs : List ℕ). moved'.input ++ xs) (sym lefts))) in
          let laters : later ≡ later' = ap (λ (w : World). w.pieces) same.1 in
          let found : moved.pieces ≡ moved'.pieces = append_cancel_right moved.pieces moved'.pieces later
          (sym gave.lengths ∙ (gave'.lengths ∙ ap (λ (xs : List ℕ). moved'.pieces ++ xs) (sym laters))) in
          let outputs : moved.output ≡ moved'.output = ap (λ (w : World). w.output) same.1 in
          let errors : moved.errors ≡ moved'.errors = ap (λ (w : World). w.errors) same.1 in
          record {
            told = same.0;
            configuration = same.2;
            tree = ap (λ (w : World). w.tree) same.1;
            bytes = λ k. record { input = inputs k; pieces = found k; output = outputs k; errors = errors k };
          }

  -- the same of turns from configurations that are one, of instances that are one
  pub from_one : (i i' : Instance) (c c' : Configuration) → i ≡ i' → c ≡ c' → (h last : HostState D R W1 W2) (h' last' : HostState D' R' W1' W2') (d d' : Configuration) (actions : List Action) (ks ks' : List Act) → IsHonest on h → IsHonest on' h' → ShowAlike on on' h h'
      → (turns : Done i h c actions ks last d) → (turns' : Done' i' h' c' actions ks' last' d') → IsServed on turns → IsServed on' turns' → TurnAlike on on' turns turns'
  from_one i i' c c' one_instance one_configuration h last h' last' d d' actions ks ks' is_honest is_honest' alike turns turns' served served' =
      subst (λ (x : Instance). (other : Done' x h' c' actions ks' last' d') → IsServed on' other → TurnAlike on on' turns other) one_instance
      (subst (λ (z : Configuration). (other : Done' i h' z actions ks' last' d') → IsServed on' other → TurnAlike on on' turns other) one_configuration
      (λ other good. done_alike i h last h' last' c d d' actions ks ks' is_honest is_honest' alike turns other served good)) turns' served'
