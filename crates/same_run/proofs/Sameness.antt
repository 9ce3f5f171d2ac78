-- Two runs over hosts that show the same world are the same.
use Rattle.std.proofs.Common.{◌≡◌, ◌≢◌, ℕ, ◌-◌, ◌≤◌, Bool, true, false, cond, List, [], ◌∷◌, ◌++◌, map, Option, Some, None, slice_get, refl, sym, ◌∙◌, ap, subst}
use Rattle.std.specs.Prelude.{nat_lt}
use Rattle.std.specs.Option.{option_map, option_map_or}
use Rattle.std.proofs.lemmas.Option.{same_Some, slice_get-map}
use Rattle.std.proofs.lemmas.List.{append_cancel_right}
use Rattle.vol_tree.specs.Tree.{Tree}
use Rattle.vol_tree.specs.Opened.{geometry}
use Rattle.wasi_fd.specs.declared.descriptor.Descriptor.{Descriptor}
use Rattle.wasi_fd.specs.declared.descriptor.Descriptor.TheVariants.{Entry}
use Rattle.wasi_fd.specs.declared.descriptor.EntryKind.TheVariants as kinds
use Rattle.wasi_fd.specs.Rights.{directory_rights, all_rights}
use Rattle.wasi_fd.specs.Table.{Table, table_of, streams}
use Rattle.wasm_syntax.specs.declared.module.Module.{Module}
use Rattle.wasm_valid.specs.Validity.{IsValid}
use Rattle.wasm_store.specs.Instantiation.{Instantiates}
use Rattle.wasm_steps.specs.declared.pause.Outcome.{Outcome}
use Rattle.wasm_steps.specs.declared.pause.Outcome.TheVariants.{Exited, Trapped, OutOfFuel, OutOfMemory}
use Rattle.wasm_steps.specs.Configuration.{Instance, Configuration, at, first_configuration}
use Rattle.wasm_operands.specs.Snapshots.{StandsFor}
use Rattle.wasm_interp.specs.Promises.{StartsBy}
use Rattle.wasm_interp.specs.Machine.{Represents}
use Rattle.wasi_bodies.specs.declared.settings.Preopen.{Preopen}
use Rattle.wasi_bodies.specs.declared.settings.Settings.{Settings}
use Rattle.wasi_calls.specs.declared.host.wasi_host.HostParts.{HostParts}
use Rattle.wasi_bodies.specs.declared.streams.Terminals.{Terminals}
use Rattle.wasi_calls.specs.host.Making.{HasPreopens, directory_named, preopened, preopens_of, table_with}
use Rattle.wasi_calls.specs.host.Links.{link}
use Rattle.wasi_bodies.specs.host.Worlds.{HostState, StreamBytes, MayFollow, before_moving, after_moving, given_of, world_of}
use Rattle.wasi_bodies.specs.supplies.Random.{seeded, supply}
use Rattle.wasi_bodies.specs.World.{World}
use Rattle.wasi_bodies.specs.Calls as world
use Rattle.sandbox_core.specs.Devices.{Devices, Calls, IsHonest}
use Rattle.sandbox_core.specs.Sessions.{SessionState, OpensBy, Shares}
use Rattle.sandbox_core.specs.Within.{StopsAs, RunsWithin}
use Rattle.same_run.specs.Failures.{has_failed}
use Rattle.same_run.specs.Served.{IsServed}
use Rattle.same_run.specs.SameWorld.{unplaced, unplaced_world, IsSameWorld}
use Rattle.same_run.specs.Alike.{host_failed, GaveOf, ReadAndWrote, AreTheSame, RunAlike, AreServed}
use Rattle.same_run.specs.SameRun.{names_of, ShowAlike, SameRun, AreAlike, SameReport}
use Rattle.same_run.proofs.Answering.{answers_alike, failures_stay}
use Rattle.same_run.proofs.Running.{ends_alike}
use Rattle.same_run.proofs.OneStart.{started_alike}
use Rattle.same_run.proofs.Worlds.{reach_moves}

-- ---- the directories that a guest finds open

-- the descriptor of a directory with this name, which stands nowhere
abbrev named : List ℕ → ℕ → Descriptor
named name serial = Entry (record {
  serial = serial;
  kind = kinds.Directory;
  position = 0;
  append = false;
  base = record { 0 = directory_rights };
  inheriting = record { 0 = all_rights };
  guest_name = Some (record { ref_ptr = (0, 0); now = name });
})

abbrev opened_at : List ℕ → Option (List Descriptor) → Option ℕ → Option (List Descriptor)
opened_at name rest None = None
opened_at name rest (Some serial) = option_map (λ (ds : List Descriptor). named name serial ∷ ds) rest

-- what the names and paths of directories give
abbrev opened_by : Tree → List (List ℕ × List ℕ) → Option (List Descriptor)
opened_by T [] = Some []
opened_by T (n ∷ ns) = opened_at n.0 (opened_by T ns) (directory_named T n.1)

opened_first : (p : Preopen) (rest : Option (List Descriptor)) (serial : Option ℕ)
    → option_map (map unplaced) (option_map_or (λ serial. option_map (λ (ds : List Descriptor). preopened p serial ∷ ds) rest) serial None)
    ≡ opened_at p.guest_name.now (option_map (map unplaced) rest) serial
opened_first p rest None = refl
opened_first p None (Some serial) = refl
opened_first p (Some ds) (Some serial) = refl

opened_so : (T : Tree) (ps : List Preopen) → option_map (map unplaced) (preopens_of T ps) ≡ opened_by T (map names_of ps)
opened_so T [] = refl
opened_so T (p ∷ ps) = opened_first p (preopens_of T ps) (directory_named T p.path.now)
    ∙ ap (λ (rest : Option (List Descriptor)). opened_at p.guest_name.now rest (directory_named T p.path.now)) (opened_so T ps)

in_table : (ds : List Descriptor) (n : ℕ) → option_map unplaced (table_with ds n) ≡ cond (nat_lt n 3) (option_map unplaced (streams n)) (slice_get (map unplaced ds) (n - 3))
in_table ds n = by_test (nat_lt n 3)
  where
    by_test : (b : Bool) → option_map unplaced (cond b (streams n) (slice_get ds (n - 3))) ≡ cond b (option_map unplaced (streams n)) (slice_get (map unplaced ds) (n - 3))
    by_test true = refl
    by_test false = sym (slice_get-map unplaced ds (n - 3))

same_tables : (T T' : Tree) (ps ps' : List Preopen) (table table' : Table) → T ≡ T' → map names_of ps ≡ map names_of ps' → HasPreopens T ps table → HasPreopens T' ps' table'
    → (n : ℕ) → option_map unplaced (table n) ≡ option_map unplaced (table' n)
same_tables T T' ps ps' table table' tree names has has' n =
    let directories : map unplaced has.directories ≡ map unplaced has'.directories = same_Some (map unplaced has.directories) (map unplaced has'.directories)
    (sym (ap (option_map (map unplaced)) has.named) ∙ (opened_so T ps ∙ ((λ k. opened_by (tree k) (names k)) ∙ (sym (opened_so T' ps') ∙ ap (option_map (map unplaced)) has'.named)))) in
    ap (option_map unplaced) (has.opened n) ∙ (in_table has.directories n
    ∙ (ap (λ (ds : List Descriptor). cond (nat_lt n 3) (option_map unplaced (streams n)) (slice_get ds (n - 3))) directories
    ∙ (sym (in_table has'.directories n) ∙ sym (ap (option_map unplaced) (has'.opened n)))))

-- ---- one run over worlds

module _ {D R W1 W2 : Type 0} (on : Devices D R W1 W2) where
  module _ {i : Instance} {c : Configuration} {fuel : ℕ} {h last : HostState D R W1 W2} {outcome : Outcome} {used : ℕ} (run : RunsWithin (Calls on) i h c fuel last outcome used) where
    abbrev pub RanOver : StreamBytes → StreamBytes → Type 0
    RanOver before after = (over : RunsWithin world.Calls i (world_of h before) c fuel (world_of last after) outcome used)
        × IsServed world.Calls has_failed over × (over.last ≡ run.last) × (over.answers ≡ run.answers)

    stops_over : (o : Outcome) (w : World) (d : Configuration) → o ≢ OutOfMemory → StopsAs (Calls on) i o fuel used last d → StopsAs world.Calls i o fuel used w d
    stops_over (Exited n) w (at s f d) not_memory is = is
    stops_over (Trapped t) w (at s f d) not_memory is = is
    stops_over OutOfFuel w d not_memory is = is
    stops_over OutOfMemory w d not_memory is = absurd (not_memory refl)

    pub ran_over : (moved : StreamBytes) → ReadAndWrote on run moved → IsServed (Calls on) host_failed run → (others : StreamBytes) → MayFollow last others
        → RanOver (before_moving moved others) (after_moving moved others)
    ran_over moved did served others end = let (reach, same) = did.over_paths others end in (
      record { last = run.last; answers = run.answers; reach = reach; units = run.units; stops = stops_over outcome (world_of last (after_moving moved others)) run.last served.stacks run.stops },
      record { growths = λ refused. served.growths (same refused); stacks = served.stacks; nothing_failed = served.nothing_failed },
      refl,
      refl,
    )

    pub some_bytes : IsHonest on h → (moved : StreamBytes) × ReadAndWrote on run moved
    some_bytes is_honest = let (moved, moves, over) = reach_moves on i h last c run.last run.answers run.reach is_honest in
        (moved, record { moves = moves; over_paths = over })

-- how a host begins: no stream has failed, and it has the settings, the seed and the terminals that were given
pub record HostBegins {D R W1 W2 : Type 0} (seed : Option ℕ) (terminals : Option Terminals) (parts : HostParts D R W1 W2) (h : HostState D R W1 W2) : Type 0 where
  pub input : h.input ≡ record { reader = parts.input; failed = false; ended = false }
  pub out : h.out ≡ record { writer = parts.out; failed = false }
  pub err : h.err ≡ record { writer = parts.err; failed = false }
  pub settings : h.settings ≡ parts.settings
  pub supply : h.generator ≡ option_map seeded seed
  pub interactive : h.interactive ≡ terminals

host_begins : {D R W1 W2 : Type 0} (Stands : StandsFor) (m : Module) (seed : Option ℕ) (terminals : Option Terminals) (parts : HostParts D R W1 W2) (s : SessionState D R W1 W2) → OpensBy Stands seed terminals m parts s → HostBegins seed terminals parts s.host
host_begins Stands m seed terminals parts s opens = record { input = opens.input; out = opens.out; err = opens.err; settings = opens.settings; supply = opens.supply; interactive = opens.interactive }

-- ---- two of them

module _ {D R W1 W2 D' R' W1' W2' : Type 0} (on : Devices D R W1 W2) (on' : Devices D' R' W1' W2') where
  pub same_run : SameRun on on'
  same_run i c fuel fuel' h last h' last' outcome outcome' used used' is_honest is_honest' alike same_fuel run run' within within' (served, served') =
      record { some = some_bytes on run is_honest; some' = some_bytes on' run' is_honest'; same = the_same }
    where
      the_same : (input pieces : List ℕ) (moved moved' : StreamBytes) → ReadAndWrote on run moved → ReadAndWrote on' run' moved' → GaveOf input pieces last moved → GaveOf input pieces last' moved'
          → AreTheSame on on' run run' moved moved'
      the_same input pieces moved moved' did did' gave gave' =
          let left : List ℕ = gave.left in
          let left' : List ℕ = gave'.left in
          let later : List ℕ = gave.later in
          let later' : List ℕ = gave'.later in
          let others : StreamBytes = record { input = left; pieces = later; output = []; errors = [] } in
          let others' : StreamBytes = record { input = left'; pieces = later'; output = []; errors = [] } in
          let before : before_moving moved' others' ≡ before_moving moved others =
          λ k. record { input = (sym gave'.bytes ∙ gave.bytes) k; pieces = (sym gave'.lengths ∙ gave.lengths) k; output = []; errors = [] } in
          let first : IsSameWorld (world_of h (before_moving moved others)) (world_of h' (before_moving moved' others')) =
          alike (before_moving moved others) ∙ ap (λ (b : StreamBytes). unplaced_world (world_of h' b)) (sym before) in
          let (one, one_served, one_last, one_answers) = ran_over on run moved did served others gave.ended in
          let (other, other_served, other_last, other_answers) = ran_over on' run' moved' did' served' others' gave'.ended in
          let same = ends_alike World world.Calls i IsSameWorld has_failed answers_alike failures_stay (world_of h (before_moving moved others)) (world_of h' (before_moving moved' others'))
          (world_of last (after_moving moved others)) (world_of last' (after_moving moved' others')) c fuel fuel' outcome outcome' used used' first same_fuel one other within within' one_served other_served in
          let lefts : left ≡ left' = ap (λ (w : World). w.input) same.hosts in
          let inputs : moved.input ≡ moved'.input = append_cancel_right moved.input moved'.input left
          (sym gave.bytes ∙ (gave'.bytes ∙ ap (λ (xs : List ℕ). moved'.input ++ xs) (sym lefts))) in
          let laters : later ≡ later' = ap (λ (w : World). w.pieces) same.hosts in
          let found : moved.pieces ≡ moved'.pieces = append_cancel_right moved.pieces moved'.pieces later
          (sym gave.lengths ∙ (gave'.lengths ∙ ap (λ (xs : List ℕ). moved'.pieces ++ xs) (sym laters))) in
          let outputs : moved.output ≡ moved'.output = ap (λ (w : World). w.output) same.hosts in
          let errors : moved.errors ≡ moved'.errors = ap (λ (w : World). w.errors) same.hosts in
          record {
            ends = same.outcomes;
            units = same.units;
            configuration = sym one_last ∙ (same.lasts ∙ other_last);
            calls = sym one_answers ∙ (same.told_same ∙ other_answers);
            tree = ap (λ (w : World). w.tree) same.hosts;
            bytes = λ k. record { input = inputs k; pieces = found k; output = outputs k; errors = errors k };
          }

  -- The same of two runs from configurations that are one.
  pub same_from_one : (i i' : Instance) (c c' : Configuration) → i ≡ i' → c ≡ c' → (fuel fuel' : ℕ) (h last : HostState D R W1 W2) (h' last' : HostState D' R' W1' W2') (outcome outcome' : Outcome) (used used' : ℕ)
      → IsHonest on h → IsHonest on' h' → ShowAlike on on' h h' → fuel ≡ fuel' → (run : RunsWithin (Calls on) i h c fuel last outcome used) (run' : RunsWithin (Calls on') i' h' c' fuel' last' outcome' used')
      → used ≤ fuel → used' ≤ fuel' → AreServed on on' run run' → RunAlike on on' run run'
  same_from_one i i' c c' one_instance one_configuration fuel fuel' h last h' last' outcome outcome' used used' is_honest is_honest' alike same_fuel run run' within within' served =
      subst (λ (x : Instance). (other : RunsWithin (Calls on') x h' c' fuel' last' outcome' used') → AreServed on on' run other → RunAlike on on' run other) one_instance
      (subst (λ (d : Configuration). (other : RunsWithin (Calls on') i h' d fuel' last' outcome' used') → AreServed on on' run other → RunAlike on on' run other) one_configuration
      (λ other both. same_run i c fuel fuel' h last h' last' outcome outcome' used used' is_honest is_honest' alike same_fuel run other within within' both)) run' served

  -- ---- sessions

  -- sessions that began so began at one configuration of one instance
  pub begin_alike : (Stands : StandsFor) (m : Module) (seed seed' : Option ℕ) (terminals terminals' : Option Terminals) (parts : HostParts D R W1 W2) (parts' : HostParts D' R' W1' W2')
      (s : SessionState D R W1 W2) (s' : SessionState D' R' W1' W2') → IsValid m → parts.settings.pages ≡ parts'.settings.pages
      → (opens : OpensBy Stands seed terminals m parts s) → (opens' : OpensBy Stands seed' terminals' m parts' s')
      → (opens'.starts.instance ≡ opens.starts.instance) × (opens'.starts.store ≡ opens.starts.store) × (opens'.starts.entered ≡ opens.starts.entered)
  begin_alike Stands m seed seed' terminals terminals' parts parts' s s' valid pages opens opens' =
      started_alike link parts.settings.pages m opens'.starts.instance opens.starts.instance opens'.starts.store opens.starts.store opens'.starts.entered opens.starts.entered valid
      (subst (λ (n : ℕ). Instantiates link n m opens'.starts.instance opens'.starts.store opens'.starts.entered) (sym pages) opens'.starts.instantiates) opens.starts.instantiates

  -- hosts that begin so show the same
  pub hosts_alike : (seed seed' : Option ℕ) (terminals terminals' : Option Terminals) (parts : HostParts D R W1 W2) (parts' : HostParts D' R' W1' W2')
      (s : SessionState D R W1 W2) (s' : SessionState D' R' W1' W2') → AreAlike on on' parts parts' → seed ≡ seed' → terminals ≡ terminals'
      → HostBegins seed terminals parts s.host → HostBegins seed' terminals' parts' s'.host → Shares on.device parts s → Shares on'.device parts' s'
      → on.device.honest parts.volume.device → on'.device.honest parts'.volume.device → ShowAlike on on' s.host s'.host
  hosts_alike seed seed' terminals terminals' parts parts' s s' alike same_seed same_terminals opens opens' shares shares' is_honest is_honest' b = λ k. record {
    volume = room k;
    tree = tree k;
    table = λ n. table n k;
    input = b.input;
    pieces = b.pieces;
    input_ended = ended k;
    output = b.output;
    errors = b.errors;
    random = random k;
    given = given k;
    interactive = talks k;
    volume_failed = failed k;
    input_failed = input_failed k;
    output_failed = output_failed k;
    errors_failed = errors_failed k;
  }
    where
      room : geometry s.host.volume.numbers ≡ geometry s'.host.volume.numbers
      room = ap geometry shares.reads.kept.numbers ∙ (alike.room ∙ sym (ap geometry shares'.reads.kept.numbers))

      tree : s.host.volume.tree ≡ s'.host.volume.tree
      tree = shares.reads.tree is_honest ∙ (alike.tree ∙ sym (shares'.reads.tree is_honest'))

      given : given_of s.host.settings ≡ given_of s'.host.settings
      given = ap given_of opens.settings ∙ (alike.supplies.given ∙ sym (ap given_of opens'.settings))

      table : (n : ℕ) → option_map unplaced (table_of s.host.descriptors n) ≡ option_map unplaced (table_of s'.host.descriptors n)
      table n = same_tables parts.volume.tree parts'.volume.tree parts.settings.preopens.now parts'.settings.preopens.now (table_of s.host.descriptors) (table_of s'.host.descriptors)
          alike.tree alike.supplies.directories (shares.preopens is_honest) (shares'.preopens is_honest') n

      ended : s.host.input.ended ≡ s'.host.input.ended
      ended = ap (λ x. x.ended) opens.input ∙ sym (ap (λ x. x.ended) opens'.input)

      bytes : s.host.settings.random.now ≡ s'.host.settings.random.now
      bytes = ap (λ (x : Settings). x.random.now) opens.settings ∙ (alike.supplies.random ∙ sym (ap (λ (x : Settings). x.random.now) opens'.settings))

      random : supply s.host.generator s.host.settings.random.now ≡ supply s'.host.generator s'.host.settings.random.now
      random = λ k. supply ((opens.supply ∙ (ap (option_map seeded) same_seed ∙ sym opens'.supply)) k) (bytes k)

      talks : s.host.interactive ≡ s'.host.interactive
      talks = opens.interactive ∙ (same_terminals ∙ sym opens'.interactive)

      failed : s.host.volume.failed ≡ s'.host.volume.failed
      failed = shares.reads.kept.failed ∙ sym shares'.reads.kept.failed

      input_failed : s.host.input.failed ≡ s'.host.input.failed
      input_failed = ap (λ x. x.failed) opens.input ∙ sym (ap (λ x. x.failed) opens'.input)

      output_failed : s.host.out.failed ≡ s'.host.out.failed
      output_failed = ap (λ x. x.failed) opens.out ∙ sym (ap (λ x. x.failed) opens'.out)

      errors_failed : s.host.err.failed ≡ s'.host.err.failed
      errors_failed = ap (λ x. x.failed) opens.err ∙ sym (ap (λ x. x.failed) opens'.err)

  pub show_alike : (Stands : StandsFor) (m : Module) (seed seed' : Option ℕ) (terminals terminals' : Option Terminals) (parts : HostParts D R W1 W2) (parts' : HostParts D' R' W1' W2')
      (s : SessionState D R W1 W2) (s' : SessionState D' R' W1' W2') → AreAlike on on' parts parts' → seed ≡ seed' → terminals ≡ terminals'
      → OpensBy Stands seed terminals m parts s → OpensBy Stands seed' terminals' m parts' s' → Shares on.device parts s → Shares on'.device parts' s'
      → on.device.honest parts.volume.device → on'.device.honest parts'.volume.device → ShowAlike on on' s.host s'.host
  show_alike Stands m seed seed' terminals terminals' parts parts' s s' alike same_seed same_terminals opens opens' shares shares' is_honest is_honest' =
      hosts_alike seed seed' terminals terminals' parts parts' s s' alike same_seed same_terminals (host_begins Stands m seed terminals parts s opens) (host_begins Stands m seed' terminals' parts' s' opens') shares shares' is_honest is_honest'

  pub same_report : SameReport on on'
  same_report m seed seed' terminals terminals' parts parts' s s' fuel fuel' report report' valid alike same_seed same_terminals same_fuel opens opens' shares shares' is_honest is_honest' reports reports' = record {
    first = (first.instance, first_configuration first.entered first.store, first.stands, stands');
    alike = λ i c stands stands' served. same_run i c fuel fuel' s.host reports.last.host s'.host reports'.last.host report.outcome report'.outcome _ _
        (shares.reads.kept.honest.0 is_honest) (shares'.reads.kept.honest.0 is_honest') (show_alike Represents m seed seed' terminals terminals' parts parts' s s' alike same_seed same_terminals opens opens' shares shares' is_honest is_honest')
        same_fuel (reports.run i c stands) (reports'.run i c stands')
        (subst (λ (n : ℕ). n ≤ fuel) reports.used reports.within) (subst (λ (n : ℕ). n ≤ fuel') reports'.used reports'.within) served;
  }
    where
      first : StartsBy Represents link parts.settings.pages m s.machine
      first = opens.starts

      second : StartsBy Represents link parts'.settings.pages m s'.machine
      second = opens'.starts

      same : (second.instance ≡ first.instance) × (second.store ≡ first.store) × (second.entered ≡ first.entered)
      same = begin_alike Represents m seed seed' terminals terminals' parts parts' s s' valid alike.supplies.pages opens opens'

      stands' : Represents s'.machine first.instance (first_configuration first.entered first.store)
      stands' = subst (λ (c : Configuration). Represents s'.machine first.instance c) (λ k. first_configuration (same.2 k) (same.1 k))
          (subst (λ (i : Instance). Represents s'.machine i (first_configuration second.entered second.store)) same.0 second.stands)
