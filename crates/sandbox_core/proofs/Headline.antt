-- The headline, from what each resume says.
use Rattle.std.proofs.Common.{◌≡◌, ◌==◌, cond, zero, suc, Result, Ok, Err, ℕ, ◌+◌, ◌-◌, ◌≤◌, Bool, true, false, IsTrue, nat_lt, List, [], ◌∷◌, ◌++◌, append_assoc, append-nil, length, Option, Some, None, refl, sym, ◌∙◌, ap, subst, inl, inr, arith, slice_get}
use Rattle.vol_sector.specs.Disk.{Image, Disk}
use Rattle.std.proofs.lemmas.Bool.{and_parts, leb-true, ltb-false, eqb-true}
use Rattle.std.proofs.lemmas.Option.{slice_get_within}
use Rattle.std.specs.Option.{option_map, option_map_or}
use Rattle.vol_tree.specs.declared.errno.Errno.{Errno as TreeErrno}
use Rattle.vol_tree.specs.Tree.{Tree, IsTree, IsDirectory, root}
use Rattle.vol_tree.specs.Calls.{directory_at}
use Rattle.vol_tree.specs.Opened.{GoesOn}
use Rattle.vol_tree.proofs.GoingOn.{goes_same, goes_then}
use Rattle.vol_tree.proofs.Trees.{directory_is}
use Rattle.path_walk.specs.Paths.{Reached, Found, Missing, slash}
use Rattle.wasi_fd.specs.declared.descriptor.Descriptor.{Descriptor}
use Rattle.wasi_fd.specs.declared.descriptor.Descriptor.TheVariants.{Entry}
use Rattle.wasi_fd.specs.declared.descriptor.EntryKind.TheVariants as kinds
use Rattle.wasi_fd.specs.declared.descriptor.Opened.{Opened as OpenedEntry}
use Rattle.wasi_fd.specs.Table.{table_of, streams}
use Rattle.wasi_bodies.specs.declared.settings.Preopen.{Preopen}
use Rattle.wasi_bodies.specs.declared.settings.Settings.{Settings}
use Rattle.wasi_calls.specs.declared.host.wasi_host.HostParts.{HostParts}
use Rattle.wasi_bodies.specs.host.Settings.{settings_fit}
use Rattle.wasi_bodies.specs.laws.Moments.{CountsMoments, Kept, Turns, IsSafe, PauseSynced, is_sync}
use Rattle.wasi_bodies.specs.laws.Confined.{HasOnlyDirectoriesOpen}
use Rattle.wasi_bodies.proofs.OpenEntries.{no_entries}
use Rattle.wasi_calls.proofs.runs.HostLaws.{are_rows}
use Rattle.wasi_calls.proofs.runs.Moments.{keeps_all}
use Rattle.wasi_calls.proofs.runs.Confinement.{confines_host}
use Rattle.wasi_calls.specs.host.Making.{found_directory, from_root, directory_named, preopened, preopens_of, table_with}
use Rattle.vol_tree.specs.Stands.{StandsAs}
use Rattle.vol_tree.specs.declared.superblock.Superblock.{Superblock}
use Rattle.wasm_syntax.specs.declared.module.Module.{Module}
use Rattle.wasm_store.specs.declared.call.HostCall.{HostCall}
use Rattle.wasm_store.specs.declared.call.Errno.{Errno}
use Rattle.wasm_steps.specs.declared.pause.Pause.{Pause}
use Rattle.wasm_steps.specs.declared.pause.Pause.TheVariants.{Called, Spent, Ended}
use Rattle.wasm_steps.specs.Configuration.{Instance, Configuration, first_configuration}
use Rattle.wasm_steps.specs.Steps.{CallsOf, Event, Step, plain_step, free_step, host_answers, host_exits, in_label, in_frame, Reach, stays, goes}
use Rattle.wasi_bodies.specs.World.{World}
use Rattle.wasi_bodies.specs.Calls as world
use Rattle.wasi_bodies.specs.host.Worlds.{HostState, StreamBytes, LeavesNone, StreamsMove, MayFollow, before_moving, after_moving, Shows, world_of}
use Rattle.wasi_bodies.proofs.bodies.Resting.{nothing}
use Rattle.std.specs.Io.KnownBytes.{Consumes}
use Rattle.std.proofs.KnownBytes.{Consumes-nil, Consumes-trans, Appends-nil, Appends-trans}
use Rattle.sandbox_core.specs.Devices.{Devices, Calls as CallsOn}
use Rattle.wasi_bodies.specs.declared.streams.Terminals.{Terminals}
use Rattle.wasm_operands.specs.Snapshots.{StandsFor}
use Rattle.sandbox_core.specs.Sessions.{SessionState, OpensBy, Shares, History, FollowBy, is_synced, pauses_of, seeded_by}
use Rattle.sandbox_core.proofs.Following.{heard_follow}
use Rattle.sandbox_core.proofs.Reaching.{resumes_compose}
use Rattle.sandbox_core.specs.Runs.{ResumesFollowBy, answered}
use Rattle.sandbox_core.specs.Safety.{IsSafeVolume}
use Rattle.sandbox_core.specs.Headline.{Upholds, Headline, SeededHeadline, OpenedHeadline, turns_of}

-- ---- a run over a host is one over a tree of paths

same_output : (others : StreamBytes) → after_moving nothing others ≡ others
same_output others = λ i. record { input = others.input; pieces = others.pieces; output = append-nil others.output i; errors = append-nil others.errors i }

-- one after the other
abbrev both : StreamBytes → StreamBytes → StreamBytes
both a b = record { input = a.input ++ b.input; pieces = a.pieces ++ b.pieces; output = a.output ++ b.output; errors = a.errors ++ b.errors }

-- the bytes that the first has beside those that it moves by
abbrev beside_first : StreamBytes → StreamBytes → StreamBytes
beside_first b others = before_moving b others

abbrev beside_second : StreamBytes → StreamBytes → StreamBytes
beside_second a others = record { input = others.input; pieces = others.pieces; output = others.output ++ a.output; errors = others.errors ++ a.errors }

before_both : (a b others : StreamBytes) → before_moving a (beside_first b others) ≡ before_moving (both a b) others
before_both a b others = λ i. record { input = sym (append_assoc a.input b.input others.input) i; pieces = sym (append_assoc a.pieces b.pieces others.pieces) i; output = others.output; errors = others.errors }

after_both : (a b others : StreamBytes) → after_moving b (beside_second a others) ≡ after_moving (both a b) others
after_both a b others = λ i. record { input = others.input; pieces = others.pieces; output = append_assoc others.output a.output b.output i; errors = append_assoc others.errors a.errors b.errors i }

-- a reader that gave all that it told has none later on
no_more : (xs ys : List ℕ) → [] ≡ xs ++ ys → ys ≡ []
no_more [] ys is = sym is
no_more (x ∷ xs) ys is = cc

none_later : (a b c : Option (List ℕ)) (bytes : List ℕ) → LeavesNone a b → Consumes b c bytes → LeavesNone a c
none_later None b c bytes none consumed = tt
none_later (Some xs) None c bytes none consumed = cc
none_later (Some xs) (Some ys) None bytes none consumed = absurd consumed
none_later (Some xs) (Some ys) (Some zs) bytes none consumed =
    let empty : ys ≡ [] = cc in
    ap Some (no_more bytes zs (sym empty ∙ consumed))

none_before : (a b c : Option (List ℕ)) (bytes : List ℕ) → Consumes a b bytes → LeavesNone b c → LeavesNone a c
none_before None b c bytes consumed none = tt
none_before (Some xs) None c bytes consumed none = absurd consumed
none_before (Some xs) (Some ys) c bytes consumed none = none

module _ {D R W1 W2 : Type 0} (on : Devices D R W1 W2) where
  abbrev H : Type 0
  H = HostState D R W1 W2

  abbrev CallsH : CallsOf H
  CallsH = CallsOn on

  abbrev Moves : H → H → StreamBytes → Type 0
  Moves = StreamsMove on.input.remaining on.out.contents on.err.contents

  rest : (h : H) → Moves h h nothing
  rest h = record { input = Consumes-nil (on.input.remaining h.input.reader); output = Appends-nil (on.out.contents h.out.writer); errors = Appends-nil (on.err.contents h.err.writer); ended = λ is. (refl, is); end = λ is. inl is; pieces = λ is. (refl, is) }

  moves_on : (h g h' : H) (a b : StreamBytes) → Moves h g a → Moves g h' b → Moves h h' (both a b)
  moves_on h g h' a b first second = record {
    input = Consumes-trans _ _ _ a.input b.input first.input second.input;
    output = Appends-trans _ _ _ a.output b.output first.output second.output;
    errors = Appends-trans _ _ _ a.errors b.errors first.errors second.errors;
    ended = λ is.
        let one = first.ended is in
        let two = second.ended one.1 in
        ((λ i. one.0 i ++ two.0 i), two.1);
    end = λ is. elim (second.end is) [
      | inl was ↦ elim (first.end was) [
        | inl before ↦ inl before
        | inr none ↦ inr (none_later _ _ _ b.input none second.input)
      ]
      | inr none ↦ inr (none_before _ _ _ a.input first.input none)
    ];
    pieces = λ is.
        let one = first.pieces is in
        let two = second.pieces one.1 in
        ((λ i. one.0 i ++ two.0 i), two.1);
  }

  -- what may follow the second is what may follow the first, with the bytes of the second
  follows_first : (g h' : H) (b others : StreamBytes) → Moves g h' b → MayFollow h' others → MayFollow g (beside_first b others)
  follows_first g h' b others second end is = let two = second.ended is in λ i. two.0 i ++ end two.1 i

  abbrev StepMoves : Instance → ℕ → H → Configuration → Event → H → Configuration → Type 0
  StepMoves i n h c ev h' c' = (moved : StreamBytes) × Moves h h' moved × on.device.honest h'.volume.device
      × ((others : StreamBytes) → MayFollow h' others → Step World world.Calls i n (world_of h (before_moving moved others)) c ev (world_of h' (after_moving moved others)) c')

  step_moves : (i : Instance) (n : ℕ) (h h' : H) (c c' : Configuration) (ev : Event) → Step H CallsH i n h c ev h' c' → on.device.honest h.volume.device → StepMoves i n h c ev h' c'
  step_moves i n h h' c c' ev (plain_step r) is_honest =
      (nothing, rest h, is_honest, λ others end. subst (λ (b : StreamBytes). Step World world.Calls i n (world_of h others) c ev (world_of h b) c') (sym (same_output others)) (plain_step r))
  step_moves i n h h' c c' ev (free_step r) is_honest =
      (nothing, rest h, is_honest, λ others end. subst (λ (b : StreamBytes). Step World world.Calls i n (world_of h others) c ev (world_of h b) c') (sym (same_output others)) (free_step r))
  step_moves i n h h' c c' ev (host_answers {s = s} {memory = memory} args vs callee all count a) is_honest =
      let (moved, moves, meaning) = a.row (λ _. is_honest) in
      (moved, moves, a.volume.kept.honest.0 is_honest, λ others end. host_answers args vs callee all count (meaning others end))
  step_moves i n h h' c c' ev (host_exits {s = s} {memory = memory} args vs callee all count a) is_honest =
      let (moved, moves, meaning) = a.row (λ _. is_honest) in
      (moved, moves, a.volume.kept.honest.0 is_honest, λ others end. host_exits args vs callee all count (meaning others end))
  step_moves i n h h' c c' ev (in_label s) is_honest =
      let (moved, moves, still, step) = step_moves i n h h' _ _ ev s is_honest in (moved, moves, still, λ others end. in_label (step others end))
  step_moves i n h h' c c' ev (in_frame s) is_honest =
      let (moved, moves, still, step) = step_moves i _ h h' _ _ ev s is_honest in (moved, moves, still, λ others end. in_frame (step others end))

  abbrev pub ReachMoves : Instance → H → Configuration → List (HostCall × Errno) → H → Configuration → Type 0
  ReachMoves i h c es h' c' = (moved : StreamBytes) × Moves h h' moved
      × ((others : StreamBytes) → MayFollow h' others → Reach World world.Calls i (world_of h (before_moving moved others)) c es (world_of h' (after_moving moved others)) c')

  pub reach_moves : (i : Instance) (h h' : H) (c c' : Configuration) (es : List (HostCall × Errno)) → Reach H CallsH i h c es h' c' → on.device.honest h.volume.device → ReachMoves i h c es h' c'
  reach_moves i h h' c c' es stays is_honest =
      (nothing, rest h, λ others end. subst (λ (b : StreamBytes). Reach World world.Calls i (world_of h others) c [] (world_of h b) c) (sym (same_output others)) stays)
  reach_moves i h h' c c' es (goes {h' = g} {c' = d} ev fs s r) is_honest =
      let (a, first, still, step) = step_moves i 0 h g c d ev s is_honest in
      let (b, second, run) = reach_moves i g h' d c' fs r still in (
        both a b,
        moves_on h g h' a b first second,
        λ others end.
            let before : Reach World world.Calls i (world_of h (before_moving a (beside_first b others))) c es (world_of h' (after_moving b (beside_second a others))) c' =
            goes ev fs (step (beside_first b others) (follows_first g h' b others second end)) (run (beside_second a others) end) in
            subst (λ (x : StreamBytes). Reach World world.Calls i (world_of h x) c es (world_of h' (after_moving (both a b) others)) c') (before_both a b others)
            (subst (λ (x : StreamBytes). Reach World world.Calls i (world_of h (before_moving a (beside_first b others))) c es (world_of h' x) c') (after_both a b others) before),
      )

-- ---- preopened directories

option_none : {X : Type 0} (x : X) → ◌≡◌ {A = Option X} None (Some x) → ⊥
option_none x h = cc

found_is : (T : Tree) (r : Result Reached TreeErrno) (serial : ℕ) → found_directory T r ≡ Some serial → IsDirectory T serial
found_is T (Ok (Found s)) serial is = by_kind (directory_at T s) refl is
  where
    by_kind : (b : Bool) → directory_at T s ≡ b → cond b (Some s) None ≡ Some serial → IsDirectory T serial
    by_kind true kind is = let same : s ≡ serial = cc in subst (λ (n : ℕ). IsDirectory T n) same (directory_is T s kind)
    by_kind false kind is = cc
found_is T (Ok (Missing parent name)) serial is = cc
found_is T (Err e) serial is = cc

from_root_is : (T : Tree) → IsTree T → (path : List ℕ) (serial : ℕ) → from_root T path ≡ Some serial → IsDirectory T serial
from_root_is T tree [] serial is = let same : 1 ≡ serial = cc in subst (λ (n : ℕ). IsDirectory T n) same (root, tree.top, refl)
from_root_is T tree (c ∷ rest) serial is = found_is T _ serial is

named_is : (T : Tree) → IsTree T → (path : List ℕ) (serial : ℕ) → directory_named T path ≡ Some serial → IsDirectory T serial
named_is T tree [] serial is = cc
named_is T tree (c ∷ rest) serial is = by_slash (c == slash) is
  where
    by_slash : (b : Bool) → cond b (from_root T rest) None ≡ Some serial → IsDirectory T serial
    by_slash true is = from_root_is T tree rest serial is
    by_slash false is = cc

-- each of the descriptors is one of a directory, and there are as many as settings
AreDirectories : Tree → List Preopen → List Descriptor → Type 0
AreDirectories T ps ds = (length ds ≡ length ps) × ((k : ℕ) (o : OpenedEntry) → slice_get ds k ≡ Some (Entry o) → IsDirectory T o.serial × (o.kind ≡ kinds.Directory))

at_place : (T : Tree) (p : Preopen) (serial : ℕ) (es : List Descriptor) → IsDirectory T serial
    → ((k : ℕ) (o : OpenedEntry) → slice_get es k ≡ Some (Entry o) → IsDirectory T o.serial × (o.kind ≡ kinds.Directory))
    → (k : ℕ) (o : OpenedEntry) → slice_get (preopened p serial ∷ es) k ≡ Some (Entry o) → IsDirectory T o.serial × (o.kind ≡ kinds.Directory)
at_place T p serial es there later zero o at =
    let same : serial ≡ o.serial = cc in
    (subst (λ (n : ℕ). IsDirectory T n) same there, cc)
at_place T p serial es there later (suc k) o at = later k o at

directories : (T : Tree) → IsTree T → (ps : List Preopen) (ds : List Descriptor) → preopens_of T ps ≡ Some ds → AreDirectories T ps ds
unfolding AreDirectories
directories T tree [] ds is = let none : ds ≡ [] = cc in subst (λ (ds : List Descriptor). AreDirectories T [] ds) (sym none) (refl, λ k o at. cc)
directories T tree (p ∷ ps) ds is = by_name (directories T tree ps) (directory_named T p.path.now) refl (preopens_of T ps) refl is
  where
    by_name : ((es : List Descriptor) → preopens_of T ps ≡ Some es → AreDirectories T ps es) → (found : Option ℕ) → directory_named T p.path.now ≡ found → (rest : Option (List Descriptor)) → preopens_of T ps ≡ rest
        → option_map_or (λ serial. option_map (λ (ds : List Descriptor). preopened p serial ∷ ds) rest) found None ≡ Some ds → AreDirectories T (p ∷ ps) ds
    by_name later None named rest more is = cc
    by_name later (Some serial) named None more is = cc
    by_name later (Some serial) named (Some es) more is =
        let same : preopened p serial ∷ es ≡ ds = cc in
        let rest = later es more in
        subst (λ (ds : List Descriptor). AreDirectories T (p ∷ ps) ds) same (ap suc rest.0, at_place T p serial es (named_is T tree p.path.now serial named) rest.1)

few_preopens : (s : Settings) → settings_fit s ≡ true → length s.preopens.now ≤ 64
few_preopens s is = leb-true (length s.preopens.now) 64 (and_parts _ _ (and_parts _ _ (and_parts _ _ is).0).1).0

-- what a table with preopened directories opens
opens : (ds : List Descriptor) (n : ℕ) (o : OpenedEntry) → table_with ds n ≡ Some (Entry o) → (k : ℕ) × (n ≡ 3 + k) × (slice_get ds k ≡ Some (Entry o))
opens ds n o is = by_number (nat_lt n 3) refl is
  where
    by_number : (b : Bool) → nat_lt n 3 ≡ b → cond b (streams n) (slice_get ds (n - 3)) ≡ Some (Entry o) → (k : ℕ) × (n ≡ 3 + k) × (slice_get ds k ≡ Some (Entry o))
    by_number true low is = absurd (no_entries streams (λ m. refl) n o is)
    by_number false high is = (n - 3, omega (arith, ltb-false n 3 high), is)

-- ---- any list of resumes

module _ {D R W1 W2 : Type 0} (on : Devices D R W1 W2) where
  abbrev S : Type 0
  S = SessionState D R W1 W2

  abbrev Host : Type 0
  Host = HostState D R W1 W2

  abbrev Calls : CallsOf Host
  Calls = CallsOn on

  abbrev disk_of : Host → Disk
  disk_of h = on.device.disk h.volume.device

  abbrev tree_of : Host → Tree
  tree_of h = h.volume.tree

  abbrev numbers_of : Host → Superblock
  numbers_of h = h.volume.numbers

  abbrev honest_of : Host → Type 0
  honest_of h = on.device.honest h.volume.device

  abbrev Follows : StandsFor → S → History S → S → Type 0
  Follows Stands s rs s' = FollowBy Stands on s rs s'

  follows : (Stands : StandsFor) (rs : History S) (s s' : S) → Follows Stands s rs s' → ResumesFollowBy Calls Stands (pauses_of rs) s.host s.machine s'.host s'.machine
  follows Stands [] s s' same = (ap (λ (s : S). s.host) same, ap (λ (s : S). s.machine) same)
  follows Stands (r ∷ rs) s s' ((units, resumes), rest) = (r.1.host, r.1.machine, units, resumes.run, follows Stands rs r.1 s' rest)

  pub synced_by : (p : Pause) (h : Host) → PauseSynced disk_of numbers_of tree_of honest_of p h → IsTrue (is_synced p) → (image : Image) → (disk_of h).may_leave image → StandsAs image (numbers_of h) (tree_of h)
  synced_by (Called c e) h told is image may =
      let both = and_parts (is_sync c) (e.0 == 0) is in told both.0 (eqb-true e.0 0 both.1) image may
  synced_by Spent h told is image may = cc
  synced_by (Ended o) h told is image may = cc

  sizes : (Stands : StandsFor) (rs : History S) (s s' : S) → Follows Stands s rs s' → on.device.size s'.host.volume.device ≡ on.device.size s.host.volume.device
  sizes Stands [] s s' same = ap (λ (s : S). on.device.size s.host.volume.device) same
  sizes Stands (r ∷ rs) s s' ((units, resumes), rest) = sizes Stands rs r.1 s' rest ∙ resumes.size

  goes_on : (Stands : StandsFor) (rs : History S) (s s' : S) → Follows Stands s rs s' → GoesOn on.device.goes_on s.host.volume s'.host.volume
  goes_on Stands [] s s' same = goes_same on.device.goes_on s.host.volume s'.host.volume (ap (λ (s : S). s.host.volume.device) same)
  goes_on Stands (r ∷ rs) s s' ((units, resumes), rest) =
      goes_then on.device.goes_on s.host.volume r.1.host.volume s'.host.volume resumes.numbers resumes.goes (goes_on Stands rs r.1 s' rest)

  module _ (now : (d : D) (t : ℕ) (image : Image) → on.device.honest d → t ≤ (on.device.disk d).operation_count → (on.device.disk d).may_leave image → (on.device.disk d).left_since t image)
      (only : (d : D) (image : Image) → on.device.honest d → (on.device.disk d).left_since (on.device.disk d).operation_count image → (on.device.disk d).may_leave image) where
    counts : (d : D) → on.device.honest d → CountsMoments (on.device.disk d)
    counts d is = record { counts_now = λ t image low may. now d t image is low may; only_now = λ image left. only d image is left }

    turns : (Stands : StandsFor) (rs : History S) (s s' : S) → Follows Stands s rs s' → honest_of s.host → Turns disk_of numbers_of tree_of s.host (turns_of s rs)
    turns Stands [] s s' same is = tt
    turns Stands (r ∷ rs) s s' ((units, resumes), rest) is = (refl, resumes.numbers, resumes.crash is, synced_by r.0 r.1.host (resumes.synced is), counts r.1.host.volume.device (resumes.honest_after is), turns Stands rs r.1 s' rest (resumes.honest_after is))

    module _ (parts : HostParts D R W1 W2) (s : S) (shares : Shares on.device parts s) (is : on.device.honest parts.volume.device) where
      pub still : honest_of s.host
      still = shares.reads.kept.honest.0 is

      same_tree : s.host.volume.tree ≡ parts.volume.tree
      same_tree = shares.reads.tree is

      pub safe : (trees : List Tree) (from : ℕ) → IsSafeVolume on.device parts.volume trees from → IsSafe disk_of numbers_of tree_of s.host trees from
      safe trees from before = record {
        some = before.some;
        now = before.now ∙ sym same_tree;
        counts = counts s.host.volume.device still;
        each = λ image may. elim ((shares.reads.crash is).now image may) [
          | inl could ↦ subst (λ (v : Superblock). Kept image v trees from (length trees - 1)) (sym shares.reads.kept.numbers) (before.each image could)
          | inr never ↦ absurd never
        ];
      }

      pub world_begins : (settings_fit parts.settings ≡ true) → (b : StreamBytes) → HasOnlyDirectoriesOpen (world_of s.host b)
      unfolding AreDirectories
      world_begins fits b =
          let there = shares.preopens is in
          let dirs = directories parts.volume.tree (shares.is_tree is) parts.settings.preopens.now there.directories there.named in
          let at = λ (fd : ℕ) (o : OpenedEntry) (open_at : table_of s.host.descriptors fd ≡ Some (Entry o)). opens there.directories fd o (sym (there.opened fd) ∙ open_at) in
          record {
            tree = subst IsTree (sym same_tree) (shares.is_tree is);
            directories = λ fd o open_at.
                let place = at fd o open_at in
                let d = dirs.1 place.0 o place.2 in
                (subst (λ (T : Tree). IsDirectory T o.serial) (sym same_tree) d.0, d.1);
            few = λ fd o open_at.
                let place = at fd o open_at in
                omega (arith, place.1, slice_get_within there.directories place.0 (Entry o) place.2, dirs.0, few_preopens parts.settings fits);
          }

      upholds : (Stands : StandsFor) (seed : Option ℕ) (terminals : Option Terminals) (m : Module) (trees : List Tree) (from : ℕ) (s' : S) (rs : History S) → OpensBy Stands seed terminals m parts s → IsSafeVolume on.device parts.volume trees from
          → Follows Stands s rs s' → Upholds Stands on m parts.settings.pages trees from s rs s'
      upholds Stands seed terminals m trees from s' rs opens before follow =
          let first = opens.starts in
          let run = resumes_compose Host Calls first.instance Stands (pauses_of rs) s.host s'.host s.machine s'.machine (first_configuration first.entered first.store) first.stands (follows Stands rs s s' follow)
          (first.instantiates.used ∙ sym first.used) in
          let over = reach_moves on first.instance s.host s'.host
          (first_configuration first.entered first.store) run.0 (answered (pauses_of rs)) run.2 still in
          record {
            instance = first.instance;
            store = first.store;
            entered = first.entered;
            instantiates = first.instantiates;
            last = run.0;
            stands = run.1;
            run = run.2;
            units = run.3;
            ends = run.4;
            moved = over.0;
            moves = over.1;
            over_paths = over.2;
            kept = keeps_all disk_of numbers_of tree_of (turns_of s rs) s.host trees from (safe trees from before) (turns Stands rs s s' follow still);
            size = sizes Stands rs s s' follow;
            goes = goes_on Stands rs s s' follow;
            heard = heard_follow on Stands rs s s' follow;
            confined = λ w w' shown shown_after. confines_host Calls Shows honest_of first.instance s.host s'.host w w' (first_configuration first.entered first.store) run.0 (answered (pauses_of rs))
                (are_rows on.device.honest on.device.disk on.device.size on.device.failures on.device.goes_on on.input.remaining on.out.contents on.err.contents on.ear) still shown
                (subst HasOnlyDirectoriesOpen (sym shown.1) (world_begins opens.fits shown.0)) run.2 shown_after;
          }

  pub headline : ((d : D) (t : ℕ) (image : Image) → on.device.honest d → t ≤ (on.device.disk d).operation_count → (on.device.disk d).may_leave image → (on.device.disk d).left_since t image)
      → ((d : D) (image : Image) → on.device.honest d → (on.device.disk d).left_since (on.device.disk d).operation_count image → (on.device.disk d).may_leave image)
      → (Stands : StandsFor) → Headline Stands on
  headline now only Stands m parts trees from s s' rs opens shares is before follow = upholds now only parts s shares is Stands None None m trees from s' rs opens before follow

  -- being seeded changes nothing that the headline asks of a session
  pub headline_seeded : ((d : D) (t : ℕ) (image : Image) → on.device.honest d → t ≤ (on.device.disk d).operation_count → (on.device.disk d).may_leave image → (on.device.disk d).left_since t image)
      → ((d : D) (image : Image) → on.device.honest d → (on.device.disk d).left_since (on.device.disk d).operation_count image → (on.device.disk d).may_leave image)
      → (Stands : StandsFor) → SeededHeadline Stands on
  headline_seeded now only Stands seed m parts trees from s s' rs opens shares is before follow =
      upholds now only parts (seeded_by seed s) (record { is_tree = shares.is_tree; reads = shares.reads; preopens = shares.preopens }) is Stands (Some seed) None m trees from s' rs
      (record { fits = opens.fits; starts = opens.starts; input = opens.input; out = opens.out; err = opens.err; settings = opens.settings; supply = refl; interactive = opens.interactive }) before follow

  -- nor does being interactive
  pub headline_opened : ((d : D) (t : ℕ) (image : Image) → on.device.honest d → t ≤ (on.device.disk d).operation_count → (on.device.disk d).may_leave image → (on.device.disk d).left_since t image)
      → ((d : D) (image : Image) → on.device.honest d → (on.device.disk d).left_since (on.device.disk d).operation_count image → (on.device.disk d).may_leave image)
      → (Stands : StandsFor) → OpenedHeadline Stands on
  headline_opened now only Stands seed terminals m parts trees from s s' rs opens shares is before follow =
      upholds now only parts s shares is Stands seed terminals m trees from s' rs opens before follow
