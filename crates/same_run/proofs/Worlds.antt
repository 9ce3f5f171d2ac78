-- A run over a host is one over worlds, which is refused memory only where the first is.
use Rattle.std.proofs.Common.{◌≡◌, ◌⊎◌, ℕ, suc, List, [], ◌∷◌, ◌++◌, append_assoc, append-nil, Option, Some, None, refl, sym, ◌∙◌, ap, subst, inl, inr}
use Rattle.std.specs.Io.KnownBytes.{Consumes}
use Rattle.std.proofs.KnownBytes.{Consumes-nil, Consumes-trans, Appends-nil, Appends-trans}
use Rattle.wasm_store.specs.declared.call.HostCall.{HostCall}
use Rattle.wasm_store.specs.declared.call.Errno.{Errno}
use Rattle.wasm_steps.specs.Configuration.{Instance, Configuration}
use Rattle.wasm_steps.specs.Steps.{Event, Step, plain_step, free_step, host_answers, host_exits, in_label, in_frame, Reach, stays, goes}
use Rattle.wasi_bodies.specs.World.{World}
use Rattle.wasi_bodies.specs.Calls as world
use Rattle.wasi_bodies.specs.host.Worlds.{HostState, StreamBytes, LeavesNone, StreamsMove, MayFollow, before_moving, after_moving, world_of}
use Rattle.sandbox_core.specs.Devices.{Devices, Calls}
use Rattle.same_run.specs.Growth.{RefusesMemory, WasRefusedMemory}

-- ---- bytes that move, one part after another

abbrev pub nothing : StreamBytes
nothing = record { input = []; pieces = []; output = []; errors = [] }

pub same_output : (others : StreamBytes) → after_moving nothing others ≡ others
same_output others = λ i. record { input = others.input; pieces = others.pieces; output = append-nil others.output i; errors = append-nil others.errors i }

abbrev pub both : StreamBytes → StreamBytes → StreamBytes
both a b = record { input = a.input ++ b.input; pieces = a.pieces ++ b.pieces; output = a.output ++ b.output; errors = a.errors ++ b.errors }

abbrev pub beside_second : StreamBytes → StreamBytes → StreamBytes
beside_second a others = record { input = others.input; pieces = others.pieces; output = others.output ++ a.output; errors = others.errors ++ a.errors }

pub before_both : (a b others : StreamBytes) → before_moving a (before_moving b others) ≡ before_moving (both a b) others
before_both a b others = λ i. record { input = sym (append_assoc a.input b.input others.input) i; pieces = sym (append_assoc a.pieces b.pieces others.pieces) i; output = others.output; errors = others.errors }

pub after_both : (a b others : StreamBytes) → after_moving b (beside_second a others) ≡ after_moving (both a b) others
after_both a b others = λ i. record { input = others.input; pieces = others.pieces; output = append_assoc others.output a.output b.output i; errors = append_assoc others.errors a.errors b.errors i }

-- a reader that gave all that it told has none later on
no_more : (xs ys : List ℕ) → [] ≡ xs ++ ys → ys ≡ []
no_more [] ys is = sym is
no_more (x ∷ xs) ys is = cc

none_later : (a b c : Option (List ℕ)) (bytes : List ℕ) → LeavesNone a b → Consumes b c bytes → LeavesNone a c
none_later None b c bytes none consumed = tt
none_later (Some xs) None c bytes none consumed = cc
none_later (Some xs) (Some ys) None bytes none consumed = absurd consumed
none_later (Some xs) (Some ys) (Some zs) bytes none consumed =
    let empty : ys ≡ [] = cc in
    ap Some (no_more bytes zs (sym empty ∙ consumed))

none_before : (a b c : Option (List ℕ)) (bytes : List ℕ) → Consumes a b bytes → LeavesNone b c → LeavesNone a c
none_before None b c bytes consumed none = tt
none_before (Some xs) None c bytes consumed none = absurd consumed
none_before (Some xs) (Some ys) c bytes consumed none = none

module _ {D R W1 W2 : Type 0} (on : Devices D R W1 W2) where
  abbrev pub H : Type 0
  H = HostState D R W1 W2

  abbrev pub Moves : H → H → StreamBytes → Type 0
  Moves = StreamsMove on.input.remaining on.out.contents on.err.contents

  pub rest : (h : H) → Moves h h nothing
  rest h = record { input = Consumes-nil (on.input.remaining h.input.reader); output = Appends-nil (on.out.contents h.out.writer); errors = Appends-nil (on.err.contents h.err.writer); ended = λ is. (refl, is); end = λ is. inl is; pieces = λ is. (refl, is) }

  pub moves_on : (h g h' : H) (a b : StreamBytes) → Moves h g a → Moves g h' b → Moves h h' (both a b)
  moves_on h g h' a b first second = record {
    input = Consumes-trans _ _ _ a.input b.input first.input second.input;
    output = Appends-trans _ _ _ a.output b.output first.output second.output;
    errors = Appends-trans _ _ _ a.errors b.errors first.errors second.errors;
    ended = λ is.
        let one = first.ended is in
        let two = second.ended one.1 in
        ((λ i. one.0 i ++ two.0 i), two.1);
    end = λ is. elim (second.end is) [
      | inl was ↦ elim (first.end was) [
        | inl before ↦ inl before
        | inr none ↦ inr (none_later _ _ _ b.input none second.input)
      ]
      | inr none ↦ inr (none_before _ _ _ a.input first.input none)
    ];
    pieces = λ is.
        let one = first.pieces is in
        let two = second.pieces one.1 in
        ((λ i. one.0 i ++ two.0 i), two.1);
  }

  -- what may follow the second is what may follow the first, with the bytes of the second
  pub follows_first : (g h' : H) (b others : StreamBytes) → Moves g h' b → MayFollow h' others → MayFollow g (before_moving b others)
  follows_first g h' b others second end is = let two = second.ended is in λ i. two.0 i ++ end two.1 i

  -- ---- a step

  abbrev pub OverWorlds : (i : Instance) (n : ℕ) (h : H) (c : Configuration) (ev : Event) (h' : H) (c' : Configuration) → Step H (Calls on) i n h c ev h' c' → StreamBytes → StreamBytes → Type 0
  OverWorlds i n h c ev h' c' step before after =
      (over : Step World world.Calls i n (world_of h before) c ev (world_of h' after) c') × (RefusesMemory over → RefusesMemory step)

  abbrev pub StepMoves : (i : Instance) (n : ℕ) (h : H) (c : Configuration) (ev : Event) (h' : H) (c' : Configuration) → Step H (Calls on) i n h c ev h' c' → Type 0
  StepMoves i n h c ev h' c' step = (moved : StreamBytes) × Moves h h' moved × on.device.honest h'.volume.device
      × ((others : StreamBytes) → MayFollow h' others → OverWorlds i n h c ev h' c' step (before_moving moved others) (after_moving moved others))

  pub step_moves : (i : Instance) (n : ℕ) (h h' : H) (c c' : Configuration) (ev : Event) (step : Step H (Calls on) i n h c ev h' c') → on.device.honest h.volume.device → StepMoves i n h c ev h' c' step
  step_moves i n h h' c c' ev (plain_step r) is_honest =
      (nothing, rest h, is_honest, λ others end. subst (λ (b : StreamBytes). OverWorlds i n h c ev h c' (plain_step r) others b) (sym (same_output others)) (plain_step r, λ refused. refused))
  step_moves i n h h' c c' ev (free_step r) is_honest =
      (nothing, rest h, is_honest, λ others end. subst (λ (b : StreamBytes). OverWorlds i n h c ev h c' (free_step r) others b) (sym (same_output others)) (free_step r, λ refused. refused))
  step_moves i n h h' c c' ev (host_answers args vs callee all count a) is_honest =
      let (moved, moves, meaning) = a.row (λ _. is_honest) in
      (moved, moves, a.volume.kept.honest.0 is_honest, λ others end. (host_answers args vs callee all count (meaning others end), λ refused. refused))
  step_moves i n h h' c c' ev (host_exits args vs callee all count a) is_honest =
      let (moved, moves, meaning) = a.row (λ _. is_honest) in
      (moved, moves, a.volume.kept.honest.0 is_honest, λ others end. (host_exits args vs callee all count (meaning others end), λ refused. refused))
  step_moves i n h h' c c' ev (in_label s) is_honest =
      let (moved, moves, still, step) = step_moves i n h h' _ _ ev s is_honest in
      (moved, moves, still, λ others end. let (over, same) = step others end in (in_label over, same))
  step_moves i n h h' c c' ev (in_frame s) is_honest =
      let (moved, moves, still, step) = step_moves i (suc n) h h' _ _ ev s is_honest in
      (moved, moves, still, λ others end. let (over, same) = step others end in (in_frame over, same))

  -- ---- a run

  abbrev pub RunsOver : (i : Instance) (h : H) (c : Configuration) (es : List (HostCall × Errno)) (h' : H) (c' : Configuration) → Reach H (Calls on) i h c es h' c' → StreamBytes → StreamBytes → Type 0
  RunsOver i h c es h' c' run before after =
      (over : Reach World world.Calls i (world_of h before) c es (world_of h' after) c') × (WasRefusedMemory over → WasRefusedMemory run)

  abbrev pub ReachMoves : (i : Instance) (h : H) (c : Configuration) (es : List (HostCall × Errno)) (h' : H) (c' : Configuration) → Reach H (Calls on) i h c es h' c' → Type 0
  ReachMoves i h c es h' c' run = (moved : StreamBytes) × Moves h h' moved
      × ((others : StreamBytes) → MayFollow h' others → RunsOver i h c es h' c' run (before_moving moved others) (after_moving moved others))

  pub either : {A B X Y : Type 0} → (A → X) → (B → Y) → A ⊎ B → X ⊎ Y
  either f g (inl a) = inl (f a)
  either f g (inr b) = inr (g b)

  pub reach_moves : (i : Instance) (h h' : H) (c c' : Configuration) (es : List (HostCall × Errno)) (run : Reach H (Calls on) i h c es h' c') → on.device.honest h.volume.device
      → ReachMoves i h c es h' c' run
  reach_moves i h h' c c' es stays is_honest =
      (nothing, rest h, λ others end. subst (λ (b : StreamBytes). RunsOver i h c [] h c stays others b) (sym (same_output others)) (stays, λ refused. refused))
  reach_moves i h h' c c' es (goes {h' = g} {c' = d} ev fs s r) is_honest =
      let (a, first, still, step) = step_moves i 0 h g c d ev s is_honest in
      let (b, second, run) = reach_moves i g h' d c' fs r still in (
        both a b,
        moves_on h g h' a b first second,
        λ others end.
            let (one, same) = step (before_moving b others) (follows_first g h' b others second end) in
            let (more, also) = run (beside_second a others) end in
            let before : RunsOver i h c es h' c' (goes ev fs s r) (before_moving a (before_moving b others)) (after_moving b (beside_second a others)) =
            (goes ev fs one more, λ refused. either same also refused) in
            subst (λ (x : StreamBytes). RunsOver i h c es h' c' (goes ev fs s r) x (after_moving (both a b) others)) (before_both a b others)
            (subst (λ (x : StreamBytes). RunsOver i h c es h' c' (goes ev fs s r) (before_moving a (before_moving b others)) x) (after_both a b others) before),
      )

  -- and its device keeps its model
  pub reach_honest : (i : Instance) (h h' : H) (c c' : Configuration) (es : List (HostCall × Errno)) → Reach H (Calls on) i h c es h' c' → on.device.honest h.volume.device → on.device.honest h'.volume.device
  reach_honest i h h' c c' es stays is_honest = is_honest
  reach_honest i h h' c c' es (goes {h' = g} {c' = d} ev fs s r) is_honest = reach_honest i g h' d c' fs r (step_moves i 0 h g c d ev s is_honest).2
