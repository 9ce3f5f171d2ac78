-- Runs that begin where others ended.
use Rattle.std.proofs.Common.{◌≡◌, ◌⊎◌, ℕ, List, [], ◌∷◌, ◌++◌, refl, sym, ap, ◌∙◌, subst, inl, inr, arith, append_assoc, append-nil, ◌+◌, None}
use Rattle.vol_sector.specs.Disk.{Image, Disk, Leaves}
use Rattle.vol_tree.specs.Tree.{Tree}
use Rattle.vol_tree.specs.Opened.{Reflects, ReflectsOr}
use Rattle.vol_tree.specs.Stands.{StandsAs}
use Rattle.vol_tree.specs.declared.superblock.Superblock.{Superblock}
use Rattle.vol_tree.proofs.OneTree.{one_tree}
use Rattle.wasm_store.specs.declared.call.HostCall.{HostCall}
use Rattle.wasm_store.specs.declared.call.Errno.{Errno}
use Rattle.wasm_steps.specs.declared.pause.Pause.{Pause}
use Rattle.wasm_steps.specs.declared.pause.Pause.TheVariants.{Called, Spent, Ended}
use Rattle.wasm_steps.specs.Configuration.{Instance, Configuration, at, used_by}
use Rattle.wasm_steps.specs.Steps.{CallsOf, silent, answers, Reach, stays, goes}
use Rattle.wasm_interp.specs.Machine.{Snapshot, Represents, StandsFor, outcome_of}
use Rattle.wasm_steps.specs.declared.pause.Outcome.{Outcome}
use Rattle.wasm_steps.specs.declared.pause.Outcome.TheVariants.{Exited, Trapped, OutOfFuel, OutOfMemory}
use Rattle.wasm_interp.specs.Promise.{EndsAs, Paused, Resumed, HasItsUnit}
use Rattle.wasi_bodies.specs.laws.Moments.{IsTurn}
use Rattle.sandbox_core.specs.Runs.{answered, PausesFollow, ResumesFollowBy, StopsAt, LastStopsAt, StopsAs, RunsWithin, ComesBy, LeftInRun}

module _ (H : Type 0) (Calls : CallsOf H) (i : Instance) where
  -- two runs of which one begins where the other ended are one run
  pub reach_on : (es fs : List (HostCall × Errno)) (h h' h'' : H) (c c' c'' : Configuration)
      → Reach H Calls i h c es h' c' → Reach H Calls i h' c' fs h'' c'' → Reach H Calls i h c (es ++ fs) h'' c''
  reach_on es fs h h' h'' c c' c'' stays r = r
  reach_on es fs h h' h'' c c' c'' (goes {h' = g} {c' = d} silent gs s t) r =
      goes silent (gs ++ fs) s (reach_on gs fs g h' h'' d c' c'' t r)
  reach_on es fs h h' h'' c c' c'' (goes {h' = g} {c' = d} (answers x e) gs s t) r =
      goes (answers x e) (gs ++ fs) s (reach_on gs fs g h' h'' d c' c'' t r)

  -- what a pause says is a run with the calls that it tells of
  pub paused_reach : (p : Pause) (h h' : H) (c c' : Configuration) → Paused H Calls i p h c h' c' → Reach H Calls i h c (answered (p ∷ [])) h' c'
  paused_reach (Called call e) h h' c c' (d, run, step) =
      reach_on [] ((call, e) ∷ []) h h h' c d c' run (goes (answers call e) [] step stays)
  paused_reach Spent h h' c c' p = p.0
  paused_reach (Ended o) h h' c c' p = p.0

  answered-first : (p : Pause) (ps : List Pause) → answered (p ∷ ps) ≡ answered (p ∷ []) ++ answered ps
  answered-first (Called call e) ps = refl
  answered-first Spent ps = refl
  answered-first (Ended o) ps = refl

  pub pauses_compose : (ps : List Pause) (h h' : H) (c c' : Configuration) → PausesFollow Calls i ps h c h' c' → Reach H Calls i h c (answered ps) h' c'
  pauses_compose [] h h' c c' (same_host, same) =
      subst (λ (g : H). Reach H Calls i h c [] g c') (sym same_host) (subst (λ (d : Configuration). Reach H Calls i h c [] h d) (sym same) stays)
  pauses_compose (p ∷ ps) h h' c c' (g, d, first, rest) =
      subst (λ (es : List (HostCall × Errno)). Reach H Calls i h c es h' c') (sym (answered-first p ps))
      (reach_on (answered (p ∷ [])) (answered ps) h g h' c d c' (paused_reach p h g c d first) (pauses_compose ps g h' d c' rest))

  -- what a pause says of where it stops
  paused_stops : (p : Pause) (h h' : H) (c c' : Configuration) → Paused H Calls i p h c h' c' → StopsAt Calls i p h' c'
  paused_stops (Called call e) h h' c c' p = tt
  paused_stops Spent h h' c c' p = p.2
  paused_stops (Ended o) h h' c c' p = p.1

  pub resumes_compose : (Stands : StandsFor) (ps : List Pause) (h h' : H) (s s' : Snapshot) (c : Configuration) → Stands s i c → ResumesFollowBy Calls Stands ps h s h' s'
      → used_by c ≡ s.used → (c' : Configuration) × Stands s' i c' × Reach H Calls i h c (answered ps) h' c' × (used_by c' ≡ s'.used) × LastStopsAt Calls i ps h' c'
  resumes_compose Stands [] h h' s s' c stands (same_host, same) used =
      (c, subst (λ (t : Snapshot). Stands t i c) (sym same) stands, subst (λ (g : H). Reach H Calls i h c [] g c) (sym same_host) stays, used ∙ ap (λ (t : Snapshot). t.used) (sym same), tt)
  resumes_compose Stands (p ∷ []) h h' s s' c stands (g, t, units, first, (same_host, same)) used =
      let next = first.run i c stands in (
        next.0,
        subst (λ (t : Snapshot). Stands t i next.0) (sym same) next.1,
        subst (λ (g : H). Reach H Calls i h c (answered (p ∷ [])) g next.0) (sym same_host) (paused_reach p h g c next.0 next.2),
        next.4 ∙ ap (λ (t : Snapshot). t.used) (sym same),
        subst (λ (g : H). StopsAt Calls i p g next.0) (sym same_host) (paused_stops p h g c next.0 next.2),
      )
  resumes_compose Stands (p ∷ (q ∷ ps)) h h' s s' c stands (g, t, units, first, rest) used =
      let next = first.run i c stands in
      let later = resumes_compose Stands (q ∷ ps) g h' t s' next.0 next.1 rest next.4 in (
        later.0,
        later.1,
        subst (λ (es : List (HostCall × Errno)). Reach H Calls i h c es h' later.0) (sym (answered-first p (q ∷ ps)))
            (reach_on (answered (p ∷ [])) (answered (q ∷ ps)) h g h' c next.0 later.0 (paused_reach p h g c next.0 next.2) later.2),
        later.3,
        later.4,
      )

-- a run so far, from whatever configuration the machine stood for at first
pub record SoFar (H : Type 0) (Calls : CallsOf H) (h : H) (s : Snapshot) (h' : H) (s' : Snapshot) : Type 0 where
  pub last : (i : Instance) (c : Configuration) → Represents s i c → Configuration
  pub answers : (i : Instance) (c : Configuration) → Represents s i c → List (HostCall × Errno)
  pub stands : (i : Instance) (c : Configuration) (at_first : Represents s i c) → Represents s' i (last i c at_first)
  pub reach : (i : Instance) (c : Configuration) (at_first : Represents s i c) → Reach H Calls i h c (answers i c at_first) h' (last i c at_first)

module _ (H : Type 0) (Calls : CallsOf H) where
  -- nothing has run
  pub so_far : (h : H) (s : Snapshot) → SoFar H Calls h s h s
  so_far h s = record { last = λ i c a. c; answers = λ i c a. []; stands = λ i c a. a; reach = λ i c a. stays }

  -- one resume more
  pub so_far_on : (h g h' : H) (s t s' : Snapshot) (units : ℕ) (p : Pause) → SoFar H Calls h s g t → Resumed H Calls g h' t s' units p → SoFar H Calls h s h' s'
  so_far_on h g h' s t s' units p run more = record {
    last = λ i c a. (more.run i (run.last i c a) (run.stands i c a)).0;
    answers = λ i c a. run.answers i c a ++ answered (p ∷ []);
    stands = λ i c a. (more.run i (run.last i c a) (run.stands i c a)).1;
    reach = λ i c a. let next = more.run i (run.last i c a) (run.stands i c a) in
        reach_on H Calls i (run.answers i c a) (answered (p ∷ [])) h g h' c (run.last i c a) next.0 (run.reach i c a)
        (paused_reach H Calls i p g h' (run.last i c a) next.0 next.2);
  }

  -- the last resume found the fuel used
  pub runs_out : (h g h' : H) (s t s' : Snapshot) (units fuel : ℕ) → SoFar H Calls h s g t → Resumed H Calls g h' t s' units Spent → s'.used ≡ fuel
      → (i : Instance) (c : Configuration) → Represents s i c → RunsWithin Calls i h c fuel h' OutOfFuel s'.used
  unfolding so_far_on
  runs_out h g h' s t s' units fuel run more used i c a =
      let all = so_far_on h g h' s t s' units Spent run more in
      let next = more.run i (run.last i c a) (run.stands i c a) in
      record {
        last = next.0;
        answers = all.answers i c a;
        reach = all.reach i c a;
        units = next.4;
        stops = (used, next.2.2);
      }

  ends_stops : (i : Instance) (o : Outcome) (fuel used : ℕ) (h : H) (c : Configuration) → EndsAs H Calls i o h c → StopsAs Calls i o fuel used h c
  ends_stops i (Exited n) fuel used h c e = e
  ends_stops i (Trapped t) fuel used h c e = e
  ends_stops i OutOfFuel fuel used h (at store f c) e = absurd e
  ends_stops i OutOfMemory fuel used h c e = e

  -- the last resume found the end
  pub runs_to_end : (h g h' : H) (s t s' : Snapshot) (units fuel : ℕ) (o : Outcome) → SoFar H Calls h s g t → Resumed H Calls g h' t s' units (Ended o)
      → (i : Instance) (c : Configuration) → Represents s i c → RunsWithin Calls i h c fuel h' o s'.used
  unfolding so_far_on
  runs_to_end h g h' s t s' units fuel o run more i c a =
      let all = so_far_on h g h' s t s' units (Ended o) run more in
      let next = more.run i (run.last i c a) (run.stands i c a) in
      record {
        last = next.0;
        answers = all.answers i c a;
        reach = all.reach i c a;
        units = next.4;
        stops = ends_stops i o fuel s'.used h' next.0 next.2.1;
      }

-- ---- what a crash may leave

module _ (H : Type 0) (Calls : CallsOf H) (disk : H → Disk) (numbers : H → Superblock) (tree : H → Tree) where
  -- the image stands for a tree that a crash could leave at the beginning, or for that of a host that the run comes by
  abbrev pub Left : Instance → H → Configuration → List (HostCall × Errno) → H → Configuration → Image → Type 0
  Left i h c es h' c' image =
      Reflects (disk h) (numbers h) image
      ⊎ ((host : H) × ComesBy Calls i h c es h' c' host × StandsAs image (numbers h) (tree host))

module _ (H : Type 0) (Calls : CallsOf H) (disk : H → Disk) (numbers : H → Superblock) (tree : H → Tree) (honest : H → Type 0) where
  abbrev LeftBy : Instance → H → Configuration → List (HostCall × Errno) → H → Configuration → Image → Type 0
  LeftBy = Left H Calls disk numbers tree

  -- an image that stands for the tree of another is left like that one
  pub like : (i : Instance) (h h' : H) (c c' : Configuration) (es : List (HostCall × Errno)) (earlier image : Image) (T : Tree)
      → LeftBy i h c es h' c' earlier → StandsAs earlier (numbers h) T → StandsAs image (numbers h) T → LeftBy i h c es h' c' image
  like i h h' c c' es earlier image T (inl r) stood stands =
      let same : T ≡ r.tree = one_tree earlier (numbers h) T r.tree stood r.stands in
      inl (record { earlier = r.earlier; could = r.could; tree = r.tree; stood = r.stood; stands = subst (λ (U : Tree). StandsAs image (numbers h) U) same stands })
  like i h h' c c' es earlier image T (inr (host, comes, there)) stood stands =
      let same : T ≡ tree host = one_tree earlier (numbers h) T (tree host) stood there in
      inr (host, comes, subst (λ (U : Tree). StandsAs image (numbers h) U) same stands)

  -- what a run leaves is left by a longer one
  longer : (i : Instance) (h g h' : H) (c d c' : Configuration) (es fs : List (HostCall × Errno)) (image : Image)
      → Reach H Calls i g d fs h' c' → LeftBy i h c es g d image → LeftBy i h c (es ++ fs) h' c' image
  longer i h g h' c d c' es fs image rest (inl r) = inl r
  longer i h g h' c d c' es fs image rest (inr (host, comes, there)) = inr (
    host,
    record {
      at = comes.at;
      before = comes.before;
      after = comes.after ++ fs;
      parts = ap (λ (xs : List (HostCall × Errno)). xs ++ fs) comes.parts ∙ append_assoc comes.before comes.after fs;
      comes = comes.comes;
      goes_on = reach_on H Calls i comes.after fs host g h' comes.at d c' comes.goes_on rest;
    },
    there,
  )

  -- what a turn after a run may leave, or what is left then
  module _ (i : Instance) (h g h' : H) (c d c' : Configuration) (es fs : List (HostCall × Errno)) (new : Disk)
      (first : Reach H Calls i h c es g d) (rest : Reach H Calls i g d fs h' c') (crash : Leaves (disk h) (disk g) (LeftBy i h c es g d)) (numbered : numbers g ≡ numbers h) where
    at_end : (image : Image) → StandsAs image (numbers h) (tree g) → LeftBy i h c (es ++ fs) h' c' image
    at_end image stands = inr (g, record { at = d; before = es; after = fs; parts = refl; comes = first; goes_on = rest }, stands)

    reflected : (image : Image) → Reflects (disk g) (numbers h) image → LeftBy i h c (es ++ fs) h' c' image
    reflected image r = elim (crash.now r.earlier r.could) [
      | inl may ↦ inl (record { earlier = r.earlier; could = may; tree = r.tree; stood = r.stood; stands = r.stands })
      | inr left ↦ like i h h' c c' (es ++ fs) r.earlier image r.tree (longer i h g h' c d c' es fs r.earlier rest left) r.stood r.stands
    ]

    pub leaves_on : (P : Image → Type 0) → ((image : Image) → P image → LeftBy i h c (es ++ fs) h' c' image)
        → Leaves (disk g) new (λ image. Reflects (disk g) (numbers h) image ⊎ P image) → Leaves (disk h) new (LeftBy i h c (es ++ fs) h' c')
    leaves_on P given turn = record {
      later = omega (arith, crash.later, turn.later);
      since = λ t image before left. elim (turn.since t image (omega (arith, crash.later, before)) left) [
        | inl earlier ↦ elim (crash.since t image before earlier) [
          | inl could ↦ inl could
          | inr passed ↦ inr (longer i h g h' c d c' es fs image rest passed)
        ]
        | inr (inl r) ↦ inr (reflected image r)
        | inr (inr p) ↦ inr (given image p)
      ];
      now = λ image may. elim (turn.now image may) [
        | inl earlier ↦ elim (crash.now image earlier) [
          | inl could ↦ inl could
          | inr passed ↦ inr (longer i h g h' c d c' es fs image rest passed)
        ]
        | inr (inl r) ↦ inr (reflected image r)
        | inr (inr p) ↦ inr (given image p)
      ];
    }

    pub whole : (image : Image) → StandsAs image (numbers h) (tree h') → LeftBy i h c (es ++ fs) h' c' image
    whole image stands = inr (h', record { at = c'; before = es ++ fs; after = []; parts = sym (append-nil (es ++ fs)); comes = reach_on H Calls i es fs h g h' c d c' first rest; goes_on = stays }, stands)

    pub turn_on : IsTurn (disk g) new (numbers g) (tree g) (tree h') → Leaves (disk h) new (LeftBy i h c (es ++ fs) h' c')
    turn_on turn =
        leaves_on (λ image. StandsAs image (numbers h) (tree g) ⊎ StandsAs image (numbers h) (tree h')) (λ image p. elim p [ inl before ↦ at_end image before | inr after ↦ whole image after ])
        (subst (λ (v : Superblock). IsTurn (disk g) new v (tree g) (tree h')) numbered turn)

  -- a run so far with what a crash may leave
  pub record SafeSoFar (h : H) (s : Snapshot) (h' : H) (s' : Snapshot) : Type 0 where
    pub run : SoFar H Calls h s h' s'
    pub numbered : numbers h' ≡ numbers h
    pub honest_after : honest h → honest h'
    pub crash : honest h → (i : Instance) (c : Configuration) (a : Represents s i c) → Leaves (disk h) (disk h') (LeftBy i h c (run.answers i c a) h' (run.last i c a))

  pub safe_so_far : (h : H) (s : Snapshot) → SafeSoFar h s h s
  safe_so_far h s = record {
    run = so_far H Calls h s;
    numbered = refl;
    honest_after = λ is. is;
    crash = λ is i c a. record { later = omega arith; since = λ t image before left. inl left; now = λ image may. inl may };
  }

  pub safe_on : (h g h' : H) (s t s' : Snapshot) (units : ℕ) (p : Pause) → SafeSoFar h s g t → Resumed H Calls g h' t s' units p
      → numbers h' ≡ numbers g → (honest g → honest h') → (honest g → IsTurn (disk g) (disk h') (numbers g) (tree g) (tree h')) → SafeSoFar h s h' s'
  unfolding so_far_on
  safe_on h g h' s t s' units p safe more numbered stays_honest turn = record {
    run = so_far_on H Calls h g h' s t s' units p safe.run more;
    numbered = numbered ∙ safe.numbered;
    honest_after = λ is. stays_honest (safe.honest_after is);
    crash = λ is i c a.
        let next = more.run i (safe.run.last i c a) (safe.run.stands i c a) in
        turn_on i h g h' c (safe.run.last i c a) next.0 (safe.run.answers i c a) (answered (p ∷ [])) (disk h')
        (safe.run.reach i c a) (paused_reach H Calls i p g h' (safe.run.last i c a) next.0 next.2) (safe.crash is i c a) safe.numbered (turn (safe.honest_after is));
  }

  abbrev Ran : H → Snapshot → Snapshot → ℕ → H → Snapshot → Outcome → Type 0
  Ran h s t fuel h' s' o = (honest h → honest h') × ((run : (i : Instance) (c : Configuration) → Represents s i c → RunsWithin Calls i h c fuel h' o s'.used)
      × (honest h → (i : Instance) (c : Configuration) (a : Represents s i c) → Leaves (disk h) (disk h') (LeftInRun Calls disk numbers tree (run i c a)))
      × (outcome_of t ≡ None → (i : Instance) (c : Configuration) (a : Represents s i c) → HasItsUnit (Ended o) fuel (run i c a).last))

  -- the last resume found the fuel used
  pub ran_out : (h g h' : H) (s t s' : Snapshot) (units fuel : ℕ) → SafeSoFar h s g t → Resumed H Calls g h' t s' units Spent → s'.used ≡ fuel
      → numbers h' ≡ numbers g → (honest g → honest h') → (honest g → IsTurn (disk g) (disk h') (numbers g) (tree g) (tree h')) → Ran h s t fuel h' s' OutOfFuel
  unfolding so_far_on runs_out safe_on
  ran_out h g h' s t s' units fuel safe more used numbered stays_honest turn =
      let all = safe_on h g h' s t s' units Spent safe more numbered stays_honest turn in
      (all.honest_after, (runs_out H Calls h g h' s t s' units fuel safe.run more used, all.crash, λ running i c a. tt))

  -- the last resume found the end
  pub ran_to_end : (h g h' : H) (s t s' : Snapshot) (units fuel : ℕ) (o : Outcome) → SafeSoFar h s g t → Resumed H Calls g h' t s' units (Ended o) → t.used + units ≡ fuel
      → numbers h' ≡ numbers g → (honest g → honest h') → (honest g → IsTurn (disk g) (disk h') (numbers g) (tree g) (tree h')) → Ran h s t fuel h' s' o
  unfolding so_far_on runs_to_end safe_on
  ran_to_end h g h' s t s' units fuel o safe more all_units numbered stays_honest turn =
      let all = safe_on h g h' s t s' units (Ended o) safe more numbered stays_honest turn in
      let unit : (outcome_of t ≡ None → (i : Instance) (c : Configuration) (a : Represents s i c) → HasItsUnit (Ended o) fuel (runs_to_end H Calls h g h' s t s' units fuel o safe.run more i c a).last) = λ running i c a.
      let next = more.run i (safe.run.last i c a) (safe.run.stands i c a) in
      subst (λ (n : ℕ). HasItsUnit (Ended o) n next.0) all_units (next.5 running) in
      (all.honest_after, (runs_to_end H Calls h g h' s t s' units fuel o safe.run more, all.crash, unit))

  -- a commit after a run leaves no other tree
  pub commit_after : (i : Instance) (h h' : H) (c c' : Configuration) (es : List (HostCall × Errno)) (new : Disk) → Reach H Calls i h c es h' c' → numbers h' ≡ numbers h
      → Leaves (disk h) (disk h') (LeftBy i h c es h' c') → Leaves (disk h') new (ReflectsOr (disk h') (numbers h') (tree h')) → Leaves (disk h) new (LeftBy i h c es h' c')
  commit_after i h h' c c' es new run numbered crash commit =
      subst (λ (fs : List (HostCall × Errno)). Leaves (disk h) new (LeftBy i h c fs h' c')) (append-nil es)
      (leaves_on i h h' h' c c' c' es [] new run stays crash numbered (λ image. StandsAs image (numbers h) (tree h')) (λ image stands. at_end i h h' h' c c' c' es [] new run stays crash numbered image stands)
      (subst (λ (v : Superblock). Leaves (disk h') new (ReflectsOr (disk h') v (tree h'))) numbered commit))
