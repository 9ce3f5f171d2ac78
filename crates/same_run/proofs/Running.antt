-- Two runs from the same beginning.
use Rattle.std.proofs.Common.{◌≡◌, ◌≢◌, ◌⊎◌, ℕ, suc, ◌≤◌, Bool, false, List, [], ◌++◌, append-nil, refl, sym, ◌∙◌, ap, subst, inl, inr, arith}
use Rattle.wasm_syntax.specs.Nested.{done}
use Rattle.wasm_store.specs.declared.call.HostCall.{HostCall}
use Rattle.wasm_store.specs.declared.call.Errno.{Errno}
use Rattle.wasm_steps.specs.declared.pause.Outcome.{Outcome}
use Rattle.wasm_steps.specs.declared.pause.Outcome.TheVariants.{Exited, Trapped, OutOfFuel, OutOfMemory}
use Rattle.wasm_steps.specs.Configuration.{Val, Instance, Store, trapped, exited, Code, code, stopped, Configuration, at, code_of, used_by, NextIsPlain}
use Rattle.wasm_steps.specs.Steps.{Reduces, AdminStep, invokes, exhausted, leaves_label, leaves_frame, stops_label, stops_frame, CallsOf, Event, silent, answers, Step, plain_step, free_step, host_answers, host_exits, in_label, in_frame, seen, Reach, stays, goes}
use Rattle.wasm_steps.specs.Units.{TakesItsUnit}
use Rattle.wasm_steps.proofs.Units.{rewrites, is_free}
use Rattle.sandbox_core.specs.Runs.{StopsAs, RunsWithin}
use Rattle.same_run.specs.Growth.{WasRefusedMemory}
use Rattle.same_run.specs.NextStep.{AnswersOnce}
use Rattle.same_run.specs.Failures.{FailuresStay}
use Rattle.same_run.specs.Served.{IsServed}
use Rattle.same_run.specs.OneRun.{GoesOnFrom, EndAlike}
use Rattle.same_run.proofs.Moving.{AnswersAlike, next_alike, once_alike}

-- what is seen, before what was seen later
seen_append : (ev : Event) (es fs : List (HostCall × Errno)) → seen ev (es ++ fs) ≡ seen ev es ++ fs
seen_append silent es fs = refl
seen_append (answers call e) es fs = refl

-- no step is made from here
abbrev pub IsDone : Code → Type 0
IsDone (code vs done) = Unit {0}
IsDone (stopped w) = Unit {0}
IsDone other = ⊥

module _ (H : Type 0) (Calls : CallsOf H) (i : Instance) where
  abbrev Run : H → Configuration → List (HostCall × Errno) → H → Configuration → Type 0
  Run = Reach H Calls i

  abbrev GoesOn : H → Configuration → List (HostCall × Errno) → H → Configuration → List (HostCall × Errno) → Type 0
  GoesOn = GoesOnFrom H Calls i

  -- a failure that stays was none before
  module _ (failed : H → Bool) (stay : FailuresStay H Calls failed) where
    pub step_sound : {n : ℕ} {h h' : H} {c c' : Configuration} {ev : Event} → Step H Calls i n h c ev h' c' → failed h' ≡ false → failed h ≡ false
    step_sound (plain_step rule) sound = sound
    step_sound (free_step rule) sound = sound
    step_sound (host_answers args vs callee is count answered) sound = stay _ _ _ _ _ _ _ _ answered sound
    step_sound (host_exits args vs callee is count answered) sound = stay _ _ _ _ _ _ _ _ answered sound
    step_sound (in_label step) sound = step_sound step sound
    step_sound (in_frame step) sound = step_sound step sound

    pub reach_sound : {h h' : H} {c c' : Configuration} {es : List (HostCall × Errno)} → Run h c es h' c' → failed h' ≡ false → failed h ≡ false
    reach_sound stays sound = sound
    reach_sound (goes ev es step rest) sound = step_sound step (reach_sound rest sound)

  -- a run that was refused no memory
  abbrev pub Given : H → Configuration → List (HostCall × Errno) → H → Configuration → Type 0
  Given h c es h' c' = (run : Run h c es h' c') × (WasRefusedMemory run → ⊥)

  moved : (h : H) (c d : Configuration) → c ≡ d → (es : List (HostCall × Errno)) (h' : H) (c' : Configuration) → Given h d es h' c' → Given h c es h' c'
  moved h c d same es h' c' run = subst (λ (x : Configuration). Given h x es h' c') (sym same) run

  module _ (Same : H → H → Type 0) (failed : H → Bool) (alike : AnswersAlike H Calls i Same failed) (stay : FailuresStay H Calls failed) where
    -- From a host that is the same as that of the end of one the other goes on.
    abbrev pub GoesOnAs : H → Configuration → List (HostCall × Errno) → H → Configuration → List (HostCall × Errno) → Type 0
    GoesOnAs h1 c1 es1 h2 c2 es2 = (more : List (HostCall × Errno)) × (g : H) × Same h1 g × (es2 ≡ es1 ++ more) × Given g c1 more h2 c2

    abbrev pub GoneOnAs : H → Configuration → List (HostCall × Errno) → H → Configuration → List (HostCall × Errno) → Type 0
    GoneOnAs h1 c1 es1 h2 c2 es2 = (more : List (HostCall × Errno)) × (g : H) × Same g h2 × (es1 ≡ es2 ++ more) × Given g c2 more h1 c1

    one_more : (ev1 ev2 : Event) (es1 es2 more : List (HostCall × Errno)) → ev1 ≡ ev2 → es2 ≡ es1 ++ more → seen ev2 es2 ≡ seen ev1 es1 ++ more
    one_more ev1 ev2 es1 es2 more same is = ap (λ (ev : Event). seen ev es2) (sym same) ∙ (ap (seen ev1) is ∙ seen_append ev1 es1 more)

    pub runs_alike : (h g h1 h2 : H) (c d c1 c2 : Configuration) (es1 es2 : List (HostCall × Errno)) → Same h g → c ≡ d
        → (one : Run h c es1 h1 c1) → (other : Run g d es2 h2 c2) → (WasRefusedMemory one → ⊥) → (WasRefusedMemory other → ⊥)
        → failed h1 ≡ false → failed h2 ≡ false → GoesOnAs h1 c1 es1 h2 c2 es2 ⊎ GoneOnAs h1 c1 es1 h2 c2 es2
    runs_alike h g h1 h2 c d c1 c2 es1 es2 same_host same stays other given1 given2 sound1 sound2 =
        inl (es2, g, same_host, refl, moved g c d same es2 h2 c2 (other, given2))
    runs_alike h g h1 h2 c d c1 c2 es1 es2 same_host same (goes ev es step rest) stays given1 given2 sound1 sound2 =
        inr (es1, h, same_host, refl, moved h d c (sym same) es1 h1 c1 (goes ev es step rest, given1))
    runs_alike h g h1 h2 c d c1 c2 es1 es2 same_host same (goes {h' = x} {c' = y} ev es step rest) (goes {h' = x'} {c' = y'} ev' es' step' rest') given1 given2 sound1 sound2 =
        let first = next_alike H Calls i Same failed alike 0 h g x x' c d y y' ev ev' same_host same step step' (λ r. given1 (inl r)) (λ r. given2 (inl r))
        (reach_sound failed stay rest sound1) (reach_sound failed stay rest' sound2) in
        elim (runs_alike x x' h1 h2 y y' c1 c2 es es' first.1 first.2 rest rest' (λ r. given1 (inr r)) (λ r. given2 (inr r)) sound1 sound2) [
          | inl (more, k, there, is, run) ↦ inl (more, k, there, one_more ev ev' es es' more first.0 is, run)
          | inr (more, k, there, is, run) ↦ inr (more, k, there, one_more ev' ev es' es more (sym first.0) is, run)
        ]

  -- ---- units

  pub takes_its_unit : {n : ℕ} {h h' : H} {c d : Configuration} {ev : Event} → Step H Calls i n h c ev h' d → TakesItsUnit c d
  takes_its_unit (plain_step r) = let w = rewrites r in inl (w.0, ap suc w.1)
  takes_its_unit (free_step a) = inr (is_free a, refl)
  takes_its_unit (host_answers args vs callee is count call) = inr (λ p. p, refl)
  takes_its_unit (host_exits args vs callee is count call) = inr (λ p. p, refl)
  takes_its_unit (in_label inner) = takes_its_unit inner
  takes_its_unit (in_frame inner) = takes_its_unit inner

  rises : (c d : Configuration) → TakesItsUnit c d → used_by c ≤ used_by d
  rises c d (inl (p, is)) = omega (arith, is)
  rises c d (inr (p, is)) = omega (arith, is)

  pub rises_by_one : (c d : Configuration) → TakesItsUnit c d → NextIsPlain (code_of c) → used_by d ≡ suc (used_by c)
  rises_by_one c d (inl (p, is)) q = is
  rises_by_one c d (inr (p, is)) q = absurd (p q)

  pub run_rises : {h h' : H} {c c' : Configuration} {es : List (HostCall × Errno)} → Run h c es h' c' → used_by c ≤ used_by c'
  run_rises stays = omega arith
  run_rises (goes {c = c} {c' = d} {c'' = e} ev es step rest) =
      let first = rises c d (takes_its_unit step) in let later = run_rises rest in omega (arith, first, later)

  -- ---- ends

  reduces_not_done : {s s' : Store} {f f' : List Val} {c c' : Code} → Reduces i s f c s' f' c' → IsDone c → ⊥
  reduces_not_done rule e = plain_not_done _ (rewrites rule).0 e
    where
      plain_not_done : (c : Code) → NextIsPlain c → IsDone c → ⊥
      plain_not_done (code vs done) p e = p
      plain_not_done (stopped w) p e = p
      plain_not_done other p e = e

  free_not_done : {n : ℕ} {c c' : Code} → AdminStep i n c c' → IsDone c → ⊥
  free_not_done (invokes args callee few is count) e = e
  free_not_done (exhausted callee full) e = e
  free_not_done leaves_label e = e
  free_not_done leaves_frame e = e
  free_not_done stops_label e = e
  free_not_done stops_frame e = e

  pub step_not_done : {n : ℕ} {h h' : H} {c d : Configuration} {ev : Event} → Step H Calls i n h c ev h' d → IsDone (code_of c) → ⊥
  step_not_done (plain_step rule) e = reduces_not_done rule e
  step_not_done (free_step rule) e = free_not_done rule e
  step_not_done (host_answers args vs callee is count call) e = e
  step_not_done (host_exits args vs callee is count call) e = e
  step_not_done (in_label step) e = e
  step_not_done (in_frame step) e = e

  -- where a run stops: nothing more is to be done, or all fuel is used and the next step takes a unit
  abbrev IsLast : ℕ → Configuration → Type 0
  IsLast fuel c = IsDone (code_of c) ⊎ (NextIsPlain (code_of c) × (used_by c ≡ fuel))

  stops_last : (fuel used : ℕ) (h : H) (o : Outcome) (c : Configuration) → o ≢ OutOfMemory → used_by c ≡ used → StopsAs Calls i o fuel used h c → IsLast fuel c
  stops_last fuel used h (Exited n) (at s f c) not_memory units (inl is) = inl (subst IsDone (sym is) tt)
  stops_last fuel used h (Exited n) (at s f c) not_memory units (inr (zero, is)) = inl (subst IsDone (sym is) tt)
  stops_last fuel used h (Trapped t) (at s f c) not_memory units is = inl (subst IsDone (sym is) tt)
  stops_last fuel used h OutOfFuel c not_memory units (spent, next) = inr (next, units ∙ spent)
  stops_last fuel used h OutOfMemory c not_memory units stops = absurd (not_memory refl)

  -- how a run has ended that stopped here
  abbrev outcome_told : Code → Outcome
  outcome_told (stopped (exited n)) = Exited n
  outcome_told (stopped (trapped t)) = Trapped t
  outcome_told (code vs done) = Exited 0
  outcome_told other = OutOfFuel

  plain_told : (c : Code) → NextIsPlain c → outcome_told c ≡ OutOfFuel
  plain_told (stopped (exited n)) p = absurd p
  plain_told (stopped (trapped t)) p = absurd p
  plain_told (code vs done) p = absurd p
  plain_told other p = refl

  told : (fuel used : ℕ) (h : H) (o : Outcome) (c : Configuration) → o ≢ OutOfMemory → StopsAs Calls i o fuel used h c → outcome_told (code_of c) ≡ o
  told fuel used h (Exited n) (at s f c) not_memory (inl is) = ap outcome_told is
  told fuel used h (Exited n) (at s f c) not_memory (inr (none, is)) = ap outcome_told is ∙ ap Exited (sym none)
  told fuel used h (Trapped t) (at s f c) not_memory is = ap outcome_told is
  told fuel used h OutOfFuel c not_memory (spent, next) = plain_told (code_of c) next
  told fuel used h OutOfMemory c not_memory stops = absurd (not_memory refl)

  -- a run that begins where one stops has no step
  no_more : (fuel : ℕ) (h h' : H) (c c' : Configuration) (es : List (HostCall × Errno)) → IsLast fuel c → used_by c' ≤ fuel → Run h c es h' c'
      → (h ≡ h') × (c ≡ c') × (es ≡ [])
  no_more fuel h h' c c' es last within stays = (refl, refl, refl)
  no_more fuel h h' c c' es (inl over) within (goes ev fs step rest) = absurd (step_not_done step over)
  no_more fuel h h' c c' es (inr (next, spent)) within (goes {c' = d} ev fs step rest) =
      let more = rises_by_one c d (takes_its_unit step) next in let later = run_rises rest in absurd (omega (arith, within, more, later, spent))

  -- both end at the same
  pub record EndSame (Same : H → H → Type 0) (h1 h2 : H) (last1 last2 : Configuration) (answers1 answers2 : List (HostCall × Errno)) (outcome1 outcome2 : Outcome) (used1 used2 : ℕ) : Type 0 where
    pub hosts : Same h1 h2
    pub lasts : last1 ≡ last2
    pub told_same : answers1 ≡ answers2
    pub outcomes : outcome1 ≡ outcome2
    pub units : used1 ≡ used2

  pub ends_alike : (Same : H → H → Type 0) (failed : H → Bool) → AnswersAlike H Calls i Same failed → FailuresStay H Calls failed
      → (h g h1 h2 : H) (c : Configuration) (fuel fuel2 : ℕ) (o1 o2 : Outcome) (u1 u2 : ℕ) → Same h g → fuel ≡ fuel2
      → (one : RunsWithin Calls i h c fuel h1 o1 u1) → (other : RunsWithin Calls i g c fuel2 h2 o2 u2) → u1 ≤ fuel → u2 ≤ fuel2
      → IsServed Calls failed one → IsServed Calls failed other → EndSame Same h1 h2 one.last other.last one.answers other.answers o1 o2 u1 u2
  ends_alike Same failed alike stay h g h1 h2 c fuel fuel2 o1 o2 u1 u2 same same_fuel one other within1 within2 served1 served2 =
      elim (runs_alike Same failed alike stay h g h1 h2 c c one.last other.last one.answers other.answers same refl one.reach other.reach
      served1.growths served2.growths served1.nothing_failed served2.nothing_failed) [
        | inl (more, k, there, is, run) ↦
            let none = no_more fuel k h2 one.last other.last more (stops_last fuel u1 h1 o1 one.last served1.stacks one.units one.stops) (omega (arith, other.units, within2, same_fuel)) run.0 in
            end_same (subst (λ (x : H). Same h1 x) none.0 there) none.1
            (sym (append-nil one.answers) ∙ (ap (λ (es : List (HostCall × Errno)). one.answers ++ es) (sym none.2) ∙ sym is))
        | inr (more, k, there, is, run) ↦
            let none = no_more fuel2 k h1 other.last one.last more (stops_last fuel2 u2 h2 o2 other.last served2.stacks other.units other.stops) (omega (arith, one.units, within1, same_fuel)) run.0 in
            end_same (subst (λ (x : H). Same x h2) none.0 there) (sym none.1)
            (is ∙ (ap (λ (es : List (HostCall × Errno)). other.answers ++ es) none.2 ∙ append-nil other.answers))
      ]
    where
      end_same : Same h1 h2 → one.last ≡ other.last → one.answers ≡ other.answers → EndSame Same h1 h2 one.last other.last one.answers other.answers o1 o2 u1 u2
      end_same hosts lasts told_alike = record {
        hosts = hosts;
        lasts = lasts;
        told_same = told_alike;
        outcomes = sym (told fuel u1 h1 o1 one.last served1.stacks one.stops) ∙ (ap (λ (c : Configuration). outcome_told (code_of c)) lasts ∙ told fuel2 u2 h2 o2 other.last served2.stacks other.stops);
        units = sym one.units ∙ (ap used_by lasts ∙ other.units);
      }

  -- ---- where the hosts are equal

  pub one_run : (failed : H → Bool) → AnswersOnce H Calls failed → FailuresStay H Calls failed → (h h1 h2 : H) (c c1 c2 : Configuration) (es1 es2 : List (HostCall × Errno))
      → (one : Run h c es1 h1 c1) → (other : Run h c es2 h2 c2) → (WasRefusedMemory one → ⊥) → (WasRefusedMemory other → ⊥)
      → failed h1 ≡ false → failed h2 ≡ false → GoesOn h1 c1 es1 h2 c2 es2 ⊎ GoesOn h2 c2 es2 h1 c1 es1
  one_run failed once stay h h1 h2 c c1 c2 es1 es2 one other given1 given2 sound1 sound2 =
      elim (runs_alike (λ (a b : H). a ≡ b) failed (once_alike H Calls i failed once) stay h h h1 h2 c c c1 c2 es1 es2 refl refl one other given1 given2 sound1 sound2) [
        | inl (more, k, there, is, run) ↦ inl (more, is, subst (λ (x : H). Run x c1 more h2 c2) (sym there) run.0)
        | inr (more, k, there, is, run) ↦ inr (more, is, subst (λ (x : H). Run x c2 more h1 c1) there run.0)
      ]

  pub one_end : (failed : H → Bool) (h h1 h2 : H) (c : Configuration) (fuel : ℕ) (o1 o2 : Outcome) (u1 u2 : ℕ) → AnswersOnce H Calls failed → FailuresStay H Calls failed
      → (one : RunsWithin Calls i h c fuel h1 o1 u1) → (other : RunsWithin Calls i h c fuel h2 o2 u2) → u1 ≤ fuel → u2 ≤ fuel
      → IsServed Calls failed one → IsServed Calls failed other → EndAlike Calls failed one other
  one_end failed h h1 h2 c fuel o1 o2 u1 u2 once stay one other within1 within2 served1 served2 =
      let same = ends_alike (λ (a b : H). a ≡ b) failed (once_alike H Calls i failed once) stay h h h1 h2 c fuel fuel o1 o2 u1 u2 refl refl one other within1 within2 served1 served2 in
      record { host = same.hosts; last = same.lasts; answers = same.told_same; outcome = same.outcomes; used = same.units }
