-- Runs by their resumes alone: slices one after another, and the report at the end.
use Rattle.std.proofs.Common.{◌≡◌, ◌≤◌, ◌+◌, ◌-◌, ◌/◌, ℕ, List, [], ◌∷◌, ◌++◌, Bool, Option, Some, None, length, append_assoc, refl, sym, ◌∙◌, subst, true≢false, arith}
use Rattle.vol_sector.specs.Disk.{Leaves}
use Rattle.wasm_steps.specs.declared.pause.Pause.{Pause}
use Rattle.wasm_steps.specs.declared.pause.Pause.TheVariants.{Called, Spent, Ended}
use Rattle.wasm_steps.specs.declared.pause.Outcome.{Outcome}
use Rattle.wasm_steps.specs.declared.pause.Outcome.TheVariants.{Exited, Trapped, OutOfFuel, OutOfMemory}
use Rattle.wasm_steps.specs.Configuration.{Instance, Configuration, at}
use Rattle.vol_tree.specs.Opened.{GoesOn}
use Rattle.vol_tree.proofs.GoingOn.{goes_same, goes_then}
use Rattle.wasm_interp.specs.Machine.{Represents, outcome_of}
use Rattle.wasm_interp.specs.Promise.{EndsAs, HasItsUnit, UnitsRise}
use Rattle.wasi_bodies.specs.host.Worlds.{HostState, stream_failed}
use Rattle.sandbox_core.specs.declared.session.Finished.{Finished}
use Rattle.sandbox_core.specs.declared.tally.Tally.{Tally}
use Rattle.sandbox_core.specs.Devices.{Devices, Calls, IsHonest, disk_of, numbers_of, tree_of}
use Rattle.sandbox_core.specs.Session.{SessionState, Resumes, Finishes, History, Follow, used_by}
use Rattle.sandbox_core.specs.Runs.{StopsAs, RunsWithin, LeftInRun}
use Rattle.sandbox_core.specs.Report.{Reports}
use Rattle.sandbox_core.specs.Slices.{AreCalls, stop_of, outcome_after, Stops, RunsSlice, StopsAfter, ReportsStop}
use Rattle.sandbox_core.proofs.Following.{follow_on, heard_follow}
use Rattle.sandbox_core.proofs.Reaching.{SafeSoFar, safe_so_far, safe_on, ran_out, ran_to_end, commit_after}

-- a refused step that has its unit has it with more fuel, too
has_its_unit : (o : Outcome) (fewer fuel : ℕ) (c : Configuration) → fewer ≤ fuel → HasItsUnit (Ended o) fewer c → HasItsUnit (Ended o) fuel c
has_its_unit (Exited n) fewer fuel c within has = tt
has_its_unit (Trapped t) fewer fuel c within has = tt
has_its_unit OutOfFuel fewer fuel c within has = tt
has_its_unit OutOfMemory fewer fuel c within has = λ plain. omega (arith, has plain, within)

-- no unit is taken back, and no more are used than were given
rises : (p : Pause) (units old new : ℕ) → UnitsRise p units old new → old ≤ new
rises (Called call e) units old new (low, high) = low
rises Spent units old new is = omega (arith, is)
rises (Ended o) units old new (low, high) = low

rises_within : (p : Pause) (units old new : ℕ) → UnitsRise p units old new → new ≤ old + units
rises_within (Called call e) units old new (low, high) = high
rises_within Spent units old new is = omega (arith, is)
rises_within (Ended o) units old new (low, high) = high

module _ {D R W1 W2 : Type 0} (on : Devices D R W1 W2) where
  abbrev S : Type 0
  S = SessionState D R W1 W2

  abbrev Safe : S → S → Type 0
  Safe s t = SafeSoFar (HostState D R W1 W2) (Calls on) (disk_of on) numbers_of tree_of (IsHonest on) s.host s.machine t.host t.machine

  -- one resume more
  safe_resume : (s t u : S) (units : ℕ) (p : Pause) → Safe s t → Resumes on t u units p → Safe s u
  safe_resume s t u units p safe more =
      safe_on (HostState D R W1 W2) (Calls on) (disk_of on) numbers_of tree_of (IsHonest on) s.host t.host u.host s.machine t.machine u.machine units p
      safe more.run more.numbers more.honest_after more.crash

  -- and all of them
  safe_follow : (rs : History S) (s t u : S) → Safe s t → Follow on t rs u → Safe s u
  safe_follow [] s t u safe same = subst (λ (x : S). Safe s x) (sym same) safe
  safe_follow (r ∷ rs) s t u safe ((units, more), rest) = safe_follow rs s r.1 u (safe_resume s t r.1 units r.0 safe more) rest

  -- the device's size and the module stay
  size_follow : (rs : History S) (s t : S) → Follow on s rs t → on.device.size t.host.volume.device ≡ on.device.size s.host.volume.device
  size_follow [] s t same = subst (λ (x : S). on.device.size x.host.volume.device ≡ on.device.size s.host.volume.device) (sym same) refl
  size_follow (r ∷ rs) s t ((units, more), rest) = size_follow rs r.1 t rest ∙ more.size

  -- the device goes on
  goes_follow : (rs : History S) (s t : S) → Follow on s rs t → GoesOn on.device.goes_on s.host.volume t.host.volume
  goes_follow [] s t same = subst (λ (x : S). GoesOn on.device.goes_on s.host.volume x.host.volume) (sym same) (goes_same on.device.goes_on s.host.volume s.host.volume refl)
  goes_follow (r ∷ rs) s t ((units, more), rest) = goes_then on.device.goes_on s.host.volume r.1.host.volume t.host.volume more.numbers more.goes (goes_follow rs r.1 t rest)

  pub module_follow : (rs : History S) (s t : S) → Follow on s rs t → t.machine.valid ≡ s.machine.valid
  module_follow [] s t same = subst (λ (x : S). x.machine.valid ≡ s.machine.valid) (sym same) refl
  module_follow (r ∷ rs) s t ((units, more), rest) = module_follow rs r.1 t rest ∙ more.run.module_is

  -- no resume takes a unit back
  follow_rises : (rs : History S) (s t : S) → Follow on s rs t → used_by s ≤ used_by t
  follow_rises [] s t same = subst (λ (x : S). used_by s ≤ used_by x) (sym same) (omega arith)
  follow_rises (r ∷ rs) s t ((units, more), rest) = omega (arith, rises r.0 units (used_by s) (used_by r.1) more.run.units_rise, follow_rises rs r.1 t rest)

  -- some resumes, and then others
  pub follow_append : (rs ts : History S) (s t u : S) → Follow on s rs t → Follow on t ts u → Follow on s (rs ++ ts) u
  follow_append [] ts s t u same later = subst (λ (x : S). Follow on x ts u) same later
  follow_append (r ∷ rs) ts s t u (first, rest) later = (first, follow_append rs ts r.1 t u rest later)

  -- a session that answered calls alone goes on
  calls_run : (rs : History S) (s t : S) → AreCalls rs → Follow on s rs t → outcome_of s.machine ≡ None → outcome_of t.machine ≡ None
  calls_run [] s t answered same running = subst (λ (x : S). outcome_of x.machine ≡ None) (sym same) running
  calls_run ((Called call e, u) ∷ rs) s t (is, answered) ((units, more), rest) running = calls_run rs u t answered rest more.run.end_is
  calls_run ((Spent, u) ∷ rs) s t (is, answered) follow running = absurd (true≢false (sym is))
  calls_run ((Ended o, u) ∷ rs) s t (is, answered) follow running = absurd (true≢false (sym is))

  -- ---- a slice

  module _ (old new : S) (until : ℕ) (before after : Tally) where
    -- it takes no unit back, and none more than there are until its end
    pub slice_rises : (p : Pause) → RunsSlice on old new until p before after → (used_by old ≤ used_by new) × (used_by new ≤ until)
    slice_rises p slice =
        let low = rises p (until - used_by slice.middle) (used_by slice.middle) (used_by new) slice.last.run.units_rise in
        let high = rises_within p (until - used_by slice.middle) (used_by slice.middle) (used_by new) slice.last.run.units_rise in
        (omega (arith, follow_rises slice.calls old slice.middle slice.follow, low), omega (arith, high, slice.within))

    -- it has all of them where no unit was left
    pub slice_spends : RunsSlice on old new until Spent before after → used_by new ≡ until
    slice_spends slice = let rise = slice.last.run.units_rise in omega (arith, rise, slice.within)

    pub slice_follows : (p : Pause) (slice : RunsSlice on old new until p before after) → Follow on old (slice.calls ++ (p, new) ∷ []) new
    slice_follows p slice = follow_on on slice.calls old slice.middle new (until - used_by slice.middle) p slice.follow slice.last

    -- a run stops after it
    pub stops_after : (first : S) (earlier : History S) (fuel : ℕ) (outcome : Outcome) (p : Pause) (slice : RunsSlice on old new until p before after) → Follow on first earlier old
        → (outcome_of first.machine ≡ None → outcome_of old.machine ≡ None) → until ≤ fuel → Stops p fuel (used_by new) outcome
        → StopsAfter on first (earlier ++ (slice.calls ++ (p, new) ∷ [])) new fuel outcome
    stops_after first earlier fuel outcome p slice follow running within stops = record {
      before = earlier ++ slice.calls;
      middle = slice.middle;
      pause = p;
      all = sym (append_assoc earlier slice.calls ((p, new) ∷ []));
      follow = follow_append earlier slice.calls first old slice.middle follow slice.follow;
      running = λ runs. calls_run slice.calls old slice.middle slice.answered slice.follow (running runs);
      units = until - used_by slice.middle;
      within = omega (arith, slice.within, within);
      resume = slice.last;
      stops = stops;
    }

  -- how a run has stopped whose last slice had all units that were left
  pub stops_at_end : (end : Option Outcome) (fuel used : ℕ) → (end ≡ None → used ≡ fuel) → Stops (stop_of end) fuel used (outcome_after end)
  stops_at_end (Some o) fuel used spent = refl
  stops_at_end None fuel used spent = (refl, spent refl)

  -- ---- the report

  -- the run before its commit
  record Ran (first last : S) (fuel : ℕ) (outcome : Outcome) : Type 0 where
    pub run : (i : Instance) (c : Configuration) → Represents first.machine i c → RunsWithin (Calls on) i first.host c fuel last.host outcome (used_by last)
    pub crash : IsHonest on first.host → (i : Instance) (c : Configuration) (stands : Represents first.machine i c)
        → Leaves (disk_of on first.host) (disk_of on last.host) (LeftInRun (Calls on) (disk_of on) numbers_of tree_of (run i c stands))
    pub unit : outcome_of first.machine ≡ None → (i : Instance) (c : Configuration) (stands : Represents first.machine i c)
        → HasItsUnit (Ended outcome) fuel (run i c stands).last

  -- no machine ends out of fuel
  never_ends : (i : Instance) (h : HostState D R W1 W2) (c : Configuration) → EndsAs (HostState D R W1 W2) (Calls on) i OutOfFuel h c → ⊥
  never_ends i h (at store f c) ends = ends

  -- a run that has ended ends so with more fuel, too
  stops_so : (i : Instance) (o : Outcome) (fewer fuel used : ℕ) (h : HostState D R W1 W2) (c : Configuration) → (o ≡ OutOfFuel → ⊥) → StopsAs (Calls on) i o fewer used h c
      → StopsAs (Calls on) i o fuel used h c
  stops_so i (Exited n) fewer fuel used h c isnt stops = stops
  stops_so i (Trapped t) fewer fuel used h c isnt stops = stops
  stops_so i OutOfFuel fewer fuel used h c isnt stops = absurd (isnt refl)
  stops_so i OutOfMemory fewer fuel used h c isnt stops = stops

  ends_in_time : (first middle last : S) (units : ℕ) (o : Outcome) → Safe first middle → Resumes on middle last units (Ended o) → (i : Instance) (c : Configuration) → Represents first.machine i c
      → o ≡ OutOfFuel → ⊥
  ends_in_time first middle last units o safe more i c a is =
      let next = more.run.run i (safe.run.last i c a) (safe.run.stands i c a) in
      never_ends i last.host next.0 (subst (λ (out : Outcome). EndsAs (HostState D R W1 W2) (Calls on) i out last.host next.0) is next.2.1)

  ran_at_end : (first middle last : S) (units fuel : ℕ) (o : Outcome) → Safe first middle → Resumes on middle last units (Ended o) → used_by middle + units ≤ fuel
      → (outcome_of first.machine ≡ None → outcome_of middle.machine ≡ None) → Ran first last fuel o
  ran_at_end first middle last units fuel o safe more within running =
      let ended = ran_to_end (HostState D R W1 W2) (Calls on) (disk_of on) numbers_of tree_of (IsHonest on) first.host middle.host last.host first.machine middle.machine last.machine
      units (used_by middle + units) o safe more.run refl more.numbers more.honest_after more.crash in
      record {
        run = λ i c a.
            let run = ended.1.0 i c a in
            record {
              last = run.last;
              answers = run.answers;
              reach = run.reach;
              units = run.units;
              stops = stops_so i o (used_by middle + units) fuel (used_by last) last.host run.last (ends_in_time first middle last units o safe more i c a) run.stops;
            };
        crash = ended.1.1;
        unit = λ runs i c a. has_its_unit o (used_by middle + units) fuel (ended.1.0 i c a).last within (ended.1.2 (running runs) i c a);
      }

  ran : (first middle last : S) (units fuel : ℕ) (p : Pause) (outcome : Outcome) → Safe first middle → Resumes on middle last units p → used_by middle + units ≤ fuel
      → (outcome_of first.machine ≡ None → outcome_of middle.machine ≡ None) → Stops p fuel (used_by last) outcome → Ran first last fuel outcome
  ran first middle last units fuel (Called call e) outcome safe more within running stops = absurd stops
  ran first middle last units fuel Spent outcome safe more within running (is, used) =
      let out = ran_out (HostState D R W1 W2) (Calls on) (disk_of on) numbers_of tree_of (IsHonest on) first.host middle.host last.host first.machine middle.machine last.machine units fuel
      safe more.run used more.numbers more.honest_after more.crash in
      subst (λ (o : Outcome). Ran first last fuel o) (sym is) (record { run = out.1.0; crash = out.1.1; unit = λ ran i c a. tt })
  ran first middle last units fuel (Ended o) outcome safe more within running is =
      subst (λ (o : Outcome). Ran first last fuel o) (sym is) (ran_at_end first middle last units fuel o safe more within running)

  -- what a run and its commit left
  pub reports_stop : (last : S) (outcome : Outcome) (used pages : ℕ) (broken : Bool) (finished : Finished D R W1 W2)
      → used ≡ used_by last → pages ≡ length last.machine.memory / 65536 → broken ≡ stream_failed last.host → Finishes on.device last finished
      → ReportsStop on last outcome (record { outcome = outcome; used = used; pages = pages; broken = broken; volume = finished.volume; input = finished.input; out = finished.out; err = finished.err })
  reports_stop last outcome used pages broken finished used_is pages_is broken_is finishes first resumes fuel stops =
      let safe = safe_follow stops.before first first stops.middle (safe_so_far (HostState D R W1 W2) (Calls on) (disk_of on) numbers_of tree_of (IsHonest on) first.host first.machine) stops.follow in
      let more = stops.resume in
      let run = ran first stops.middle last stops.units fuel stops.pause outcome safe more stops.within stops.running stops.stops in
      let numbers = more.numbers ∙ safe.numbered in
      let followed : Follow on first resumes last = subst (λ (rs : History S). Follow on first rs last) (sym stops.all) (follow_on on stops.before first stops.middle last stops.units stops.pause stops.follow more) in
      let reports : Reports on first fuel (record { outcome = outcome; used = used; pages = pages; broken = broken; volume = finished.volume; input = finished.input; out = finished.out; err = finished.err }) = record {
        last = last;
        used = used_is;
        within = let rise = rises_within stops.pause stops.units (used_by stops.middle) (used_by last) more.run.units_rise in omega (arith, used_is, rise, stops.within);
        pages = pages_is;
        broken = broken_is;
        heard = heard_follow on Represents resumes first last followed;
        resumes = resumes;
        follow = followed;
        run = run.run;
        unit = run.unit;
        volume = finishes.volume;
        crash = λ is i c stands. commit_after (HostState D R W1 W2) (Calls on) (disk_of on) numbers_of tree_of (IsHonest on) i first.host last.host c
            (run.run i c stands).last (run.run i c stands).answers _ (run.run i c stands).reach numbers
            (run.crash is i c stands) (finishes.volume.crash (more.honest_after (safe.honest_after is)));
        numbers = numbers;
        size = more.size ∙ size_follow stops.before first stops.middle stops.follow;
        goes = goes_then on.device.goes_on first.host.volume last.host.volume finishes.volume.new numbers
            (goes_then on.device.goes_on first.host.volume stops.middle.host.volume last.host.volume safe.numbered
            (goes_follow stops.before first stops.middle stops.follow) more.goes) finishes.volume.goes;
        honest_after = λ is. more.honest_after (safe.honest_after is);
        input = finishes.input;
        out = finishes.out;
        err = finishes.err;
      } in
      (reports, refl, refl)
