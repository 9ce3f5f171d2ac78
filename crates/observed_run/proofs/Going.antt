-- One slice more of a run in slices, and its end.
use Rattle.std.proofs.Common.{◌≡◌, ◌≤◌, ◌+◌, ◌-◌, ℕ, zero, suc, Bool, List, [], ◌∷◌, ◌++◌, length, max, sum, slice_index, append_assoc, append-nil, length-append, if◌then◌else◌, refl, sym, ap, subst, ◌∙◌, true≢false, inl, inr, arith}
use Rattle.std.specs.List.{All}
use Rattle.std.proofs.lemmas.List.Elements.{All-nil, All-append}
use Rattle.std.proofs.lemmas.Bool.Decides.{eqb_tells}
use Rattle.wasm_steps.specs.declared.pause.Pause.{Pause}
use Rattle.wasm_steps.specs.declared.pause.Pause.TheVariants.{Called, Spent, Ended}
use Rattle.wasm_steps.specs.declared.pause.Outcome.{Outcome}
use Rattle.wasm_steps.specs.declared.pause.Outcome.TheVariants.{OutOfFuel}
use Rattle.sandbox_core.specs.declared.tally.Tally.{Tally}
use Rattle.sandbox_core.specs.Devices.{Devices}
use Rattle.sandbox_core.specs.Session.{SessionState, History, Follow, used_by}
use Rattle.sandbox_core.specs.Tally.{Tallies}
use Rattle.sandbox_core.specs.Slices.{AreCalls, RunsSlice}
use Rattle.sandbox_core.proofs.Stopping.{follow_append, slice_rises, slice_spends, slice_follows, stops_after}
use Rattle.observed_run.specs.declared.stacks.Call.{Call}
use Rattle.observed_run.specs.Stacks.{Stacks, AddsUnits, Grows, IsNodeOf}
use Rattle.observed_run.specs.Charging.{Slice, Charges, charged, functions_of, slice, slices_from}
use Rattle.observed_run.specs.internal.Going.{ChargesSlice, GoesInSlices, RunsInSlices}
use Rattle.observed_run.proofs.Charging.{same_units, same_sum, adds_there, charges_kept, charges_to, charges_more}

module _ {D R W1 W2 : Type 0} where
  -- answered calls begin no slice
  slices_past_calls : (calls : History (SessionState D R W1 W2)) → AreCalls calls → (start now : SessionState D R W1 W2) (p : Pause) (new : SessionState D R W1 W2) (more : History (SessionState D R W1 W2))
      → slices_from start now (calls ++ ((p, new) ∷ more)) ≡ slices_from start now ((p, new) ∷ more)
  slices_past_calls [] answered start now (Called call e) new more = refl
  slices_past_calls [] answered start now Spent new more = refl
  slices_past_calls [] answered start now (Ended o) new more = refl
  slices_past_calls ((Called call e, s) ∷ calls) (is, answered) start now (Called d f) new more = slices_past_calls calls answered start s (Called d f) new more
  slices_past_calls ((Called call e, s) ∷ calls) (is, answered) start now Spent new more = slices_past_calls calls answered start s Spent new more
  slices_past_calls ((Called call e, s) ∷ calls) (is, answered) start now (Ended o) new more = slices_past_calls calls answered start s (Ended o) new more
  slices_past_calls ((Spent, s) ∷ calls) (is, answered) start now p new more = absurd (true≢false (sym is))
  slices_past_calls ((Ended o, s) ∷ calls) (is, answered) start now p new more = absurd (true≢false (sym is))

  pub charges_slice : (start end : SessionState D R W1 W2) (old grown new : Stacks) (node began used : ℕ) → Grows old grown → IsNodeOf grown (functions_of start) node → AddsUnits grown new node (used - began)
      → began ≡ used_by start → used ≡ used_by end → ChargesSlice start end old new
  charges_slice start end old grown new node began used grows is adds began_is used_is = record {
    grown = grown;
    grows = grows;
    node = node;
    is = is;
    adds = let same : used - began ≡ used_by end - used_by start = omega (arith, began_is, used_is) in subst (λ (n : ℕ). AddsUnits grown new node n) same adds;
  }

  -- a short slice
  all_one : (most : ℕ) (s : Slice D R W1 W2) → s.units ≤ most → All (λ (t : Slice D R W1 W2). t.units ≤ most) (s ∷ [])
  all_one most s short zero d low = short
  all_one most s short (suc k) d low = absurd (omega (arith, low))

  module _ (on : Devices D R W1 W2) (every : ℕ) (first : SessionState D R W1 W2) (old : Stacks) where
    -- no slice yet
    pub goes_first : (tally : Tally) → Tallies {S = SessionState D R W1 W2} [] tally → GoesInSlices on every first first tally old old
    goes_first tally none = record {
      resumes = [];
      follow = refl;
      tallies = none;
      running = λ runs. runs;
      slices = [];
      parts = λ more. refl;
      short = All-nil (λ (s : Slice D R W1 W2). s.units ≤ max every 1);
      added = [];
      calls = sym (append-nil old.calls);
      charges = λ k. refl;
      rises = omega arith;
      in_all = omega arith;
      within = omega arith;
    }

    -- stacks were added
    goes_grown : (now : SessionState D R W1 W2) (tally : Tally) (a b : Stacks) → GoesInSlices on every first now tally old a → Grows a b → GoesInSlices on every first now tally old b
    goes_grown now tally a b goes grows = record {
      resumes = goes.resumes;
      follow = goes.follow;
      tallies = goes.tallies;
      running = goes.running;
      slices = goes.slices;
      parts = goes.parts;
      short = goes.short;
      added = goes.added ++ grows.added;
      calls = grows.calls ∙ ap (λ (calls : List Call). calls ++ grows.added) goes.calls ∙ append_assoc old.calls goes.added grows.added;
      charges = charges_to b goes.slices (slice_index old.units) (slice_index a.units) (slice_index b.units)
          (λ k. ap (λ (units : List ℕ). slice_index units k) grows.units ∙ same_units a.units (length grows.added) k)
          (charges_kept a b grows.added grows.calls grows.whole goes.slices (slice_index old.units) (slice_index a.units) goes.charges);
      rises = goes.rises;
      in_all = ap sum grows.units ∙ same_sum a.units (length grows.added) ∙ goes.in_all;
      within = omega (arith, goes.within, grows.within, length-append goes.added grows.added);
    }

    module _ (now new : SessionState D R W1 W2) (until : ℕ) (before after : Tally) (c b : Stacks) (so_far : GoesInSlices on every first now before old c) (charges : ChargesSlice now new c b)
        (few : until - used_by now ≤ max every 1) where
      abbrev a : Stacks
      a = charges.grown

      abbrev goes : GoesInSlices on every first now before old a
      goes = goes_grown now before c a so_far charges.grows

      abbrev adds : AddsUnits a b charges.node (used_by new - used_by now)
      adds = charges.adds

      -- the slices with one more
      abbrev with_it : List (Slice D R W1 W2)
      with_it = goes.slices ++ slice now new ∷ []

      module _ (p : Pause) (ran : RunsSlice on now new until p before after) where
        abbrev resumes_with_it : History (SessionState D R W1 W2)
        resumes_with_it = goes.resumes ++ (ran.calls ++ (p, new) ∷ [])

        parts_with_it : (more : History (SessionState D R W1 W2)) → slices_from first first (resumes_with_it ++ more) ≡ goes.slices ++ slices_from now now ((p, new) ∷ more)
        parts_with_it more =
            ap (λ (rs : History (SessionState D R W1 W2)). slices_from first first rs) (append_assoc goes.resumes (ran.calls ++ (p, new) ∷ []) more)
            ∙ goes.parts ((ran.calls ++ (p, new) ∷ []) ++ more)
            ∙ ap (λ (rs : History (SessionState D R W1 W2)). goes.slices ++ slices_from now now rs) (append_assoc ran.calls ((p, new) ∷ []) more)
            ∙ ap (λ (slices : List (Slice D R W1 W2)). goes.slices ++ slices) (slices_past_calls ran.calls ran.answered now now p new more)

        short_with_it : All (λ (s : Slice D R W1 W2). s.units ≤ max every 1) with_it
        short_with_it =
            let within = slice_rises on now new until before after p ran in
            All-append (λ (s : Slice D R W1 W2). s.units ≤ max every 1) goes.slices (slice now new ∷ []) goes.short (all_one (max every 1) (slice now new) (omega (arith, few, within.0, within.1)))

        charges_with_it : Charges b with_it (slice_index old.units) (slice_index b.units)
        charges_with_it =
            charges_kept a b [] (adds.calls ∙ sym (append-nil a.calls)) (λ whole. sym adds.is_cut ∙ whole) with_it (slice_index old.units) (slice_index b.units)
            (charges_more a goes.slices (slice now new) charges.node (slice_index old.units) (slice_index a.units) (slice_index b.units) goes.charges
            (λ some. charges.is) (adds_there a b charges.node (used_by new - used_by now) adds))

        sum_with_it : sum b.units ≡ sum old.units + (used_by new - used_by first)
        sum_with_it =
            let within = slice_rises on now new until before after p ran in
            omega (arith, adds.in_all, goes.in_all, goes.rises, within.0)

        follow_with_it : Follow on first resumes_with_it new
        follow_with_it = follow_append on goes.resumes (ran.calls ++ (p, new) ∷ []) first now new goes.follow (slice_follows on now new until before after p ran)

      -- one slice more, and the run goes on
      pub goes_on : RunsSlice on now new until Spent before after → GoesInSlices on every first new after old b
      goes_on ran = record {
        resumes = resumes_with_it Spent ran;
        follow = follow_with_it Spent ran;
        tallies = ran.tallies goes.resumes goes.tallies;
        running = λ runs. ran.last.run.end_is;
        slices = with_it;
        parts = λ more. parts_with_it Spent ran more ∙ sym (append_assoc goes.slices (slice now new ∷ []) (slices_from new new more));
        short = short_with_it Spent ran;
        added = goes.added;
        calls = adds.calls ∙ goes.calls;
        charges = charges_with_it Spent ran;
        rises = let within = slice_rises on now new until before after Spent ran in omega (arith, goes.rises, within.0);
        in_all = sum_with_it Spent ran;
        within = omega (arith, goes.within, adds.room);
      }

      -- the run ended in it
      pub ends_in_slices : (fuel : ℕ) (o : Outcome) → until ≤ fuel → RunsSlice on now new until (Ended o) before after → RunsInSlices on first fuel every new o after old b
      ends_in_slices fuel o within ran =
          let all : slices_from first first (resumes_with_it (Ended o) ran) ≡ with_it =
          ap (λ (rs : History (SessionState D R W1 W2)). slices_from first first rs) (sym (append-nil (resumes_with_it (Ended o) ran))) ∙ parts_with_it (Ended o) ran [] in
          record {
            resumes = resumes_with_it (Ended o) ran;
            stops = stops_after on now new until before after first goes.resumes fuel o (Ended o) ran goes.follow goes.running within refl;
            tallies = ran.tallies goes.resumes goes.tallies;
            charges = record {
              added = goes.added;
              calls = adds.calls ∙ goes.calls;
              short = subst (All (λ (s : Slice D R W1 W2). s.units ≤ max every 1)) (sym all) (short_with_it (Ended o) ran);
              charges = subst (λ (slices : List (Slice D R W1 W2)). Charges b slices (slice_index old.units) (slice_index b.units)) (sym all) (charges_with_it (Ended o) ran);
              in_all = sum_with_it (Ended o) ran;
              within = omega (arith, goes.within, adds.room);
            };
          }

      -- no unit was left after it: the last slice has none
      pub spends_in_slices : (fuel : ℕ) → until ≡ fuel → RunsSlice on now new until Spent before after → RunsInSlices on first fuel every new OutOfFuel after old b
      spends_in_slices fuel all_units ran =
          let last = slice new new in
          let none : last.units ≡ 0 = omega arith in
          let all : slices_from first first (resumes_with_it Spent ran) ≡ with_it ++ last ∷ [] =
          ap (λ (rs : History (SessionState D R W1 W2)). slices_from first first rs) (sym (append-nil (resumes_with_it Spent ran))) ∙ parts_with_it Spent ran []
          ∙ sym (append_assoc goes.slices (slice now new ∷ []) (last ∷ [])) in
          record {
            resumes = resumes_with_it Spent ran;
            stops = stops_after on now new until before after first goes.resumes fuel OutOfFuel Spent ran goes.follow goes.running (omega (arith, all_units)) (refl, slice_spends on now new until before after ran ∙ all_units);
            tallies = ran.tallies goes.resumes goes.tallies;
            charges = record {
              added = goes.added;
              calls = adds.calls ∙ goes.calls;
              short = subst (All (λ (s : Slice D R W1 W2). s.units ≤ max every 1)) (sym all)
                  (All-append (λ (s : Slice D R W1 W2). s.units ≤ max every 1) with_it (last ∷ []) (short_with_it Spent ran) (all_one (max every 1) last (omega (arith, none))));
              charges = subst (λ (slices : List (Slice D R W1 W2)). Charges b slices (slice_index old.units) (slice_index b.units)) (sym all)
                  (charges_more b with_it last 0 (slice_index old.units) (slice_index b.units) (slice_index b.units) (charges_with_it Spent ran)
                  (λ some. absurd (omega (arith, some, none))) (λ k. nothing_there k last.units none));
              in_all = sum_with_it Spent ran;
              within = omega (arith, goes.within, adds.room);
            };
          }
        where
          nothing_there : (k units : ℕ) → units ≡ 0 → slice_index b.units k ≡ charged (slice_index b.units) 0 units k
          nothing_there k units none = elim (eqb_tells k 0) [
            | inl (is, same) ↦ let more : slice_index b.units k ≡ slice_index b.units k + units = omega (arith, none) in more ∙ ap (λ (test : Bool). if test then slice_index b.units k + units else slice_index b.units k) (sym is)
            | inr (is, other) ↦ ap (λ (test : Bool). if test then slice_index b.units k + units else slice_index b.units k) (sym is)
          ]
