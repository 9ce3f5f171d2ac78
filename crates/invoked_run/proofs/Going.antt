-- What goes on until it stops, and one call as a list of acts.
use Rattle.std.proofs.Common.{◌≡◌, ◌≤◌, ◌<◌, ◌+◌, ◌-◌, ℕ, List, [], ◌∷◌, ◌++◌, Option, refl, sym, subst, inl, inr, arith}
use Rattle.std.specs.Prelude.{slice_get}
use Rattle.wasm_store.specs.declared.call.HostCall.{HostCall}
use Rattle.wasm_store.specs.declared.call.Errno.{Errno}
use Rattle.wasm_steps.specs.declared.pause.Outcome.{Outcome}
use Rattle.wasm_steps.specs.declared.pause.Outcome.TheVariants.{OutOfFuel}
use Rattle.wasm_steps.specs.declared.pause.Pause.TheVariants.{Called, Spent, Ended as Stopped}
use Rattle.wasm_interp.specs.Machine.{Represents, entries_left}
use Rattle.wasm_places.specs.declared.invocable.Event.{Event}
use Rattle.wasm_places.specs.declared.invocable.Event.TheVariants.{Asked, Paused, Returned as Back}
use Rattle.wasm_interp.specs.Invoking.{results_of}
use Rattle.sandbox_core.specs.Devices.{Devices}
use Rattle.plugin_core.specs.Handling.{Act, Goes as AtWork, paused}
use Rattle.plugin_session.specs.Headline.{History, FollowBy}
use Rattle.plugin_session.specs.Instance.{InstanceState, Does, Goes, RisesBy, used_by}
use Rattle.invoked_run.specs.declared.calling.CallEnd.{CallEnd}
use Rattle.invoked_run.specs.declared.calling.CallEnd.TheVariants.{Returned, Ended, Unanswered, Refused}
use Rattle.invoked_run.specs.Calling.{AreAnswered, CallsOnce, GoesUntil, IsNoReturn, StopsSo}
use Rattle.invoked_run.specs.internal.Going.{HasGone}

-- what is none of the returns is no return
pub no_return : (end : CallEnd) → ((value : Option ℕ) → end ≡ Returned value → ⊥) → IsNoReturn end
no_return (Returned value) none = none value refl
no_return (Ended o) none = tt
no_return Unanswered none = tt
no_return (Refused why) none = tt

module _ {D R W1 W2 : Type 0} (on : Devices D R W1 W2) where
  abbrev S : Type 0
  S = InstanceState D R W1 W2

  -- one act more
  pub follow_on : (rs : History S) (s t u : S) (k : Act) → FollowBy Represents on s rs t → Does on t k u → FollowBy Represents on s (rs ++ (k, u) ∷ []) u
  follow_on [] s t u k same more = (subst (λ (x : S). Does on x k u) same more, refl)
  follow_on (r ∷ rs) s t u k (first, rest) more = (first, follow_on rs r.1 t u k rest more)

  pub answered_on : (rs : History S) (u : S) (call : HostCall) (e : Errno) → AreAnswered rs → AreAnswered (rs ++ (paused (Called call e), u) ∷ [])
  answered_on [] u call e answered = (tt, tt)
  answered_on (r ∷ rs) u call e (is, answered) = (is, answered_on rs u call e answered)

  -- ---- one event more

  module _ (old now new : S) (fuel units : ℕ) (gone : HasGone on old now fuel) (units_are : units ≡ fuel - used_by now) where
    -- it comes back within the fuel
    within_fuel : (e : Event) → RisesBy e units (used_by now) (used_by new) → used_by new ≤ fuel
    within_fuel (Paused (Called call errno)) (low, high) = omega (arith, high, units_are, gone.within)
    within_fuel (Paused Spent) is = omega (arith, is, units_are, gone.within)
    within_fuel (Paused (Stopped o)) (low, high) = omega (arith, high, units_are, gone.within)
    within_fuel Back (low, high) = omega (arith, high, units_are, gone.within)
    within_fuel (Asked x) (low, high) = omega (arith, high, units_are, gone.within)

    until : (end : CallEnd) → StopsSo on now new fuel end → used_by new ≤ fuel → GoesUntil on old new fuel end
    until end stops within = record { calls = gone.calls; answered = gone.answered; middle = now; follow = gone.follow; last = stops; within = within }

    pub has_returned : (e : Event) (value : Option ℕ) → Goes on now new units e → e ≡ Back → value ≡ slice_get (results_of new.machine) 0 → GoesUntil on old new fuel (Returned value)
    has_returned e value g is value_is =
        let back = subst (λ (b : Event). Goes on now new units b) is g in
        until (Returned value) (back.does, value_is) (within_fuel Back back.within)

    pub was_asked : (e : Event) (x : ℕ) → Goes on now new units e → e ≡ Asked x → GoesUntil on old new fuel Unanswered
    was_asked e x g is =
        let asks = subst (λ (b : Event). Goes on now new units b) is g in
        until Unanswered (x, asks.does) (within_fuel (Asked x) asks.within)

    pub has_spent : (e : Event) → Goes on now new units e → e ≡ Paused Spent → GoesUntil on old new fuel (Ended OutOfFuel)
    has_spent e g is =
        let spends = subst (λ (b : Event). Goes on now new units b) is g in
        let all = spends.within in
        until (Ended OutOfFuel) (inr (refl, spends.does, omega (arith, all, units_are, gone.within))) (within_fuel (Paused Spent) spends.within)

    pub has_ended : (e : Event) (o : Outcome) → Goes on now new units e → e ≡ Paused (Stopped o) → GoesUntil on old new fuel (Ended o)
    has_ended e o g is =
        let ends = subst (λ (b : Event). Goes on now new units b) is g in
        until (Ended o) (inl ends.does) (within_fuel (Paused (Stopped o)) ends.within)

    -- or it goes on
    pub goes_on : (e : Event) (call : HostCall) (errno : Errno) → Goes on now new units e → e ≡ Paused (Called call errno) → HasGone on old new fuel
    goes_on e call errno g is =
        let called = subst (λ (b : Event). Goes on now new units b) is g in
        record {
          calls = gone.calls ++ (paused (Called call errno), new) ∷ [];
          answered = answered_on gone.calls new call errno gone.answered;
          follow = follow_on gone.calls old now new (paused (Called call errno)) gone.follow called.does;
          within = within_fuel (Paused (Called call errno)) called.within;
          goes = subst AtWork (sym called.does.stage) gone.goes;
        }

    -- with fewer units, or fewer functions to be entered
    pub measure_falls : (e : Event) (call : HostCall) (errno : Errno) → Goes on now new units e → e ≡ Paused (Called call errno)
        → fuel - new.machine.used + entries_left new.machine < fuel - now.machine.used + entries_left now.machine
    measure_falls e call errno g is =
        let called = subst (λ (b : Event). Goes on now new units b) is g in
        let progress = called.progress in
        let rises = called.within in
        let last = within_fuel (Paused (Called call errno)) called.within in
        omega (arith, progress, rises, last)

  -- some acts, and then others
  follow_join : (rs us : History S) (s t u : S) → FollowBy Represents on s rs t → FollowBy Represents on t us u → FollowBy Represents on s (rs ++ us) u
  follow_join [] us s t u same more = subst (λ (x : S). FollowBy Represents on x us u) same more
  follow_join (r ∷ rs) us s t u (first, rest) more = (first, follow_join rs us r.1 t u rest more)

  abbrev Follows : S → S → Type 0
  Follows s t = (rs : History S) × FollowBy Represents on s rs t

  -- the act that it stops with
  last_act : (s t : S) (fuel : ℕ) (end : CallEnd) → StopsSo on s t fuel end → (k : Act) × Does on s k t
  last_act s t fuel (Returned value) (does, is) = (_, does)
  last_act s t fuel (Ended o) (inl does) = (_, does)
  last_act s t fuel (Ended o) (inr (is, does, used)) = (_, does)
  last_act s t fuel Unanswered (x, does) = (_, does)
  last_act s t fuel (Refused why) never = absurd never

  gone_by : (s t : S) (fuel : ℕ) (end : CallEnd) → GoesUntil on s t fuel end → Follows s t
  gone_by s t fuel end g = let k = last_act g.middle t fuel end g.last in (_, follow_on g.calls s g.middle t k.0 g.follow k.1)

  -- one call is a list of acts
  pub once_follows : (s t : S) (name arguments : List ℕ) (fuel : ℕ) (end : CallEnd) → CallsOnce on s t name arguments fuel end → Follows s t
  once_follows s t name arguments fuel end (inl (g, none)) = gone_by s t fuel end g
  once_follows s t name arguments fuel end (inr (opened, value, g, inl (why, is, same, refuses))) =
      subst (λ (x : S). Follows s x) (sym same) (gone_by s opened fuel (Returned value) g)
  once_follows s t name arguments fuel end (inr (opened, value, g, inr (entered, (x, exported, does), more))) =
      let first = gone_by s opened fuel (Returned value) g in
      let second = gone_by entered t fuel end more in
      (_, follow_join first.0 (_ ∷ second.0) s opened t first.1 (does, second.1))

  -- and takes no more than its fuel
  pub once_within : (s t : S) (name arguments : List ℕ) (fuel : ℕ) (end : CallEnd) → CallsOnce on s t name arguments fuel end → used_by t ≤ fuel
  once_within s t name arguments fuel end (inl (g, none)) = g.within
  once_within s t name arguments fuel end (inr (opened, value, g, inl (why, is, same, refuses))) = subst (λ (x : S). used_by x ≤ fuel) (sym same) g.within
  once_within s t name arguments fuel end (inr (opened, value, g, inr (entered, invokes, more))) = more.within
