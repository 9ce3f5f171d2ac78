-- However its input is cut: what is done with an instance is done with one that has all of it.
use Rattle.std.proofs.Common.{◌≡◌, ℕ, ◌≤◌, true, false, true≢false, List, [], ◌∷◌, ◌++◌, refl, sym, ap, subst, ◌∙◌, append_assoc}
use Rattle.vol_sector.specs.Disk.{Image}
use Rattle.wasm_syntax.specs.declared.module.Module.{Module}
use Rattle.wasm_store.specs.declared.call.HostCall.{HostCall}
use Rattle.wasm_store.specs.declared.call.Errno.{Errno}
use Rattle.wasm_steps.specs.declared.pause.Pause.{Pause}
use Rattle.wasm_steps.specs.declared.pause.Pause.TheVariants.{Called, Spent, Ended}
use Rattle.wasm_steps.specs.declared.pause.Outcome.{Outcome}
use Rattle.wasm_steps.specs.declared.pause.Outcome.TheVariants.{Exited, Trapped, OutOfFuel, OutOfMemory}
use Rattle.wasm_steps.specs.Configuration.{Instance, Configuration, at}
use Rattle.wasm_steps.specs.Outcomes.{EndsAs, Paused}
use Rattle.wasm_steps.specs.Steps.{CallsOf, Reach, answers, silent, stays as halts, goes as makes}
use Rattle.wasm_operands.specs.Snapshots.{Snapshot, StandsFor}
use Rattle.wasm_interp.specs.Invocations.{TellsStores}
use Rattle.wasi_bodies.specs.host.Worlds.{HostState}
use Rattle.sandbox_core.specs.Devices.{Calls}
use Rattle.plugin_core.specs.Handling.{Act, Handled}
use Rattle.plugin_core.specs.Handling as handling
use Rattle.plugin_session.specs.States.{InstanceState}
use Rattle.plugin_session.specs.Headline.{FollowBy}
use Rattle.plugin_session.proofs.Headline.{headline}
use Rattle.fed_input.specs.Feeding.{Fed, fed}
use Rattle.fed_input.specs.Wholes.{MayCome, whole_host}
use Rattle.fed_input.proofs.Wholes as wholes
use Rattle.fed_session.specs.Feeding.{Around, fed_devices, whole_devices, with_input}
use Rattle.fed_session.specs.Headline.{Doing, acted, was_fed, input_ended, FedHeadline, FollowFed, acts_in, fed_in, whole_parts, whole_state}

module _ {D W1 W2 : Type 0} (a : Around D W1 W2) where
  abbrev HostFed : Type 0
  HostFed = HostState D Fed W1 W2

  abbrev HostWhole : Type 0
  HostWhole = HostState D (List ℕ) W1 W2

  abbrev OverFed : CallsOf HostFed
  OverFed = Calls (fed_devices a)

  abbrev OverWhole : CallsOf HostWhole
  OverWhole = Calls (whole_devices a)

  -- ---- runs

  module _ (i : Instance) where
    -- what isn't marked as failed wasn't before, and was said to end before
    before : (h h' : HostFed) (c d : Configuration) (es : List (HostCall × Errno)) → h'.input.failed ≡ false → Reach HostFed OverFed i h c es h' d
        → (h.input.failed ≡ false) × (h'.input.reader.ended ≡ h.input.reader.ended)
    before h _ c _ _ now halts = (now, refl)
    before h h' c d _ now (makes {h' = g} {c' = b} ev es first rest) =
        let (between, later) = before g h' b d es now rest in
        let (was, same) = wholes.step_before a.device.honest a.device.disk a.device.size a.device.failures a.device.goes_on a.out.contents a.err.contents a.out_calls a.err_calls i 0 h g c b ev between first in
        (was, later ∙ same)

    run_whole : (more : List ℕ) (h h' : HostFed) (c d : Configuration) (es : List (HostCall × Errno)) → MayCome more h.input.reader → h'.input.failed ≡ false → Reach HostFed OverFed i h c es h' d
        → Reach HostWhole OverWhole i (whole_host more h) c es (whole_host more h') d
    run_whole = wholes.reach_whole a.device.honest a.device.disk a.device.size a.device.failures a.device.goes_on a.out.contents a.err.contents a.out_calls a.err_calls i

    ended_whole : (more : List ℕ) (o : Outcome) (h : HostFed) (d : Configuration) → MayCome more h.input.reader → h.input.failed ≡ false → EndsAs HostFed OverFed i o h d → EndsAs HostWhole OverWhole i o (whole_host more h) d
    ended_whole more (Exited n) h (at s f x) may now e = e
    ended_whole more (Trapped t) h (at s f x) may now e = e
    ended_whole more OutOfFuel h d may now e = absurd e
    ended_whole more OutOfMemory h d may now (b, last, large, needs) =
        (b, wholes.step_whole a.device.honest a.device.disk a.device.size a.device.failures a.device.goes_on a.out.contents a.err.contents a.out_calls a.err_calls i more 0 h h d b silent may now last, large, needs)

    paused_before : (p : Pause) (h h' : HostFed) (c d : Configuration) → h'.input.failed ≡ false → Paused HostFed OverFed i p h c h' d → (h.input.failed ≡ false) × (h'.input.reader.ended ≡ h.input.reader.ended)
    paused_before (Called call e) h h' c d now (b, run, last) =
        wholes.step_before a.device.honest a.device.disk a.device.size a.device.failures a.device.goes_on a.out.contents a.err.contents a.out_calls a.err_calls i 0 h h' b d (answers call e) now last
    paused_before Spent h h' c d now (run, same, next) = before h h' c d [] now run
    paused_before (Ended o) h h' c d now (run, so) = before h h' c d [] now run

    paused_whole : (more : List ℕ) (p : Pause) (h h' : HostFed) (c d : Configuration) → MayCome more h.input.reader → h'.input.failed ≡ false → Paused HostFed OverFed i p h c h' d
        → Paused HostWhole OverWhole i p (whole_host more h) c (whole_host more h') d
    paused_whole more (Called call e) h h' c d may now (b, run, last) =
        let was = (paused_before (Called call e) h h' c d now (b, run, last)).0 in (
          b,
          run_whole more h h c b [] may was run,
          wholes.step_whole a.device.honest a.device.disk a.device.size a.device.failures a.device.goes_on a.out.contents a.err.contents a.out_calls a.err_calls i more 0 h h' b d (answers call e) may now last,
        )
    paused_whole more Spent h h' c d may now (run, same, next) = (run_whole more h h' c d [] may now run, ap (λ z. whole_host more z) same, next)
    paused_whole more (Ended o) h h' c d may now (run, so) =
        let same = (before h h' c d [] now run).1 in
        (run_whole more h h' c d [] may now run, ended_whole more o h' d (λ e. may (sym same ∙ e)) now so)

  -- ---- acts

  module _ (Stands : StandsFor) (m : Module) where
    -- the machine stands for some configuration
    abbrev Standing : Snapshot → Type 0
    Standing s = (i : Instance) × (c : Configuration) × Stands s i c

    -- so it does after an act
    stood : (h h' : HostFed) (s t : Snapshot) (k : Act) → Standing s → Handled Stands HostFed OverFed m h s k h' t → Standing t
    stood h _ s t _ (i, c, is) (handling.invokes x args name exported v) = (i, _, v.run i c is)
    stood h _ s t _ (i, c, is) (handling.writes memory long v) = (i, _, v.run i c is)
    stood h _ s t _ (i, c, is) (handling.lets_go v) = (i, _, v.run i c is)
    stood h h' s t _ (i, c, is) (handling.pauses units p v) = let (d, now, rest) = v.run i c is in (i, d, now)
    stood h h' s t _ (i, c, is) (handling.has_returned units v) = let k = v.run i c is in (i, k.0, k.1)
    stood h h' s t _ (i, c, is) (handling.asks units x v) = let k = v.run i c is in (i, k.0, k.1)
    stood h _ s t _ (i, c, is) (handling.answers results v) = let (d, now, rest) = v.run i c is in (i, d, now)

    -- what isn't marked as failed wasn't before
    handled_before : (h h' : HostFed) (s t : Snapshot) (k : Act) → Standing s → h'.input.failed ≡ false → Handled Stands HostFed OverFed m h s k h' t
        → (h.input.failed ≡ false) × (h'.input.reader.ended ≡ h.input.reader.ended)
    handled_before h _ s t _ w now (handling.invokes x args name exported v) = (now, refl)
    handled_before h _ s t _ w now (handling.writes memory long v) = (now, refl)
    handled_before h _ s t _ w now (handling.lets_go v) = (now, refl)
    handled_before h h' s t _ (i, c, is) now (handling.pauses units p v) = let (d, st, paused) = v.run i c is in paused_before i p h h' c d now paused
    handled_before h h' s t _ w now (handling.has_returned units v) = (ap (λ z. z.input.failed) (sym v.host) ∙ now, ap (λ z. z.input.reader.ended) v.host)
    handled_before h h' s t _ w now (handling.asks units x v) = (ap (λ z. z.input.failed) (sym v.host) ∙ now, ap (λ z. z.input.reader.ended) v.host)
    handled_before h _ s t _ w now (handling.answers results v) = (now, refl)

    -- the same act, with all of the input
    handled_whole : (more : List ℕ) (h h' : HostFed) (s t : Snapshot) (k : Act) → MayCome more h.input.reader → h'.input.failed ≡ false → Handled Stands HostFed OverFed m h s k h' t
        → Handled Stands HostWhole OverWhole m (whole_host more h) s k (whole_host more h') t
    handled_whole more h _ s t _ may now (handling.invokes x args name exported v) = handling.invokes x args name exported v
    handled_whole more h _ s t _ may now (handling.writes memory long v) = handling.writes memory long v
    handled_whole more h _ s t _ may now (handling.lets_go v) = handling.lets_go v
    handled_whole more h h' s t _ may now (handling.pauses units p v) = handling.pauses units p record {
      module_is = v.module_is;
      most_values = v.most_values;
      units_rise = v.units_rise;
      run = λ i c is.
          let (d, st, paused) = v.run i c is in
          (d, st, paused_whole i more p h h' c d may now paused);
    }
    handled_whole more h h' s t _ may now (handling.has_returned units v) = handling.has_returned units record {
      module_is = v.module_is;
      most_values = v.most_values;
      host = ap (λ z. whole_host more z) v.host;
      units_rise = v.units_rise;
      runs = v.runs;
      run = λ i c is.
          let k = v.run i c is in
          (k.0, k.1, run_whole i more h h c k.0 [] may (ap (λ z. z.input.failed) (sym v.host) ∙ now) k.2, k.3, k.4, k.5, k.6, k.7);
    }
    handled_whole more h h' s t _ may now (handling.asks units x v) = handling.asks units x record {
      module_is = v.module_is;
      most_values = v.most_values;
      host = ap (λ z. whole_host more z) v.host;
      units_rise = v.units_rise;
      left = v.left;
      runs = v.runs;
      run = λ i c is.
          let k = v.run i c is in
          (k.0, k.1, run_whole i more h h c k.0 [] may (ap (λ z. z.input.failed) (sym v.host) ∙ now) k.2, k.3, k.4, k.5, k.6);
    }
    handled_whole more h _ s t _ may now (handling.answers results v) = handling.answers results v

  -- ---- one after another

  -- the whole of what was just fed
  fed_whole : (more bytes rest : List ℕ) (s t : InstanceState D Fed W1 W2) → t ≡ with_input s (fed bytes s.host.input.reader)
      → whole_state (more ++ rest) t ≡ whole_state ((bytes ++ more) ++ rest) s
  fed_whole more bytes rest s t is =
      let f = s.host.input.reader.bytes in
      let e : (f ++ bytes) ++ (more ++ rest) ≡ f ++ ((bytes ++ more) ++ rest) = append_assoc f bytes (more ++ rest) ∙ ap (λ z. f ++ z) (sym (append_assoc bytes more rest)) in
      ap (λ z. whole_state (more ++ rest) z) is ∙ ap (λ z. let whole = whole_state [] s in record whole { host = record whole.host { input = record whole.host.input { reader = z } } }) e

  module _ (Stands : StandsFor) where
    follows : (rs : List (Doing × InstanceState D Fed W1 W2)) (s s' : InstanceState D Fed W1 W2) (rest : List ℕ) → Standing Stands s.machine.valid s.machine → FollowFed Stands a s rs s'
        → s'.host.input.failed ≡ false → MayCome rest s'.host.input.reader
        → (s.host.input.failed ≡ false) × MayCome (fed_in rs ++ rest) s.host.input.reader
        × FollowBy Stands (whole_devices a) (whole_state (fed_in rs ++ rest) s) (acts_in rest rs) (whole_state rest s')
    follows [] s s' rest w same now may = (
      ap (λ z. z.host.input.failed) (sym same) ∙ now,
      λ e. may (ap (λ z. z.host.input.reader.ended) same ∙ e),
      ap (λ z. whole_state rest z) same,
    )
    follows ((acted k, t) ∷ rs) s s' rest w (d, later) now may =
        let (failed, comes, so) = follows rs t s' rest (stood Stands s.machine.valid s.host t.host s.machine t.machine k w d.handled) later now may in
        let (was, same) = handled_before Stands s.machine.valid s.host t.host s.machine t.machine k w failed d.handled in
        let before : MayCome (fed_in rs ++ rest) s.host.input.reader = λ e. comes (same ∙ e) in (
          was,
          before,
          (record { may = d.may; handled = handled_whole Stands s.machine.valid (fed_in rs ++ rest) s.host t.host s.machine t.machine k before failed d.handled; stage = d.stage }, so),
        )
    follows ((was_fed bytes, t) ∷ rs) s s' rest w (d, later) now may =
        let there = subst (λ (z : InstanceState D Fed W1 W2). Standing Stands z.machine.valid z.machine) (sym d.is) w in
        let (failed, comes, so) = follows rs t s' rest there later now may in (
          ap (λ z. z.host.input.failed) (sym d.is) ∙ failed,
          λ e. absurd (true≢false (sym e ∙ d.goes_on)),
          subst (λ (z : InstanceState D (List ℕ) W1 W2). FollowBy Stands (whole_devices a) z (acts_in rest rs) (whole_state rest s')) (fed_whole (fed_in rs) bytes rest s t d.is) so,
        )
    follows ((input_ended, t) ∷ rs) s s' rest w (d, later) now may =
        let there = subst (λ (z : InstanceState D Fed W1 W2). Standing Stands z.machine.valid z.machine) (sym d) w in
        let (failed, comes, so) = follows rs t s' rest there later now may in (
          ap (λ z. z.host.input.failed) (sym d) ∙ failed,
          λ e. comes (ap (λ z. z.host.input.reader.ended) d),
          subst (λ (z : InstanceState D (List ℕ) W1 W2). FollowBy Stands (whole_devices a) z (acts_in rest rs) (whole_state rest s')) (ap (λ z. whole_state (fed_in rs ++ rest) z) d) so,
        )

    pub fed_headline : ((d : D) (t : ℕ) (image : Image) → a.device.honest d → t ≤ (a.device.disk d).operation_count → (a.device.disk d).may_leave image → (a.device.disk d).left_since t image)
        → ((d : D) (image : Image) → a.device.honest d → (a.device.disk d).left_since (a.device.disk d).operation_count image → (a.device.disk d).may_leave image)
        → TellsStores Stands → FedHeadline Stands a
    fed_headline now only tells seed terminals m parts trees from s s' rs rest opens shares is safe follow failed may =
        let more = fed_in rs ++ rest in
        let (was, comes, so) = follows rs s s' rest (opens.opens.instance, _, opens.opens.stands) follow failed may in
        headline Stands (whole_devices a) now only tells seed terminals m (whole_parts more parts) trees from (whole_state more s) (whole_state rest s') (acts_in rest rs)
        (record {
          fits = opens.fits;
          opens = opens.opens;
          input = ap (λ z. record { reader = z.reader.bytes ++ more; failed = z.failed; ended = z.ended }) opens.input;
          out = opens.out;
          err = opens.err;
          settings = opens.settings;
          supply = opens.supply;
          interactive = opens.interactive;
          stage = opens.stage;
        })
        (record { is_tree = shares.is_tree; reads = shares.reads; preopens = shares.preopens }) is safe so
