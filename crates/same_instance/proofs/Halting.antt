-- Where an instance halts: from one configuration silent steps lead to one halt alone.
use Rattle.std.proofs.Common.{◌≡◌, ℕ, suc, ◌+◌, ◌≤◌, Bool, false, List, [], ◌++◌, Option, Some, slice_get, refl, sym, ◌∙◌, ap, subst, inl, inr, arith}
use Rattle.std.proofs.lemmas.Option.{same_Some}
use Rattle.wasm_syntax.specs.Nested.{done}
use Rattle.wasm_syntax.specs.Nested as nested
use Rattle.wasm_syntax.specs.declared.module.FuncType.{FuncType}
use Rattle.wasm_store.specs.declared.call.HostCall.{HostCall}
use Rattle.wasm_store.specs.declared.call.Errno.{Errno}
use Rattle.wasm_store.specs.Instances.{Callee, Function, imported, own, outside}
use Rattle.wasm_steps.specs.declared.pause.Outcome.TheVariants.{Exited, Trapped, OutOfFuel, OutOfMemory}
use Rattle.wasm_steps.specs.declared.pause.Pause.TheVariants.{Called, Spent, Ended}
use Rattle.wasm_steps.specs.Configuration.{Val, numbers, Instance, Store, Code, code, label, frame, stopped, trapped, exited, Configuration, at, code_of, store_of, used_by, NextIsPlain}
use Rattle.wasm_steps.specs.Steps.{AdminStep, exhausted, leaves_label, leaves_frame, stops_label, stops_frame, CallsOf, Event, silent, answers, Step, plain_step, free_step, host_answers, host_exits, in_label, in_frame, seen, Reach, stays, tick}
use Rattle.wasm_steps.specs.Steps as steps
use Rattle.wasm_steps.proofs.Units.{rewrites}
use Rattle.plugin_steps.specs.Asking.{Asks}
use Rattle.plugin_steps.specs.Asking as asking
use Rattle.plugin_core.specs.Handling.{Act, abandoned, asked, paused, returned}
use Rattle.same_run.specs.Growth.{RefusesMemory, WasRefusedMemory}
use Rattle.same_run.specs.Failures.{FailuresStay}
use Rattle.same_run.proofs.Moving.{AnswersAlike, next_alike}
use Rattle.same_run.proofs.Running.{IsDone, rises_by_one, run_rises, runs_alike, reach_sound, step_not_done, step_sound, takes_its_unit}
use Rattle.same_instance.specs.Turns.{HaltsAs, IsRefusal, TakesUnits}

-- ---- the embedder is awaited

module _ (i : Instance) where
  -- a function of the embedder is to be entered
  abbrev pub Awaits : Code → Type 0
  Awaits (code vs (nested.invoke x rest)) = (f : FuncType) × (k : ℕ) × (slice_get i.callees x ≡ Some (outside f k))
  Awaits (label vs m k inner rest) = Awaits inner
  Awaits (frame vs m g inner rest) = Awaits inner
  Awaits other = ⊥

  not_plain : (c : Code) → Awaits c → NextIsPlain c → ⊥
  not_plain (code vs (nested.invoke x rest)) w p = p
  not_plain (label vs m k inner rest) w p = not_plain inner w p
  not_plain (frame vs m g inner rest) w p = not_plain inner w p
  not_plain other w p = w

  not_done : (c : Code) → Awaits c → IsDone c → ⊥
  not_done (code vs (nested.invoke x rest)) w e = e
  not_done (label vs m k inner rest) w e = e
  not_done (frame vs m g inner rest) w e = e
  not_done other w e = w

  no_import : (o : Option Callee) (f g : FuncType) (call : HostCall) (k : ℕ) → o ≡ Some (imported f call) → o ≡ Some (outside g k) → ⊥
  no_import o f g call k one other = cc

  no_own : (o : Option Callee) (f g : FuncType) (b : Function) (k : ℕ) → o ≡ Some (own f b) → o ≡ Some (outside g k) → ⊥
  no_own o f g b k one other = cc

  free_not_awaiting : {n : ℕ} {c c' : Code} → AdminStep i n c c' → Awaits c → ⊥
  free_not_awaiting (steps.invokes args callee few is count) w = no_own _ _ _ _ _ callee w.2
  free_not_awaiting (exhausted callee full) w = no_own _ _ _ _ _ callee w.2
  free_not_awaiting leaves_label w = w
  free_not_awaiting leaves_frame w = w
  free_not_awaiting stops_label w = w
  free_not_awaiting stops_frame w = w

  not_asking : (x : ℕ) (s : Store) (c c' : Code) → Asks i x s c c' → Awaits c → ⊥
  not_asking x s _ _ asking.by_call w = w
  not_asking x s _ _ (asking.by_table element callee same) w = w
  not_asking x s _ _ (asking.in_label {c = c} {c' = c'} a) w = not_asking x s c c' a w
  not_asking x s _ _ (asking.in_frame {c = c} {c' = c'} a) w = not_asking x s c c' a w

  -- what is asked for is awaited next
  asks_awaits : (x : ℕ) (s : Store) (c c' : Code) (f : FuncType) (k : ℕ) → Asks i x s c c' → slice_get i.callees x ≡ Some (outside f k) → Awaits c'
  asks_awaits x s _ _ f k asking.by_call is = (f, k, is)
  asks_awaits x s _ _ f k (asking.by_table element callee same) is = (f, k, is)
  asks_awaits x s _ _ f k (asking.in_label {c = c} {c' = c'} a) is = asks_awaits x s c c' f k a is
  asks_awaits x s _ _ f k (asking.in_frame {c = c} {c' = c'} a) is = asks_awaits x s c c' f k a is

  asks_plain : (x : ℕ) (s : Store) (c c' : Code) → Asks i x s c c' → NextIsPlain c
  asks_plain x s _ _ asking.by_call = tt
  asks_plain x s _ _ (asking.by_table element callee same) = tt
  asks_plain x s _ _ (asking.in_label {c = c} {c' = c'} a) = asks_plain x s c c' a
  asks_plain x s _ _ (asking.in_frame {c = c} {c' = c'} a) = asks_plain x s c c' a

  pub asks_once : (x y : ℕ) (s : Store) (c a b : Code) → Asks i x s c a → Asks i y s c b → (x ≡ y) × (a ≡ b)
  asks_once x y s _ _ _ asking.by_call asking.by_call = (refl, refl)
  asks_once x y s _ _ _ (asking.by_table {vs = vs} {rest = rest} element callee same) (asking.by_table again other also) =
      let one : x ≡ y = same_Some x y (same_Some (Some x) (Some y) (sym element ∙ again)) in
      (one, λ k. code vs (nested.invoke (one k) rest))
  asks_once x y s _ _ _ (asking.in_label {m = m} {vs = vs} {k = k} {rest = rest} {c = c} {c' = a} one) (asking.in_label {c' = b} other) =
      let inner = asks_once x y s c a b one other in
      (inner.0, ap (λ (z : Code). label vs m k z rest) inner.1)
  asks_once x y s _ _ _ (asking.in_frame {m = m} {g = g} {vs = vs} {rest = rest} {c = c} {c' = a} one) (asking.in_frame {c' = b} other) =
      let inner = asks_once x y s c a b one other in
      (inner.0, ap (λ (z : Code). frame vs m g z rest) inner.1)

module _ (H : Type 0) (Calls : CallsOf H) (i : Instance) where
  step_not_awaiting : {n : ℕ} {h h' : H} {c d : Configuration} {ev : Event} → Step H Calls i n h c ev h' d → Awaits i (code_of c) → ⊥
  step_not_awaiting (plain_step {c = c} rule) w = not_plain i c w (rewrites rule).0
  step_not_awaiting (free_step rule) w = free_not_awaiting i rule w
  step_not_awaiting (host_answers args vs callee is count call) w = no_import i _ _ _ _ _ callee w.2
  step_not_awaiting (host_exits args vs callee is count call) w = no_import i _ _ _ _ _ callee w.2
  step_not_awaiting (in_label step) w = step_not_awaiting step w
  step_not_awaiting (in_frame step) w = step_not_awaiting step w

  asks_steps : (x : ℕ) (h : H) (s : Store) (n : ℕ) (f : List Val) (c c' : Code) → Asks i x s c c' → Step H Calls i n h (at s f c) silent h (at (tick s) f c')
  asks_steps x h s n f _ _ asking.by_call = plain_step steps.call_step
  asks_steps x h s n f _ _ (asking.by_table element callee same) = plain_step (steps.call_indirect_step element callee same)
  asks_steps x h s n f _ _ (asking.in_label {c = c} {c' = c'} a) = in_label (asks_steps x h s n f c c' a)
  asks_steps x h s n f _ _ (asking.in_frame {g = g} {c = c} {c' = c'} a) = in_frame (asks_steps x h s (suc n) g c c' a)

  asks_refuses_not : (x : ℕ) (h : H) (s : Store) (n : ℕ) (f : List Val) (c c' : Code) → (a : Asks i x s c c') → RefusesMemory (asks_steps x h s n f c c' a) → ⊥
  unfolding asks_steps
  asks_refuses_not x h s n f _ _ asking.by_call r = r
  asks_refuses_not x h s n f _ _ (asking.by_table element callee same) r = r
  asks_refuses_not x h s n f _ _ (asking.in_label {c = c} {c' = c'} a) r = asks_refuses_not x h s n f c c' a r
  asks_refuses_not x h s n f _ _ (asking.in_frame {g = g} {c = c} {c' = c'} a) r = asks_refuses_not x h s (suc n) g c c' a r

  -- ---- a call that the host answers

  abbrev IsAnswer : Event → Type 0
  IsAnswer silent = ⊥
  IsAnswer (answers call e) = Unit {0}

  answer_not_plain : {n : ℕ} {h h' : H} {c d : Configuration} {ev : Event} → Step H Calls i n h c ev h' d → IsAnswer ev → NextIsPlain (code_of c) → ⊥
  answer_not_plain (plain_step rule) a p = a
  answer_not_plain (free_step rule) a p = a
  answer_not_plain (host_answers args vs callee is count call) a p = p
  answer_not_plain (host_exits args vs callee is count call) a p = p
  answer_not_plain (in_label step) a p = answer_not_plain step a p
  answer_not_plain (in_frame step) a p = answer_not_plain step a p

  answer_refuses_not : {n : ℕ} {h h' : H} {c d : Configuration} {ev : Event} → (step : Step H Calls i n h c ev h' d) → IsAnswer ev → RefusesMemory step → ⊥
  answer_refuses_not (plain_step rule) a r = a
  answer_refuses_not (free_step rule) a r = r
  answer_refuses_not (host_answers args vs callee is count call) a r = r
  answer_refuses_not (host_exits args vs callee is count call) a r = r
  answer_refuses_not (in_label step) a r = answer_refuses_not step a r
  answer_refuses_not (in_frame step) a r = answer_refuses_not step a r

  -- a silent run is no run with an answer
  silent_seen : (ev : Event) (es : List (HostCall × Errno)) → seen ev es ≡ [] → IsAnswer ev → ⊥
  silent_seen silent es same a = a
  silent_seen (answers call e) es same a = cc

  -- ---- the kinds of halts

  -- what is told where nothing is left to do
  abbrev told_at : Code → Act
  told_at (stopped (exited n)) = paused (Ended (Exited n))
  told_at (stopped (trapped t)) = paused (Ended (Trapped t))
  told_at (code vs done) = returned (numbers vs)
  told_at other = abandoned

  data Kind : Act → H → Configuration → H → Configuration → Type 0 where
    calls : {g h' : H} {b d : Configuration} (call : HostCall) (e : Errno) → Step H Calls i 0 g b (answers call e) h' d → Kind (paused (Called call e)) g b h' d
    spends : {g : H} {b : Configuration} → NextIsPlain (code_of b) → Kind (paused Spent) g b g b
    is_over : {g : H} {b : Configuration} (k : Act) → IsDone (code_of b) → k ≡ told_at (code_of b) → Kind k g b g b
    asks : {g : H} {b : Configuration} (x : ℕ) (later : Code) → Asks i x (store_of b) (code_of b) later → Awaits i later → Kind (asked x) g b g b

  still : (k : Act) (g h' : H) (b d : Configuration) → h' ≡ g → d ≡ b → Kind k g b g b → Kind k g b h' d
  still k g h' b d same is kind = subst (λ (x : H). Kind k g b x d) (sym same) (subst (λ (x : Configuration). Kind k g b g x) (sym is) kind)

  over_at : (k : Act) (g : H) (b : Configuration) (c : Code) → code_of b ≡ c → IsDone c → k ≡ told_at c → Kind k g b g b
  over_at k g b c is over told = is_over k (subst IsDone (sym is) over) (told ∙ ap told_at (sym is))

  kind_of : (k : Act) (g h' : H) (b d : Configuration) → HaltsAs H Calls i k g b h' d → (IsRefusal k → ⊥) → Kind k g b h' d
  kind_of (paused (Called call e)) g h' b d step fine = calls call e step
  kind_of (paused Spent) g h' b d (same, is, plain) fine = still (paused Spent) g h' b d same is (spends plain)
  kind_of (paused (Ended (Exited n))) g h' b d (same, is, end) fine = still (paused (Ended (Exited n))) g h' b d same is (over_at (paused (Ended (Exited n))) g b (stopped (exited n)) end tt refl)
  kind_of (paused (Ended (Trapped t))) g h' b d (same, is, end) fine = still (paused (Ended (Trapped t))) g h' b d same is (over_at (paused (Ended (Trapped t))) g b (stopped (trapped t)) end tt refl)
  kind_of (paused (Ended OutOfFuel)) g h' b d (same, is, end) fine = absurd end
  kind_of (paused (Ended OutOfMemory)) g h' b d halts fine = absurd (fine tt)
  kind_of (returned ns) g h' b d (same, is, (vs, end, told)) fine = still (returned ns) g h' b d same is (over_at (returned ns) g b (code vs done) end tt (ap (λ (x : List ℕ). returned x) (sym told)))
  kind_of (asked x) g h' b d (same, is, (k, (f, callee), later, a)) fine = still (asked x) g h' b d same is (asks x later a (asks_awaits i x (store_of b) (code_of b) later f k a callee))
  kind_of k g h' b d (same, is, told) fine = absurd told

  takes_within : (k : Act) (units before after : ℕ) → TakesUnits k units before after → after ≤ before + units
  takes_within (paused Spent) units before after is = omega (arith, is)
  takes_within (paused (Called call e)) units before after within = within.1
  takes_within (paused (Ended o)) units before after within = within.1
  takes_within (asked x) units before after less = omega (arith, less)
  takes_within k units before after within = within

  -- the units of the silent steps are among those taken
  silent_within : (k : Act) (g h' : H) (b d : Configuration) → Kind k g b h' d → used_by b ≤ used_by d
  silent_within k g h' b d (calls call e step) = run_rises H Calls i (steps.goes (answers call e) [] step stays)
  silent_within k g h' b d (spends plain) = omega arith
  silent_within k g h' b d (is_over _ over told) = omega arith
  silent_within k g h' b d (asks x later a w) = omega arith

  halt_sound : (failed : H → Bool) → FailuresStay H Calls failed → (k : Act) (g h' : H) (b d : Configuration) → Kind k g b h' d → failed h' ≡ false → failed g ≡ false
  halt_sound failed stay k g h' b d (calls call e step) sound = step_sound H Calls i failed stay step sound
  halt_sound failed stay k g h' b d (spends plain) sound = sound
  halt_sound failed stay k g h' b d (is_over _ over told) sound = sound
  halt_sound failed stay k g h' b d (asks x later a w) sound = sound

  pub halts_sound : (failed : H → Bool) → FailuresStay H Calls failed → (k : Act) (g h' : H) (b d : Configuration) → HaltsAs H Calls i k g b h' d → (IsRefusal k → ⊥) → failed h' ≡ false → failed g ≡ false
  halts_sound failed stay k g h' b d halts fine sound = halt_sound failed stay k g h' b d (kind_of k g h' b d halts fine) sound

  -- ---- one halt

  module _ (Same : H → H → Type 0) (turned : (g h : H) → Same g h → Same h g) (failed : H → Bool) (alike : AnswersAlike H Calls i Same failed) (stay : FailuresStay H Calls failed) where
    -- nothing halts where the embedder is awaited
    no_halt : (k : Act) (g h' : H) (b d : Configuration) → Kind k g b h' d → Awaits i (code_of b) → ⊥
    no_halt k g h' b d (calls call e step) w = step_not_awaiting step w
    no_halt k g h' b d (spends plain) w = not_plain i (code_of b) w plain
    no_halt k g h' b d (is_over _ over told) w = not_done i (code_of b) w over
    no_halt k g h' b d (asks x later a _) w = not_asking i x (store_of b) (code_of b) later a w

    -- from where the embedder is awaited no run leads to a halt
    no_way : (x g h' : H) (c b d : Configuration) (es : List (HostCall × Errno)) (k : Act) → Reach H Calls i x c es g b → Awaits i (code_of c) → Kind k g b h' d → ⊥
    no_way x g h' c b d es k stays w kind = no_halt k g h' c d kind w
    no_way x g h' c b d es k (steps.goes ev fs step rest) w kind = step_not_awaiting step w

    -- from a halt no further silent steps lead to another
    no_further : (k1 k2 : Act) (g1 g2 x h1 h2 : H) (b1 b2 d1 d2 : Configuration) (u units : ℕ) (more : List (HostCall × Errno)) → Kind k1 g1 b1 h1 d1 → Kind k2 g2 b2 h2 d2
        → TakesUnits k1 units u (used_by d1) → TakesUnits k2 units u (used_by d2) → Same g1 x → failed h1 ≡ false → failed h2 ≡ false → more ≡ []
        → (run : Reach H Calls i x b1 more g2 b2) → (WasRefusedMemory run → ⊥) → (x ≡ g2) × (b1 ≡ b2)
    no_further k1 k2 g1 g2 x h1 h2 b1 b2 d1 d2 u units more one other takes1 takes2 same sound1 sound2 none stays given = (refl, refl)
    no_further k1 k2 g1 g2 x h1 h2 b1 b2 d1 d2 u units more (calls call e answer) other takes1 takes2 same sound1 sound2 none (steps.goes {h' = y} {c' = c} ev es step rest) given =
        let sound : failed y ≡ false = reach_sound H Calls i failed stay rest (halt_sound failed stay k2 g2 h2 b2 d2 other sound2) in
        let both = next_alike H Calls i Same failed alike 0 g1 x h1 y b1 b1 d1 c (answers call e) ev same refl answer step (answer_refuses_not answer tt) (λ r. given (inl r)) sound1 sound in
        absurd (silent_seen ev es none (subst IsAnswer both.0 tt))
    no_further k1 k2 g1 g2 x h1 h2 b1 b2 d1 d2 u units more (spends plain) other takes1 takes2 same sound1 sound2 none (steps.goes {c' = c} ev es step rest) given =
        let up = rises_by_one H Calls i b1 c (takes_its_unit H Calls i step) plain in
        let later = run_rises H Calls i rest in
        let last = silent_within k2 g2 h2 b2 d2 other in
        let within = takes_within k2 units u (used_by d2) takes2 in
        absurd (omega (arith, up, later, last, within, takes1))
    no_further k1 k2 g1 g2 x h1 h2 b1 b2 d1 d2 u units more (is_over _ over told) other takes1 takes2 same sound1 sound2 none (steps.goes ev es step rest) given =
        absurd (step_not_done H Calls i step over)
    no_further k1 k2 g1 g2 x h1 h2 (at s f b) b2 d1 d2 u units more (asks n later a w) other takes1 takes2 same sound1 sound2 none (steps.goes {h' = y} {c' = c} ev es step rest) given =
        let sound : failed y ≡ false = reach_sound H Calls i failed stay rest (halt_sound failed stay k2 g2 h2 b2 d2 other sound2) in
        let both = next_alike H Calls i Same failed alike 0 g1 x g1 y (at s f b) (at s f b) (at (tick s) f later) c silent ev same refl (asks_steps n g1 s 0 f b later a) step
        (asks_refuses_not n g1 s 0 f b later a) (λ r. given (inl r)) sound1 sound in
        absurd (no_way y g2 h2 c b2 d2 es k2 rest (subst (λ (z : Configuration). Awaits i (code_of z)) both.2 w) other)

    -- what is told at one configuration is the same
    plain_not_done : (c : Code) → NextIsPlain c → IsDone c → ⊥
    plain_not_done (code vs done) p e = p
    plain_not_done (stopped w) p e = p
    plain_not_done other p e = e

    abbrev pub One : Act → Act → H → H → Configuration → Configuration → Type 0
    One k1 k2 h1 h2 d1 d2 = (k1 ≡ k2) × Same h1 h2 × (d1 ≡ d2)

    same_call : (c1 c2 : HostCall) (e1 e2 : Errno) → answers c1 e1 ≡ answers c2 e2 → paused (Called c1 e1) ≡ paused (Called c2 e2)
    same_call c1 c2 e1 e2 same = cc

    one_halt : (k1 k2 : Act) (g1 g2 h1 h2 : H) (b d1 d2 : Configuration) (u units : ℕ) → Kind k1 g1 b h1 d1 → Kind k2 g2 b h2 d2
        → TakesUnits k1 units u (used_by d1) → TakesUnits k2 units u (used_by d2) → Same g1 g2 → failed h1 ≡ false → failed h2 ≡ false → One k1 k2 h1 h2 d1 d2
    one_halt k1 k2 g1 g2 h1 h2 b d1 d2 u units (calls c1 e1 step1) (calls c2 e2 step2) takes1 takes2 same sound1 sound2 =
        let both = next_alike H Calls i Same failed alike 0 g1 g2 h1 h2 b b d1 d2 (answers c1 e1) (answers c2 e2) same refl step1 step2 (answer_refuses_not step1 tt) (answer_refuses_not step2 tt) sound1 sound2 in
        (same_call c1 c2 e1 e2 both.0, both.1, both.2)
    one_halt k1 k2 g1 g2 h1 h2 b d1 d2 u units (calls c1 e1 step) (spends plain) takes1 takes2 same sound1 sound2 = absurd (answer_not_plain step tt plain)
    one_halt k1 k2 g1 g2 h1 h2 b d1 d2 u units (calls c1 e1 step) (is_over _ over told) takes1 takes2 same sound1 sound2 = absurd (step_not_done H Calls i step over)
    one_halt k1 k2 g1 g2 h1 h2 b d1 d2 u units (calls c1 e1 step) (asks x later a w) takes1 takes2 same sound1 sound2 = absurd (answer_not_plain step tt (asks_plain i x (store_of b) (code_of b) later a))
    one_halt k1 k2 g1 g2 h1 h2 b d1 d2 u units (spends plain) (calls c2 e2 step) takes1 takes2 same sound1 sound2 = absurd (answer_not_plain step tt plain)
    one_halt k1 k2 g1 g2 h1 h2 b d1 d2 u units (spends plain) (spends also) takes1 takes2 same sound1 sound2 = (refl, same, refl)
    one_halt k1 k2 g1 g2 h1 h2 b d1 d2 u units (spends plain) (is_over _ over told) takes1 takes2 same sound1 sound2 = absurd (plain_not_done (code_of b) plain over)
    one_halt k1 k2 g1 g2 h1 h2 b d1 d2 u units (spends plain) (asks x later a w) takes1 takes2 same sound1 sound2 = absurd (omega (arith, takes1, takes2))
    one_halt k1 k2 g1 g2 h1 h2 b d1 d2 u units (is_over _ over told) (calls c2 e2 step) takes1 takes2 same sound1 sound2 = absurd (step_not_done H Calls i step over)
    one_halt k1 k2 g1 g2 h1 h2 b d1 d2 u units (is_over _ over told) (spends plain) takes1 takes2 same sound1 sound2 = absurd (plain_not_done (code_of b) plain over)
    one_halt k1 k2 g1 g2 h1 h2 b d1 d2 u units (is_over _ over told) (is_over _ again also) takes1 takes2 same sound1 sound2 = (told ∙ sym also, same, refl)
    one_halt k1 k2 g1 g2 h1 h2 b d1 d2 u units (is_over _ over told) (asks x later a w) takes1 takes2 same sound1 sound2 = absurd (plain_not_done (code_of b) (asks_plain i x (store_of b) (code_of b) later a) over)
    one_halt k1 k2 g1 g2 h1 h2 b d1 d2 u units (asks x later a w) (calls c2 e2 step) takes1 takes2 same sound1 sound2 = absurd (answer_not_plain step tt (asks_plain i x (store_of b) (code_of b) later a))
    one_halt k1 k2 g1 g2 h1 h2 b d1 d2 u units (asks x later a w) (spends plain) takes1 takes2 same sound1 sound2 = absurd (omega (arith, takes1, takes2))
    one_halt k1 k2 g1 g2 h1 h2 b d1 d2 u units (asks x later a w) (is_over _ over told) takes1 takes2 same sound1 sound2 = absurd (plain_not_done (code_of b) (asks_plain i x (store_of b) (code_of b) later a) over)
    one_halt k1 k2 g1 g2 h1 h2 b d1 d2 u units (asks x later a w) (asks y later' a' w') takes1 takes2 same sound1 sound2 =
        (ap (λ (n : ℕ). asked n) (asks_once i x y (store_of b) (code_of b) later later' a a').0, same, refl)

    -- ---- two ways to a halt

    nil_of : (more : List (HostCall × Errno)) → [] ≡ [] ++ more → more ≡ []
    nil_of more is = sym is

    pub halts_alike : (k1 k2 : Act) (h g g1 g2 h1 h2 : H) (c b1 b2 d1 d2 : Configuration) (units : ℕ) → Same h g
        → (one : Reach H Calls i h c [] g1 b1) → (other : Reach H Calls i g c [] g2 b2) → (WasRefusedMemory one → ⊥) → (WasRefusedMemory other → ⊥)
        → HaltsAs H Calls i k1 g1 b1 h1 d1 → HaltsAs H Calls i k2 g2 b2 h2 d2 → (IsRefusal k1 → ⊥) → (IsRefusal k2 → ⊥)
        → TakesUnits k1 units (used_by c) (used_by d1) → TakesUnits k2 units (used_by c) (used_by d2) → failed h1 ≡ false → failed h2 ≡ false → One k1 k2 h1 h2 d1 d2
    halts_alike k1 k2 h g g1 g2 h1 h2 c b1 b2 d1 d2 units same one other given1 given2 halts1 halts2 fine1 fine2 takes1 takes2 sound1 sound2 =
        let kind1 = kind_of k1 g1 h1 b1 d1 halts1 fine1 in
        let kind2 = kind_of k2 g2 h2 b2 d2 halts2 fine2 in
        elim (runs_alike H Calls i Same failed alike stay h g g1 g2 c c b1 b2 [] [] same refl one other given1 given2 (halt_sound failed stay k1 g1 h1 b1 d1 kind1 sound1) (halt_sound failed stay k2 g2 h2 b2 d2 kind2 sound2)) [
          | inl (more, x, there, is, run) ↦
              let none = no_further k1 k2 g1 g2 x h1 h2 b1 b2 d1 d2 (used_by c) units more kind1 kind2 takes1 takes2 there sound1 sound2 (nil_of more is) run.0 run.1 in
              one_halt k1 k2 g1 g2 h1 h2 b2 d1 d2 (used_by c) units (subst (λ (z : Configuration). Kind k1 g1 z h1 d1) none.1 kind1) kind2 takes1 takes2 (subst (λ (z : H). Same g1 z) none.0 there) sound1 sound2
          | inr (more, x, there, is, run) ↦
              let none = no_further k2 k1 g2 g1 x h2 h1 b2 b1 d2 d1 (used_by c) units more kind2 kind1 takes2 takes1 (turned x g2 there) sound2 sound1 (nil_of more is) run.0 run.1 in
              one_halt k1 k2 g1 g2 h1 h2 b1 d1 d2 (used_by c) units kind1 (subst (λ (z : Configuration). Kind k2 g2 z h2 d2) none.1 kind2) takes1 takes2 (subst (λ (z : H). Same z g2) none.0 there) sound1 sound2
        ]
