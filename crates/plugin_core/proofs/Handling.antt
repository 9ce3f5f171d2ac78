-- From what is done with the machine of an instance to its life.
use Rattle.std.proofs.Common.{◌≡◌, ℕ, ◌≤◌, Bool, true, false, List, [], ◌∷◌, length, reverse, refl, sym, ap, ◌∙◌, subst, arith, inl, inr}
use Rattle.std.specs.Prelude.{◌≢◌, slice_get, Contains}
use Rattle.std.specs.List.{AllByRecursion}
use Rattle.std.proofs.lemmas.List.{reverse-reverse}
use Rattle.wasm_syntax.specs.declared.module.ExportKind.TheVariants as exports
use Rattle.wasm_syntax.specs.declared.module.Module.{Module}
use Rattle.wasm_syntax.specs.Nested.{done}
use Rattle.wasm_store.specs.declared.call.HostCall.{HostCall}
use Rattle.wasm_store.specs.declared.call.Errno.{Errno}
use Rattle.wasm_store.specs.Values.{IsInType}
use Rattle.wasm_steps.specs.declared.pause.Outcome.{Outcome}
use Rattle.wasm_steps.specs.declared.pause.Outcome.TheVariants.{Exited, Trapped, OutOfFuel, OutOfMemory}
use Rattle.wasm_steps.specs.declared.pause.Pause.TheVariants.{Called, Spent, Ended}
use Rattle.wasm_steps.specs.Configuration.{Val, val, numbers, types, Instance, Store, Code, code, Configuration, at, store_of}
use Rattle.wasm_steps.specs.Steps.{CallsOf, answers as answered_by, Reach, stays, goes as steps_on, tick}
use Rattle.wasm_steps.specs.Outcomes.{EndsAs}
use Rattle.wasm_operands.specs.Snapshots.{Snapshot, StandsFor}
use Rattle.wasm_interp.specs.Invocations.{AnswersBy, InvokesBy, TellsStores, results_of, values_of}
use Rattle.wasm_operands.proofs.Anywhere.{reach_on}
use Rattle.wasm_operands.proofs.PlainSteps.Lists.{types-reverse}
use Rattle.wasm_interp.proofs.PlainSteps.Arguments.{types_given, numbers_given, given_in_range}
use Rattle.wasm_interp.proofs.PlainSteps.Answering.{in_types}
use Rattle.wasm_interp.proofs.PlainSteps.Invoking.{all_turned}
use Rattle.plugin_steps.specs.Serving.{Exchange, ServeStep, with_memory}
use Rattle.plugin_steps.specs.Embedding.{Does}
use Rattle.plugin_steps.specs.Embedding as embedding
use Rattle.plugin_steps.specs.Lives.{Ending, returns, traps, exits, is_abandoned, EndsWith, Writes, Invocation, invocation}
use Rattle.plugin_steps.specs.Deeds.{Deed, at_work, invocations}
use Rattle.plugin_steps.specs.Acting.{Enters, Acts}
use Rattle.plugin_steps.specs.Acting as acting
use Rattle.plugin_steps.specs.Asking as asking
use Rattle.plugin_steps.proofs.Asking.{answers_where_asked}
use Rattle.plugin_core.specs.declared.stage.Stage.{Stage}
use Rattle.plugin_core.specs.declared.stage.Stage.TheVariants.{Opening, AskedOpening, Ready, Running, Asked, Stopped, Over}
use Rattle.plugin_core.specs.Handling.{Act, AreTold, Asks, Goes, Handles, HandlingIsALife, IsEmbedders, IsOpen, IsWritable, MayDo, Rests, after, answered_at, asked_at, ended_at, let_go_at, returned_at}
use Rattle.plugin_core.specs.Handling as handling
use Rattle.plugin_core.specs.WholeLives.{MayGoOn, OnlyLastExits}
use Rattle.plugin_core.proofs.Deeds.{deeds_are_a_life}

-- a machine and one of the configurations that it stands for
record At : Type 0 where
  pub machine : Snapshot
  pub here : Configuration

abbrev Follows : StandsFor → At → Instance → Configuration → Type 0
Follows Stands t i d = (t.here ≡ d) × Stands t.machine i d

abbrev place : Snapshot → Configuration → At
place s c = record { machine = s; here = c }

-- ---- a memory and what is written of it

-- a call reads the table and no memory
asks_anywhere : (i : Instance) (x : ℕ) (s t : Store) (c d : Code) → s.table ≡ t.table → asking.Asks i x s c d → asking.Asks i x t c d
asks_anywhere i x s t _ _ same asking.by_call = asking.by_call
asks_anywhere i x s t _ _ same (asking.by_table {e = k} element callee typed) = asking.by_table (ap (λ table. slice_get table k) (sym same) ∙ element) callee typed
asks_anywhere i x s t _ _ same (asking.in_label {c = c} {c' = d} a) = asking.in_label (asks_anywhere i x s t c d same a)
asks_anywhere i x s t _ _ same (asking.in_frame {c = c} {c' = d} a) = asking.in_frame (asks_anywhere i x s t c d same a)

store_written : (memory : List ℕ) (c : Configuration) → store_of (with_memory memory c) ≡ record (store_of c) { memory = memory }
store_written memory (at s f c) = refl

memory_written : (memory : List ℕ) (c : Configuration) → (store_of (with_memory memory c)).memory ≡ memory
memory_written memory (at s f c) = refl

written_twice : (a b : List ℕ) (c : Configuration) → with_memory a (with_memory b c) ≡ with_memory a c
written_twice a b (at s f c) = refl

-- one of the other by memory alone
record IsRewritten (c d : Configuration) : Type 0 where
  pub is : d ≡ with_memory (store_of d).memory c
  pub size : length (store_of d).memory ≡ length (store_of c).memory

rewritten_none : (c : Configuration) → IsRewritten c c
rewritten_none (at s f c) = record { is = refl; size = refl }

rewritten_on : (c d : Configuration) (memory : List ℕ) → length memory ≡ length (store_of d).memory → IsRewritten c d → IsRewritten c (with_memory memory d)
rewritten_on c d memory long r =
    let same : with_memory memory d ≡ with_memory memory c = ap (with_memory memory) r.is ∙ written_twice memory (store_of d).memory c in
    let left : (store_of (with_memory memory d)).memory ≡ memory = memory_written memory d in
    record { is = same ∙ ap (λ (m : List ℕ). with_memory m c) (sym left); size = ap length left ∙ long ∙ r.size }

-- such writes, of a store whose globals are in range
writes_of : (c d : Configuration) → AllByRecursion IsInType (store_of c).globals → IsRewritten c d → Writes (store_of c) (store_of d)
writes_of c d globals r =
    let memory : List ℕ = (store_of d).memory in
    let is : store_of d ≡ record (store_of c) { memory = memory } = ap store_of r.is ∙ store_written memory c in
    subst (Writes (store_of c)) (sym is) (record { is = refl; memory = r.size; globals = refl; in_range = globals })

writes_on : (w v : Store) (memory : List ℕ) → length memory ≡ length v.memory → Writes w v → Writes w (record v { memory = memory })
writes_on w v memory long k = record { is = ap (λ (z : Store). record z { memory = memory }) k.is; memory = long ∙ k.memory; globals = k.globals; in_range = k.in_range }

-- ---- where an instance is, since the last deed

-- from the configuration where that ended to one that the machine stands for
abbrev Since : Stage → Configuration → Configuration → Type 0
Since Opening c d = d ≡ c
Since AskedOpening c d = IsRewritten c d
Since Ready c d = Writes (store_of c) (store_of d)
Since Stopped c d = Writes (store_of c) (store_of d)
Since Running c d = d ≡ c
Since Asked c d = IsRewritten c d
Since Over c d = Unit {0}

-- whether an invocation may be at work
abbrev IsAtWork : Stage → Bool → Type 0
IsAtWork Ready b = Unit {0}
IsAtWork Stopped b = Unit {0}
IsAtWork Over b = Unit {0}
IsAtWork g b = b ≡ true

at_work_always : (g : Stage) → IsAtWork g true
at_work_always Opening = refl
at_work_always AskedOpening = refl
at_work_always Ready = tt
at_work_always Stopped = tt
at_work_always Running = refl
at_work_always Asked = refl
at_work_always Over = tt

ended_rests : (g : Stage) (o : Outcome) → IsAtWork (ended_at g o) false
ended_rests Opening o = tt
ended_rests AskedOpening o = tt
ended_rests Ready o = tt
ended_rests Stopped o = tt
ended_rests Running (Exited n) = tt
ended_rests Running (Trapped t) = tt
ended_rests Running OutOfFuel = tt
ended_rests Running OutOfMemory = tt
ended_rests Asked o = tt
ended_rests Over o = tt

returned_rests : (g : Stage) (ns : List ℕ) → IsAtWork (returned_at g ns) false
returned_rests Opening [] = tt
returned_rests Opening (n ∷ ns) = tt
returned_rests AskedOpening [] = tt
returned_rests AskedOpening (n ∷ ns) = tt
returned_rests Ready [] = tt
returned_rests Ready (n ∷ ns) = tt
returned_rests Stopped [] = tt
returned_rests Stopped (n ∷ ns) = tt
returned_rests Running ns = tt
returned_rests Asked [] = tt
returned_rests Asked (n ∷ ns) = tt
returned_rests Over [] = tt
returned_rests Over (n ∷ ns) = tt

let_go_rests : (g : Stage) (b : Bool) → IsAtWork (let_go_at g) b
let_go_rests Opening b = tt
let_go_rests AskedOpening b = tt
let_go_rests Ready b = tt
let_go_rests Stopped b = tt
let_go_rests Running b = tt
let_go_rests Asked b = tt
let_go_rests Over b = tt

goes_at_work : (g : Stage) (b : Bool) → Goes g → IsAtWork g b → b ≡ true
goes_at_work Opening b goes w = w
goes_at_work Running b goes w = w
goes_at_work AskedOpening b goes w = absurd goes
goes_at_work Ready b goes w = absurd goes
goes_at_work Stopped b goes w = absurd goes
goes_at_work Asked b goes w = absurd goes
goes_at_work Over b goes w = absurd goes

asks_at_work : (g : Stage) (b : Bool) → Asks g → IsAtWork g b → b ≡ true
asks_at_work AskedOpening b asks w = w
asks_at_work Asked b asks w = w
asks_at_work Opening b asks w = absurd asks
asks_at_work Running b asks w = absurd asks
asks_at_work Ready b asks w = absurd asks
asks_at_work Stopped b asks w = absurd asks
asks_at_work Over b asks w = absurd asks

-- where a function is at work nothing was written
here_still : (g : Stage) (c d : Configuration) → Goes g → Since g c d → d ≡ c
here_still Opening c d goes k = k
here_still Running c d goes k = k
here_still AskedOpening c d goes k = absurd goes
here_still Ready c d goes k = absurd goes
here_still Stopped c d goes k = absurd goes
here_still Asked c d goes k = absurd goes
here_still Over c d goes k = absurd goes

asked_since : (g : Stage) (c d : Configuration) → Asks g → Since g c d → IsRewritten c d
asked_since AskedOpening c d asks k = k
asked_since Asked c d asks k = k
asked_since Opening c d asks k = absurd asks
asked_since Running c d asks k = absurd asks
asked_since Ready c d asks k = absurd asks
asked_since Stopped c d asks k = absurd asks
asked_since Over c d asks k = absurd asks

writes_since : (g : Stage) (c d : Configuration) → Rests g → Since g c d → Writes (store_of c) (store_of d)
writes_since Ready c d rests k = k
writes_since Stopped c d rests k = k
writes_since Opening c d rests k = absurd rests
writes_since AskedOpening c d rests k = absurd rests
writes_since Running c d rests k = absurd rests
writes_since Asked c d rests k = absurd rests
writes_since Over c d rests k = absurd rests

module _ (Stands : StandsFor) (tells : TellsStores Stands) (i : Instance) where
  nothing_written : (s : Snapshot) (c : Configuration) → Stands s i c → Writes (store_of c) (store_of c)
  nothing_written s c now = writes_of c c ((tells s i c now).1) (rewritten_none c)

  -- at the last deed
  settled : (g : Stage) (s : Snapshot) (c : Configuration) → Stands s i c → Since g c c
  settled Opening s c now = refl
  settled AskedOpening s c now = rewritten_none c
  settled Ready s c now = nothing_written s c now
  settled Stopped s c now = nothing_written s c now
  settled Running s c now = refl
  settled Asked s c now = rewritten_none c
  settled Over s c now = tt

  -- memory is written
  since_written : (g : Stage) (c d : Configuration) (memory : List ℕ) → IsWritable g → length memory ≡ length (store_of d).memory → Since g c d → Since g c (with_memory memory d)
  since_written AskedOpening c d memory may long k = rewritten_on c d memory long k
  since_written Asked c d memory may long k = rewritten_on c d memory long k
  since_written Ready c d memory may long k = subst (Writes (store_of c)) (sym (store_written memory d)) (writes_on (store_of c) (store_of d) memory long k)
  since_written Opening c d memory may long k = absurd may
  since_written Stopped c d memory may long k = absurd may
  since_written Running c d memory may long k = absurd may
  since_written Over c d memory may long k = absurd may

  -- what was at work is let go
  since_let_go : (g : Stage) (s : Snapshot) (c d : Configuration) → Stands s i c → IsOpen g → Since g c d → Since (let_go_at g) c (at (store_of d) [] (code [] done))
  since_let_go Opening s c d now may k = tt
  since_let_go AskedOpening s c d now may k = tt
  since_let_go Ready s c d now may k = k
  since_let_go Stopped s c d now may k = k
  since_let_go Running s c d now may k = subst (λ (z : Configuration). Writes (store_of c) (store_of z)) (sym k) (nothing_written s c now)
  since_let_go Asked s c d now may k = writes_of c d ((tells s i c now).1) k
  since_let_go Over s c d now may k = absurd may

module _ (Stands : StandsFor) (tells : TellsStores Stands) (H : Type 0) (Calls : CallsOf H) (m : Module) (i : Instance) where
  -- from one configuration to another
  moves : (h h' : H) (s t : Snapshot) (c d : Configuration) (es : List (HostCall × Errno)) (xs : List Exchange) → Stands t i d → Does H Calls i h c es xs h' d
      → (x : Configuration) → Follows Stands (place s c) i x → (y : Configuration) × Follows Stands (place t d) i y × Does H Calls i h x es xs h' y
  moves h h' s t c d es xs now does x f = (d, (refl, now), subst (λ (z : Configuration). Does H Calls i h z es xs h' d) f.0 does)

  -- and there it has ended so
  ends_there : (t : Snapshot) (d : Configuration) (e : Ending) → EndsWith e d → (x : Configuration) → Follows Stands (place t d) i x → EndsWith e x
  ends_there t d e so x f = subst (EndsWith e) f.0 so

  -- from the last deed on
  record Followed (b : Bool) (h : H) (q : Snapshot) (c : Configuration) (ks : List Act) (h' : H) : Type 0 where
    pub ds : List Deed
    pub told : AreTold i ks ds
    pub last : At
    pub stands : Stands last.machine i last.here
    pub acts : Acts H Calls m i (λ t d. Follows Stands t i d) b h (place q c) ds h' last

  -- ---- an exported function is entered

  enters : (q s t : Snapshot) (c d : Configuration) (x : ℕ) (args name : List ℕ) → Contains m.exports (record { name = name; kind = exports.Function x }) → (v : InvokesBy Stands s t x args) → Stands s i d → Writes (store_of c) (store_of d)
      → Enters H Calls m i (λ t d. Follows Stands t i d) (place q c) (place t (invocation (store_of d) (reverse (values_of v.func_type.params args)) x)) x (reverse (values_of v.func_type.params args))
  enters q s t c d x args name exported v now writes =
      let given : List Val = values_of v.func_type.params args in
      let e : Configuration = invocation (store_of d) (reverse given) x in
      let has = v.has_type i d now in
      record {
        func_type = v.func_type;
        exported = record { name = name; exported = exported; callee = has.0; is_callee = has.1; type_is = has.2 };
        typed = record {
          typed = ap reverse (types-reverse given) ∙ reverse-reverse (types given) ∙ types_given v.func_type.params args v.fit.count;
          in_range = in_types (reverse given) (all_turned given (given_in_range v.func_type.params args v.fit));
        };
        run = λ z f. subst (λ (y : Configuration). (w : Store) × Writes (store_of y) w × Follows Stands (place t e) i (invocation w (reverse given) x)) f.0 (store_of d, writes, (refl, v.run i d now));
      }

  -- ---- the embedder answers

  answered_there : (h : H) (s t : Snapshot) (c d : Configuration) (results : List ℕ) → IsRewritten c d → (a : AnswersBy Stands s t results) → Stands s i d
      → (n : Configuration) × Stands t i n × (e : Exchange) × IsEmbedders i a.function e.function × (numbers e.arguments ≡ a.arguments) × (numbers e.results ≡ results) × (e.left ≡ s.memory) × Does H Calls i h c [] (e ∷ []) h n
  answered_there h s t (at w f k) d results written a now =
      let memory : List ℕ = (store_of d).memory in
      let here : Stands s i (at (record w { memory = memory }) f k) = subst (Stands s i) written.is now in
      let n = a.run i (at (record w { memory = memory }) f k) here in
      let v = n.2 in
      let none : f ≡ [] = bare_locals (record w { memory = memory }) f k v.bare in
      let left : v.exchange.left ≡ memory = v.left in
      let size : length w.memory ≤ length memory = omega (arith, written.size) in (
        n.0,
        n.1,
        record v.exchange { memory = w.memory },
        (a.func_type, v.is_callee),
        v.arguments_are,
        ap numbers v.results_are ∙ numbers_given a.func_type.results results a.fit.count,
        left ∙ (tells s i d now).0,
        answers_where_asked H Calls i a.function h w f k v.asked memory v.exchange n.0 (asks_anywhere i a.function (record w { memory = memory }) w k v.asked refl v.asks) size left
            (subst (λ (z : List Val). ServeStep i (at (tick (record w { memory = memory })) z v.asked) v.exchange n.0) (sym none) v.serves),
      )
    where
      bare_locals : (w : Store) (f : List Val) (k : Code) → at w f k ≡ at w [] k → f ≡ []
      bare_locals w f k e = cc

  -- how an outcome ends an invocation
  told_end : (h : H) (o : Outcome) (d : Configuration) → EndsAs H Calls i o h d → (ks : List Act)
      → (e : Ending) × EndsWith e d × ((ds : List Deed) → AreTold i ks ds → AreTold i (handling.paused (Ended o) ∷ ks) (acting.went [] [] ∷ (acting.ended e ∷ ds)))
  told_end h (Exited n) (at s f d) (inl is) ks = (exits n, is, λ ds t. handling.exited n t)
  told_end h (Exited n) (at s f d) (inr (zero, is)) ks =
      (returns [], is, λ ds t. subst (λ (z : ℕ). AreTold i (handling.paused (Ended (Exited z)) ∷ ks) (acting.went [] [] ∷ (acting.ended (returns []) ∷ ds))) (sym zero) (handling.came_to_an_end t))
  told_end h (Trapped e) (at s f d) is ks = (traps e, is, λ ds t. handling.trapped e t)
  told_end h OutOfFuel d is ks = absurd is
  told_end h OutOfMemory d is ks = (is_abandoned, tt, λ ds t. handling.refused t)

  -- ---- call after call

  -- what is done next while a function is at work goes on from the last deed
  going : (b : Bool) (h h' h'' : H) (q t : Snapshot) (c e : Configuration) (es : List (HostCall × Errno)) (xs : List Exchange) (k : Act) (ks : List Act) → b ≡ true → Stands t i e → Does H Calls i h c es xs h' e
      → ((ds : List Deed) → AreTold i ks ds → AreTold i (k ∷ ks) (acting.went es xs ∷ ds)) → Followed true h' t e ks h'' → Followed b h q c (k ∷ ks) h''
  going b h h' h'' q t c e es xs k ks working now does told f = record {
    ds = acting.went es xs ∷ f.ds;
    told = told f.ds f.told;
    last = f.last;
    stands = f.stands;
    acts = subst (λ (z : Bool). Acts H Calls m i (λ t d. Follows Stands t i d) z h (place q c) (acting.went es xs ∷ f.ds) h'' f.last) (sym working) (acting.goes es xs (moves h h' q t c e es xs now does) f.acts);
  }

  -- and has ended
  ending : (b : Bool) (h h' h'' : H) (q t : Snapshot) (c e : Configuration) (so : Ending) (k : Act) (ks : List Act) → b ≡ true → Stands t i e → Does H Calls i h c [] [] h' e → EndsWith so e
      → ((ds : List Deed) → AreTold i ks ds → AreTold i (k ∷ ks) (acting.went [] [] ∷ (acting.ended so ∷ ds))) → Followed false h' t e ks h'' → Followed b h q c (k ∷ ks) h''
  ending b h h' h'' q t c e so k ks working now does ends told f = record {
    ds = acting.went [] [] ∷ (acting.ended so ∷ f.ds);
    told = told f.ds f.told;
    last = f.last;
    stands = f.stands;
    acts = subst (λ (z : Bool). Acts H Calls m i (λ t d. Follows Stands t i d) z h (place q c) (acting.went [] [] ∷ (acting.ended so ∷ f.ds)) h'' f.last) (sym working)
        (acting.goes [] [] (moves h h' q t c e [] [] now does) (acting.ends so (ends_there t e so ends) f.acts));
  }

  follow : (g : Stage) (b : Bool) (h h'' : H) (q s u : Snapshot) (c d : Configuration) (ks : List Act) → Handles Stands H Calls m g h s ks h'' u → Stands q i c → Stands s i d → Since g c d → IsAtWork g b → Followed b h q c ks h''
  follow g b h h'' q s u c d _ handling.stops base now since w = record { ds = []; told = handling.nothing; last = place q c; stands = base; acts = acting.stops }
  follow g b h h'' q s u c d _ (handling.does {t = t} {ks = ks} _ may (handling.invokes x args name exported v) rest) base now since w =
      let given : List Val = reverse (values_of v.func_type.params args) in
      let e : Configuration = invocation (store_of d) given x in
      let f = follow Running true h h'' t t u e e ks rest (v.run i d now) (v.run i d now) refl refl in
      record {
        ds = acting.invoked x given ∷ f.ds;
        told = handling.entered v.func_type.params x args f.told;
        last = f.last;
        stands = f.stands;
        acts = acting.invokes x given (enters q s t c d x args name exported v now (writes_since g c d may since)) f.acts;
      }
  follow g b h h'' q s u c d _ (handling.does {t = t} {ks = ks} _ may (handling.writes memory long written) rest) base now since w =
      let long_there : length memory ≡ length (store_of d).memory = long ∙ ap length (sym ((tells s i d now).0)) in
      let f = follow g b h h'' q t u c (with_memory memory d) ks rest base (written.run i d now) (since_written Stands tells i g c d memory may long_there since) w in
      record { ds = f.ds; told = handling.written memory f.told; last = f.last; stands = f.stands; acts = f.acts }
  follow g b h h'' q s u c d _ (handling.does {t = t} {ks = ks} _ may (handling.lets_go gone) rest) base now since w =
      let f = follow (let_go_at g) b h h'' q t u c (at (store_of d) [] (code [] done)) ks rest base (gone.run i d now) (since_let_go Stands tells i g q c d base may since) (let_go_rests g b) in
      record { ds = f.ds; told = handling.let_go f.told; last = f.last; stands = f.stands; acts = f.acts }
  follow g b h h'' q s u c d _ (handling.does {h' = h'} {t = t} {ks = ks} _ may (handling.pauses units (Called call e) v) rest) base now since w =
      let n = v.run i d now in
      let run : Reach H Calls i h d ((call, e) ∷ []) h' n.0 = reach_on H Calls i n.2.1 (steps_on (answered_by call e) [] n.2.2 stays) in
      let does : Does H Calls i h c ((call, e) ∷ []) [] h' n.0 = subst (λ (z : Configuration). Does H Calls i h z ((call, e) ∷ []) [] h' n.0) (here_still g c d may since) (embedding.resumes run embedding.stops) in
      going b h h' h'' q t c n.0 ((call, e) ∷ []) [] _ ks (goes_at_work g b may w) n.1 does (λ ds told. handling.called call e told)
      (follow g true h' h'' t t u n.0 n.0 ks rest n.1 n.1 (settled Stands tells i g t n.0 n.1) (at_work_always g))
  follow g b h h'' q s u c d _ (handling.does {h' = h'} {t = t} {ks = ks} _ may (handling.pauses units Spent v) rest) base now since w =
      let n = v.run i d now in
      let does : Does H Calls i h c [] [] h' n.0 = subst (λ (z : Configuration). Does H Calls i h z [] [] h' n.0) (here_still g c d may since) (embedding.resumes n.2.0 embedding.stops) in
      going b h h' h'' q t c n.0 [] [] _ ks (goes_at_work g b may w) n.1 does (λ ds told. handling.spent told)
      (follow g true h' h'' t t u n.0 n.0 ks rest n.1 n.1 (settled Stands tells i g t n.0 n.1) (at_work_always g))
  follow g b h h'' q s u c d _ (handling.does {h' = h'} {t = t} {ks = ks} _ may (handling.pauses units (Ended o) v) rest) base now since w =
      let n = v.run i d now in
      let does : Does H Calls i h c [] [] h' n.0 = subst (λ (z : Configuration). Does H Calls i h z [] [] h' n.0) (here_still g c d may since) (embedding.resumes n.2.0 embedding.stops) in
      let e = told_end h' o n.0 n.2.1 ks in
      ending b h h' h'' q t c n.0 e.0 _ ks (goes_at_work g b may w) n.1 does e.1 e.2
      (follow (ended_at g o) false h' h'' t t u n.0 n.0 ks rest n.1 n.1 (settled Stands tells i (ended_at g o) t n.0 n.1) (ended_rests g o))
  follow g b h h'' q s u c d _ (handling.does {h' = h'} {t = t} {ks = ks} _ may (handling.has_returned units v) rest) base now since w =
      let n = v.run i d now in
      let run : Does H Calls i h d [] [] h' n.0 = subst (λ (z : H). Does H Calls i h d [] [] z n.0) (sym v.host) (embedding.resumes n.2 embedding.stops) in
      let does : Does H Calls i h c [] [] h' n.0 = subst (λ (z : Configuration). Does H Calls i h z [] [] h' n.0) (here_still g c d may since) run in
      let vs : List Val = n.5 in
      let so : EndsWith (returns vs) n.0 = subst (EndsWith (returns vs)) (sym n.6) refl in
      ending b h h' h'' q t c n.0 (returns vs) _ ks (goes_at_work g b may w) n.1 does so (λ ds told. handling.came_back (results_of t) vs n.7 told)
      (follow (returned_at g (results_of t)) false h' h'' t t u n.0 n.0 ks rest n.1 n.1 (settled Stands tells i (returned_at g (results_of t)) t n.0 n.1) (returned_rests g (results_of t)))
  follow g b h h'' q s u c d _ (handling.does {h' = h'} {t = t} {ks = ks} _ may (handling.asks units x v) rest) base now since w =
      let n = v.run i d now in
      let run : Does H Calls i h d [] [] h' n.0 = subst (λ (z : H). Does H Calls i h d [] [] z n.0) (sym v.host) (embedding.resumes n.2 embedding.stops) in
      let does : Does H Calls i h c [] [] h' n.0 = subst (λ (z : Configuration). Does H Calls i h z [] [] h' n.0) (here_still g c d may since) run in
      going b h h' h'' q t c n.0 [] [] _ ks (goes_at_work g b may w) n.1 does (λ ds told. handling.was_asked x told)
      (follow (asked_at g) true h' h'' t t u n.0 n.0 ks rest n.1 n.1 (settled Stands tells i (asked_at g) t n.0 n.1) (at_work_always (asked_at g)))
  follow g b h h'' q s u c d _ (handling.does {t = t} {ks = ks} _ may (handling.answers results a) rest) base now since w =
      let n = answered_there h s t c d results (asked_since g c d may since) a now in
      going b h h h'' q t c n.0 [] (n.2 ∷ []) _ ks (asks_at_work g b may w) n.1 n.7 (λ ds told. handling.served s.memory a.function a.arguments results n.2 n.3 n.4 n.5 n.6 told)
      (follow (answered_at g) true h h'' t t u n.0 n.0 ks rest n.1 n.1 (settled Stands tells i (answered_at g) t n.0 n.1) (at_work_always (answered_at g)))

-- ---- in what order

-- each act was allowed
abbrev AreInOrder : Stage → List Act → Type 0
AreInOrder g [] = Unit {0}
AreInOrder g (k ∷ ks) = MayDo g k × AreInOrder (after g k) ks

in_order : (Stands : StandsFor) (H : Type 0) (Calls : CallsOf H) (m : Module) (g : Stage) (h h' : H) (s s' : Snapshot) (ks : List Act) → Handles Stands H Calls m g h s ks h' s' → AreInOrder g ks
in_order Stands H Calls m g h h' s s' _ handling.stops = tt
in_order Stands H Calls m g h h' s s' _ (handling.does {h' = k'} {t = t} {ks = ks} k may one rest) = (may, in_order Stands H Calls m (after g k) k' h' t s' ks rest)

abbrev IsOpening : Stage → Type 0
IsOpening Opening = Unit {0}
IsOpening AskedOpening = Unit {0}
IsOpening g = ⊥

abbrev IsStarted : Stage → Type 0
IsStarted Opening = ⊥
IsStarted AskedOpening = ⊥
IsStarted g = Unit {0}

exits_over : (g : Stage) (n : ℕ) → ended_at g (Exited n) ≡ Over
exits_over Opening n = refl
exits_over AskedOpening n = refl
exits_over Ready n = refl
exits_over Stopped n = refl
exits_over Running n = refl
exits_over Asked n = refl
exits_over Over n = refl

ended_started : (g : Stage) (o : Outcome) → IsStarted (ended_at g o)
ended_started Opening o = tt
ended_started AskedOpening o = tt
ended_started Ready o = tt
ended_started Stopped o = tt
ended_started Running (Exited n) = tt
ended_started Running (Trapped t) = tt
ended_started Running OutOfFuel = tt
ended_started Running OutOfMemory = tt
ended_started Asked o = tt
ended_started Over o = tt

returned_started : (g : Stage) (ns : List ℕ) → IsStarted (returned_at g ns)
returned_started Opening [] = tt
returned_started Opening (n ∷ ns) = tt
returned_started AskedOpening [] = tt
returned_started AskedOpening (n ∷ ns) = tt
returned_started Ready [] = tt
returned_started Ready (n ∷ ns) = tt
returned_started Stopped [] = tt
returned_started Stopped (n ∷ ns) = tt
returned_started Running ns = tt
returned_started Asked [] = tt
returned_started Asked (n ∷ ns) = tt
returned_started Over [] = tt
returned_started Over (n ∷ ns) = tt

let_go_started : (g : Stage) → IsStarted (let_go_at g)
let_go_started Opening = tt
let_go_started AskedOpening = tt
let_go_started Ready = tt
let_go_started Stopped = tt
let_go_started Running = tt
let_go_started Asked = tt
let_go_started Over = tt

asked_started : (g : Stage) → IsStarted g → IsStarted (asked_at g)
asked_started Opening k = absurd k
asked_started AskedOpening k = absurd k
asked_started Ready k = tt
asked_started Stopped k = tt
asked_started Running k = tt
asked_started Asked k = tt
asked_started Over k = tt

answered_started : (g : Stage) → IsStarted g → IsStarted (answered_at g)
answered_started Opening k = absurd k
answered_started AskedOpening k = absurd k
answered_started Ready k = tt
answered_started Stopped k = tt
answered_started Running k = tt
answered_started Asked k = tt
answered_started Over k = tt

opening_ends : (g : Stage) (o : Outcome) → IsOpening g → ended_at g o ≡ Over
opening_ends Opening o k = refl
opening_ends AskedOpening o k = refl
opening_ends Ready o k = absurd k
opening_ends Stopped o k = absurd k
opening_ends Running o k = absurd k
opening_ends Asked o k = absurd k
opening_ends Over o k = absurd k

opening_runs : (g : Stage) → Rests g → IsOpening g → ⊥
opening_runs Opening rests k = rests
opening_runs AskedOpening rests k = rests
opening_runs Ready rests k = k
opening_runs Stopped rests k = k
opening_runs Running rests k = k
opening_runs Asked rests k = k
opening_runs Over rests k = k

opening_let_go : (g : Stage) → IsOpening g → let_go_at g ≡ Over
opening_let_go Opening k = refl
opening_let_go AskedOpening k = refl
opening_let_go Ready k = absurd k
opening_let_go Stopped k = absurd k
opening_let_go Running k = absurd k
opening_let_go Asked k = absurd k
opening_let_go Over k = absurd k

opening_returns : (g : Stage) → IsOpening g → returned_at g [] ≡ Ready
opening_returns Opening k = refl
opening_returns AskedOpening k = refl
opening_returns Ready k = absurd k
opening_returns Stopped k = absurd k
opening_returns Running k = absurd k
opening_returns Asked k = absurd k
opening_returns Over k = absurd k

opening_gives : (g : Stage) (n : ℕ) (ns : List ℕ) → IsOpening g → returned_at g (n ∷ ns) ≡ Over
opening_gives Opening n ns k = refl
opening_gives AskedOpening n ns k = refl
opening_gives Ready n ns k = absurd k
opening_gives Stopped n ns k = absurd k
opening_gives Running n ns k = absurd k
opening_gives Asked n ns k = absurd k
opening_gives Over n ns k = absurd k

opening_asks : (g : Stage) → Goes g → IsOpening g → IsOpening (asked_at g)
opening_asks Opening goes k = tt
opening_asks AskedOpening goes k = absurd goes
opening_asks Ready goes k = absurd k
opening_asks Stopped goes k = absurd k
opening_asks Running goes k = absurd k
opening_asks Asked goes k = absurd k
opening_asks Over goes k = absurd k

opening_answers : (g : Stage) → Asks g → IsOpening g → IsOpening (answered_at g)
opening_answers Opening asks k = absurd asks
opening_answers AskedOpening asks k = tt
opening_answers Ready asks k = absurd k
opening_answers Stopped asks k = absurd k
opening_answers Running asks k = absurd k
opening_answers Asked asks k = absurd k
opening_answers Over asks k = absurd k

-- once it is over, nothing is entered
none_over : (i : Instance) (ks : List Act) (ds : List Deed) → AreTold i ks ds → AreInOrder Over ks → invocations ds ≡ []
none_over i _ _ handling.nothing o = refl
none_over i _ _ (handling.entered ts x args t) o = absurd o.0
none_over i _ _ (handling.written memory t) o = absurd o.0
none_over i _ _ (handling.let_go t) o = absurd o.0
none_over i _ _ (handling.called call e t) o = absurd o.0
none_over i _ _ (handling.spent t) o = absurd o.0
none_over i _ _ (handling.exited n t) o = absurd o.0
none_over i _ _ (handling.came_to_an_end t) o = absurd o.0
none_over i _ _ (handling.trapped e t) o = absurd o.0
none_over i _ _ (handling.refused t) o = absurd o.0
none_over i _ _ (handling.came_back ns vs e t) o = absurd o.0
none_over i _ _ (handling.was_asked x t) o = absurd o.0
none_over i _ _ (handling.served memory x arguments results e f a r l t) o = absurd o.0

none_at : (i : Instance) (g : Stage) (ks : List Act) (ds : List Deed) → AreTold i ks ds → g ≡ Over → AreInOrder g ks → invocations ds ≡ []
none_at i g ks ds t over o = none_over i ks ds t (subst (λ (z : Stage). AreInOrder z ks) over o)

-- others may follow, and only the last one exits
abbrev Follow : List Deed → Type 0
Follow ds = (invocations ds ≢ [] → MayGoOn (at_work ds).ending) × OnlyLastExits (invocations ds)

-- where none follows, nothing is asked
nothing_follows : (vs : List Invocation) → vs ≡ [] → (P : Type 0) → (vs ≢ [] → P) × OnlyLastExits vs
nothing_follows vs none P = (λ some. absurd (some none), subst OnlyLastExits (sym none) tt)

once_started : (i : Instance) (g : Stage) (ks : List Act) (ds : List Deed) → AreTold i ks ds → IsStarted g → AreInOrder g ks → Follow ds
once_started i g _ _ handling.nothing k o = (λ some. tt, tt)
once_started i g _ _ (handling.entered {ks = ks} {ds = ds} ts x args t) k o = (λ some. tt, once_started i Running ks ds t tt o.1)
once_started i g _ _ (handling.written {ks = ks} {ds = ds} memory t) k o = once_started i g ks ds t k o.1
once_started i g _ _ (handling.let_go {ks = ks} {ds = ds} t) k o = once_started i (let_go_at g) ks ds t (let_go_started g) o.1
once_started i g _ _ (handling.called {ks = ks} {ds = ds} call e t) k o = once_started i g ks ds t k o.1
once_started i g _ _ (handling.spent {ks = ks} {ds = ds} t) k o = once_started i g ks ds t k o.1
once_started i g _ _ (handling.exited {ks = ks} {ds = ds} n t) k o = nothing_follows (invocations ds) (none_at i (ended_at g (Exited n)) ks ds t (exits_over g n) o.1) ⊥
once_started i g _ _ (handling.came_to_an_end {ks = ks} {ds = ds} t) k o = nothing_follows (invocations ds) (none_at i (ended_at g (Exited 0)) ks ds t (exits_over g 0) o.1) (Unit {0})
once_started i g _ _ (handling.trapped {ks = ks} {ds = ds} e t) k o = (λ some. tt, (once_started i (ended_at g (Trapped e)) ks ds t (ended_started g (Trapped e)) o.1).1)
once_started i g _ _ (handling.refused {ks = ks} {ds = ds} t) k o = (λ some. tt, (once_started i (ended_at g OutOfMemory) ks ds t (ended_started g OutOfMemory) o.1).1)
once_started i g _ _ (handling.came_back {ks = ks} {ds = ds} ns vs e t) k o = (λ some. tt, (once_started i (returned_at g ns) ks ds t (returned_started g ns) o.1).1)
once_started i g _ _ (handling.was_asked {ks = ks} {ds = ds} x t) k o = once_started i (asked_at g) ks ds t (asked_started g k) o.1
once_started i g _ _ (handling.served {ks = ks} {ds = ds} memory x arguments results e f a r l t) k o = once_started i (answered_at g) ks ds t (answered_started g k) o.1

no_values : (vs : List Val) → numbers vs ≡ [] → returns vs ≡ returns []
no_values [] e = refl
no_values (val t n ∷ vs) e = cc

from_the_opening : (i : Instance) (g : Stage) (ks : List Act) (ds : List Deed) → AreTold i ks ds → IsOpening g → AreInOrder g ks → (invocations ds ≢ [] → (at_work ds).ending ≡ returns []) × OnlyLastExits (invocations ds)
from_the_opening i g _ _ handling.nothing k o = (λ some. absurd (some refl), tt)
from_the_opening i g _ _ (handling.entered ts x args t) k o = absurd (opening_runs g o.0 k)
from_the_opening i g _ _ (handling.written {ks = ks} {ds = ds} memory t) k o = from_the_opening i g ks ds t k o.1
from_the_opening i g _ _ (handling.let_go {ks = ks} {ds = ds} t) k o = nothing_follows (invocations ds) (none_at i (let_go_at g) ks ds t (opening_let_go g k) o.1) ((at_work ds).ending ≡ returns [])
from_the_opening i g _ _ (handling.called {ks = ks} {ds = ds} call e t) k o = from_the_opening i g ks ds t k o.1
from_the_opening i g _ _ (handling.spent {ks = ks} {ds = ds} t) k o = from_the_opening i g ks ds t k o.1
from_the_opening i g _ _ (handling.exited {ks = ks} {ds = ds} n t) k o = nothing_follows (invocations ds) (none_at i (ended_at g (Exited n)) ks ds t (exits_over g n) o.1) (exits n ≡ returns [])
from_the_opening i g _ _ (handling.came_to_an_end {ks = ks} {ds = ds} t) k o = nothing_follows (invocations ds) (none_at i (ended_at g (Exited 0)) ks ds t (exits_over g 0) o.1) (returns [] ≡ returns [])
from_the_opening i g _ _ (handling.trapped {ks = ks} {ds = ds} e t) k o = nothing_follows (invocations ds) (none_at i (ended_at g (Trapped e)) ks ds t (opening_ends g (Trapped e) k) o.1) (traps e ≡ returns [])
from_the_opening i g _ _ (handling.refused {ks = ks} {ds = ds} t) k o = nothing_follows (invocations ds) (none_at i (ended_at g OutOfMemory) ks ds t (opening_ends g OutOfMemory k) o.1) (is_abandoned ≡ returns [])
from_the_opening i g _ _ (handling.came_back {ks = ks} {ds = ds} [] vs e t) k o = (λ some. no_values vs e, (once_started i Ready ks ds t tt (subst (λ (z : Stage). AreInOrder z ks) (opening_returns g k) o.1)).1)
from_the_opening i g _ _ (handling.came_back {ks = ks} {ds = ds} (n ∷ ns) vs e t) k o = nothing_follows (invocations ds) (none_at i (returned_at g (n ∷ ns)) ks ds t (opening_gives g n ns k) o.1) (returns vs ≡ returns [])
from_the_opening i g _ _ (handling.was_asked {ks = ks} {ds = ds} x t) k o = from_the_opening i (asked_at g) ks ds t (opening_asks g o.0 k) o.1
from_the_opening i g _ _ (handling.served {ks = ks} {ds = ds} memory x arguments results e f a r l t) k o = from_the_opening i (answered_at g) ks ds t (opening_answers g o.0 k) o.1

pub handling_is_a_life : (Stands : StandsFor) (H : Type 0) (Calls : CallsOf H) → HandlingIsALife Stands H Calls
handling_is_a_life Stands H Calls tells links pages m h h' s s' ks opens handled =
    let k = follow Stands tells H Calls m opens.instance Opening true h h' s s s' _ _ ks handled opens.stands opens.stands refl refl in
    let order = from_the_opening opens.instance Opening ks k.ds k.told tt (in_order Stands H Calls m Opening h h' s s' ks handled) in
    let life = deeds_are_a_life H Calls At (λ t i d. Follows Stands t i d) links pages m opens.instance opens.store opens.initializer h h' _ _ k.ds opens.allocates opens.has_initializer (refl, opens.stands) k.acts order.0 order.1 in
    (k.ds, life.0, life.2, subst (λ (i : Instance). AreTold i ks k.ds) (sym life.3) k.told)
