-- What is done with a machine, deed after deed.
use Rattle.std.proofs.Common.{ℕ, Bool, true, false, List, ◌∷◌, ◌++◌, sym, subst, append_assoc}
use Rattle.wasm_syntax.specs.declared.module.Module.{Module}
use Rattle.wasm_store.specs.declared.call.HostCall.{HostCall}
use Rattle.wasm_store.specs.declared.call.Errno.{Errno}
use Rattle.wasm_steps.specs.Configuration.{Val, Instance, Store, Configuration, store_of}
use Rattle.wasm_steps.specs.Steps.{CallsOf}
use Rattle.plugin_steps.specs.Serving.{Exchange}
use Rattle.plugin_steps.specs.Embedding.{Does}
use Rattle.plugin_steps.specs.Embedding as embedding
use Rattle.plugin_steps.specs.Lives.{invocation, EndsWith, LivesBy}
use Rattle.plugin_steps.specs.Lives as lives
use Rattle.plugin_steps.specs.Deeds.{Deed, invoked, at_work, invocations}
use Rattle.plugin_steps.specs.Acting.{Enters, Acts, ActsAreALife}
use Rattle.plugin_steps.specs.Acting as acting
use Rattle.plugin_steps.proofs.Talking.{one_talk, one_life}

module _ (H : Type 0) (Calls : CallsOf H) (i : Instance) where
  -- one after the other
  does_on : (h g h' : H) (c d e : Configuration) (es fs : List (HostCall × Errno)) (xs ys : List Exchange) → Does H Calls i h c es xs g d → Does H Calls i g d fs ys h' e → Does H Calls i h c (es ++ fs) (xs ++ ys) h' e
  does_on h g h' c d e _ fs _ ys embedding.stops more = more
  does_on h g h' c d e _ fs _ ys (embedding.resumes {h' = k} {d = b} {es = es} {fs = later} {xs = xs} run rest) more =
      subst (λ (z : List (HostCall × Errno)). Does H Calls i h c z (xs ++ ys) h' e) (sym (append_assoc es later fs)) (embedding.resumes run (does_on k g h' b d e later fs xs ys rest more))
  does_on h g h' c d e _ fs _ ys (embedding.answers {d = b} {es = es} {xs = xs} m x longer left step rest) more =
      embedding.answers m x longer left step (does_on h g h' b d e es fs xs ys rest more)

module _ (H : Type 0) (Calls : CallsOf H) (m : Module) (i : Instance) {S : Type 0} (Stands : S → Configuration → Type 0) where
  -- the invocations from a store on
  record Followed (h : H) (w : Store) (ds : List Deed) (h' : H) (s' : S) : Type 0 where
    pub last : Configuration
    pub stands : Stands s' last
    pub lives : LivesBy H Calls m i (Does H Calls i) h w (invocations ds) h' (store_of last)

  -- what was at work goes on, and then they come
  record Gone (h : H) (c : Configuration) (ds : List Deed) (h' : H) (s' : S) : Type 0 where
    pub between : H
    pub reached : Configuration
    pub goes_on : Does H Calls i h c (at_work ds).calls (at_work ds).exchanges between reached
    pub ends_so : EndsWith (at_work ds).ending reached
    pub followed : Followed between (store_of reached) ds h' s'

  -- each function that is entered, and what follows
  abbrev Comes : Bool → H → Configuration → List Deed → H → S → Type 0
  Comes true h c ds h' s' = Gone h c ds h' s'
  Comes false h c ds h' s' = Followed h (store_of c) ds h' s'

  entered : (h h' : H) (s s' s'' : S) (c : Configuration) (x : ℕ) (args : List Val) (ds : List Deed) → Stands s c → Enters H Calls m i Stands s s' x args
      → ((d : Configuration) → Stands s' d → Gone h d ds h' s'') → Followed h (store_of c) (invoked x args ∷ ds) h' s''
  entered h h' s s' s'' c x args ds st e rest =
      let (w, writes, now) = e.run c st in
      let gone = rest (invocation w args x) now in
      record {
        last = gone.followed.last;
        stands = gone.followed.stands;
        lives = lives.invokes (record { function = x; arguments = args; calls = (at_work ds).calls; exchanges = (at_work ds).exchanges; ending = (at_work ds).ending }) writes e.exported e.typed gone.goes_on gone.ends_so gone.followed.lives;
      }

  comes : (b : Bool) (h h' : H) (s s' : S) (ds : List Deed) → Acts H Calls m i Stands b h s ds h' s' → (c : Configuration) → Stands s c → Comes b h c ds h' s'
  comes true h h' s s' _ acting.stops c st = record { between = h; reached = c; goes_on = embedding.stops; ends_so = tt; followed = record { last = c; stands = st; lives = lives.rests } }
  comes false h h' s s' _ acting.stops c st = record { last = c; stands = st; lives = lives.rests }
  comes b h h' s s' _ (acting.goes {h' = g} {s' = t} {ds = ds} es xs run rest) c st =
      let (d, now, does) = run c st in
      let gone = comes true g h' t s' ds rest d now in
      record {
        between = gone.between;
        reached = gone.reached;
        goes_on = does_on H Calls i h g gone.between c d gone.reached es (at_work ds).calls xs (at_work ds).exchanges does gone.goes_on;
        ends_so = gone.ends_so;
        followed = record { last = gone.followed.last; stands = gone.followed.stands; lives = gone.followed.lives };
      }
  comes b h h' s s' _ (acting.ends {ds = ds} e so rest) c st =
      let followed = comes false h h' s s' ds rest c st in
      record { between = h; reached = c; goes_on = embedding.stops; ends_so = so c st; followed = record { last = followed.last; stands = followed.stands; lives = followed.lives } }
  comes true h h' s s' _ (acting.invokes {s' = t} {ds = ds} x args e rest) c st =
      record { between = h; reached = c; goes_on = embedding.stops; ends_so = tt; followed = entered h h' s t s' c x args ds st e (λ d now. comes true h h' t s' ds rest d now) }
  comes false h h' s s' _ (acting.invokes {s' = t} {ds = ds} x args e rest) c st = entered h h' s t s' c x args ds st e (λ d now. comes true h h' t s' ds rest d now)

pub acts_are_a_life : (H : Type 0) (Calls : CallsOf H) (S : Type 0) (Stands : S → Instance → Configuration → Type 0) → ActsAreALife H Calls S Stands
acts_are_a_life H Calls S Stands m i h h' s s' c ds st acts =
    let gone = comes H Calls m i (λ t d. Stands t i d) true h h' s s' ds acts c st in
    record {
      between = gone.between;
      reached = gone.reached;
      goes_on = one_talk H Calls i h gone.between c gone.reached (at_work ds).calls (at_work ds).exchanges gone.goes_on;
      ends_so = gone.ends_so;
      last = gone.followed.last;
      stands = gone.followed.stands;
      lives = one_life H Calls m i gone.between h' (store_of gone.reached) (store_of gone.followed.last) (invocations ds) gone.followed.lives;
    }
