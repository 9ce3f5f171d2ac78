-- The answers of a life are turns, and nothing else changes the host.
use Rattle.std.proofs.Common.{◌≡◌, ◌⊎◌, ◌==◌, ℕ, List, [], ◌∷◌, ◌++◌, map, refl, sym, ◌∙◌, ap, subst, inl, inr, ⊎_elim}
use Rattle.std.proofs.lemmas.Bool.{and_parts, eqb-true}
use Rattle.vol_sector.specs.Disk.{Image, Disk, Leaves}
use Rattle.vol_log.proofs.Moments.{leaves_same, leaves_then}
use Rattle.vol_tree.specs.Tree.{Tree}
use Rattle.vol_tree.specs.Opened.{Reflects, ReflectsOr}
use Rattle.vol_tree.specs.Stands.{StandsAs}
use Rattle.vol_tree.proofs.OneTree.{one_tree}
use Rattle.vol_tree.specs.declared.superblock.Superblock.{Superblock}
use Rattle.wasm_store.specs.declared.call.HostCall.{HostCall}
use Rattle.wasm_store.specs.declared.call.Errno.{Errno}
use Rattle.wasm_steps.specs.Configuration.{Instance, Store, Configuration, store_of}
use Rattle.wasm_steps.specs.Steps.{CallsOf, silent, answers, Reach, stays, goes}
use Rattle.wasi_bodies.specs.laws.Moments.{CallsKeepMoments, IsTurn, Turn, Turns, is_sync}
use Rattle.wasi_calls.proofs.runs.Moments.{Changes, step_changes, keeps_all}
use Rattle.wasm_syntax.specs.declared.module.Module.{Module}
use Rattle.plugin_steps.specs.Lives.{Invocation}
use Rattle.wasm_store.specs.Allocation.{AllLinks}
use Rattle.plugin_core.specs.WholeLives.{Life, calls_in}
use Rattle.plugin_core.specs.Moments.{is_synced, ChangesBy, IsPassed, KeepsLives, StandsPassed}
use Rattle.plugin_core.proofs.Living.{talk_carries, lives_carry}

map_joins : {A B : Type 0} (f : A → B) (xs ys : List A) → map f (xs ++ ys) ≡ map f xs ++ map f ys
map_joins f [] ys = refl
map_joins f (x ∷ xs) ys = ap (λ zs. f x ∷ zs) (map_joins f xs ys)

module _ {H : Type 0} (disk : H → Disk) (numbers : H → Superblock) (tree : H → Tree) (honest : H → Type 0) where
  abbrev ChangesFrom : H → List (Turn H) → H → Type 0
  ChangesFrom = ChangesBy disk numbers tree honest

  abbrev AreTurns : H → List (Turn H) → Type 0
  AreTurns = Turns disk numbers tree

  changes_join : (h g h' : H) (ts us : List (Turn H)) → ChangesFrom h ts g → ChangesFrom g us h' → ChangesFrom h (ts ++ us) h'
  changes_join h g h' [] us same more = subst (λ (x : H). ChangesFrom x us h') same more
  changes_join h g h' (t ∷ ts) us (old, rest) more = (old, changes_join t.new g h' ts us rest more)

  turns_join : (h g : H) (ts us : List (Turn H)) → ChangesFrom h ts g → AreTurns h ts → AreTurns g us → AreTurns h (ts ++ us)
  turns_join h g [] us same first second = subst (λ (x : H). AreTurns x us) same second
  turns_join h g (t ∷ ts) us (old, rest) (a, b, c, d, e, first) second = (a, b, c, d, e, turns_join t.new g ts us rest first second)

  -- ---- what a crash may leave over turns

  abbrev Passed : H → List (Turn H) → Image → Type 0
  Passed = StandsPassed disk numbers tree honest

  abbrev LeftBy : H → List (Turn H) → Image → Type 0
  LeftBy h ts image = Reflects (disk h) (numbers h) image ⊎ Passed h ts image

  passed_first : (h : H) (ts : List (Turn H)) → IsPassed disk numbers tree honest h ts (tree h)
  passed_first h [] = refl
  passed_first h (t ∷ ts) = inl refl

  passed_last : (h h' : H) (ts : List (Turn H)) → ChangesFrom h ts h' → IsPassed disk numbers tree honest h ts (tree h')
  passed_last h h' [] same = ap tree same
  passed_last h h' (t ∷ ts) (old, rest) = inr (passed_last t.new h' ts rest)

  -- what one turn leaves
  module _ (h g : H) (ts : List (Turn H)) (turn : IsTurn (disk h) (disk g) (numbers h) (tree h) (tree g)) (t : Turn H) (new : t.new ≡ g) (numbered : numbers g ≡ numbers h) where
    abbrev all : List (Turn H)
    all = t ∷ ts

    after_turn : (T : Tree) → IsPassed disk numbers tree honest g ts T → IsPassed disk numbers tree honest h all T
    after_turn T is = inr (subst (λ (x : H). IsPassed disk numbers tree honest x ts T) (sym new) is)

    in_turn : (image : Image) → Reflects (disk h) (numbers h) image ⊎ (StandsAs image (numbers h) (tree h) ⊎ StandsAs image (numbers h) (tree g)) → LeftBy h all image
    in_turn image (inl r) = inl r
    in_turn image (inr (inl stands)) = inr (tree h, inl refl, stands)
    in_turn image (inr (inr stands)) = inr (tree g, after_turn (tree g) (passed_first g ts), stands)

    -- what stands for a tree that such an image stands for
    as_in_turn : (earlier image : Image) (T : Tree) → LeftBy h all earlier → StandsAs earlier (numbers h) T → StandsAs image (numbers h) T → LeftBy h all image
    as_in_turn earlier image T (inl r) stood stands =
        let same : T ≡ r.tree = one_tree earlier (numbers h) T r.tree stood r.stands in
        inl (record { earlier = r.earlier; could = r.could; tree = r.tree; stood = r.stood; stands = subst (λ (U : Tree). StandsAs image (numbers h) U) same stands })
    as_in_turn earlier image T (inr (U, is, there)) stood stands =
        let same : T ≡ U = one_tree earlier (numbers h) T U stood there in
        inr (U, is, subst (λ (V : Tree). StandsAs image (numbers h) V) same stands)

    -- and what the later ones leave
    later_turns : (image : Image) → LeftBy g ts image → LeftBy h all image
    later_turns image (inr (T, is, stands)) = inr (T, after_turn T is, subst (λ (v : Superblock). StandsAs image v T) numbered stands)
    later_turns image (inl r) =
        let stood = subst (λ (v : Superblock). StandsAs r.earlier v r.tree) numbered r.stood in
        let stands = subst (λ (v : Superblock). StandsAs image v r.tree) numbered r.stands in
        elim (turn.now r.earlier r.could) [
          | inl could ↦ inl (record { earlier = r.earlier; could = could; tree = r.tree; stood = stood; stands = stands })
          | inr left ↦ as_in_turn r.earlier image r.tree (in_turn r.earlier left) stood stands
        ]

  passes : (h h' : H) (ts : List (Turn H)) → ChangesFrom h ts h' → AreTurns h ts → Leaves (disk h) (disk h') (LeftBy h ts)
  passes h h' [] same are = subst (λ (x : H). Leaves (disk h) (disk x) (LeftBy h [])) (sym same) (leaves_same (disk h) (LeftBy h []))
  passes h h' (t ∷ ts) (old, rest) (same, numbered, turn, synced, counts, more) =
      let turns = subst (λ (x : H). IsTurn (disk x) (disk t.new) (numbers x) (tree x) (tree t.new)) same turn in
      let one : numbers t.new ≡ numbers h = numbered ∙ ap numbers same in
      leaves_then (disk h) (disk t.new) (disk h') _ (LeftBy t.new ts) (LeftBy h (t ∷ ts)) turns (passes t.new h' ts rest more)
      (in_turn h t.new ts turns t refl one) (later_turns h t.new ts turns t refl one)

  numbers_stay : (h h' : H) (ts : List (Turn H)) → ChangesFrom h ts h' → AreTurns h ts → numbers h' ≡ numbers h
  numbers_stay h h' [] same are = ap numbers same
  numbers_stay h h' (t ∷ ts) (old, rest) (same, numbered, turn, synced, counts, more) = numbers_stay t.new h' ts rest more ∙ (numbered ∙ ap numbers same)

  -- From a disk whose images stand for the first tree, over turns, and a commit behind them: each image stands for a tree that they come
  -- by.
  module _ (h h' : H) (ts : List (Turn H)) (a new : Disk) (v : Superblock) (T : Tree) (one : v ≡ numbers h) (same : T ≡ tree h)
      (lasts : (m : Image) → a.may_leave m → StandsAs m v T) (first : Leaves a (disk h) (λ m. ⊥)) where
    could_stand : (m : Image) → (disk h).may_leave m → StandsAs m (numbers h) (tree h)
    could_stand m may =
        let was : a.may_leave m = ⊎_elim (λ was. was) (λ never. absurd never) (first.now m may) in
        subst (λ (u : Superblock). StandsAs m u (tree h)) one (subst (λ (U : Tree). StandsAs m v U) same (lasts m was))

    passes_in : (m : Image) → LeftBy h ts m → Passed h ts m
    passes_in m (inr passed) = passed
    passes_in m (inl r) =
        let is : r.tree ≡ tree h = one_tree r.earlier (numbers h) r.tree (tree h) r.stood (could_stand r.earlier r.could) in
        (tree h, passed_first h ts, subst (λ (U : Tree). StandsAs m (numbers h) U) is r.stands)

    passes_at_end : Leaves (disk h) (disk h') (LeftBy h ts) → (m : Image) → (disk h').may_leave m → Passed h ts m
    passes_at_end turns m may = ⊎_elim (λ could. (tree h, passed_first h ts, could_stand m could)) (λ left. passes_in m left) (turns.now m may)

    pub whole_life : Leaves (disk h) (disk h') (LeftBy h ts) → IsPassed disk numbers tree honest h ts (tree h') → numbers h' ≡ numbers h
        → Leaves (disk h') new (ReflectsOr (disk h') (numbers h') (tree h')) → Leaves a new (Passed h ts)
    whole_life turns last numbered commit =
        leaves_then a (disk h') new (Passed h ts) (ReflectsOr (disk h') (numbers h') (tree h')) (Passed h ts)
        (leaves_then a (disk h) (disk h') (λ m. ⊥) (LeftBy h ts) (Passed h ts) first turns (λ m never. absurd never) passes_in)
        commit (λ m passed. passed) committed
      where
        committed : (m : Image) → ReflectsOr (disk h') (numbers h') (tree h') m → Passed h ts m
        committed m (inr stands) = (tree h', last, subst (λ (u : Superblock). StandsAs m u (tree h')) numbered stands)
        committed m (inl r) =
            let (U, is, there) = passes_at_end turns r.earlier r.could in
            let equal : r.tree ≡ U = one_tree r.earlier (numbers h) r.tree U (subst (λ (u : Superblock). StandsAs r.earlier u r.tree) numbered r.stood) there in
            (U, is, subst (λ (V : Tree). StandsAs m (numbers h) V) equal (subst (λ (u : Superblock). StandsAs m u r.tree) numbered r.stands))

  -- where the host is honest, the answers are turns of it
  record Turned (h : H) (es : List (HostCall × Errno)) (h' : H) : Type 0 where
    pub turns : List (Turn H)
    pub one_each : map (λ t. t.synced) turns ≡ map is_synced es
    pub changes : ChangesFrom h turns h'
    pub are : AreTurns h turns
    pub still : honest h'

  abbrev Turning : H → List (HostCall × Errno) → H → Type 0
  Turning h es h' = honest h → Turned h es h'

  rested : (h : H) → Turning h [] h
  rested h is = record { turns = []; one_each = refl; changes = refl; are = tt; still = is }

  joined : (h g h' : H) (es fs : List (HostCall × Errno)) → Turning h es g → Turning g fs h' → Turning h (es ++ fs) h'
  joined h g h' es fs first second is =
      let a = first is in
      let b = second a.still in
      record {
        turns = a.turns ++ b.turns;
        one_each = map_joins (λ (t : Turn H). t.synced) a.turns b.turns ∙ (λ i. a.one_each i ++ b.one_each i) ∙ sym (map_joins is_synced es fs);
        changes = changes_join h g h' a.turns b.turns a.changes b.changes;
        are = turns_join h g a.turns b.turns a.changes a.are b.are;
        still = b.still;
      }

  module _ (Calls : CallsOf H) (k : CallsKeepMoments disk numbers tree honest Calls) where
    left_alone : (h h' : H) → Changes Calls silent h h' → h' ≡ h
    left_alone h h' (inl same) = same
    left_alone h h' (inr (m, m', used, x, args, status, a)) = k.exits h h' m m' used x args status a

    one_answer : (h h' : H) (x : HostCall) (e : Errno) → Changes Calls (answers x e) h h' → Turning h ((x, e) ∷ []) h'
    one_answer h h' x e (m, m', used, args, a) is =
        let still = k.stays_honest h h' m m' used x args e a is in
        record {
          turns = record { old = h; new = h'; synced = is_synced (x, e) } ∷ [];
          one_each = refl;
          changes = (refl, refl);
          are = (
            refl,
            k.same_numbers h h' m m' used x args e a,
            k.turn h h' m m' used x args e a is,
            (λ synced image may. let both = and_parts (is_sync x) (e.0 == 0) synced in k.synced h h' m m' used x args e a is both.0 (eqb-true e.0 0 both.1) image may),
            k.counts h' still,
            tt,
          );
          still = still;
        }

    reach_turns : (i : Instance) (h : H) (c : Configuration) (es : List (HostCall × Errno)) (h' : H) (c' : Configuration) → Reach H Calls i h c es h' c' → Turning h es h'
    reach_turns i h c es h' c' stays = rested h
    reach_turns i h c es h' c' (goes {h' = g} {c' = d} silent later s r) =
        subst (λ (x : H). Turning x later h') (left_alone h g (step_changes Calls i 0 h c silent g d s)) (reach_turns i g d later h' c' r)
    reach_turns i h c es h' c' (goes {h' = g} {c' = d} (answers x e) later s r) =
        joined h g h' ((x, e) ∷ []) later (one_answer h g x e (step_changes Calls i 0 h c (answers x e) g d s)) (reach_turns i g d later h' c' r)

    life_turns : (links : AllLinks) (pages : ℕ) (m : Module) (h h' : H) (vs : List Invocation) (s : Store) (life : Life H Calls links pages m h vs h' s) → Turning h (life.calls ++ calls_in vs) h'
    life_turns links pages m h h' vs s life =
        joined h life.opened h' life.calls (calls_in vs)
        (talk_carries Calls Turning rested joined life.instance (reach_turns life.instance) h _ life.calls life.exchanges life.opened life.ready life.opens)
        (lives_carry Calls Turning rested joined m life.instance (reach_turns life.instance) life.opened (store_of life.ready) vs h' s life.lives)

pub lives_keep_moments : {H : Type 0} (disk : H → Disk) (numbers : H → Superblock) (tree : H → Tree) (honest : H → Type 0) (Calls : CallsOf H) → KeepsLives disk numbers tree honest Calls
lives_keep_moments disk numbers tree honest Calls links pages m h h' vs s trees from k is safe life =
    let all = life_turns disk numbers tree honest Calls k links pages m h h' vs s life is in
    record {
      turns = all.turns;
      one_each = all.one_each;
      changes = all.changes;
      kept = keeps_all disk numbers tree all.turns h trees from safe all.are;
      crash = passes disk numbers tree honest h h' all.turns all.changes all.are;
      last_tree = passed_last disk numbers tree honest h h' all.turns all.changes;
      same_numbers = numbers_stay disk numbers tree honest h h' all.turns all.changes all.are;
      still_honest = all.still;
    }
