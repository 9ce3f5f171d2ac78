-- What a crash may leave during resumes.
use Rattle.std.proofs.Common.{◌≡◌, ◌⊎◌, ℕ, ◌+◌, ◌-◌, ◌≤◌, ◌<◌, Bool, true, false, cond, List, [], ◌∷◌, ◌++◌, length, get_or, refl, sym, ◌∙◌, ap, subst, inl, inr, arith}
use Rattle.std.proofs.lemmas.List.{get_or_append_left, get_or_push, length_push}
use Rattle.vol_sector.specs.Disk.{Image, Disk}
use Rattle.vol_tree.specs.Tree.{Tree}
use Rattle.vol_tree.specs.declared.superblock.Superblock.{Superblock}
use Rattle.vol_tree.specs.Stands.{StandsAs}
use Rattle.vol_tree.proofs.OneTree.{one_tree}
use Rattle.wasm_store.specs.declared.call.HostCall.{HostCall}
use Rattle.wasm_store.specs.declared.call.Errno.{Errno}
use Rattle.wasm_store.specs.declared.call.Answer.TheVariants.{Value as value, Exit as exit}
use Rattle.wasm_steps.specs.declared.pause.Pause.{Pause}
use Rattle.wasm_steps.specs.declared.pause.Pause.TheVariants.{Called, Spent, Ended}
use Rattle.wasm_steps.specs.Configuration.{Instance, Configuration}
use Rattle.wasm_steps.specs.Outcomes.{Paused}
use Rattle.wasm_steps.specs.Steps.{CallsOf, Event, silent, answers, Step, plain_step, free_step, host_answers, host_exits, in_label, in_frame, Reach, stays, goes}
use Rattle.wasi_bodies.specs.laws.Moments.{CountsMoments, IsTurn, CallsKeepMoments, PauseSynced, PausesKeepMoments, Kept, Turn, Turns, IsSafe, AllKept}

-- ---- a host changes only by its answered calls

module _ {H : Type 0} (Calls : CallsOf H) where
  -- what a step says of the host
  abbrev pub Changes : Event → H → H → Type 0
  Changes silent h h' = (h' ≡ h) ⊎ ((m m' : List ℕ) × (used : ℕ) × (x : HostCall) × (args : List ℕ) × (status : ℕ) × Calls h m used x args h' m' (exit status))
  Changes (answers x e) h h' = (m m' : List ℕ) × (used : ℕ) × (args : List ℕ) × Calls h m used x args h' m' (value e)

  pub step_changes : (i : Instance) (n : ℕ) (h : H) (c : Configuration) (ev : Event) (h' : H) (c' : Configuration) → Step H Calls i n h c ev h' c' → Changes ev h h'
  step_changes i n h c ev h' c' (plain_step r) = inl refl
  step_changes i n h c ev h' c' (free_step r) = inl refl
  step_changes i n h c ev h' c' (host_answers {s = s} {memory = memory} args vs callee all count a) = (s.memory, memory, s.used, _, a)
  step_changes i n h c ev h' c' (host_exits {call = x} {s = s} {memory = memory} args vs callee all count a) = inr (s.memory, memory, s.used, x, _, _, a)
  step_changes i n h c ev h' c' (in_label s) = step_changes i n h _ ev h' _ s
  step_changes i n h c ev h' c' (in_frame s) = step_changes i _ h _ ev h' _ s

some_none : (x : HostCall × Errno) (xs : List (HostCall × Errno)) → ◌≡◌ {A = List (HostCall × Errno)} (x ∷ xs) [] → ⊥
some_none x xs h = cc

module _ {H : Type 0} (disk : H → Disk) (numbers : H → Superblock) (tree : H → Tree) (honest : H → Type 0) (Calls : CallsOf H) (k : CallsKeepMoments disk numbers tree honest Calls) where
  silent_same : (h h' : H) → Changes Calls silent h h' → h' ≡ h
  silent_same h h' (inl same) = same
  silent_same h h' (inr (m, m', used, x, args, status, a)) = k.exits h h' m m' used x args status a

  -- steps that answer no call leave the host
  quiet : (i : Instance) (h : H) (c : Configuration) (es : List (HostCall × Errno)) (h' : H) (c' : Configuration) → Reach H Calls i h c es h' c' → es ≡ [] → h' ≡ h
  quiet i h c es h' c' stays none = refl
  quiet i h c es h' c' (goes {h' = g} {c' = d} silent later s r) none = quiet i g d later h' c' r none ∙ silent_same h g (step_changes Calls i 0 h c silent g d s)
  quiet i h c es h' c' (goes {h' = g} {c' = d} (answers x e) later s r) none = absurd (some_none (x, e) later none)

  -- nothing happened
  rests : (h h' : H) → h' ≡ h → IsTurn (disk h) (disk h') (numbers h) (tree h) (tree h')
  rests h h' same = subst (λ (g : H). IsTurn (disk h) (disk g) (numbers h) (tree h) (tree g)) (sym same) (record {
    later = omega arith;
    since = λ t image before left. inl left;
    now = λ image may. inl may;
  })

  abbrev ToldEntry : Pause → H → H → Type 0
  ToldEntry p h h' = IsTurn (disk h) (disk h') (numbers h) (tree h) (tree h') × PauseSynced disk numbers tree honest p h' × honest h' × (numbers h' ≡ numbers h)

  pub told : (p : Pause) (i : Instance) (h h' : H) (c d : Configuration) → Paused H Calls i p h c h' d → honest h → ToldEntry p h h'
  told (Called x e) i h h' c d (before, run, step) is_honest =
      let (m, m', used, args, a) = step_changes Calls i 0 h before (answers x e) h' d step in
      (k.turn h h' m m' used x args e a is_honest, k.synced h h' m m' used x args e a is_honest, k.stays_honest h h' m m' used x args e a is_honest, k.same_numbers h h' m m' used x args e a)
  told Spent i h h' c d (run, same, plain) is_honest = (rests h h' same, tt, subst honest (sym same) is_honest, ap numbers same)
  told (Ended o) i h h' c d (run, ends) is_honest =
      let same = quiet i h c [] h' d run refl in
      (rests h h' same, tt, subst honest (sym same) is_honest, ap numbers same)

pub pauses_keep : {H : Type 0} (disk : H → Disk) (numbers : H → Superblock) (tree : H → Tree) (honest : H → Type 0) (Calls : CallsOf H) → PausesKeepMoments disk numbers tree honest Calls
pauses_keep disk numbers tree honest Calls h h' p i c d k paused is_honest = told disk numbers tree honest Calls k p i h h' c d paused is_honest

-- ---- any list of resumes

-- an image that stands for one of the trees before is kept among more
among : (image : Image) (v : Superblock) (trees : List Tree) (T : Tree) (from count : ℕ) → from ≤ count → count < length trees → StandsAs image v (get_or trees count []) → Kept image v (trees ++ T ∷ []) from (length trees)
among image v trees T from count low high s = record {
  count = count;
  after = low;
  before = omega arith;
  there = omega (arith, length_push trees T);
  stands = subst (λ (U : Tree). StandsAs image v U) (sym (get_or_append_left trees (T ∷ []) [] count high)) s;
}

-- and so is one that stands for the new tree
newest : (image : Image) (v : Superblock) (trees : List Tree) (T : Tree) (from : ℕ) → from ≤ length trees → StandsAs image v T → Kept image v (trees ++ T ∷ []) from (length trees)
newest image v trees T from low s = record {
  count = length trees;
  after = low;
  before = omega arith;
  there = omega (arith, length_push trees T);
  stands = subst (λ (U : Tree). StandsAs image v U) (sym (get_or_push trees T [] (length trees) refl)) s;
}

module _ {H : Type 0} (disk : H → Disk) (numbers : H → Superblock) (tree : H → Tree) where
  -- an image that stands for the tree of one that a crash could leave is kept as that one is
  like : (h : H) (trees : List Tree) (from : ℕ) (T : Tree) → IsSafe disk numbers tree h trees from → (earlier image : Image) (U : Tree) → (disk h).may_leave earlier → StandsAs earlier (numbers h) U → StandsAs image (numbers h) U
      → Kept image (numbers h) (trees ++ T ∷ []) from (length trees)
  like h trees from T safe earlier image U may stood stands =
      let kept = safe.each earlier may in
      let is : get_or trees kept.count [] ≡ U = one_tree earlier (numbers h) (get_or trees kept.count []) U kept.stands stood in
      among image (numbers h) trees T from kept.count kept.after kept.there (subst (λ (V : Tree). StandsAs image (numbers h) V) (sym is) stands)

  during : (h : H) (trees : List Tree) (from : ℕ) (t : Turn H) → IsSafe disk numbers tree h trees from → t.old ≡ h → IsTurn (disk t.old) (disk t.new) (numbers t.old) (tree t.old) (tree t.new)
      → (image : Image) → (disk t.new).left_since (disk t.old).operation_count image → Kept image (numbers t.old) (trees ++ tree t.new ∷ []) from (length trees)
  during h trees from t safe same turn image left =
      let some : from < length trees = safe.some in
      let at_first = subst (λ (g : H). IsSafe disk numbers tree g trees from) (sym same) safe in
      elim (turn.since (disk t.old).operation_count image (omega arith) left) [
        | inl before ↦
            let may = at_first.counts.only_now image before in
            let kept = at_first.each image may in
            among image (numbers t.old) trees (tree t.new) from kept.count kept.after kept.there kept.stands
        | inr (inl r) ↦ like t.old trees from (tree t.new) at_first r.earlier image r.tree r.could r.stood r.stands
        | inr (inr (inl before)) ↦
            among image (numbers t.old) trees (tree t.new) from (length trees - 1) (omega arith) (omega arith)
            (subst (λ (U : Tree). StandsAs image (numbers t.old) U) (sym at_first.now) before)
        | inr (inr (inr after)) ↦ newest image (numbers t.old) trees (tree t.new) from (omega arith) after
      ]

  -- what is safe from the place of the sync, where there was one, and else from the place before
  safe_next : (h : H) (trees : List Tree) (from here : ℕ) (synced : Bool) → CountsMoments (disk h) → get_or trees (length trees - 1) [] ≡ tree h → here < length trees → from ≤ here
      → ((image : Image) → (disk h).may_leave image → Kept image (numbers h) trees from (length trees - 1))
      → (synced ≡ true → (image : Image) → (disk h).may_leave image → Kept image (numbers h) trees here (length trees - 1))
      → IsSafe disk numbers tree h trees (cond synced here from)
  safe_next h trees from here true counts last some low each at_sync = record { some = some; now = last; counts = counts; each = at_sync refl }
  safe_next h trees from here false counts last some low each at_sync = record { some = omega arith; now = last; counts = counts; each = each }

  pub keeps_all : (turns : List (Turn H)) (h : H) (trees : List Tree) (from : ℕ) → IsSafe disk numbers tree h trees from → Turns disk numbers tree h turns → AllKept disk numbers tree (numbers h) trees from turns
  keeps_all [] h trees from safe follow = tt
  keeps_all (t ∷ ts) h trees from safe (same, numbered, turn, synced, counts, follow) =
      let more : List Tree = trees ++ tree t.new ∷ [] in
      let some : from < length trees = safe.some in
      let long : length more ≡ length trees + 1 = length_push trees (tree t.new) in
      let here : length more - 1 ≡ length trees = omega (arith, long) in
      let at_first : numbers t.new ≡ numbers h = numbered ∙ ap numbers same in
      let inside = λ (image : Image) (left : (disk t.new).left_since (disk t.old).operation_count image). subst (λ (v : Superblock). Kept image v more from (length trees)) (sym numbered) (during h trees from t safe same turn image left) in
      let after_sync = λ (is : t.synced ≡ true) (image : Image) (may : (disk t.new).may_leave image). newest image (numbers t.new) trees (tree t.new) (length trees) (omega arith) (synced is image may) in
      let last : get_or more (length more - 1) [] ≡ tree t.new = ap (λ (n : ℕ). get_or more n []) here ∙ get_or_push trees (tree t.new) [] (length trees) refl in
      let next = safe_next t.new more from (length trees) t.synced counts last (omega (arith, long)) (omega arith)
      (λ image may. subst (λ (n : ℕ). Kept image (numbers t.new) more from n) (sym here) (inside image (counts.counts_now (disk t.old).operation_count image turn.later may)))
      (λ is image may. subst (λ (n : ℕ). Kept image (numbers t.new) more (length trees) n) (sym here) (after_sync is image may)) in
      subst (λ (v : Superblock). AllKept disk numbers tree v trees from (t ∷ ts)) at_first (inside, after_sync, keeps_all ts t.new more (cond t.synced (length trees) from) next follow)
