-- A guest stays confined in all its life.
use Rattle.std.proofs.Common.{◌≡◌, ◌≢◌, ◌⊎◌, ℕ, zero, suc, ◌<◌, List, [], Option, Some, None, refl, sym, ◌∙◌, ap, subst, inl, inr, arith}
use Rattle.std.proofs.lemmas.Option.{none-some}
use Rattle.std.proofs.lemmas.Bool.{cases_eq}
use Rattle.wasm_store.specs.declared.call.HostCall.{HostCall}
use Rattle.wasm_store.specs.declared.call.HostCall.TheVariants as call
use Rattle.wasm_store.specs.declared.call.Errno.{Errno}
use Rattle.wasm_store.specs.declared.call.Answer.{Answer}
use Rattle.wasm_steps.specs.Configuration.{Instance, Store, Configuration, store_of}
use Rattle.wasm_steps.specs.Steps.{CallsOf, Event, Step, plain_step, free_step, host_answers, host_exits, in_label, in_frame, Reach, stays, goes}
use Rattle.vol_tree.specs.Tree.{Tree, IsTree, IsDirectory}
use Rattle.vol_tree.specs.Calls.{is_directory}
use Rattle.wasi_fd.specs.declared.descriptor.Descriptor.{Descriptor}
use Rattle.wasi_fd.specs.declared.descriptor.Descriptor.TheVariants.{Stream, Entry}
use Rattle.wasi_fd.specs.declared.descriptor.Opened.{Opened}
use Rattle.wasi_fd.specs.declared.table.TheConstants.{PLACES}
use Rattle.wasi_fd.specs.Table.{Table}
use Rattle.wasi_bodies.specs.World.{World}
use Rattle.wasi_bodies.specs.Calls.{row, Calls}
use Rattle.wasi_bodies.specs.laws.Confined.{Tops, named_by, HasOnlyDirectoriesOpen, IsHostOf}
use Rattle.wasi_bodies.proofs.runs.HeldAlongRuns.{is_directory_kind, Holds}
use Rattle.wasi_calls.proofs.runs.RowsKeep.{row_keeps}
use Rattle.wasi_calls.proofs.runs.Confinement.{confined, answered_keeps}
use Rattle.wasm_syntax.specs.declared.module.Module.{Module}
use Rattle.plugin_steps.specs.Lives.{Invocation}
use Rattle.wasm_store.specs.Allocation.{AllLinks}
use Rattle.plugin_core.specs.WholeLives.{Life}
use Rattle.plugin_core.specs.Confined.{ConfinesLives}
use Rattle.plugin_core.proofs.Living.{talk_carries, lives_carry}

-- ---- how a world begins

-- an entry that is open below this number, or none is
abbrev OpensBelow : Table → ℕ → ℕ → Type 0
OpensBelow table n s = named_by table s ⊎ ((fd : ℕ) (o : Opened) → fd < n → table fd ≡ Some (Entry o) → o.serial ≢ s)

no_more : (table : Table) (n s : ℕ) → ((fd : ℕ) (o : Opened) → fd < n → table fd ≡ Some (Entry o) → o.serial ≢ s)
    → ((o : Opened) → table n ≡ Some (Entry o) → o.serial ≢ s) → (fd : ℕ) (o : Opened) → fd < suc n → table fd ≡ Some (Entry o) → o.serial ≢ s
no_more table n s before here fd o low is = elim (cases_eq fd n) [
  | inl same ↦ here o (ap table (sym same) ∙ is)
  | inr apart ↦ before fd o (omega arith) is
]

one_more : (table : Table) (n s : ℕ) (d : Option Descriptor) → table n ≡ d → OpensBelow table n s → OpensBelow table (suc n) s
one_more table n s d is (inl found) = inl found
one_more table n s None is (inr none) = inr (no_more table n s none (λ o at. absurd (none-some (Entry o) (sym is ∙ at))))
one_more table n s (Some (Stream x)) is (inr none) = inr (no_more table n s none (λ o at. let same : Some (Stream x) ≡ Some (Entry o) = sym is ∙ at in cc))
one_more table n s (Some (Entry p)) is (inr none) = elim (cases_eq p.serial s) [
  | inl here ↦ inl (n, p, is, here)
  | inr other ↦ inr (no_more table n s none (λ o at serial. let same : Some (Entry p) ≡ Some (Entry o) = sym is ∙ at in let one : p ≡ o = cc in other (ap (λ (o : Opened). o.serial) one ∙ serial)))
]

opens_below : (table : Table) (s n : ℕ) → OpensBelow table n s
opens_below table s zero = inr (λ fd o low is. absurd (omega arith))
opens_below table s (suc n) = one_more table n s (table n) refl (opens_below table s n)

module _ (w : World) (begins : HasOnlyDirectoriesOpen w) where
  directories : (top : ℕ) → named_by w.table top → IsDirectory w.tree top
  directories top is = subst (IsDirectory w.tree) is.3 (begins.directories is.0 is.1 is.2).0

  decided : (s : ℕ) → named_by w.table s ⊎ (named_by w.table s → ⊥)
  decided s = elim (opens_below w.table s PLACES) [
    | inl is ↦ inl is
    | inr none ↦ inr (λ is. none is.0 is.1 (begins.few is.0 is.1 is.2) is.2 is.3)
  ]

  at_first : Holds w.tree (named_by w.table) w.tree w.table
  at_first = record {
    tree = begins.tree;
    same = λ s out. refl;
    gained = λ s e used out. used;
    lost = λ s e used out. used;
    named = λ fd o g. let d = begins.directories fd o g in record {
      few = begins.few fd o g;
      e = d.0.0;
      used = d.0.1;
      kind = ap is_directory d.0.2 ∙ sym (ap is_directory_kind d.1);
      inside = λ out. out.below_none o.serial [] (fd, o, g, refl) refl;
    };
  }

-- ---- what answers keep

module _ (T0 : Tree) (t0 : IsTree T0) (tops : Tops) (all : (top : ℕ) → tops top → IsDirectory T0 top) (decide : (s : ℕ) → tops s ⊎ (tops s → ⊥)) where
  call_keeps : (c : HostCall) (w : World) (m : List ℕ) (used : ℕ) (args : List ℕ) (w' : World) (m' : List ℕ) (answer : Answer) → Calls w m used c args w' m' answer → Holds T0 tops w.tree w.table → Holds T0 tops w'.tree w'.table
  call_keeps call.ProcExit w m used args w' m' answer (is, same, bytes) h = subst (λ (v : World). Holds T0 tops v.tree v.table) (sym same) h
  call_keeps other w m used args w' m' answer (e, is, a) h =
      answered_keeps T0 t0 tops all decide (λ v. row other v m used args) w m w' m' e.0 (row_keeps T0 t0 tops all other w m used args h) a h

  module _ {H : Type 0} (CallsH : CallsOf H) (shows : H → World → Type 0) (honest : H → Type 0) (is : IsHostOf CallsH shows honest) where
    -- of each world that the host shows
    abbrev KeptBy : H → Type 0
    KeptBy h = honest h × ((w : World) → shows h w → Holds T0 tops w.tree w.table)

    host_call_keeps : (x : HostCall) (h h' : H) (m m' : List ℕ) (used : ℕ) (args : List ℕ) (answer : Answer) → CallsH h m used x args h' m' answer → KeptBy h → KeptBy h'
    host_call_keeps x h h' m m' used args answer a (is_honest, kept) =
        let (still, told) = is.answers h h' m m' used x args answer is_honest a in
        let (w, w', shows_old, shows_new, meaning) = told in
        let after = call_keeps x w m used args w' m' answer meaning (kept w shows_old) in
        (still, λ v shown. subst (λ (t : Table). Holds T0 tops v.tree t) (is.table h' w' v shows_new shown) (subst (λ (T : Tree). Holds T0 tops T w'.table) (is.tree h' w' v shows_new shown) after))

    step_keeps : (i : Instance) (n : ℕ) (h : H) (c : Configuration) (ev : Event) (h' : H) (c' : Configuration) → Step H CallsH i n h c ev h' c' → KeptBy h → KeptBy h'
    step_keeps i n h c ev h' c' (plain_step r) k = k
    step_keeps i n h c ev h' c' (free_step r) k = k
    step_keeps i n h c ev h' c' (host_answers {call = x} args vs callee whole count a) k = host_call_keeps x h h' _ _ _ _ _ a k
    step_keeps i n h c ev h' c' (host_exits {call = x} args vs callee whole count a) k = host_call_keeps x h h' _ _ _ _ _ a k
    step_keeps i n h c ev h' c' (in_label s) k = step_keeps i n h _ ev h' _ s k
    step_keeps i n h c ev h' c' (in_frame s) k = step_keeps i _ h _ ev h' _ s k

    reach_keeps : (i : Instance) (h : H) (c : Configuration) (es : List (HostCall × Errno)) (h' : H) (c' : Configuration) → Reach H CallsH i h c es h' c' → KeptBy h → KeptBy h'
    reach_keeps i h c es h' c' stays k = k
    reach_keeps i h c es h' c' (goes {h' = g} {c' = d} ev later s r) k = reach_keeps i g d later h' c' r (step_keeps i 0 h c ev g d s k)

    -- along a list of answers
    abbrev Keeps : H → List (HostCall × Errno) → H → Type 0
    Keeps h es h' = KeptBy h → KeptBy h'

    life_keeps : (links : AllLinks) (pages : ℕ) (m : Module) (h h' : H) (vs : List Invocation) (s : Store) → Life H CallsH links pages m h vs h' s → KeptBy h → KeptBy h'
    life_keeps links pages m h h' vs s life k =
        let opened = talk_carries CallsH Keeps (λ g held. held) (λ a b c es fs first second held. second (first held)) life.instance (reach_keeps life.instance) h _ life.calls life.exchanges life.opened life.ready life.opens k in
        lives_carry CallsH Keeps (λ g held. held) (λ a b c es fs first second held. second (first held)) m life.instance (reach_keeps life.instance) life.opened (store_of life.ready) vs h' s life.lives opened

pub lives_stay_confined : {H : Type 0} (CallsH : CallsOf H) (shows : H → World → Type 0) (honest : H → Type 0) → ConfinesLives CallsH shows honest
lives_stay_confined CallsH shows honest links pages m h h' w w' vs s is is_honest shown begins life shown_after =
    let tops = named_by w.table in
    let all = directories w begins in
    let kept = λ (v : World) (is_shown : shows h v). subst (λ (t : Table). Holds w.tree tops v.tree t) (is.table h w v shown is_shown)
    (subst (λ (T : Tree). Holds w.tree tops T w.table) (is.tree h w v shown is_shown) (at_first w begins)) in
    confined w.tree begins.tree tops all (decided w begins) w'
    ((life_keeps w.tree begins.tree tops all (decided w begins) CallsH shows honest is links pages m h h' vs s life (is_honest, kept)).1 w' shown_after)
