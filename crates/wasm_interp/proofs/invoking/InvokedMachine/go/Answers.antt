use Rattle.std.proofs.Common.{◌≡◌, ◌∙◌, ℕ, [], Option, None, Some, refl, sym, ap, subst, inl, inr}
use Rattle.std.specs.Prelude.{◌⊎◌, IfSome, IfNone}
use Rattle.std.specs.Arc.{arc_value}
use Rattle.wasm_steps.specs.declared.pause.Pause.{Pause}
use Rattle.wasm_places.specs.declared.invocable.Event.TheVariants.{Asked, Paused, Returned}
use Rattle.wasm_operands.specs.declared.phase.Ask.{Ask}
use Rattle.wasm_operands.specs.declared.phase.Phase.{Phase}
use Rattle.wasm_operands.specs.declared.phase.Phase.TheVariants.{Within, Between, Refused, Over, Asking}
use Rattle.wasm_interp.specs.declared.state.State.{State}
use Rattle.wasm_places.specs.declared.tables.Prepared.{Prepared}
use Rattle.wasm_interp.specs.Invoking.{IsAsked}
use Rattle.wasm_interp.specs.internal.Invoking.{HasStopped, Waits, event_of}
use Rattle.wasm_interp.specs.internal.Running.{IsLive, Pauses, snapshot_of}
use Rattle.wasm_interp.proofs.PlainSteps.Snapshots.{resumed_of}
use Rattle.wasm_interp.proofs.PlainSteps.Invoking.{asked_of, returned_of}
use Rattle.wasm_interp.proofs.invoking.InvokedMachine.go.Goals as goal

-- ---- what an event tells

paused_once : (p q : Pause) → Paused p ≡ Paused q → Some p ≡ Some q
paused_once p q e = cc

paused_by : (f : Phase) (o : Option Pause) (p : Pause) → event_of f o ≡ Paused p → o ≡ Some p
paused_by f (Some q) p e = paused_once q p e
paused_by Within None p e = cc
paused_by Between None p e = cc
paused_by Refused None p e = cc
paused_by (Over o) None p e = cc
paused_by (Asking a) None p e = cc

asked_by : (f : Phase) (o : Option Pause) (x : ℕ) → event_of f o ≡ Asked x → (o ≡ None) × (a : Ask) × (f ≡ Asking a) × (a.function ≡ x)
asked_by f (Some q) x e = cc
asked_by Within None x e = cc
asked_by Between None x e = cc
asked_by Refused None x e = cc
asked_by (Over o) None x e = cc
asked_by (Asking a) None x e = (refl, a, refl, cc)

returned_by : (f : Phase) (o : Option Pause) → event_of f o ≡ Returned → (o ≡ None) × ((a : Ask) → f ≡ Asking a → ⊥)
returned_by f (Some q) e = cc
returned_by Within None e = (refl, λ a is. cc)
returned_by Between None e = (refl, λ a is. cc)
returned_by Refused None e = (refl, λ a is. cc)
returned_by (Over o) None e = (refl, λ a is. cc)
returned_by (Asking a) None e = cc

-- what waits and doesn't ask has nothing left to do
at_rest : (s : State) → Waits s → ((a : Ask) → s.phase ≡ Asking a → ⊥) → (s.phase ≡ Between) × (s.pending.functions ≡ [])
at_rest s (inl k) none = k
at_rest s (inr (a, e)) none = absurd (none a e)

-- ---- what `go` says of the module that is lent is said of the shared one

pub invariant_of-self : goal.invariant_of-self
invariant_of-self g c = record { tables = c.self.invariant.tables; live = subst (λ (r : Prepared). IsLive r c.go-pause.new.self) c.deref.ensures c.go-pause.ensures.live; answers = c.go-pause.ensures.answers }

pub returns-clause-paused : goal.returns-clause-paused
returns-clause-paused g c = λ p is.
    let new : State = c.go-pause.new.self in
    let came : c.go-pause.result ≡ Some p = paused_by new.phase c.go-pause.result p (sym c.event.ensures ∙ is) in
    let told = subst (λ (o : Option Pause). IfSome o (λ q. Pauses _ g.H.Host.calls c.deref.result.now c.args.host.now c.go-pause.new.host c.self.inside.state new c.args.units q)) came c.go-pause.ensures.pauses in
    let paused = subst (λ (r : Prepared). Pauses _ g.H.Host.calls r c.args.host.now c.go-pause.new.host c.self.inside.state new c.args.units p) c.deref.ensures told in
    rw (← c.self.view_is) (resumed_of _ g.H.Host.calls (arc_value c.self.inside.prepared) _ _ c.self.inside.state new _ p c.self.invariant c.go-pause.ensures.live.room c.go-pause.ensures.most c.go-pause.ensures.rests paused)

pub returns-clause-asked : goal.returns-clause-asked
returns-clause-asked g c = λ x is.
    let new : State = c.go-pause.new.self in
    let told = asked_by new.phase c.go-pause.result x (sym c.event.ensures ∙ is) in
    let waited = subst (λ (o : Option Pause). IfNone o (HasStopped _ c.deref.result.now c.args.host.now c.go-pause.new.host c.self.inside.state new c.args.units)) told.0 c.go-pause.ensures.waits in
    let stopped = subst (λ (r : Prepared). HasStopped _ r c.args.host.now c.go-pause.new.host c.self.inside.state new c.args.units) c.deref.ensures waited in
    rw (← c.self.view_is) (subst (λ (y : ℕ). IsAsked _ g.H.Host.calls c.args.host.now c.go-pause.new.host (snapshot_of (arc_value c.self.inside.prepared) c.self.inside.state) (snapshot_of (arc_value c.self.inside.prepared) new) c.args.units y) told.3
    (asked_of _ g.H.Host.calls (arc_value c.self.inside.prepared) _ _ c.self.inside.state new _ told.1 c.self.invariant c.go-pause.ensures.live.room c.go-pause.ensures.most stopped told.2))

pub returns-clause-returned : goal.returns-clause-returned
returns-clause-returned g c = λ is.
    let new : State = c.go-pause.new.self in
    let told = returned_by new.phase c.go-pause.result (sym c.event.ensures ∙ is) in
    let waited = subst (λ (o : Option Pause). IfNone o (HasStopped _ c.deref.result.now c.args.host.now c.go-pause.new.host c.self.inside.state new c.args.units)) told.0 c.go-pause.ensures.waits in
    let stopped = subst (λ (r : Prepared). HasStopped _ r c.args.host.now c.go-pause.new.host c.self.inside.state new c.args.units) c.deref.ensures waited in
    let rest = at_rest new stopped.waits told.1 in
    rw (← c.self.view_is) (returned_of _ g.H.Host.calls (arc_value c.self.inside.prepared) _ _ c.self.inside.state new _ c.self.invariant c.go-pause.ensures.live.room c.go-pause.ensures.most stopped rest.0 rest.1)
