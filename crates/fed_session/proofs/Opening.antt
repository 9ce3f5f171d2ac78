-- A machine that is opened with the links of the parts is one of the whole instance.
use Rattle.std.proofs.Common.{◌≡◌, ℕ, Bool, List, Result, Ok, Err, subst, sym}
use Rattle.std.specs.Prelude.{IfErr, IfOk}
use Rattle.wasm_store.specs.declared.fault.InstanceFault.{InstanceFault}
use Rattle.wasm_store.specs.Allocating.{NotAllocated}
use Rattle.wasm_store.specs.Allocation.{with_embedder}
use Rattle.wasm_steps.specs.Steps.{CallsOf}
use Rattle.wasm_interp.specs.Invocations.{OpensBy}
use Rattle.wasm_interp.specs.Machine.{Represents, Snapshot}
use Rattle.wasm_interp.specs.Shared.{Ready}
use Rattle.wasm_syntax.specs.declared.module.Module.{Module}
use Rattle.wasi_calls.specs.declared.host.wasi_host.HostParts.{HostParts}
use Rattle.plugin_session.specs.States.{InstanceState, links}
use Rattle.fed_input.specs.Feeding.{Fed}
use Rattle.deferred_calls.specs.Machines.{AreParts}
use Rattle.deferred_calls.proofs.Machines.{machines_defer}
use Rattle.fed_session.specs.Waiting.{deferred_at, links_at_once, parts_at, reserved_at}
use Rattle.fed_session.specs.Feeding.{Opens, RepresentsWhole}

-- of no host: how a machine is opened says nothing of calls
no_calls : CallsOf (Unit {0})
no_calls = λ h memory used call args after memory' answer. ⊥

module _ (goes_on : Bool) (r : Ready) (reserved : List ℕ) where
  pub opened : (o : Result Snapshot InstanceFault) → reserved ≡ reserved_at goes_on → AreParts (deferred_at goes_on) r.valid links (parts_at goes_on)
      → IfOk o (OpensBy Represents (with_embedder (links_at_once goes_on) reserved) r.pages r.valid) → IfOk o (OpensBy (RepresentsWhole goes_on) links r.pages r.valid)
  opened (Ok s) same are opens =
      let part = subst (λ (name : List ℕ). OpensBy Represents (with_embedder (links_at_once goes_on) name) r.pages r.valid s) same opens in
      (machines_defer (deferred_at goes_on) Represents (Unit {0}) no_calls).opens links (parts_at goes_on) r.pages r.valid s are part
  opened (Err e) same are opens = tt

  pub not_opened : (o : Result Snapshot InstanceFault) → reserved ≡ reserved_at goes_on
      → IfErr o (NotAllocated (with_embedder (links_at_once goes_on) reserved) r.pages r.valid) → IfErr o (NotAllocated (parts_at goes_on) r.pages r.valid)
  not_opened (Ok s) same refused = tt
  not_opened (Err e) same refused = subst (λ (name : List ℕ). NotAllocated (with_embedder (links_at_once goes_on) name) r.pages r.valid e) same refused

pub same_opened : {D W1 W2 : Type 0} (goes_on : Bool) (m : Module) (parts : HostParts D Fed W1 W2) (s t : InstanceState D Fed W1 W2) → s ≡ t → Opens goes_on m parts t → Opens goes_on m parts s
same_opened {D} {W1} {W2} goes_on m parts s t is opens = subst (λ (z : InstanceState D Fed W1 W2). Opens goes_on m parts z) (sym is) opens
