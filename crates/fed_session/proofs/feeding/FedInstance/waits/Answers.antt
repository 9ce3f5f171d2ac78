use Rattle.std.proofs.Common.{◌≡◌, ℕ, Bool, List, true, None, Some, refl, subst, sym, ◌∙◌, ap}
use Rattle.wasm_syntax.specs.declared.module.FuncType.{FuncType}
use Rattle.wasm_syntax.specs.declared.module.Module.{Module}
use Rattle.wasm_store.specs.declared.call.HostCall.TheVariants.{FdRead}
use Rattle.wasm_interp.specs.Invoking.{IsAskedFor}
use Rattle.fed_session.specs.Waiting.{deferred_at}
use Rattle.fed_session.proofs.Acting.{never_waits}
use Rattle.fed_session.proofs.Branches.{on_false, on_true}
use Rattle.fed_session.proofs.Waiting.{none_waits}
use Rattle.fed_session.proofs.feeding.FedInstance.waits.Goals as goal

-- nobody is asked
pub returns-in_default-clause-no : goal.returns-in_default-clause-no
returns-in_default-clause-no g c = rw (← c.self.view_is) (λ x f args asked. absurd (c.in_default.ensures.not (x, f, args, asked)))

-- nothing waits
pub returns-then-not-self-clause-no : goal.returns-then-not-self-clause-no
returns-then-not-self-clause-no g c =
    rw (← c.self.view_is) (λ x f args asked. subst (λ (b : Bool). deferred_at b c.self.inside.instance.machine.valid x ≡ None) (sym c.if-not-self.true) (none_waits c.self.inside.instance.machine.valid x))

-- what is asked for waits, or doesn't
pub returns-clause-yes : goal.returns-clause-yes
returns-clause-yes g c =
    let call = c.in-Some.call in
    let asked = c.in-Some.ensures.asked in
    let same = c.module-2.ensures.value ∙ c.module.ensures in
    rw (← c.self.view_is) (on_true c.is_deferred.result _ _ (λ e. (
      call.import,
      asked.0,
      _,
      asked.1,
      subst (λ (b : Bool). deferred_at b c.self.inside.instance.machine.valid call.import ≡ Some FdRead) (sym c.if-not-self.false)
          (subst (λ (m : Module). deferred_at true m call.import ≡ Some FdRead) same e),
    )) c.is_deferred.ensures.yes)

pub returns-clause-no : goal.returns-clause-no
returns-clause-no g c =
    let call = c.in-Some.call in
    let asked = c.in-Some.ensures.asked in
    let same = c.module-2.ensures.value ∙ c.module.ensures in
    rw (← c.self.view_is) (on_false c.is_deferred.result _ _ (λ e. never_waits c.self.inside.goes_on c.self.inside.instance.machine call.import asked.0 _ asked.1
    (subst (λ (b : Bool). deferred_at b c.self.inside.instance.machine.valid call.import ≡ None) (sym c.if-not-self.false)
    (subst (λ (m : Module). deferred_at true m call.import ≡ None) same e))) c.is_deferred.ensures.no)
