use Rattle.std.proofs.Common.{ℕ, suc, refl, ap, inl, inr}
use Rattle.wasm_steps.specs.Configuration.{Instance, Configuration}
use Rattle.wasm_steps.specs.Steps.{CallsOf, Event, Step, plain_step, free_step, host_answers, host_exits, in_label, in_frame}
use Rattle.wasm_steps.specs.Units.{TakesItsUnit}
use Rattle.wasm_steps.proofs.Units.{rewrites, is_free}
use Rattle.wasm_steps.proofs.laws.steps_take_their_units.Goals as goal

-- by induction on the labels and frames around
takes_its_unit : {H : Type 0} {Calls : CallsOf H} {i : Instance} {n : ℕ} {h h' : H} {c d : Configuration} {ev : Event} → Step H Calls i n h c ev h' d → TakesItsUnit c d
takes_its_unit (plain_step r) = let w = rewrites r in inl (w.0, ap suc w.1)
takes_its_unit (free_step a) = inr (is_free a, refl)
takes_its_unit (host_answers args vs callee is count call) = inr (λ p. p, refl)
takes_its_unit (host_exits args vs callee is count call) = inr (λ p. p, refl)
takes_its_unit (in_label inner) = takes_its_unit inner
takes_its_unit (in_frame inner) = takes_its_unit inner

pub returns : goal.returns
returns g c = λ i n h h' c d ev step. takes_its_unit step
