use Rattle.std.proofs.Common.{ℕ, ◌+◌, ◌-◌, List, [], ◌∷◌, ◌++◌, length, sym, ap, ◌∙◌, append_assoc}
use Rattle.sandbox_inspect.specs.internal.Bodies.{places_from}
use Rattle.sandbox_inspect.proofs.Placed.{places_on}
use Rattle.sandbox_inspect.proofs.bodies.instruction_places.Goals as goal

pub loop-preserved : goal.loop-preserved
loop-preserved c =
    let most = length c.args.bytes.now in
    let items = c.loop.places.items in
    let left = c.args.count - (c.loop.counter + 1) in
    let later = places_from most left c.after_instruction-rest.result.now in
    ap (λ (z : List ℕ). z ++ later) c.in_ok-push.ensures.items
    ∙ append_assoc items (c.saturating_sub.result ∷ []) later
    ∙ ap (λ n. items ++ (n ∷ later)) c.saturating_sub.ensures
    ∙ ap (λ (z : List ℕ). items ++ ((most - length c.loop.rest.now) ∷ places_from most left z)) c.after_instruction-rest.ensures
    ∙ ap (λ (z : List ℕ). items ++ z) (sym (places_on most c.args.count c.loop.counter c.loop.rest.now c.loop-test.true))
    ∙ c.loop.invariant
