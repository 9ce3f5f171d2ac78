use Rattle.std.proofs.Common.{◌≡◌, ℕ, ◌+◌, ◌-◌, List, [], ◌∷◌, ◌++◌, length, sym, ap, ◌∙◌, append_assoc, append-nil}
use Rattle.sandbox_inspect.specs.internal.Starts.{starts_from}
use Rattle.sandbox_inspect.proofs.Starting.{starts_on, starts_stop}
use Rattle.sandbox_inspect.proofs.starts.add_starts.Goals as goal

-- the bytes are no entry
pub returns-in_default : goal.returns-in_default
returns-in_default c =
    sym (append-nil c.loop.starts.items)
    ∙ ap (λ (z : List ℕ). c.loop.starts.items ++ z) (sym (starts_stop c.args.end (c.args.count - c.loop.counter) c.loop.rest.now (sym c.in_default.ensures)))
    ∙ c.loop.invariant

pub loop-preserved : goal.loop-preserved
loop-preserved c =
    let content = c.in-Some.content.now in
    let after = c.in-Some.after.now in
    let tail = starts_from c.args.end (c.args.count - (c.loop.counter + 1)) after in
    let start : c.saturating_sub-in-loop.result ≡ c.args.end - length after - length content = c.saturating_sub-in-loop.ensures ∙ ap (λ n. n - length content) c.saturating_sub.ensures in
    ap (λ (z : List ℕ). z ++ tail) c.in_ok-push.ensures.items
    ∙ append_assoc c.loop.starts.items (c.saturating_sub-in-loop.result ∷ []) tail
    ∙ ap (λ n. c.loop.starts.items ++ (n ∷ tail)) start
    ∙ ap (λ (z : List ℕ). c.loop.starts.items ++ z) (sym (starts_on c.args.end c.args.count c.loop.counter c.loop.rest.now content after c.loop-test.true (sym c.in-Some.ensures)))
    ∙ c.loop.invariant
