use Rattle.std.proofs.Common.{◌≡◌, ◌-◌, ℕ, List, ◌++◌, length, sym, ap, ◌∙◌, subst}
use Rattle.sandbox_inspect.specs.internal.Starts.{starts_from, AreStarts}
use Rattle.sandbox_inspect.specs.internal.Views.{found}
use Rattle.sandbox_inspect.proofs.Starting.{are_starts}
use Rattle.sandbox_inspect.proofs.starts.entry_starts.Goals as goal

pub returns : goal.returns
returns c =
    let bytes = c.args.bytes.now in
    let s = found c.in-Some.section in
    let entries = c.in-Some-number.entries.now in
    let all : c.add_starts.new.starts.items ≡ starts_from (length bytes - length s.rest) c.min.result entries =
    c.in_ok-add_starts.ensures
    ∙ ap (λ (z : List ℕ). z ++ starts_from c.saturating_sub-end.result c.min.result entries) c.new-starts.ensures.items
    ∙ ap (λ end. starts_from end c.min.result entries) c.saturating_sub-end.ensures in
    subst (AreStarts bytes) (sym all) (are_starts bytes s c.in-Some-number.count c.min.result entries (sym c.in-Some.ensures) (sym c.in-Some-number.ensures))
