use Rattle.std.proofs.Common.{◌≡◌, false, sym, ◌∙◌}
use Rattle.sandbox_inspect.proofs.Finding.{holds, holds_later, holds_earlier, entry_on}
use Rattle.sandbox_inspect.proofs.places.holding_entry.Goals as goal
use Rattle.sandbox_inspect.proofs.places.holding_entry.Goals.{else-after-left-via-then-after-left+else-left-rest, else-after-left-via-else-after-left}

pub loop-index-preserved : goal.loop-index-preserved
loop-index-preserved c =
    let rest = c.loop-index.rest.now in
    let after = c.in_ok-after.after.now in
    let other : holds c.args.left rest after ≡ false = elim c.else-after-left.branch [
      | else-after-left-via-then-after-left+else-left-rest w ↦ holds_earlier c.args.left rest after w.if-after-left.true w.if-left-rest.false
      | else-after-left-via-else-after-left w ↦ holds_later c.args.left rest after w.if-after-left.false
    ] in
    sym (entry_on c.args.count c.loop-index.index c.args.left rest c.in_ok-after.field-0-0.now after c.loop-index-test.true (sym c.in_ok-after.ensures) other) ∙ c.loop-index.invariant
