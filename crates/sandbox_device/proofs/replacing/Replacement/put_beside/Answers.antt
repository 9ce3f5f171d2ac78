use Rattle.std.proofs.Common.{◌≡◌, ℕ, List, Result, Ok, Err, MatchResult, rules}
use Rattle.std.specs.declared.io.Error.{Error}
use Rattle.sandbox_device.specs.declared.replacing.Successor.{Successor}
use Rattle.sandbox_device.specs.Beside.{IsNotReplaced, IsReplaced, WasFilled, WasHindered, WasMadeLasting, WasRenamed, WasSettled}
use Rattle.sandbox_device.specs.Replaced.{WasNotReplaced, WasReplaced}
use Rattle.sandbox_device.proofs.replacing.Replacement.put_beside.Goals as goal

was_replaced : {R : Type 0} (path bytes : List ℕ) (before after : Successor R) (done : Result (Unit {0}) Error)
    → MatchResult done (λ _. IsReplaced WasFilled WasMadeLasting WasRenamed WasSettled bytes before after) (λ _. IsNotReplaced WasFilled WasMadeLasting WasRenamed WasHindered bytes before after)
    → before.path.now ≡ path → MatchResult done (λ _. WasReplaced R path bytes) (λ _. WasNotReplaced R path bytes)
was_replaced path bytes before after (Ok x) replaced named = record { before = before; after = after; is_named = named; replaced = replaced }
was_replaced path bytes before after (Err error) refused named = record { before = before; after = after; is_named = named; refused = refused }

pub returns : goal.returns
returns g c = was_replaced _ _ _ _ c.replace.result c.replace.ensures (search rules)
