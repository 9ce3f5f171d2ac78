use Rattle.std.proofs.Common.{◌∙◌, ℕ, ap, replicate}
use Rattle.sandbox_command.proofs.archive.empty_for.Goals as goal

pub formatted-requires : goal.formatted-requires
formatted-requires c = c.in-Ok.ensures.zeros ∙ ap (λ (n : ℕ). replicate n (replicate 512 0)) c.size_for-size.ensures.sectors
