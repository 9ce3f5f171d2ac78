use Rattle.std.proofs.Common.{◌∙◌, ap, length, replicate, ℕ}
use Rattle.std.proofs.lemmas.List.{length-replicate}
use Rattle.sandbox_host.proofs.volumes.open_fresh.Goals as goal

pub returns-in-Ok-clause-opens : goal.returns-in-Ok-clause-opens
returns-in-Ok-clause-opens c =
    let made = c.in-Ok.ensures in
    record {
      numbers = made.makes.numbers;
      tree = made.makes.empty tt;
      size = made.kept.size ∙ (ap length c.in_ok-device.ensures ∙ length-replicate 202 (replicate {A = ℕ} 512 0));
      working = record { works = made.makes.working; lasts = made.makes.durable tt };
    }
