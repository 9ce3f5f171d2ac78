use Rattle.std.proofs.Common.{◌≡◌, ◌↔◌, ◌<◌, ◌+◌, ℕ, get_or}
use Rattle.vol_sector.specs.Disk.{Leaves}
use Rattle.vol_sector.specs.Past.{StillGoesOn}
use Rattle.vol_log.specs.internal.Batch.{numbers}
use Rattle.vol_log.proofs.Images.{blank}
use Rattle.vol_log.proofs.steps.read_images.Given as goal

abbrev pub invariant-loop-i : goal.invariant-loop-i
invariant-loop-i g l = record {
  read : g.D.Device.honest l.fn.device → (j : ℕ) → j < l.i → (get_or l.batch j blank).image ≡ (g.D.Device.disk l.fn.device).seen (2 + j);
  sectors : numbers l.batch ≡ numbers l.initial.batch;
  seen : g.D.Device.honest l.fn.device → (g.D.Device.disk l.device).seen ≡ (g.D.Device.disk l.fn.device).seen;
  crash : g.D.Device.honest l.fn.device → Leaves (g.D.Device.disk l.fn.device) (g.D.Device.disk l.device) (λ c. ⊥);
  honest : g.D.Device.honest l.fn.device ↔ g.D.Device.honest l.device;
  goes_on : (end : ℕ) → StillGoesOn (g.D.Device.goes_on end) l.fn.device l.device;
  size : g.D.Device.size l.device ≡ g.D.Device.size l.fn.device;
  failures : g.D.Device.failures l.device ≡ g.D.Device.failures l.fn.device;
}
