-- How what stays of a log goes on from read to read.
use Rattle.std.proofs.Common.{◌≡◌, ℕ, ◌↔◌, inl, inr, ⊎_elim, Bool, false, sym, ◌∙◌, ap, arith}
use Rattle.vol_sector.specs.Disk.{Disk, Leaves, counted}
use Rattle.vol_sector.specs.Past.{StillGoesOn}
use Rattle.vol_sector.specs.declared.device.Device.{Ghosts}
use Rattle.vol_log.specs.Log.{view, staged_of, device_of, log_sectors, has_failed}
use Rattle.vol_log.specs.declared.log.Log.{Log}
use Rattle.vol_log.specs.Reading.{OnlyReads}

leaves_same : (d : Disk) → Leaves d d (λ c. ⊥)
leaves_same d = record { later = omega arith; since = λ t c le left. inl left; now = λ c may. inl may }

leaves_then : (a b c : Disk) → Leaves a b (λ c. ⊥) → Leaves b c (λ c. ⊥) → Leaves a c (λ c. ⊥)
leaves_then a b c first second = record {
  later = omega (arith, first.later, second.later);
  since = λ t m le left. ⊎_elim (λ was. first.since t m le was) (λ none. inr none) (second.since t m (omega (arith, le, first.later)) left);
  now = λ m may. ⊎_elim (λ was. first.now m was) (λ none. inr none) (second.now m may);
}

module _ {D : Type 0} {g : Ghosts D} where
  -- before the first read
  pub reads_same : (log : Log D g) → OnlyReads log log
  reads_same log = record {
    view = λ h i. view log;
    staged = λ i. staged_of log;
    seen = λ h i. (g.disk (device_of log)).seen;
    crash = λ h. leaves_same (g.disk (device_of log));
    sectors = λ i. log_sectors log;
    honest = (λ h. h, λ h. h);
    size = λ i. g.size (device_of log);
    goes_on = λ end first from. from;
    failures = λ working. ap (λ (b : Bool). counted b (g.failures (device_of log))) (sym working);
  }

  -- one read after another
  pub reads_then : (a b c : Log D g) → has_failed b ≡ false → OnlyReads a b → OnlyReads b c → OnlyReads a c
  reads_then a b c still first second = record {
    view = λ h. second.view (first.honest.0 h) ∙ first.view h;
    staged = second.staged ∙ first.staged;
    seen = λ h. second.seen (first.honest.0 h) ∙ first.seen h;
    crash = λ h. leaves_then (g.disk (device_of a)) (g.disk (device_of b)) (g.disk (device_of c)) (first.crash h) (second.crash (first.honest.0 h));
    sectors = second.sectors ∙ first.sectors;
    honest = (λ h. second.honest.0 (first.honest.0 h), λ h. first.honest.1 (second.honest.1 h));
    size = second.size ∙ first.size;
    goes_on = λ end start from. second.goes_on end start (first.goes_on end start from);
    failures = λ working. second.failures still ∙ ap (counted (has_failed c)) (first.failures working ∙ ap (λ (b : Bool). counted b (g.failures (device_of a))) still);
  }

  -- one read of a sector, as it answers
  pub reads_of :
      (a b : Log D g) (failed : Bool) →
      (g.honest (device_of a) → view b ≡ view a) →
      staged_of b ≡ staged_of a →
      (g.honest (device_of a) → (g.disk (device_of b)).seen ≡ (g.disk (device_of a)).seen) →
      (g.honest (device_of a) → Leaves (g.disk (device_of a)) (g.disk (device_of b)) (λ c. ⊥)) →
      log_sectors b ≡ log_sectors a →
      (g.honest (device_of a) ↔ g.honest (device_of b)) →
      g.size (device_of b) ≡ g.size (device_of a) →
      ((end : ℕ) → StillGoesOn (g.goes_on end) (device_of a) (device_of b)) →
      (has_failed a ≡ false → g.failures (device_of b) ≡ counted failed (g.failures (device_of a))) →
      has_failed b ≡ failed →
      OnlyReads a b
  reads_of a b failed same staged seen crash sectors honest size goes_on failures now = record {
    view = same;
    staged = staged;
    seen = seen;
    crash = crash;
    sectors = sectors;
    honest = honest;
    size = size;
    goes_on = goes_on;
    failures = λ working. failures working ∙ sym (ap (λ (x : Bool). counted x (g.failures (device_of a))) now);
  }
