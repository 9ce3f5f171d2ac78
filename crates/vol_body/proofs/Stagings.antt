-- What stays of a log that is read, and then staged to.
use Rattle.std.proofs.Common.{◌≡◌, ◌↔◌, ◌≤◌, ◌+◌, ◌-◌, if◌then◌else◌, ℕ, Result, Ok, Err, OnOk, OnErr, is_err, Bool, true, false, length, refl, sym, ◌∙◌, ap, subst, arith}
use Rattle.vol_sector.specs.Disk.{Leaves, counted}
use Rattle.vol_sector.specs.declared.device.Device.{Ghosts}
use Rattle.vol_log.specs.Log.{device_of, log_sectors, room_of, has_failed}
use Rattle.vol_log.specs.declared.log.Log.{Log}
use Rattle.vol_log.specs.Reading.{OnlyReads}
use Rattle.vol_log.proofs.Readings.{reads_same}
use Rattle.vol_alloc.specs.Alloc.{first_of, end_of}
use Rattle.vol_alloc.specs.declared.sectors.Alloc.{Alloc}
use Rattle.vol_body.proofs.Steps.{room_left}
use Rattle.vol_body.specs.Reading.{OnlyStages, StagesAtMost}

pub stages_then : {D : Type 0} {g : Ghosts D} (a b c : Log D g) → OnlyReads a b → has_failed b ≡ false → device_of c ≡ device_of b → log_sectors c ≡ log_sectors b → has_failed c ≡ false → OnlyStages a c
stages_then {D = D} {g = g} a b c reads still device sectors working = record {
  seen = λ h. ap (λ (d : D). (g.disk d).seen) device ∙ reads.seen h;
  crash = λ h. subst (λ (d : D). Leaves (g.disk (device_of a)) (g.disk d) (λ c. ⊥)) (sym device) (reads.crash h);
  sectors = sectors ∙ reads.sectors;
  honest = subst (λ (d : D). g.honest (device_of a) ↔ g.honest d) (sym device) reads.honest;
  size = ap g.size device ∙ reads.size;
  goes_on = λ end first from. subst (g.goes_on end first) (sym device) (reads.goes_on end first from);
  failures = λ was_working. ap g.failures device ∙ reads.failures was_working ∙ ap (λ (b : Bool). counted b (g.failures (device_of a))) (still ∙ sym working);
}

-- reads leave the room for sectors to stage
pub room_read : {D : Type 0} {g : Ghosts D} (a b : Log D g) → OnlyReads a b → room_of b ≡ room_of a
room_read a b reads = ap (λ l. 120 - length l) reads.staged

-- a change that is refused after it has only read
pub stages_none : {D : Type 0} {g : Ghosts D} (most : ℕ) (a b : Log D g) (s t : Alloc) (refused : Bool) → OnlyReads a b → has_failed b ≡ refused → first_of t ≡ first_of s → end_of t ≡ end_of s → StagesAtMost most a b s t refused
stages_none most a b s t refused reads failed first end = record {
  room = let same : room_of b ≡ room_of a = room_read a b reads in omega (arith, same);
  log = record { seen = reads.seen; crash = reads.crash; sectors = reads.sectors; honest = reads.honest; size = reads.size; goes_on = reads.goes_on; failures = reads.failures };
  failed = failed;
  range = (first, end);
}

-- a change that is refused at once
pub stages_idle : {D : Type 0} {g : Ghosts D} (most : ℕ) (a : Log D g) (s : Alloc) → has_failed a ≡ true → StagesAtMost most a a s s true
stages_idle most a s failed = stages_none most a a s s true (reads_same a) failed refl refl

-- a change that stages one sector, or is refused at once
pub stages_one : {D : Type 0} {g : Ghosts D} {T E : Type 0} (most : ℕ) (a b : Log D g) (s : Alloc) (r : Result T E) (staged : Bool) → 1 ≤ most → device_of b ≡ device_of a → log_sectors b ≡ log_sectors a → has_failed b ≡ has_failed a
    → is_err r ≡ has_failed a → OnOk r (room_of b ≡ (if staged then room_of a else room_of a - 1)) → OnErr r (room_of b ≡ room_of a) → StagesAtMost most a b s s (is_err r)
stages_one {D = D} {g = g} {T = T} {E = E} most a b s r staged some device sectors failed fails room refused = record {
  room = kept r room refused;
  log = record {
    seen = λ h. ap (λ (d : D). (g.disk d).seen) device;
    crash = λ h. subst (λ (d : D). Leaves (g.disk (device_of a)) (g.disk d) (λ c. ⊥)) (sym device) ((reads_same a).crash h);
    sectors = sectors;
    honest = subst (λ (d : D). g.honest (device_of a) ↔ g.honest d) (sym device) (λ h. h, λ h. h);
    size = ap g.size device;
    goes_on = λ end first from. subst (g.goes_on end first) (sym device) from;
    failures = λ working. ap g.failures device ∙ sym (ap (λ (x : Bool). counted x (g.failures (device_of a))) (failed ∙ working));
  };
  failed = failed ∙ sym fails;
  range = (refl, refl);
}
  where
    kept : (r : Result T E) → OnOk r (room_of b ≡ (if staged then room_of a else room_of a - 1)) → OnErr r (room_of b ≡ room_of a) → room_of a ≤ room_of b + most
    kept (Ok x) is same = let less = room_left staged (room_of a) (room_of b) is in omega arith
    kept (Err e) is same = omega arith
