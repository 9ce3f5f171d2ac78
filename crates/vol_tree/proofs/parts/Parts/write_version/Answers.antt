use Rattle.std.proofs.Common.{◌≡◌, ◌∙◌, ℕ, List, Bool, true, false, refl, sym, ap, subst}
use Rattle.vol_sector.specs.Disk.{Leaves, put}
use Rattle.vol_log.specs.Log.{device_of}
use Rattle.vol_tree.specs.Superblock.{superblock}
use Rattle.vol_tree.specs.Clauses.{raised}
use Rattle.vol_tree.specs.internal.Upgrades.{Upgrades}
use Rattle.vol_tree.proofs.Raising.{LogFronts, not_upgraded, is_upgraded}
use Rattle.vol_tree.proofs.Taking.{err_is}
use Rattle.vol_tree.proofs.parts.Parts.write_version.Goals as goal

pub returns-in_err-write_front : goal.returns-in_err-write_front
returns-in_err-write_front g c =
    let old = c.args.self.now in
    let disk = g.D.Device.disk (device_of old.log) in
    let bytes : c.write_superblock.result ≡ superblock (raised c.args.to old.numbers) = c.write_superblock.ensures in
    let fronts : LogFronts old.log c.write_front.new.self (superblock (raised c.args.to old.numbers)) true = record {
      written = λ good. absurd (cc);
      settled = λ good. absurd (cc);
      others = λ h n lt. c.write_front.ensures.others h n lt;
      crash = λ h. subst (λ (b : List ℕ). Leaves disk (g.D.Device.disk (device_of c.write_front.new.self)) (λ m. m ≡ put 0 b disk.seen)) bytes (c.write_front.ensures.crash h);
      staged = c.write_front.ensures.staged;
      failed = c.in_err-write_front.ensures.failed;
      sectors = c.write_front.ensures.sectors;
      honest = c.write_front.ensures.honest;
      size = c.write_front.ensures.size;
      goes_on = c.write_front.ensures.goes_on;
      failures = c.in_err-write_front.ensures.failures c.requires.working;
    } in
    let io = err_is c.from_residual.result c.from_residual.ensures.0 in
    subst (λ (b : Bool). Upgrades c.args.to old (record old { log = c.write_front.new.self }) b) (sym io)
    (not_upgraded g.met.D.Device.may_stay old c.write_front.new.self c.requires.is_open c.requires.working c.requires.empty c.args.to c.requires.version true fronts refl)

pub returns : goal.returns
returns g c =
    let old = c.args.self.now in
    let disk = g.D.Device.disk (device_of old.log) in
    let bytes : c.write_superblock.result ≡ superblock (raised c.args.to old.numbers) = c.write_superblock.ensures in
    let fronts : LogFronts old.log c.write_front.new.self (superblock (raised c.args.to old.numbers)) false = record {
      written = λ good h. c.in_ok-write_front.ensures.written h ∙ ap (λ (b : List ℕ). put 0 b disk.seen) bytes;
      settled = λ good h. c.in_ok-write_front.ensures.settled h;
      others = λ h n lt. c.write_front.ensures.others h n lt;
      crash = λ h. subst (λ (b : List ℕ). Leaves disk (g.D.Device.disk (device_of c.write_front.new.self)) (λ m. m ≡ put 0 b disk.seen)) bytes (c.write_front.ensures.crash h);
      staged = c.write_front.ensures.staged;
      failed = c.in_ok-write_front.ensures.failed;
      sectors = c.write_front.ensures.sectors;
      honest = c.write_front.ensures.honest;
      size = c.write_front.ensures.size;
      goes_on = c.write_front.ensures.goes_on;
      failures = c.in_ok-write_front.ensures.failures c.requires.working;
    } in
    is_upgraded g.met.D.Device.may_stay old c.write_front.new.self c.requires.is_open c.requires.working c.requires.empty c.args.to c.requires.version false fronts refl
