use Rattle.std.proofs.Common.{◌≡◌, ◌∙◌, ◌<◌, replicate, refl, inl, arith}
use Rattle.vol_sector.specs.Disk.{Wrote, Leaves}
use Rattle.vol_log.proofs.Moments.{leaves_on, on_ok}
use Rattle.vol_tree.specs.Stands.{StandsAs, empty_tree}
use Rattle.vol_tree.specs.Fresh.{IsNoneOrEmpty}
use Rattle.vol_tree.specs.internal.Formatting.{OnlyAfterFrontChanges}
use Rattle.vol_tree.proofs.Steps.{leaves_first, zeros_first, zeros_are_none, cleared, named_empty, named_or_none}
use Rattle.vol_tree.proofs.formatting.lay_out.Goals as goal

pub returns-in_err-write_first-clause-crash : goal.returns-in_err-write_first-clause-crash
returns-in_err-write_first-clause-crash g c h =
    let v = c.args.numbers.now in
    leaves_first _ _ _ (IsNoneOrEmpty v) (λ t m le may. g.met.D.Device.counts_now c.args.device.now t m h le may) (λ m. zeros_first v _ m refl) (c.write_first.ensures.crash h)

pub returns-in_err-write_after_front-clause-crash : goal.returns-in_err-write_after_front-clause-crash
returns-in_err-write_after_front-clause-crash g c h =
    let v = c.args.numbers.now in
    let a = g.D.Device.disk c.args.device.now in
    let b = g.D.Device.disk c.write_first.new.device in
    let d = g.D.Device.disk c.write_after_front.new.device in
    let h1 = c.write_first.ensures.honest.0 h in
    let P = IsNoneOrEmpty v in
    let first : Leaves a b P = leaves_first a b _ P (λ t m le may. g.met.D.Device.counts_now c.args.device.now t m h le may) (λ m. zeros_first v _ m refl) (c.write_first.ensures.crash h) in
    let zeros : b.seen 0 ≡ replicate 512 0 = cleared _ a.seen b.seen (c.in_ok-write_first.ensures.written h) refl in
    leaves_on a b d OnlyAfterFrontChanges P first (c.in_ok-write_first.ensures.durable h) (c.write_after_front.ensures.crash h1) (λ m step. inl (zeros_are_none m (step ∙ zeros)))

pub returns-clause-crash : goal.returns-clause-crash
returns-clause-crash g c h =
    let v = c.args.numbers.now in
    let a = g.D.Device.disk c.args.device.now in
    let b = g.D.Device.disk c.write_first.new.device in
    let d = g.D.Device.disk c.write_after_front.new.device in
    let e = g.D.Device.disk c.write_first-2.new.device in
    let h1 = c.write_first.ensures.honest.0 h in
    let h2 = c.write_after_front.ensures.honest.0 h1 in
    let P = IsNoneOrEmpty v in
    let first : Leaves a b P = leaves_first a b _ P (λ t m le may. g.met.D.Device.counts_now c.args.device.now t m h le may) (λ m. zeros_first v _ m refl) (c.write_first.ensures.crash h) in
    let zeros : b.seen 0 ≡ replicate 512 0 = cleared _ a.seen b.seen (c.in_ok-write_first.ensures.written h) refl in
    let second : Leaves a d P = leaves_on a b d OnlyAfterFrontChanges P first (c.in_ok-write_first.ensures.durable h) (c.write_after_front.ensures.crash h1) (λ m step. inl (zeros_are_none m (step ∙ zeros))) in
    leaves_on a d e (Wrote 0 c.write_superblock.result) P second (c.in_ok-write_after_front.ensures.durable h1) (c.write_first-2.ensures.crash h2)
    (λ m wrote. named_or_none v c.write_superblock.result d.seen m c.requires.ranges c.write_superblock.ensures (c.in_ok-write_after_front.ensures.written h1) (c.write_after_front.ensures.first h1 ∙ zeros) wrote)

pub returns-clause-empty : goal.returns-clause-empty
returns-clause-empty g c h =
    let v = c.args.numbers.now in
    let d = g.D.Device.disk c.write_after_front.new.device in
    let e = g.D.Device.disk c.write_first-2.new.device in
    let h1 = c.write_first.ensures.honest.0 h in
    let h2 = c.write_after_front.ensures.honest.0 h1 in
    on_ok c.write_first-2.result _ (StandsAs e.seen v (empty_tree v.slots))
    (λ written. named_empty v c.write_superblock.result d.seen e.seen c.requires.ranges c.write_superblock.ensures (c.in_ok-write_after_front.ensures.written h1) written)
    (c.write_first-2.ensures.written h2)
