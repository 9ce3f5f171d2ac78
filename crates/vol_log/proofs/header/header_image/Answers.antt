use Rattle.std.proofs.Common.{◌≡◌, ◌+◌, ◌-◌, ◌*◌, ◌<◌, ◌++◌, ◌∙◌, List, ℕ, length, take, drop, replicate, get_or, arith, sym, ap, refl}
use Rattle.std.specs.List.{flat_map}
use Rattle.std.proofs.lemmas.List.{take_all, length-map, drop-replicate, append_assoc}
use Rattle.byteorder.specs.Endian.{little_bytes}
use Rattle.vol_log.specs.internal.Batch.{numbers}
use Rattle.vol_log.specs.declared.staged.Staged.{Staged}
use Rattle.vol_log.proofs.Headers.{header_more, spelled_more, length_spelled}
use Rattle.vol_log.proofs.Images.{blank}
use Rattle.vol_log.proofs.header.header_image.Goals as goal

pub loop-i-init : goal.loop-i-init
loop-i-init c =
    let e : c.write_u32.new.buf ≡ little_bytes 4 (length c.args.batch.now) ++ drop 4 (replicate 512 0) = c.write_u32.ensures in
    e ∙ ap (λ (l : List ℕ). little_bytes 4 (length c.args.batch.now) ++ l) (drop-replicate 4 512 0)

pub loop-i-preserved : goal.loop-i-preserved
loop-i-preserved c =
    let batch = c.args.batch.now in
    let i = c.loop-i.i in
    let lt : i < length batch = c.loop-i-test.true in
    let front = little_bytes 4 (length batch) ++ flat_map (little_bytes 4) (numbers (take i batch)) in
    let s = get_or batch i blank in
    header_more front (little_bytes 4 s.sector) c.loop-i.header _ (4 + 4 * i) (512 - (4 + 4 * i)) (508 - 4 * (i + 1))
    (length_spelled batch i (omega arith)) refl (omega (arith, c.requires))
    (c.loop-i.invariant ∙ ap (λ (n : ℕ). front ++ replicate n 0) (let k : 508 - 4 * i ≡ 512 - (4 + 4 * i) = omega arith in k))
    c.write_u32-in-loop-i.ensures
    ∙ ap (λ (l : List ℕ). l ++ replicate (508 - 4 * (i + 1)) 0) (append_assoc (little_bytes 4 (length batch)) (flat_map (little_bytes 4) (numbers (take i batch))) (little_bytes 4 s.sector) ∙ ap (λ (l : List ℕ). little_bytes 4 (length batch) ++ l) (sym (spelled_more batch i lt)))

pub returns : goal.returns
returns c =
    let batch = c.args.batch.now in
    let all : take c.loop-i.i batch ≡ batch = take_all c.loop-i.i batch c.loop-i-test.false in
    let long : length (numbers batch) ≡ length batch = length-map batch (λ (t : Staged). t.sector) in
    let most : c.loop-i.i ≡ length batch = omega arith in
    c.loop-i.invariant ∙ (λ j. little_bytes 4 ((sym long) j) ++ flat_map (little_bytes 4) (numbers (all j)) ++ replicate (508 - 4 * ((most ∙ sym long) j)) 0)
