use Rattle.std.proofs.Common.{◌≡◌, ◌<◌, ◌≤◌, ◌∙◌, List, ℕ, sym, length, get_or, arith}
use Rattle.std.proofs.lemmas.List.{get_or-map, length-map}
use Rattle.vol_log.specs.Header.{Places}
use Rattle.vol_log.specs.internal.Steps.{Under}
use Rattle.vol_log.specs.internal.Batch.{numbers}
use Rattle.vol_log.specs.declared.staged.Staged.{Staged}
use Rattle.vol_log.proofs.Moments.{leaves_step, both_then, counts_one, at_ok}
use Rattle.vol_log.proofs.Images.{blank, Placed, wrote_under, under_joins, placed_more, over_placed}
use Rattle.vol_log.proofs.steps.install.Goals as goal

place_before : (batch : List Staged) (i end : ℕ) → i < length batch → Places end (numbers batch) → (get_or batch i blank).sector < end
place_before batch i end lt placed =
    let long : length (numbers batch) ≡ length batch = length-map batch (λ (t : Staged). t.sector) in
    let named : get_or (numbers batch) i 0 ≡ (get_or batch i blank).sector = get_or-map (λ (t : Staged). t.sector) batch i blank 0 lt in
    omega (arith, placed.there i (omega (arith, long, lt)), named)

pub write-requires : goal.write-requires
write-requires g c =
    let batch = c.args.batch.now in
    let i = c.loop-staged.staged-index in
    let lt : i < length batch = omega arith in
    let long : length (numbers batch) ≡ length batch = length-map batch (λ (t : Staged). t.sector) in
    let named : get_or (numbers batch) i 0 ≡ (get_or batch i blank).sector = get_or-map (λ (t : Staged). t.sector) batch i blank 0 lt in
    omega (arith, c.requires.there i (omega (arith, long)), named, c.loop-staged.invariant.size)

pub returns-in_err-write-clause-under : goal.returns-in_err-write-clause-under
returns-in_err-write-clause-under g c h =
    let batch = c.args.batch.now in
    let i = c.loop-staged.staged-index in
    let lt : i < length batch = omega arith in
    under_joins batch _ _ _ (c.loop-staged.invariant.under h) (wrote_under batch i lt _ _ (c.write.ensures.seen (c.loop-staged.invariant.honest.0 h)))

pub returns-in_err-write-clause-crash : goal.returns-in_err-write-clause-crash
returns-in_err-write-clause-crash g c h =
    let batch = c.args.batch.now in
    let i = c.loop-staged.staged-index in
    let lt : i < length batch = omega arith in
    leaves_step _ _ _ (Under batch) _ (wrote_under batch i lt) (under_joins batch) (c.loop-staged.invariant.crash h) (c.write.ensures.crash (c.loop-staged.invariant.honest.0 h))

pub loop-staged-preserved : goal.loop-staged-preserved
loop-staged-preserved g c =
    let batch = c.args.batch.now in
    let i = c.loop-staged.staged-index in
    let lt : i < length batch = omega arith in
    let so_far = c.loop-staged.invariant in
    let e = c.write.ensures in
    let w = c.in_ok-write.ensures.written in
    record {
      placed = λ h. placed_more batch i _ _ (g.D.Device.size c.args.device.now) lt c.requires (w (so_far.honest.0 h)) (so_far.placed h);
      under = λ h. under_joins batch _ _ _ (so_far.under h) (wrote_under batch i lt _ _ (e.seen (so_far.honest.0 h)));
      crash = λ h. leaves_step _ _ _ (Under batch) _ (wrote_under batch i lt) (under_joins batch) (so_far.crash h) (e.crash (so_far.honest.0 h));
      honest = both_then so_far.honest e.honest;
      goes_on = λ end placed first from. e.goes_on end (place_before batch i end lt placed) first (so_far.goes_on end placed first from);
      size = e.size ∙ so_far.size;
      failures = c.in_ok-write.ensures.failures ∙ so_far.failures;
    }

pub returns-clause-installed : goal.returns-clause-installed
returns-clause-installed g c h =
    let batch = c.args.batch.now in
    let all : length batch ≤ c.loop-staged.staged-index = omega arith in
    let so_far = c.loop-staged.invariant in
    let placed : Placed batch (length batch) (g.D.Device.disk c.loop-staged.device).seen = λ j lt. so_far.placed h j (omega arith) in
    sym (over_placed batch _ placed) ∙ so_far.under h

pub returns-in_err-write-clause-installed : goal.returns-in_err-write-clause-installed
returns-in_err-write-clause-installed g c h = at_ok c.from_residual.result _ c.from_residual.ensures.0

pub returns-in_err-write-clause-honest : goal.returns-in_err-write-clause-honest
returns-in_err-write-clause-honest g c = both_then c.loop-staged.invariant.honest c.write.ensures.honest

pub returns-in_err-write-clause-size : goal.returns-in_err-write-clause-size
returns-in_err-write-clause-size g c = c.write.ensures.size ∙ c.loop-staged.invariant.size

pub returns-in_err-write-clause-failures : goal.returns-in_err-write-clause-failures
returns-in_err-write-clause-failures g c = counts_one c.from_residual.result (g.D.Device.failures c.args.device.now) (g.D.Device.failures c.loop-staged.device) (g.D.Device.failures c.write.new.self) c.from_residual.ensures.0 c.loop-staged.invariant.failures c.in_err-write.ensures.failures

pub returns-in_err-write-clause-goes_on : goal.returns-in_err-write-clause-goes_on
returns-in_err-write-clause-goes_on g c end placed first from =
    let lt : c.loop-staged.staged-index < length c.args.batch.now = omega arith in
    c.write.ensures.goes_on end (place_before c.args.batch.now c.loop-staged.staged-index end lt placed) first (c.loop-staged.invariant.goes_on end placed first from)

pub returns-clause-goes_on : goal.returns-clause-goes_on
returns-clause-goes_on g c = c.loop-staged.invariant.goes_on
