use Rattle.std.proofs.Common.{◌∙◌, ◌<◌, ℕ, sym, ap, subst, arith}
use Rattle.vol_body.specs.internal.Truncated.{with_cut}
use Rattle.vol_body.proofs.truncation.stage_truncation.Goals as goal

pub stage_cut-requires : goal.stage_cut-requires
stage_cut-requires g c = record {
  after_log = λ some. (c.requires.there.data_block some).0;
  there = λ some. (c.requires.there.data_block some).1;
  room = omega (arith, c.requires.room);
  working = c.requires.working;
}

pub stage_cut-requires-2 : goal.stage_cut-requires-2
stage_cut-requires-2 g c =
    let one = c.stage_cut.ensures in
    record {
      after_log = λ some. (c.requires.there.above some).0;
      there = λ some. subst (λ (n : ℕ). c.args.truncation.now.above.sector < n) (sym one.sectors) (c.requires.there.above some).1;
      room = omega (arith, c.requires.room, one.room);
      working = one.failed;
    }

pub stage_cut-requires-3 : goal.stage_cut-requires-3
stage_cut-requires-3 g c =
    let one = c.stage_cut.ensures in
    let two = c.stage_cut-2.ensures in
    record {
      after_log = λ some. (c.requires.there.double some).0;
      there = λ some. subst (λ (n : ℕ). c.args.truncation.now.double.sector < n) (sym (two.sectors ∙ one.sectors)) (c.requires.there.double some).1;
      room = omega (arith, c.requires.room, one.room, two.room);
      working = two.failed;
    }

pub stage_cut-requires-4 : goal.stage_cut-requires-4
stage_cut-requires-4 g c =
    let one = c.stage_cut.ensures in
    let two = c.stage_cut-2.ensures in
    let three = c.stage_cut-3.ensures in
    record {
      after_log = λ some. (c.requires.there.triple some).0;
      there = λ some. subst (λ (n : ℕ). c.args.truncation.now.triple.sector < n) (sym (three.sectors ∙ two.sectors ∙ one.sectors)) (c.requires.there.triple some).1;
      room = omega (arith, c.requires.room, one.room, two.room, three.room);
      working = three.failed;
    }

pub returns : goal.returns
returns g c =
    let truncation = c.args.truncation.now in
    let one = c.stage_cut.ensures in
    let two = c.stage_cut-2.ensures in
    let three = c.stage_cut-3.ensures in
    let four = c.stage_cut-4.ensures in
    record {
      view = four.view ∙ ap (with_cut truncation.triple) (three.view ∙ ap (with_cut truncation.double) (two.view ∙ ap (with_cut truncation.above) one.view));
      room = omega (arith, one.room, two.room, three.room, four.room);
      device = four.device ∙ three.device ∙ two.device ∙ one.device;
      failed = four.failed;
      sectors = four.sectors ∙ three.sectors ∙ two.sectors ∙ one.sectors;
    }
