use Rattle.std.proofs.Common.{◌≡◌, ◌≢◌, ◌∙◌, ℕ, true, sym, subst}
use Rattle.std.proofs.lemmas.Result.{IfOk-from_err}
use Rattle.vol_log.specs.Log.{view}
use Rattle.vol_alloc.specs.Alloc.{taken_of}
use Rattle.vol_body.proofs.CutSectors.{in_range}
use Rattle.vol_body.proofs.truncation.read_truncation.Goals as goal

pub cut_of_data_block-requires : goal.cut_of_data_block-requires
cut_of_data_block-requires g c = record { there = c.requires.there; working = c.requires.working; small = c.requires.small; group = c.requires.group }

pub returns-in_err-data_block : goal.returns-in_err-data_block
returns-in_err-data_block g c =
    let r = c.from_residual.result in
    let is_err_now = c.from_residual.ensures.0 in
    let e = c.in_err-data_block.ensures in
    record {
      truncation = λ h names is_held. IfOk-from_err r _ is_err_now;
      within = IfOk-from_err r _ is_err_now;
      reads = e.reads;
      failed = e.failed ∙ sym is_err_now;
    }

pub cut_of_double-double-requires : goal.cut_of_double-double-requires
cut_of_double-double-requires g c = record { small = c.requires.small; group = c.requires.group }

pub cut_of_above-above-requires : goal.cut_of_above-above-requires
cut_of_above-above-requires g c = record { small = c.requires.small; group = c.requires.group }

pub returns : goal.returns
returns g c = record {
  truncation = λ h names is_held.
      let content = view c.args.log.now in
      let e = c.args.entry.now in
      record {
        data_block = c.in_ok-data_block.ensures.cut h names is_held;
        above = c.cut_of_above-above.ensures.cut content e is_held;
        double = c.cut_of_double-double.ensures.cut content e is_held;
        triple = c.cut_of_triple-triple.ensures.cut content e is_held;
      };
  within =
      let a = c.args.sectors.now in
      let held = c.args.held.now in
      let above = c.cut_of_above-above.ensures.sector in
      let double = c.cut_of_double-double.ensures.sector in
      let triple = c.cut_of_triple-triple.ensures.sector in
      let there : (s n : ℕ) → s ≡ n → (n ≢ 0 → taken_of a n ≡ true) → s ≢ 0 → taken_of a s ≡ true =
      λ s n is known some. subst (λ (k : ℕ). taken_of a k ≡ true) (sym is) (known (λ none. some (is ∙ none))) in
      record {
        data_block = λ some. in_range a c.in_ok-data_block.data_block.sector (c.in_ok-data_block.ensures.taken some);
        above = λ some. in_range a c.cut_of_above-above.result.sector (there c.cut_of_above-above.result.sector held.above.number (above some) c.requires.known.above some);
        double = λ some. in_range a c.cut_of_double-double.result.sector (there c.cut_of_double-double.result.sector held.top.number (double some) c.requires.known.top some);
        triple = λ some. in_range a c.cut_of_triple-triple.result.sector (there c.cut_of_triple-triple.result.sector held.triple.number (triple some) c.requires.known.triple some);
      };
  reads = c.in_ok-data_block.ensures.reads;
  failed = c.in_ok-data_block.ensures.failed;
}
