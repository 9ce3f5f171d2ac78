use Rattle.std.proofs.Common.{ℕ, ◌∙◌, sym, ap, subst, arith}
use Rattle.std.proofs.lemmas.List.{get_or_read}
use Rattle.std.proofs.lemmas.Grind.{common_steps}
use Rattle.vol_log.specs.internal.Index.{Index}
use Rattle.vol_log.specs.internal.Index.{IsEntryOfNumber, IsGapFor}
use Rattle.vol_log.specs.declared.staged.Staged.{Staged}
use Rattle.vol_log.proofs.Staging.{found_place, none_at_all, over_first, over_none, holds_at, holds_none}
use Rattle.vol_log.proofs.Images.{blank}
use Rattle.vol_log.proofs.batch.Batch.image_for.Goals as goal

pub returns-in-Ok-clause-image : goal.returns-in-Ok-clause-image
returns-in-Ok-clause-image c m =
    let old = c.args.self.now.staged.items in
    let index = c.args.self.now.index.items in
    let found = subst (λ (l : Index). IsEntryOfNumber l c.args.n c.in-Ok.at) c.deref.ensures.value c.in-Ok.ensures.found in
    let entry = get_or_read index c.in-Ok.at c.index.result.now found.in_range c.index.ensures (0, 0) in
    let place = found_place old index c.requires c.args.n c.in-Ok.at found c.index.result.now.1 (ap (λ (e : ℕ × ℕ). e.1) entry) in
    over_first old _ c.args.n m place.inside place.here place.before
    ∙ sym (ap (λ (s : Staged). s.image) (get_or_read old c.index.result.now.1 c.index-in-Ok.result.now place.inside c.index-in-Ok.ensures blank))

pub returns-in-Ok-clause-staged : goal.returns-in-Ok-clause-staged
returns-in-Ok-clause-staged c =
    let old = c.args.self.now.staged.items in
    let index = c.args.self.now.index.items in
    let found = subst (λ (l : Index). IsEntryOfNumber l c.args.n c.in-Ok.at) c.deref.ensures.value c.in-Ok.ensures.found in
    let entry = get_or_read index c.in-Ok.at c.index.result.now found.in_range c.index.ensures (0, 0) in
    let place = found_place old index c.requires c.args.n c.in-Ok.at found c.index.result.now.1 (ap (λ (e : ℕ × ℕ). e.1) entry) in
    sym (holds_at old _ c.args.n place.inside place.here)

pub returns-in-Err-clause-image : goal.returns-in-Err-clause-image
returns-in-Err-clause-image c m =
    let old = c.args.self.now.staged.items in
    let index = c.args.self.now.index.items in
    let gap = subst (λ (l : Index). IsGapFor l c.args.n c.in-Err.field-0) c.deref.ensures.value c.in-Err.ensures.absent in
    over_none old c.args.n m (none_at_all old index c.requires c.args.n c.in-Err.field-0 gap)

pub returns-in-Err-clause-staged : goal.returns-in-Err-clause-staged
returns-in-Err-clause-staged c =
    let old = c.args.self.now.staged.items in
    let index = c.args.self.now.index.items in
    let gap = subst (λ (l : Index). IsGapFor l c.args.n c.in-Err.field-0) c.deref.ensures.value c.in-Err.ensures.absent in
    sym (holds_none old c.args.n (none_at_all old index c.requires c.args.n c.in-Err.field-0 gap))

pub index-requires-in-Ok : goal.index-requires-in-Ok
index-requires-in-Ok c = grind (arith, common_steps)

pub search-requires : goal.search-requires
search-requires c = grind (arith, common_steps)
