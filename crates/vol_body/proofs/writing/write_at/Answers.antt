use Rattle.std.proofs.Common.{◌+◌, length, max, ap, arith, ◌∙◌, false, true≢false, refl, sym}
use Rattle.std.proofs.lemmas.Grind.{common_steps}
use Rattle.vol_body.proofs.Stagings.{stages_none, stages_idle}
use Rattle.vol_log.proofs.Readings.{reads_same}
use Rattle.vol_log.specs.Log.{view}
use Rattle.vol_inode.specs.declared.entry.Entry.{Entry}
use Rattle.vol_body.proofs.Rights.{right_file, all_three}
use Rattle.vol_body.proofs.writing.write_at.Goals as goal

pub returns-clause-file : goal.returns-clause-file
returns-clause-file g c h names body =
    let e = c.args.entry.now in
    let changed = c.write_some.new.entry in
    let after = view c.write_some.new.log in
    all_three c.write_some.result _ _ _ _ (λ is widths leaves. (
      record {
        bytes = leaves.bytes;
        rules = leaves.rules;
        others = leaves.others;
        taken = leaves.taken;
        right = λ version right none small.
            let size_is = ap (λ (x : Entry). x.size) is.entry in
            right_file version after e changed (max e.size (c.args.offset + length c.args.bytes.now)) right (λ directory. omega (arith, size_is, none directory)) (omega (arith, small, size_is)) is.entry widths leaves.rules;
      },
      leaves.count,
    ))
    c.write_some.ensures.entry c.write_some.ensures.widths (c.write_some.ensures.done h names body (c.requires.space h names body))

pub returns-then-failed : goal.returns-then-failed
returns-then-failed g c = record {
  file = λ h names body. tt;
  entry = λ some. tt;
  nothing = λ none. (refl, refl, refl);
  steps = stages_idle 39 c.args.log.now c.args.sectors.now (sym c.failed.ensures ∙ c.if-failed.true);
  refused = (reads_same c.args.log.now, refl, refl);
  idle = λ failed. (refl, refl);
}

pub returns-then-is_empty-clause-nothing : goal.returns-then-is_empty-clause-nothing
returns-then-is_empty-clause-nothing g c none = (refl, refl, refl)

pub returns-then-is_empty-clause-steps : goal.returns-then-is_empty-clause-steps
returns-then-is_empty-clause-steps g c = stages_none 39 c.args.log.now c.args.log.now c.args.sectors.now c.args.sectors.now false (reads_same c.args.log.now) (sym c.failed.ensures ∙ c.if-failed.false) refl refl

pub returns-then-is_empty-clause-refused : goal.returns-then-is_empty-clause-refused
returns-then-is_empty-clause-refused g c = tt

pub returns-then-is_empty-clause-idle : goal.returns-then-is_empty-clause-idle
returns-then-is_empty-clause-idle g c failed = absurd (true≢false (sym failed ∙ sym c.failed.ensures ∙ c.if-failed.false))

pub returns-clause-entry : goal.returns-clause-entry
returns-clause-entry g c some = c.write_some.ensures.entry

pub returns-clause-steps : goal.returns-clause-steps
returns-clause-steps g c = c.write_some.ensures.steps

pub returns-clause-refused : goal.returns-clause-refused
returns-clause-refused g c = c.write_some.ensures.refused

pub returns-clause-idle : goal.returns-clause-idle
returns-clause-idle g c failed = absurd (true≢false (sym failed ∙ sym c.failed.ensures ∙ c.if-failed.false))

pub write_some-requires-clause-working : goal.write_some-requires-clause-working
write_some-requires-clause-working g c = sym c.failed.ensures ∙ c.if-failed.false

pub write_some-requires-clause-can : goal.write_some-requires-clause-can
write_some-requires-clause-can g c = c.requires.can

pub write_some-requires-clause-small : goal.write_some-requires-clause-small
write_some-requires-clause-small g c = c.requires.small

pub write_some-requires-clause-few : goal.write_some-requires-clause-few
write_some-requires-clause-few g c = c.requires.few

pub returns-clause-nothing : goal.returns-clause-nothing
returns-clause-nothing c = grind (arith, common_steps)
