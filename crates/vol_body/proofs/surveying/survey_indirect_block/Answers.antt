use Rattle.std.proofs.Common.{◌≡◌, ◌∙◌, ◌⊎◌, ℕ, List, ◌∷◌, [], sym, subst, arith}
use Rattle.std.proofs.lemmas.Result.{IfErr-weaker, on_ok_weaker}
use Rattle.std.proofs.lemmas.Grind.{common_steps}
use Rattle.vol_sector.specs.Fault.{IsDamage}
use Rattle.vol_sector.specs.declared.fault.VolumeFault.TheVariants as faults
use Rattle.vol_log.specs.Log.{view}
use Rattle.vol_log.proofs.Readings.{reads_same}
use Rattle.vol_body.specs.internal.Surveying.{listed, with_listed, Pushes, Overflows, ListsNoneFrom}
use Rattle.vol_body.proofs.SurveyExits.{none_listed, lists_none, pushes_then, overflows_before, overflows_then, surveys_handed, surveys_none, not_device, no_device_failed, or_memory, or_device, at_any_ok}
use Rattle.vol_body.proofs.surveying.survey_indirect_block.Goals as goal

pub returns-then-indirect_block-eq0 : goal.returns-then-indirect_block-eq0
returns-then-indirect_block-eq0 g c =
    let content = view c.args.log.now in
    let n = c.args.indirect_block in
    let zero = c.if-indirect_block-eq0.true in
    surveys_none c.args.first c.args.end c.args.log.now c.args.named.now.items _ _ c.requires.inside (none_listed content n zero) (lists_none content n c.args.from zero) c.requires.working

pub returns-in_err-push_number : goal.returns-in_err-push_number
returns-in_err-push_number g c =
    let n = c.args.indirect_block in
    let x = c.in_err-push_number.field-0.0 in
    let e = c.in_err-push_number.ensures in
    surveys_handed c.args.first c.args.end c.args.log.now c.args.log.now c.args.named.now.items _ _ _ c.from_residual.result x c.from_residual.ensures.1
    (λ h damaged none. overflows_before c.args.first c.args.end c.args.named.now.items (n ∷ []) (listed (view c.args.log.now) n) (e.damaged damaged))
    (or_memory x e.refused) (reads_same c.args.log.now) (c.requires.working ∙ sym (not_device x e.refused))

pub returns-in_err-numbers : goal.returns-in_err-numbers
returns-in_err-numbers g c =
    let x = c.in_err-numbers.field-0.0 in
    let e = c.in_err-numbers.ensures in
    surveys_handed c.args.first c.args.end c.args.log.now c.read_numbers.new.log c.args.named.now.items _ _ _ c.from_residual-in_err-numbers.result x c.from_residual-in_err-numbers.ensures.1
    (λ h damaged none. absurd (e.damaged h damaged none)) (or_device x e.refused) e.reads e.failed

pub returns : goal.returns
returns g c =
    let content = view c.args.log.now in
    let n = c.args.indirect_block in
    let first = c.args.first in
    let end = c.args.end in
    let a = c.args.named.now.items in
    let b = c.push_number.new.named.items in
    let z = c.push_all.new.named.items in
    let numbers = c.in_ok-numbers.numbers in
    let e = c.in_ok-numbers.ensures in
    let r = c.push_all.result in
    record {
      pushes = λ h. on_ok_weaker r (λ p. subst (λ (ns : List ℕ). Pushes first end a z (n ∷ ns)) (e.numbers h) (pushes_then first end a b z (n ∷ []) numbers c.in_ok-push_number.ensures.pushes p)) c.push_all.ensures.pushes;
      past = λ h. at_any_ok r (ListsNoneFrom content n c.args.from) (e.past h);
      inside = on_ok_weaker r (λ (p : Pushes first end b z numbers). p.inside) c.push_all.ensures.pushes;
      damaged = λ h. IfErr-weaker r
          (λ fault. IsDamage fault → Overflows first end b numbers)
          (λ fault. IsDamage fault → ListsNoneFrom content n c.args.from → Overflows first end a (with_listed content n))
          (λ fault holds is none. overflows_then first end a b (n ∷ []) (listed content n) c.in_ok-push_number.ensures.pushes (subst (Overflows first end b) (e.numbers h) (holds is)))
          c.push_all.ensures.damaged;
      refused = IfErr-weaker r (λ fault. IsDamage fault ⊎ (fault ≡ faults.Memory)) (λ fault. IsDamage fault ⊎ ((fault ≡ faults.Device) ⊎ (fault ≡ faults.Memory))) or_memory c.push_all.ensures.refused;
      reads = e.reads;
      failed = e.failed ∙ sym (no_device_failed r c.push_all.ensures.refused);
    }

pub push_all-requires : goal.push_all-requires
push_all-requires c = grind (arith, common_steps)
