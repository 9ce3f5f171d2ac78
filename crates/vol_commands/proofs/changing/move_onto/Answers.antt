use Rattle.std.proofs.Common.{◌==◌, ℕ, take, ap, inr, refl, sym, ◌∙◌}
use Rattle.std.proofs.lemmas.Bool.{cond-false, eqb-true}
use Rattle.vol_tree.specs.Calls.{renamed, name_at, parent_at}
use Rattle.vol_commands.proofs.Changed.{asked_first, means, refused_on}
use Rattle.vol_commands.proofs.Meant.{onto_same}
use Rattle.vol_commands.proofs.changing.move_onto.Goals as goal

pub returns-then-eq : goal.returns-then-eq
returns-then-eq g c =
    let v = c.args.volume.now in
    let s = c.args.source in
    means g.D.Device.honest g.D.Device.disk g.D.Device.size g.D.Device.failures g.D.Device.goes_on (λ T. renamed T s (parent_at T 1) (name_at T 1)) (λ T. renamed T s (parent_at T c.args.target) (name_at T c.args.target)) v c.replace_root.new.volume c.replace_root.result
    (λ h. ap (λ (t : ℕ). renamed v.tree s (parent_at v.tree t) (name_at v.tree t)) (sym (eqb-true c.args.target 1 (sym c.eq.ensures ∙ c.if-eq.true)))) c.replace_root.ensures

pub returns : goal.returns
returns g c =
    let v = c.args.volume.now in
    let s = c.args.source in
    let t = c.args.target in
    let stat = c.in_ok-stat.stat in
    let told = c.in_ok-stat.ensures in
    let call = c.rename.ensures in
    means g.D.Device.honest g.D.Device.disk g.D.Device.size g.D.Device.failures g.D.Device.goes_on (λ T. renamed T s stat.parent (take c.from.result stat.name)) (λ T. renamed T s (parent_at T t) (name_at T t)) v c.rename.new.self c.rename.result
    (λ h.
    let is = (told.answer h).0 in
    onto_same v.tree s t stat.parent (take c.from.result stat.name) is.0 is.1
    (is.2.parent ∙ cond-false (t == 1) 1 is.0.parent (sym c.eq.ensures ∙ c.if-eq.false))
    (ap (λ (k : ℕ). take k stat.name) c.from.ensures ∙ is.2.name))
    (asked_first g.D.Device.honest g.D.Device.disk g.D.Device.size g.D.Device.failures g.D.Device.goes_on (λ T. renamed T s stat.parent (take c.from.result stat.name)) v c.stat.new.self c.rename.new.self c.rename.result
    (record { tree = λ h. (told.answer h).1; crash = told.crash; kept = told.kept; goes = told.goes_on })
    (record { answer = call.answer; crash = call.crash; kept = call.kept; goes = call.goes_on }))

pub rename-requires-clause-name : goal.rename-requires-clause-name
rename-requires-clause-name g c = c.if-not-is_name.ensures.0 refl

-- the device failed
pub returns-in_err-stat : goal.returns-in_err-stat
returns-in_err-stat g c =
    let told = c.in_err-stat.ensures in
    refused_on g.D.Device.honest g.D.Device.disk g.D.Device.size g.D.Device.failures g.D.Device.goes_on (λ T. renamed T c.args.source (parent_at T c.args.target) (name_at T c.args.target)) c.args.volume.now c.stat.new.self c.in_err-stat.field-0.0 c.from_residual.result
    (record { tree = λ h. (told.answer h).1; crash = told.crash; kept = told.kept; goes = told.goes_on }) (λ h. inr (told.answer h).0) c.from_residual.ensures.1
