use Rattle.std.proofs.Common.{◌∙◌, Ok, inl, inr, refl, sym}
use Rattle.std.proofs.lemmas.Result.{IfOk-from_err}
use Rattle.std.proofs.lemmas.Bool.{eqb-false}
use Rattle.vol_commands.specs.Changes.{IsPartOfRemoval, IsThinned, top_named, tree_removed, without}
use Rattle.vol_commands.specs.Tasks.{serial_named}
use Rattle.vol_commands.proofs.Changed.{refused_on}
use Rattle.vol_commands.proofs.Meant.{stops}
use Rattle.vol_commands.proofs.Removed.{applied_after, applies, removal_is, removal_top}
use Rattle.vol_commands.proofs.removing.remove_all.Goals as goal

pub returns : goal.returns
returns g c =
    let v = c.args.volume.now in
    let path = c.args.path.now in
    let top = c.in_ok-top.top in
    let is = λ (h : g.D.Device.honest v.device). removal_top v.tree path top (c.in_ok-top.ensures.answer h) (eqb-false top 1 (sym c.eq.ensures ∙ c.if-eq.false)) in
    applied_after g.D.Device.honest g.D.Device.disk g.D.Device.size g.D.Device.failures g.D.Device.goes_on (λ T. Ok (without T top)) (λ T. tree_removed T path) (λ T U. IsThinned T top U) (λ T U. IsPartOfRemoval T path U)
    v c.serial_named.new.volume c.remove_tree.new.volume c.remove_tree.result c.in_ok-top.ensures.asked
    (λ h. removal_is v.tree path top (is h)) (λ h U thin. inr (top, is h, thin)) c.remove_tree.ensures

-- the path names no entry
pub returns-in_err-top : goal.returns-in_err-top
returns-in_err-top g c =
    let v = c.args.volume.now in
    let path = c.args.path.now in
    let e = c.in_err-top.field-0.0 in
    let r = c.from_residual.result in
    applies g.D.Device.honest g.D.Device.disk g.D.Device.size g.D.Device.failures g.D.Device.goes_on (λ T. tree_removed T path) (λ T U. IsPartOfRemoval T path U) v c.serial_named.new.volume r (inl refl) (λ h. IfOk-from_err r _ c.from_residual.ensures.0)
    (refused_on g.D.Device.honest g.D.Device.disk g.D.Device.size g.D.Device.failures g.D.Device.goes_on (λ T. tree_removed T path) v c.serial_named.new.volume e r c.in_err-top.ensures.asked
    (λ h. stops (top_named v.tree path) _ e (stops (serial_named v.tree path) _ e (c.in_err-top.ensures.answer h))) c.from_residual.ensures.1)
