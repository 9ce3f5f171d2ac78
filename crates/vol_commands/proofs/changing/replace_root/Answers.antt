use Rattle.std.proofs.Common.{Bool, Result, Err, if◌then◌else◌, inl, ap, sym, ◌∙◌, inr}
use Rattle.std.proofs.lemmas.Bool.{eqb-true, eqb-false}
use Rattle.vol_tree.specs.declared.errno.Errno.{Errno}
use Rattle.vol_tree.specs.declared.errno.Errno.TheVariants as errno
use Rattle.vol_tree.specs.Tree.{Tree}
use Rattle.vol_tree.specs.Calls.{renamed, name_at, parent_at}
use Rattle.vol_commands.proofs.Changed.{asked_nothing, refused, refused_on}
use Rattle.vol_commands.proofs.Meant.{root_stays, root_taken}
use Rattle.vol_commands.proofs.changing.replace_root.Goals as goal

abbrev chosen : Bool → Result Tree Errno
chosen b = if b then Err errno.NotEmpty else Err errno.IsDirectory

pub returns-then-eq : goal.returns-then-eq
returns-then-eq g c =
    let v = c.args.volume.now in
    refused g.D.Device.honest g.D.Device.disk g.D.Device.size g.D.Device.failures g.D.Device.goes_on (λ T. renamed T c.args.source (parent_at T 1) (name_at T 1)) v v errno.Invalid (asked_nothing g.D.Device.honest g.D.Device.disk g.D.Device.size g.D.Device.failures g.D.Device.goes_on v c.requires.working.working)
    (λ h. inl (root_stays v.tree c.args.source (eqb-true c.args.source 1 (sym c.eq.ensures ∙ c.if-eq.true))))

pub returns-then-branch : goal.returns-then-branch
returns-then-branch g c =
    let v = c.args.volume.now in
    refused g.D.Device.honest g.D.Device.disk g.D.Device.size g.D.Device.failures g.D.Device.goes_on (λ T. renamed T c.args.source (parent_at T 1) (name_at T 1)) v c.is_directory.new.volume errno.NotEmpty c.in_ok-is_directory.ensures.asked
    (λ h. inl (root_taken v.tree c.args.source (c.is_a_tree.ensures.tree h) (c.requires.source.used h) (eqb-false c.args.source 1 (sym c.eq.ensures ∙ c.if-eq.false))
    ∙ ap chosen (sym (c.in_ok-is_directory.ensures.answer h) ∙ c.if-branch.true)))

pub returns-else-branch : goal.returns-else-branch
returns-else-branch g c =
    let v = c.args.volume.now in
    refused g.D.Device.honest g.D.Device.disk g.D.Device.size g.D.Device.failures g.D.Device.goes_on (λ T. renamed T c.args.source (parent_at T 1) (name_at T 1)) v c.is_directory.new.volume errno.IsDirectory c.in_ok-is_directory.ensures.asked
    (λ h. inl (root_taken v.tree c.args.source (c.is_a_tree.ensures.tree h) (c.requires.source.used h) (eqb-false c.args.source 1 (sym c.eq.ensures ∙ c.if-eq.false))
    ∙ ap chosen (sym (c.in_ok-is_directory.ensures.answer h) ∙ c.if-branch.false)))

-- the device failed
pub returns-in_err-is_directory : goal.returns-in_err-is_directory
returns-in_err-is_directory g c =
    refused_on g.D.Device.honest g.D.Device.disk g.D.Device.size g.D.Device.failures g.D.Device.goes_on (λ T. renamed T c.args.source (parent_at T 1) (name_at T 1)) c.args.volume.now c.is_directory.new.volume c.in_err-is_directory.field-0.0 c.from_residual.result
    c.in_err-is_directory.ensures.asked (λ h. inr (c.in_err-is_directory.ensures.answer h)) c.from_residual.ensures.1
