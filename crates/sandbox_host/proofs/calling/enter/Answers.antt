use Rattle.std.proofs.Common.{ℕ, List, IfOk, refl, subst, inl}
use Rattle.plugin_session.specs.declared.handling.Misuse.TheVariants.{NoFunction}
use Rattle.sandbox_host.specs.Instances.{Invokes, NoCall}
use Rattle.sandbox_host.proofs.Answering.{told_of, by_name}
use Rattle.sandbox_host.proofs.calling.enter.Goals as goal

-- its name isn't UTF-8
pub returns-in_default : goal.returns-in_default
returns-in_default c = (λ zero. absurd (c.misuse_number.ensures.some zero), λ some. (refl, (NoFunction, c.misuse_number.ensures.number, inl (refl, c.in_default.ensures.cases.0))))

pub returns : goal.returns
returns c =
    let old = c.args.instance.now in
    let new = c.invoke.new.self in
    let done = subst (λ (n : List ℕ). IfOk c.invoke.result (λ u. Invokes old new n c.args.arguments.now)) c.in-Ok.ensures.cases.0 c.invoke.ensures.invoked in
    told_of c.invoke.result c.number_of.result old new (Invokes old new c.args.name.now c.args.arguments.now) (NoCall old c.args.name.now c.args.arguments.now)
    c.number_of.ensures done (by_name c.invoke.result old new c.args.name.now _ c.args.arguments.now c.in-Ok.ensures.cases.0 c.invoke.ensures.refused)
