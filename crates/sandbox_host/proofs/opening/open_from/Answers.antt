use Rattle.std.proofs.Common.{Option, sym, subst, inr}
use Rattle.std.specs.Option.{IsSomeAnd}
use Rattle.sandbox_host.specs.declared.held.HandleContent.{HandleContent}
use Rattle.sandbox_host.specs.Sessions.{running, BeginsFrom}
use Rattle.sandbox_host.proofs.Closed.{none_of}
use Rattle.sandbox_host.proofs.opening.open_from.Goals as goal

pub returns-in-Ok-clause-opened : goal.returns-in-Ok-clause-opened
returns-in-Ok-clause-opened c = λ e.
    let begun = c.in-Ok.ensures.begins in
    (subst (λ (h : Option HandleContent). IsSomeAnd (running h) (BeginsFrom c.args.module.now c.args.supplies.now c.args.origin)) (sym (c.keep.ensures.kept e)) begun.0, begun.1)

-- memory for the handle was refused
pub returns-in-Ok-clause-refused : goal.returns-in-Ok-clause-refused
returns-in-Ok-clause-refused c = λ e.
    let begun = c.in-Ok.ensures.begins in
    let kept = c.keep.ensures.refused e in
    (kept.1, inr (record { m = begun.0.m; is_loaded = begun.0.is_loaded; why = inr kept.0 }, begun.1))

pub returns-in-Err-clause-opened : goal.returns-in-Err-clause-opened
returns-in-Err-clause-opened c = λ e. absurd (c.in-Err.ensures.some e)

pub returns-in-Err-clause-refused : goal.returns-in-Err-clause-refused
returns-in-Err-clause-refused c = λ _. (none_of c.args.handle.now.held c.requires, c.in-Err.ensures.refused)
