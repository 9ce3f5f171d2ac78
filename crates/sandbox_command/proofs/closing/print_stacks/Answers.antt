use Rattle.std.proofs.Common.{subst}
use Rattle.std.proofs.lemmas.Result.{on_ok_weaker}
use Rattle.sandbox_telling.specs.Profiling.{IsProfile, Naming, stack_name}
use Rattle.sandbox_command.proofs.closing.print_stacks.Goals as goal

-- the names are those of this module
pub returns-clause-printed : goal.returns-clause-printed
returns-clause-printed g c =
    on_ok_weaker c.print_profile.result
    (λ p. (p.0, subst (λ (n : Naming). IsProfile (λ function. stack_name n.bytes n.imported function) c.args.fuel_use.now.stacks p.0) c.of-names.ensures p.1, p.2, p.3))
    c.print_profile.ensures.printed
