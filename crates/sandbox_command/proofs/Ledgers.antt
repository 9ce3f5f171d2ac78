-- The stacks and the file that a run is given, in one ledger.
use Rattle.std.proofs.Common.{◌≡◌, Option, Some, None, sym, subst}
use Rattle.std.specs.Prelude.{IfSome}
use Rattle.std.specs.Borrow.{Bor}
use Rattle.observed_run.specs.Stacks.{Stacks}
use Rattle.sandbox_args.specs.Request.{Text}
use Rattle.sandbox_command.specs.declared.opening.Ledger.{Ledger}
use Rattle.sandbox_telling.specs.declared.stopping.Stopped.{Stopped}
use Rattle.sandbox_command.specs.Alone.{IsLedger, file_of, stacks_of}
use Rattle.sandbox_places.specs.Places.{IsOfName}
use Rattle.sandbox_telling.specs.Profiling.{TellsUse, no_stacks}

module _ {O : Type 0} (is_output : Text → O → Type 0) where
  stacks_are_new : (name : Option (Bor Text)) (ledger : Option (Ledger O)) → IsLedger is_output name ledger → IfSome (stacks_of ledger) (λ s. s ≡ no_stacks)
  stacks_are_new None None is = tt
  stacks_are_new None (Some ledger) is = absurd is
  stacks_are_new (Some name) None is = absurd is
  stacks_are_new (Some name) (Some ledger) is = is.1

  file_is_of_name : (name : Option (Bor Text)) (ledger : Option (Ledger O)) → IsLedger is_output name ledger → IsOfName is_output name (file_of ledger)
  file_is_of_name None None is = tt
  file_is_of_name None (Some ledger) is = absurd is
  file_is_of_name (Some name) None is = absurd is
  file_is_of_name (Some name) (Some ledger) is = is.0

told_beside : {O : Type 0} (ledger : Option (Ledger O)) (stopped : Option Stopped) → TellsUse (stacks_of ledger) stopped → TellsUse (file_of ledger) stopped
told_beside None stopped tells = tt
told_beside (Some ledger) None tells = tt
told_beside (Some ledger) (Some stopped) tells = tells

-- of what these are parted into, and of a run that was ended
pub told_with : {O : Type 0} (ledger : Option (Ledger O)) (stacks : Option Stacks) (file : Option O) (stopped end : Option Stopped) → stacks ≡ stacks_of ledger → file ≡ file_of ledger → end ≡ stopped
    → TellsUse stacks stopped → TellsUse file end
told_with {O} ledger stacks file stopped end stacks_are file_is same tells =
    subst (λ (s : Option Stopped). TellsUse file s) (sym same) (subst (λ (f : Option O). TellsUse f stopped) (sym file_is)
    (told_beside ledger stopped (subst (λ (s : Option Stacks). TellsUse s stopped) stacks_are tells)))

pub new_stacks : {O : Type 0} (is_output : Text → O → Type 0) (name : Option (Bor Text)) (ledger : Option (Ledger O)) (stacks : Option Stacks) → stacks ≡ stacks_of ledger → IsLedger is_output name ledger
    → IfSome stacks (λ s. s ≡ no_stacks)
new_stacks is_output name ledger stacks are is = subst (λ (o : Option Stacks). IfSome o (λ s. s ≡ no_stacks)) (sym are) (stacks_are_new is_output name ledger is)

pub its_file : {O : Type 0} (is_output : Text → O → Type 0) (name : Option (Bor Text)) (ledger : Option (Ledger O)) (file : Option O) → file ≡ file_of ledger → IsLedger is_output name ledger
    → IsOfName is_output name file
its_file {O} is_output name ledger file is are = subst (λ (f : Option O). IsOfName is_output name f) (sym is) (file_is_of_name is_output name ledger are)
