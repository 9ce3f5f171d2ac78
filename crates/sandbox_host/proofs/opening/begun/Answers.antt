use Rattle.std.proofs.Common.{refl, ap}
use Rattle.std.proofs.lemmas.Bool.{false≢true}
use Rattle.sandbox_host.specs.declared.held.HandleContent.TheVariants.{Loaded}
use Rattle.sandbox_host.specs.declared.modules.LoadedModule.{LoadedModule}
use Rattle.sandbox_host.proofs.opening.begun.Goals as goal

pub returns-in-Ok : goal.returns-in-Ok
returns-in-Ok c =
    rw c.in-Loaded.is (record {
      begins = λ _. c.in-Ok.ensures.begins;
      refused = λ some. absurd (some refl);
      other = λ none. absurd (false≢true none);
      bytes = refl;
    })

pub returns-in-Err : goal.returns-in-Err
returns-in-Err c =
    rw c.in-Loaded.is (record {
      begins = λ none. absurd (c.in-Err.ensures.some none);
      refused = λ _. (ap (λ (l : LoadedModule). Loaded l c.in-Loaded.bytes) c.in-Err.ensures.module, c.in-Err.ensures.refused);
      other = λ none. absurd (false≢true none);
      bytes = refl;
    })
