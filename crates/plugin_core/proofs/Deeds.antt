-- From deeds to a whole life.
use Rattle.std.proofs.Common.{refl, subst}
use Rattle.wasm_steps.specs.Configuration.{Instance, Configuration}
use Rattle.wasm_steps.specs.Steps.{CallsOf}
use Rattle.plugin_steps.specs.Lives.{Ending, EndsWith}
use Rattle.plugin_steps.specs.Deeds.{at_work}
use Rattle.plugin_steps.proofs.Acting.{acts_are_a_life}
use Rattle.plugin_core.specs.Deeds.{DeedsAreALife}

pub deeds_are_a_life : (H : Type 0) (Calls : CallsOf H) (S : Type 0) (Stands : S → Instance → Configuration → Type 0) → DeedsAreALife H Calls S Stands
deeds_are_a_life H Calls S Stands links pages m i first initializer h h' s s' ds allocates has st acts returned only =
    let lived = acts_are_a_life H Calls S Stands m i h h' s s' _ ds st acts in (
      lived.last,
      lived.stands,
      record {
        instance = i;
        first = first;
        allocates = allocates;
        initializer = initializer;
        has_initializer = has;
        calls = (at_work ds).calls;
        exchanges = (at_work ds).exchanges;
        opened = lived.between;
        ready = lived.reached;
        opens = lived.goes_on;
        returned = λ some. subst (λ (e : Ending). EndsWith e lived.reached) (returned some) lived.ends_so;
        lives = lived.lives;
        only_last_exits = only;
      },
      refl,
    )
