-- What is done with a machine from the opening of an instance on is its life: so what holds over lives holds of it.
use Rattle.std.specs.Prelude.{◌≡◌, ◌≢◌, ℕ, true, List, [], ◌++◌, Option}
use Rattle.std.specs.Option.{option_to_list}
use Rattle.wasm_syntax.specs.declared.module.Module.{Module}
use Rattle.wasm_steps.specs.Configuration.{Instance, Store, Configuration, store_of, first_configuration}
use Rattle.wasm_steps.specs.Steps.{CallsOf}
use Rattle.plugin_steps.specs.Lives.{returns}
use Rattle.plugin_steps.specs.Deeds.{Deed, at_work, invocations}
use Rattle.plugin_steps.specs.Acting.{Acts}
use Rattle.wasm_store.specs.Allocation.{AllLinks, Allocates, HasInitializer}
use Rattle.plugin_core.specs.WholeLives.{OnlyLastExits, Life}

-- Of a machine that stood for the first configuration. Another function is entered only where the opening returned, and none after
-- `proc_exit`.
abbrev pub DeedsAreALife : (H : Type 0) → CallsOf H → (S : Type 0) → (S → Instance → Configuration → Type 0) → Type 0
DeedsAreALife H Calls S Stands = (links : AllLinks) (pages : ℕ) (m : Module) (i : Instance) (first : Store) (initializer : Option ℕ) (h h' : H) (s s' : S) (ds : List Deed)
    → Allocates links pages m i first → HasInitializer m initializer → Stands s i (first_configuration (option_to_list m.start ++ option_to_list initializer) first)
    → Acts H Calls m i (λ t d. Stands t i d) true h s ds h' s' → (invocations ds ≢ [] → (at_work ds).ending ≡ returns []) → OnlyLastExits (invocations ds)
    → (last : Configuration) × Stands s' i last × (life : Life H Calls links pages m h (invocations ds) h' (store_of last)) × (life.instance ≡ i)
