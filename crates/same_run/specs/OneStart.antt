-- A valid module has one first configuration.
use Rattle.std.specs.Prelude.{◌≡◌, ℕ, List}
use Rattle.wasm_syntax.specs.declared.module.Module.{Module}
use Rattle.wasm_valid.specs.Validity.{IsValid}
use Rattle.wasm_store.specs.Instances.{Instance, Store}
use Rattle.wasm_store.specs.Instantiation.{LinksOf, Instantiates}

-- Two instances of a valid module with the same links and pages are the same, with the same store, and the same functions are
-- entered.
abbrev pub OneStart : LinksOf → Type 0
OneStart links = (pages : ℕ) (m : Module) (i1 i2 : Instance) (s1 s2 : Store) (entered1 entered2 : List ℕ) → IsValid m
    → Instantiates links pages m i1 s1 entered1 → Instantiates links pages m i2 s2 entered2
    → (i1 ≡ i2) × (s1 ≡ s2) × (entered1 ≡ entered2)
