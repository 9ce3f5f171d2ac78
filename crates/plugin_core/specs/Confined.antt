-- What a guest can't reach in all its life. Any first part of a life is one, since an invocation may be abandoned anywhere, so
-- this holds at each moment.
use Rattle.std.specs.Prelude.{ℕ, List}
use Rattle.wasm_syntax.specs.declared.module.Module.{Module}
use Rattle.wasm_steps.specs.Configuration.{Store}
use Rattle.wasm_steps.specs.Steps.{CallsOf}
use Rattle.wasi_bodies.specs.World.{World}
use Rattle.wasi_bodies.specs.laws.Confined.{IsConfined, named_by, HasOnlyDirectoriesOpen, IsHostOf}
use Rattle.plugin_steps.specs.Lives.{Invocation}
use Rattle.wasm_store.specs.Allocation.{AllLinks}
use Rattle.plugin_core.specs.WholeLives.{Life}

-- over a host whose calls are those of the worlds that it shows, where its device keeps its model
abbrev pub ConfinesLives : {H : Type 0} → CallsOf H → (H → World → Type 0) → (H → Type 0) → Type 0
ConfinesLives {H} Calls shows honest = (links : AllLinks) (pages : ℕ) (m : Module) (h h' : H) (w w' : World) (vs : List Invocation) (s : Store) → IsHostOf Calls shows honest
    → honest h → shows h w → HasOnlyDirectoriesOpen w → Life H Calls links pages m h vs h' s → shows h' w' → IsConfined w.tree (named_by w.table) w'.tree w'.table
