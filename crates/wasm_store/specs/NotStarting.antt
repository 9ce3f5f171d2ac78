-- Why a module isn't instantiated (section 4.5.4): `RefusedFor` says what each fault but `Memory` means, over the links of any host.
use Rattle.std.specs.Prelude.{ℕ, ◌+◌, ◌*◌, ◌<◌, ◌≤◌, ◌⊎◌, List, [], ◌∷◌, length}
use Rattle.wasm_syntax.specs.declared.module.FuncType.{FuncType}
use Rattle.wasm_syntax.specs.declared.module.Import.{Import}
use Rattle.wasm_syntax.specs.declared.module.ElementSegment.{ElementSegment}
use Rattle.wasm_syntax.specs.declared.module.DataSegment.{DataSegment}
use Rattle.wasm_syntax.specs.declared.module.Module.{Module}
use Rattle.wasm_store.specs.declared.fault.InstanceFault.{InstanceFault}
use Rattle.wasm_store.specs.declared.fault.InstanceFault.TheVariants as faults
use Rattle.wasm_store.specs.Values.{Val}
use Rattle.wasm_store.specs.Instances.{Callee}
use Rattle.wasm_store.specs.Instantiation.{LinksOf, IsLinked, AreLinked, IsStart, AreFirst, segment_start, minimum, ElementsInside}

-- one of the imports is no function, or the host has no call of its names and type; or its type index names no type
-- (no `type_is`), which a valid module rules out
abbrev pub SomeUnlinked : LinksOf → List FuncType → List Import → Type 0
SomeUnlinked links types [] = ⊥
SomeUnlinked links types (i ∷ is) = ((c : Callee) → IsLinked links types i c → ⊥) ⊎ SomeUnlinked links types is

abbrev pub ElementsOutside : List Val → ℕ → List ElementSegment → Type 0
ElementsOutside gs size [] = ⊥
ElementsOutside gs size (e ∷ es) = (size < segment_start gs e.offset + length e.functions) ⊎ ElementsOutside gs size es

abbrev pub DataOutside : List Val → ℕ → List DataSegment → Type 0
DataOutside gs size [] = ⊥
DataOutside gs size (d ∷ ds) = (size < segment_start gs d.offset + length d.bytes) ⊎ DataOutside gs size ds

-- every import is linked, and there is a `_start`
abbrev pub CanStart : LinksOf → Module → Type 0
CanStart links m = ((cs : List Callee) × AreLinked links m.types m.imports cs) × ((x : ℕ) × IsStart m x)

-- why a module is refused; of several reasons the first in this order is named
abbrev pub RefusedFor : LinksOf → ℕ → Module → InstanceFault → Type 0
RefusedFor links pages m faults.Import = SomeUnlinked links m.types m.imports
RefusedFor links pages m faults.NoStart =
    ((cs : List Callee) × AreLinked links m.types m.imports cs) × ((x : ℕ) → IsStart m x → ⊥)
RefusedFor links pages m faults.PageLimit = CanStart links m × (pages < minimum m.memories)
RefusedFor links pages m faults.ElementOutOfBounds =
    CanStart links m × (minimum m.memories ≤ pages)
    × ((gs : List Val) × AreFirst m.globals gs × ElementsOutside gs (minimum m.tables) m.element_segments)
RefusedFor links pages m faults.DataOutOfBounds =
    CanStart links m × (minimum m.memories ≤ pages)
    × ((gs : List Val) × AreFirst m.globals gs × ElementsInside gs (minimum m.tables) m.element_segments
    × DataOutside gs (minimum m.memories * 65536) m.data_segments)
RefusedFor links pages m faults.Memory = Unit {0}
