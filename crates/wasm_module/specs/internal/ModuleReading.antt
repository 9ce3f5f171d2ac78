-- How the parts of a module are read, up to `module_from`, which is what the decoder does with all bytes. The code
-- takes the sections in groups, each of which but the last ends with the next group; `decoded_of` makes of these nested
-- pairs a module and the number of data segments that it declares.
use Rattle.std.specs.Prelude.{ℕ, ◌+◌, List, [], length, Bool, true, ◌&&◌, Option, Some, None, unwrap_or, slice_get, nat_le, ◌==◌, if◌then◌else◌}
use Rattle.std.specs.List.{list_all, zip}
use Rattle.wasm_syntax.specs.declared.profile.Profile.{Profile}
use Rattle.wasm_syntax.specs.declared.module.FuncType.{FuncType}
use Rattle.wasm_syntax.specs.declared.module.Limits.{Limits}
use Rattle.wasm_syntax.specs.declared.module.ImportKind.{ImportKind}
use Rattle.wasm_syntax.specs.declared.module.ImportKind.TheVariants as imported
use Rattle.wasm_syntax.specs.declared.module.Import.{Import}
use Rattle.wasm_syntax.specs.declared.module.ExportKind.{ExportKind}
use Rattle.wasm_syntax.specs.declared.module.ExportKind.TheVariants as exported
use Rattle.wasm_syntax.specs.declared.module.Export.{Export}
use Rattle.wasm_syntax.specs.declared.module.GlobalEntry.{GlobalEntry}
use Rattle.wasm_syntax.specs.declared.module.ElementSegment.{ElementSegment}
use Rattle.wasm_syntax.specs.declared.module.Locals.{Locals}
use Rattle.wasm_syntax.specs.declared.module.Body.{Body}
use Rattle.wasm_syntax.specs.declared.module.DataSegment.{DataSegment}
use Rattle.wasm_syntax.specs.declared.module.Module.{Module}
use Rattle.wasm_syntax.specs.Module.{Sections, module_of, param_count, local_count}
use Rattle.wasm_syntax.specs.internal.TypesReading.{value_type_at, func_type_at, limits_at, table_at, global_type_at}
use Rattle.wasm_syntax.specs.internal.CodeReading.{code_at}
use Rattle.wasm_syntax.specs.Reading.{◌>>=◌, Reader, WholeReader, byte_at, next_at, then_at, map_at, u32_at, vector_at, whole, sized_at, raw_of, name_at, customs_at, section_at}

-- ---- parts of sections

unfoldable pub import_after : Profile → ℕ → Reader ImportKind
import_after p b =
    if b == 0x00 then map_at imported.Function u32_at else (
    if b == 0x01 then map_at imported.Table table_at else (
    if b == 0x02 then map_at imported.Memory limits_at else (
    if b == 0x03 then map_at imported.Global (global_type_at p) else (λ rest. None))))

unfoldable pub import_kind_at : Profile → Reader ImportKind
import_kind_at p bytes = next_at bytes >>= λ b. import_after p b.0 b.1

unfoldable pub import_at : Profile → Reader Import
import_at p = map_at (λ x. record { module_name = x.0; name = x.1.0; kind = x.1.1 }) (then_at name_at (then_at name_at (import_kind_at p)))

unfoldable pub global_at : Profile → Reader GlobalEntry
global_at p = map_at (λ x. record { global_type = x.0; init = x.1 }) (then_at (global_type_at p) (code_at p))

unfoldable pub export_after : ℕ → Reader ExportKind
export_after b =
    if b == 0x00 then map_at exported.Function u32_at else (
    if b == 0x01 then map_at exported.Table u32_at else (
    if b == 0x02 then map_at exported.Memory u32_at else (
    if b == 0x03 then map_at exported.Global u32_at else (λ rest. None))))

unfoldable pub export_kind_at : Reader ExportKind
export_kind_at bytes = next_at bytes >>= λ b. export_after b.0 b.1

unfoldable pub export_at : Reader Export
export_at = map_at (λ x. record { name = x.0; kind = x.1 }) (then_at name_at export_kind_at)

unfoldable pub elements_at : Profile → Reader ElementSegment
elements_at p = map_at (λ x. record { table = x.0; offset = x.1.0; functions = x.1.1 }) (then_at u32_at (then_at (code_at p) (vector_at u32_at)))

unfoldable pub locals_at : Profile → Reader Locals
locals_at p = map_at (λ x. record { count = x.0; value_type = x.1 }) (then_at u32_at (value_type_at p))

unfoldable pub body_of : Profile → WholeReader Body
body_of p content = whole (then_at (vector_at (locals_at p)) (code_at p)) content >>= λ x. Some (record { bytes = content; locals = x.0; code = x.1 })

unfoldable pub body_at : Profile → Reader Body
body_at p = sized_at (body_of p)

unfoldable pub data_at : Profile → Reader DataSegment
data_at p = map_at (λ x. record { memory = x.0; offset = x.1.0; bytes = x.1.1 }) (then_at u32_at (then_at (code_at p) (sized_at raw_of)))

-- ---- the module

-- four bytes
unfoldable pub word_at : ℕ → ℕ → ℕ → ℕ → Reader (Unit {0})
word_at a b c d bytes = byte_at a bytes >>= λ x. byte_at b x.1 >>= λ y. byte_at c y.1 >>= λ z. byte_at d z.1

unfoldable pub preamble_at : Reader (Unit {0})
preamble_at bytes =
    byte_at 0x00 bytes >>= λ a. byte_at 0x61 a.1 >>= λ b. byte_at 0x73 b.1 >>= λ c. byte_at 0x6D c.1 >>= λ d.
    byte_at 0x01 d.1 >>= λ e. byte_at 0x00 e.1 >>= λ f. byte_at 0x00 f.1 >>= λ g. byte_at 0x00 g.1

-- what the sections hold, one after the other
abbrev pub Held : Type 0
Held = Unit {0} × (Option (List FuncType) × (Option (List Import) × (Option (List ℕ) × (Option (List Limits) × (Option (List Limits) × (Option (List GlobalEntry) × (Option (List Export) × (Option ℕ × (Option (List ElementSegment) × (Option ℕ × (Option (List Body) × (Option (List DataSegment)))))))))))))

abbrev pub sections_of : Held → Sections
sections_of p = record {
  types = p.1.0;
  imports = p.1.1.0;
  functions = p.1.1.1.0;
  tables = p.1.1.1.1.0;
  memories = p.1.1.1.1.1.0;
  globals = p.1.1.1.1.1.1.0;
  exports = p.1.1.1.1.1.1.1.0;
  start = p.1.1.1.1.1.1.1.1.0;
  element_segments = p.1.1.1.1.1.1.1.1.1.0;
  data_count = p.1.1.1.1.1.1.1.1.1.1.0;
  bodies = p.1.1.1.1.1.1.1.1.1.1.1.0;
  data_segments = p.1.1.1.1.1.1.1.1.1.1.1.1;
}

unfoldable pub sections_at : Profile → Reader Sections
sections_at p =
    map_at sections_of (
    then_at customs_at (
    then_at (section_at 1 (whole (vector_at (func_type_at p)))) (
    then_at (section_at 2 (whole (vector_at (import_at p)))) (
    then_at (section_at 3 (whole (vector_at u32_at))) (
    then_at (section_at 4 (whole (vector_at table_at))) (
    then_at (section_at 5 (whole (vector_at limits_at))) (
    then_at (section_at 6 (whole (vector_at (global_at p)))) (
    then_at (section_at 7 (whole (vector_at export_at))) (
    then_at (section_at 8 (whole u32_at)) (
    then_at (section_at 9 (whole (vector_at (elements_at p)))) (
    then_at (section_at 12 (whole u32_at)) (
    then_at (section_at 10 (whole (vector_at (body_at p))))
    (section_at 11 (whole (vector_at (data_at p))))))))))))))))

-- ---- the limits

abbrev pub is_few : List FuncType → ℕ → Body → Bool
is_few types f b = nat_le (param_count (slice_get types f) + local_count b.locals) 50000

unfoldable pub fits_profile : List FuncType → List ℕ → List Body → Bool
fits_profile types functions bodies = list_all (λ p. is_few types p.0 p.1) (zip functions bodies)

-- a count that is there has to be right
abbrev pub is_counted : Option ℕ → ℕ → Bool
is_counted None n = true
is_counted (Some count) n = count == n

unfoldable pub counts_agree : Module → Option ℕ → Bool
counts_agree m data_count = fits_profile m.types m.functions m.bodies && (length m.functions == length m.bodies && is_counted data_count (length m.data_segments))

-- the module of the sections, and how many data segments they say that it has
abbrev pub module_and_count : Sections → Module × Option ℕ
module_and_count s = (module_of s, s.data_count)

-- a section that is a list; one that is absent is empty
unfoldable pub list_at : {X : Type 0} → ℕ → Reader X → Reader (List X)
list_at id a = map_at (λ o. unwrap_or o []) (section_at id (whole (vector_at a)))

-- what the last sections hold
abbrev pub CodeParts : Type 0
CodeParts = Option ℕ × (List Body × List DataSegment)

unfoldable pub code_parts_at : Profile → Reader CodeParts
code_parts_at p = then_at (section_at 12 (whole u32_at)) (then_at (list_at 10 (body_at p)) (list_at 11 (data_at p)))

-- what the sections from the start function on hold
abbrev pub StartParts : Type 0
StartParts = Option ℕ × (List ElementSegment × CodeParts)

unfoldable pub start_parts_at : Profile → Reader StartParts
start_parts_at p = then_at (section_at 8 (whole u32_at)) (then_at (list_at 9 (elements_at p)) (code_parts_at p))

-- what the sections from the exports on hold
abbrev pub LinkParts : Type 0
LinkParts = List Export × StartParts

unfoldable pub link_parts_at : Profile → Reader LinkParts
link_parts_at p = then_at (list_at 7 export_at) (start_parts_at p)

-- what the sections from the tables on hold
abbrev pub StorageParts : Type 0
StorageParts = List Limits × (List Limits × (List GlobalEntry × LinkParts))

unfoldable pub storage_parts_at : Profile → Reader StorageParts
storage_parts_at p = then_at (list_at 4 table_at) (then_at (list_at 5 limits_at) (then_at (list_at 6 (global_at p)) (link_parts_at p)))

-- what all sections hold
abbrev pub Parts : Type 0
Parts = Unit {0} × (List FuncType × (List Import × (List ℕ × StorageParts)))

-- the module of these parts, and how many data segments they say that it has
abbrev pub decoded_of : Parts → Module × Option ℕ
decoded_of p = (
  record {
    types = p.1.0;
    imports = p.1.1.0;
    functions = p.1.1.1.0;
    tables = p.1.1.1.1.0;
    memories = p.1.1.1.1.1.0;
    globals = p.1.1.1.1.1.1.0;
    exports = p.1.1.1.1.1.1.1.0;
    start = p.1.1.1.1.1.1.1.1.0;
    element_segments = p.1.1.1.1.1.1.1.1.1.0;
    bodies = p.1.1.1.1.1.1.1.1.1.1.1.0;
    data_segments = p.1.1.1.1.1.1.1.1.1.1.1.1;
  },
  p.1.1.1.1.1.1.1.1.1.1.0,
)

unfoldable pub parts_at : Profile → Reader Parts
parts_at p = then_at customs_at (then_at (list_at 1 (func_type_at p)) (then_at (list_at 2 (import_at p)) (then_at (list_at 3 u32_at) (storage_parts_at p))))

unfoldable pub module_from : Profile → WholeReader Module
module_from p bytes =
    if nat_le (length bytes) 67108864
    then (preamble_at bytes >>= λ x. map_at module_and_count (sections_at p) x.1 >>= λ m. if length m.1 == 0 then (if counts_agree m.0.0 m.0.1 then Some m.0.0 else None) else None)
    else None
