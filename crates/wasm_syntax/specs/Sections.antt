-- Sections and what they hold (section 5.5): which bytes spell which part of a module, or a custom section. `Module`
-- puts the sections in their order, with custom sections before, between and after them.
use Rattle.std.specs.Prelude.{◌≡◌, ℕ, List, [], ◌++◌, Option, Some, None}
use Rattle.wasm_syntax.specs.declared.profile.Profile.{Profile}
use Rattle.wasm_syntax.specs.declared.module.ImportKind.{ImportKind}
use Rattle.wasm_syntax.specs.declared.module.ImportKind.TheVariants as imported
use Rattle.wasm_syntax.specs.declared.module.Import.{Import}
use Rattle.wasm_syntax.specs.declared.module.ExportKind.{ExportKind}
use Rattle.wasm_syntax.specs.declared.module.ExportKind.TheVariants as exported
use Rattle.wasm_syntax.specs.declared.module.Export.{Export}
use Rattle.wasm_syntax.specs.declared.module.GlobalEntry.{GlobalEntry}
use Rattle.wasm_syntax.specs.declared.module.ElementSegment.{ElementSegment}
use Rattle.wasm_syntax.specs.declared.module.Locals.{Locals}
use Rattle.wasm_syntax.specs.declared.module.Body.{Body}
use Rattle.wasm_syntax.specs.declared.module.DataSegment.{DataSegment}
use Rattle.wasm_syntax.specs.Grammar.{Byte, Then, Each, U32, Vector, Sized, Raw, SpellsName}
use Rattle.wasm_syntax.specs.Types.{SpellsValueType, SpellsLimits, SpellsTable, SpellsGlobalType}
use Rattle.wasm_syntax.specs.Instructions.{SpellsExpression}

-- ---- any section

-- a custom section's content (section 5.5.3): a name, and any bytes
abbrev pub CustomContent : List ℕ → List ℕ × List ℕ → Type 0
CustomContent = Then SpellsName Raw

abbrev pub Custom : List ℕ → List ℕ × List ℕ → Type 0
Custom text c = Then (Byte 0) (Sized CustomContent) text (tt, c)

-- custom sections, any number of them
abbrev pub Customs : List ℕ → Type 0
Customs text = (cs : List (List ℕ × List ℕ)) × Each Custom text cs

-- a section (section 5.5.2), which may be absent, and the custom sections after it
abbrev pub Section : {X : Type 0} → ℕ → (List ℕ → X → Type 0) → List ℕ → Option X → Type 0
Section id A text None = text ≡ []
Section id A text (Some x) =
    (section : List ℕ) × (customs : List ℕ) × Then (Byte id) (Sized A) section (tt, x) × Customs customs × (text ≡ section ++ customs)

-- ---- their parts

-- section 5.5.5
abbrev pub SpellsImportKind : Profile → List ℕ → ImportKind → Type 0
SpellsImportKind p text (imported.Function x) = Then (Byte 0x00) U32 text (tt, x)
SpellsImportKind p text (imported.Table l) = Then (Byte 0x01) SpellsTable text (tt, l)
SpellsImportKind p text (imported.Memory l) = Then (Byte 0x02) SpellsLimits text (tt, l)
SpellsImportKind p text (imported.Global g) = Then (Byte 0x03) (SpellsGlobalType p) text (tt, g)

abbrev pub SpellsImport : Profile → List ℕ → Import → Type 0
SpellsImport p text i = Then SpellsName (Then SpellsName (SpellsImportKind p)) text (i.module_name, (i.name, i.kind))

-- section 5.5.9
abbrev pub SpellsGlobal : Profile → List ℕ → GlobalEntry → Type 0
SpellsGlobal p text g = Then (SpellsGlobalType p) (SpellsExpression p) text (g.global_type, g.init)

-- section 5.5.10
abbrev pub SpellsExportKind : List ℕ → ExportKind → Type 0
SpellsExportKind text (exported.Function x) = Then (Byte 0x00) U32 text (tt, x)
SpellsExportKind text (exported.Table x) = Then (Byte 0x01) U32 text (tt, x)
SpellsExportKind text (exported.Memory x) = Then (Byte 0x02) U32 text (tt, x)
SpellsExportKind text (exported.Global x) = Then (Byte 0x03) U32 text (tt, x)

abbrev pub SpellsExport : List ℕ → Export → Type 0
SpellsExport text e = Then SpellsName SpellsExportKind text (e.name, e.kind)

-- section 5.5.12
abbrev pub SpellsElements : Profile → List ℕ → ElementSegment → Type 0
SpellsElements p text e = Then U32 (Then (SpellsExpression p) (Vector U32)) text (e.table, (e.offset, e.functions))

-- section 5.5.13: locals in groups, and the instructions
abbrev pub SpellsLocals : Profile → List ℕ → Locals → Type 0
SpellsLocals p text l = Then U32 (SpellsValueType p) text (l.count, l.value_type)

abbrev pub BodyContent : Profile → List ℕ → Body → Type 0
BodyContent p content b = (content ≡ b.bytes) × Then (Vector (SpellsLocals p)) (SpellsExpression p) content (b.locals, b.code)

-- section 5.5.14
abbrev pub SpellsData : Profile → List ℕ → DataSegment → Type 0
SpellsData p text d = Then U32 (Then (SpellsExpression p) (Sized Raw)) text (d.memory, (d.offset, d.bytes))
