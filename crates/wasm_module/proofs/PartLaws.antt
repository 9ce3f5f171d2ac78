-- The laws of the parts of sections.
use Rattle.std.proofs.Common.{◌≡◌, ℕ, List, [], ◌∷◌, ◌++◌, Some, refl, ap, subst}
use Rattle.wasm_syntax.specs.declared.profile.Profile.{Profile}
use Rattle.wasm_syntax.specs.declared.instruction.Instruction.{Instruction}
use Rattle.wasm_syntax.specs.declared.module.ImportKind.{ImportKind}
use Rattle.wasm_syntax.specs.declared.module.ImportKind.TheVariants as imported
use Rattle.wasm_syntax.specs.declared.module.Import.{Import}
use Rattle.wasm_syntax.specs.declared.module.ExportKind.{ExportKind}
use Rattle.wasm_syntax.specs.declared.module.ExportKind.TheVariants as exported
use Rattle.wasm_syntax.specs.declared.module.Export.{Export}
use Rattle.wasm_syntax.specs.declared.module.GlobalEntry.{GlobalEntry}
use Rattle.wasm_syntax.specs.declared.module.ElementSegment.{ElementSegment}
use Rattle.wasm_syntax.specs.declared.module.Locals.{Locals}
use Rattle.wasm_syntax.specs.declared.module.Body.{Body}
use Rattle.wasm_syntax.specs.declared.module.DataSegment.{DataSegment}
use Rattle.wasm_syntax.specs.Grammar.{Then, U32, Vector, Sized}
use Rattle.wasm_syntax.specs.Types.{SpellsLimits, SpellsTable, SpellsGlobalType}
use Rattle.wasm_syntax.specs.Instructions.{SpellsExpression}
use Rattle.wasm_syntax.specs.Sections.{SpellsImportKind, SpellsImport, SpellsGlobal, SpellsExportKind, SpellsExport, SpellsElements, SpellsLocals, BodyContent, SpellsData}
use Rattle.wasm_syntax.specs.internal.CodeReading.{code_at}
use Rattle.wasm_module.specs.internal.ModuleReading.{import_after, import_kind_at, import_at, global_at, export_after, export_kind_at, export_at, elements_at, locals_at, body_of, body_at, data_at}
use Rattle.wasm_syntax.specs.Reading.{then_at, vector_at, whole}
use Rattle.wasm_module.proofs.Laws.{bind_some, some_is, Front, Reads, ReadsWhole}
use Rattle.wasm_module.proofs.Combine.{reads_then, reads_as, reads_u32, reads_vector, reads_whole, reads_sized, reads_raw, reads_name, operand_then, reread, tagged, untagged}
use Rattle.wasm_module.proofs.TypeLaws.{reads_value_type, reads_limits, reads_table, reads_global_type}
use Rattle.wasm_module.proofs.Nesting.{reads_code}

module _ (profile : Profile) where
  -- ---- imports

  -- a kind of import that is read is spelled so
  imports_take : (bytes : List ℕ) (x : ImportKind) (rest : List ℕ) → import_kind_at profile bytes ≡ Some (x, rest) → Front ImportKind (SpellsImportKind profile) bytes x rest
  unfolding import_kind_at import_after
  imports_take [] x rest e = absurd cc
  imports_take (b ∷ bs) x rest e =
      operand_then imported.Function 0x00 _ reads_u32 (tagged U32 0x00) (
      operand_then imported.Table 0x01 _ reads_table (tagged SpellsTable 0x01) (
      operand_then imported.Memory 0x02 _ reads_limits (tagged SpellsLimits 0x02) (
      operand_then imported.Global 0x03 _ (reads_global_type profile) (tagged (SpellsGlobalType profile) 0x03) (
      λ e. absurd cc)))) e

  -- a kind of import that is spelled so is read
  imports_again : (text : List ℕ) (x : ImportKind) (rest : List ℕ) → SpellsImportKind profile text x → import_kind_at profile (text ++ rest) ≡ Some (x, rest)
  unfolding import_kind_at import_after
  imports_again text (imported.Function x) rest h = reread imported.Function (import_kind_at profile) 0x00 x rest reads_u32 (λ s. refl) (untagged U32 0x00 text x h) h.3
  imports_again text (imported.Table x) rest h = reread imported.Table (import_kind_at profile) 0x01 x rest reads_table (λ s. refl) (untagged SpellsTable 0x01 text x h) h.3
  imports_again text (imported.Memory x) rest h = reread imported.Memory (import_kind_at profile) 0x02 x rest reads_limits (λ s. refl) (untagged SpellsLimits 0x02 text x h) h.3
  imports_again text (imported.Global x) rest h = reread imported.Global (import_kind_at profile) 0x03 x rest (reads_global_type profile) (λ s. refl) (untagged (SpellsGlobalType profile) 0x03 text x h) h.3

  -- kinds of imports
  reads_import_kind : Reads ImportKind (SpellsImportKind profile) (import_kind_at profile)
  reads_import_kind = record { takes = imports_take; again = imports_again }

  -- imports
  pub reads_import : Reads Import (SpellsImport profile) (import_at profile)
  unfolding import_at
  reads_import = reads_as (reads_then reads_name (reads_then reads_name reads_import_kind)) (λ p. record { module_name = p.0; name = p.1.0; kind = p.1.1 }) (λ i. (i.module_name, (i.name, i.kind))) (λ p. refl) (λ i. refl)

  -- ---- globals

  -- globals with their initial values
  pub reads_global : Reads GlobalEntry (SpellsGlobal profile) (global_at profile)
  unfolding global_at
  reads_global = reads_as (reads_then (reads_global_type profile) (reads_code profile)) (λ p. record { global_type = p.0; init = p.1 }) (λ g. (g.global_type, g.init)) (λ p. refl) (λ g. refl)

  -- ---- exports

  -- a kind of export that is read is spelled so
  exports_take : (bytes : List ℕ) (x : ExportKind) (rest : List ℕ) → export_kind_at bytes ≡ Some (x, rest) → Front ExportKind SpellsExportKind bytes x rest
  unfolding export_kind_at export_after
  exports_take [] x rest e = absurd cc
  exports_take (b ∷ bs) x rest e =
      operand_then exported.Function 0x00 _ reads_u32 (tagged U32 0x00) (
      operand_then exported.Table 0x01 _ reads_u32 (tagged U32 0x01) (
      operand_then exported.Memory 0x02 _ reads_u32 (tagged U32 0x02) (
      operand_then exported.Global 0x03 _ reads_u32 (tagged U32 0x03) (
      λ e. absurd cc)))) e

  -- a kind of export that is spelled so is read
  exports_again : (text : List ℕ) (x : ExportKind) (rest : List ℕ) → SpellsExportKind text x → export_kind_at (text ++ rest) ≡ Some (x, rest)
  unfolding export_kind_at export_after
  exports_again text (exported.Function x) rest h = reread exported.Function export_kind_at 0x00 x rest reads_u32 (λ s. refl) (untagged U32 0x00 text x h) h.3
  exports_again text (exported.Table x) rest h = reread exported.Table export_kind_at 0x01 x rest reads_u32 (λ s. refl) (untagged U32 0x01 text x h) h.3
  exports_again text (exported.Memory x) rest h = reread exported.Memory export_kind_at 0x02 x rest reads_u32 (λ s. refl) (untagged U32 0x02 text x h) h.3
  exports_again text (exported.Global x) rest h = reread exported.Global export_kind_at 0x03 x rest reads_u32 (λ s. refl) (untagged U32 0x03 text x h) h.3

  -- kinds of exports
  reads_export_kind : Reads ExportKind SpellsExportKind export_kind_at
  reads_export_kind = record { takes = exports_take; again = exports_again }

  -- exports
  pub reads_export : Reads Export SpellsExport export_at
  unfolding export_at
  reads_export = reads_as (reads_then reads_name reads_export_kind) (λ p. record { name = p.0; kind = p.1 }) (λ x. (x.name, x.kind)) (λ p. refl) (λ x. refl)

  -- ---- element segments

  -- element segments
  pub reads_elements : Reads ElementSegment (SpellsElements profile) (elements_at profile)
  unfolding elements_at
  reads_elements = reads_as (reads_then reads_u32 (reads_then (reads_code profile) (reads_vector reads_u32))) (λ p. record { table = p.0; offset = p.1.0; functions = p.1.1 }) (λ x. (x.table, (x.offset, x.functions))) (λ p. refl) (λ x. refl)

  -- ---- bodies

  -- groups of locals
  reads_locals : Reads Locals (SpellsLocals profile) (locals_at profile)
  unfolding locals_at
  reads_locals = reads_as (reads_then reads_u32 (reads_value_type profile)) (λ p. record { count = p.0; value_type = p.1 }) (λ l. (l.count, l.value_type)) (λ p. refl) (λ l. refl)

  -- what a body holds
  abbrev Content : List ℕ → List Locals × List Instruction → Type 0
  Content = Then (Vector (SpellsLocals profile)) (SpellsExpression profile)

  -- what a body holds fills it
  reads_content : ReadsWhole (List Locals × List Instruction) Content (whole (then_at (vector_at (locals_at profile)) (code_at profile)))
  reads_content = reads_whole (reads_then (reads_vector reads_locals) (reads_code profile))

  -- a body of these parts
  abbrev made_body : List ℕ → List Locals × List Instruction → Body
  made_body content p = record { bytes = content; locals = p.0; code = p.1 }

  -- bodies without their size
  reads_body_content : ReadsWhole Body (BodyContent profile) (body_of profile)
  unfolding body_of
  reads_body_content = record {
    takes = λ bytes b e.
        let s = bind_some (whole (then_at (vector_at (locals_at profile)) (code_at profile)) bytes) (λ p. Some (made_body bytes p)) b e in
        subst (BodyContent profile bytes) (some_is (made_body bytes s.0) b s.2) (refl, reads_content.takes bytes s.0 s.1);
    again = λ bytes b h.
        let same : made_body bytes (b.locals, b.code) ≡ b = ap (λ (c : List ℕ). made_body c (b.locals, b.code)) h.0 in
        rw (reads_content.again bytes (b.locals, b.code) h.1) (ap (λ (x : Body). Some x) same);
  }

  -- bodies after their size
  pub reads_body : Reads Body (Sized (BodyContent profile)) (body_at profile)
  unfolding body_at
  reads_body = reads_sized reads_body_content

  -- ---- data segments

  -- data segments
  pub reads_data : Reads DataSegment (SpellsData profile) (data_at profile)
  unfolding data_at
  reads_data = reads_as (reads_then reads_u32 (reads_then (reads_code profile) (reads_sized reads_raw))) (λ p. record { memory = p.0; offset = p.1.0; bytes = p.1.1 }) (λ d. (d.memory, (d.offset, d.bytes))) (λ p. refl) (λ d. refl)
