use Rattle.std.proofs.Common.{refl}
use Rattle.wasm_syntax.specs.Reading.{u32_at}
use Rattle.wasm_module.specs.internal.ModuleReading.{import_at, list_at, storage_parts_at, parts_at}
use Rattle.wasm_syntax.proofs.Exits.{handed_on, grouped_some, grouped_none}
use Rattle.wasm_module.proofs.ModuleOf.{parts_read, parts_refused}
use Rattle.wasm_module.proofs.decoding.sections.Goals as goal

pub returns-in_err-customs : goal.returns-in_err-customs
unfolding parts_at
returns-in_err-customs c = handed_on _ _ c.from_residual.result _ c.from_residual.ensures.1 (λ other. parts_refused c.args.profile c.args.cursor.now (rw (c.in_err-customs.ensures other) refl))

pub returns-in_err-types : goal.returns-in_err-types
unfolding parts_at
returns-in_err-types c = handed_on _ _ c.from_residual-in_err-types.result _ c.from_residual-in_err-types.ensures.1 (λ other. parts_refused c.args.profile c.args.cursor.now (rw (c.in_ok-customs.ensures, c.in_err-types.ensures other) refl))

pub returns-in_err-imports : goal.returns-in_err-imports
unfolding parts_at
returns-in_err-imports c = handed_on _ _ c.from_residual-in_err-imports.result _ c.from_residual-in_err-imports.ensures.1 (λ other. parts_refused c.args.profile c.args.cursor.now (rw (c.in_ok-customs.ensures, c.in_ok-types.ensures, grouped_none (list_at 2 (import_at c.args.profile)) (list_at 3 u32_at) (storage_parts_at c.args.profile) c.list.new.cursor (c.in_err-imports.ensures other)) refl))

pub returns-in_err-storage : goal.returns-in_err-storage
unfolding parts_at
returns-in_err-storage c = handed_on _ _ c.from_residual-in_err-storage.result _ c.from_residual-in_err-storage.ensures.1 (λ other. parts_refused c.args.profile c.args.cursor.now (rw (c.in_ok-customs.ensures, c.in_ok-types.ensures, grouped_some (list_at 2 (import_at c.args.profile)) (list_at 3 u32_at) (storage_parts_at c.args.profile) c.list.new.cursor _ _ _ c.in_ok-imports.ensures, c.in_err-storage.ensures other) refl))

pub returns : goal.returns
unfolding parts_at
returns c = rw c.assembled.ensures (parts_read c.args.profile c.args.cursor.now _
    (tt, (c.in_ok-types.types, (c.in_ok-imports.imports, (c.in_ok-imports.functions, (c.in_ok-storage.storage.tables, (c.in_ok-storage.storage.memories, (c.in_ok-storage.storage.globals, (c.in_ok-storage.storage.link.exports, (c.in_ok-storage.storage.link.rest.start, (c.in_ok-storage.storage.link.rest.element_segments, (c.in_ok-storage.storage.link.rest.code.data_count, (c.in_ok-storage.storage.link.rest.code.bodies, c.in_ok-storage.storage.link.rest.code.data_segments))))))))))))
    (rw (c.in_ok-customs.ensures, c.in_ok-types.ensures, grouped_some (list_at 2 (import_at c.args.profile)) (list_at 3 u32_at) (storage_parts_at c.args.profile) c.list.new.cursor _ _ _ c.in_ok-imports.ensures, c.in_ok-storage.ensures) refl))
