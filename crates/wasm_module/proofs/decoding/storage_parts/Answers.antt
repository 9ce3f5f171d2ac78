use Rattle.std.proofs.Common.{refl}
use Rattle.wasm_syntax.specs.internal.TypesReading.{limits_at}
use Rattle.wasm_module.specs.internal.ModuleReading.{global_at, list_at, link_parts_at, storage_parts_at}
use Rattle.wasm_syntax.proofs.Exits.{handed_on, grouped_some, grouped_none}
use Rattle.wasm_module.proofs.decoding.storage_parts.Goals as goal

pub returns-in_err-tables : goal.returns-in_err-tables
unfolding storage_parts_at
returns-in_err-tables c = handed_on _ _ c.from_residual.result _ c.from_residual.ensures.1 (λ other. rw (c.in_err-tables.ensures other) refl)

pub returns-in_err-memories : goal.returns-in_err-memories
unfolding storage_parts_at
returns-in_err-memories c = handed_on _ _ c.from_residual-in_err-memories.result _ c.from_residual-in_err-memories.ensures.1 (λ other. rw (c.in_ok-tables.ensures, grouped_none (list_at 5 limits_at) (list_at 6 (global_at c.args.profile)) (link_parts_at c.args.profile) c.tables.new.cursor (c.in_err-memories.ensures other)) refl)

pub returns-in_err-link : goal.returns-in_err-link
unfolding storage_parts_at
returns-in_err-link c = handed_on _ _ c.from_residual-in_err-link.result _ c.from_residual-in_err-link.ensures.1 (λ other. rw (c.in_ok-tables.ensures, grouped_some (list_at 5 limits_at) (list_at 6 (global_at c.args.profile)) (link_parts_at c.args.profile) c.tables.new.cursor _ _ _ c.in_ok-memories.ensures, c.in_err-link.ensures other) refl)

pub returns : goal.returns
unfolding storage_parts_at
returns c = rw (c.in_ok-tables.ensures, grouped_some (list_at 5 limits_at) (list_at 6 (global_at c.args.profile)) (link_parts_at c.args.profile) c.tables.new.cursor _ _ _ c.in_ok-memories.ensures, c.in_ok-link.ensures) refl
