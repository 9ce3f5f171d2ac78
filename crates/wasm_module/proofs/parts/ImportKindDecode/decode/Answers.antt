use Rattle.std.proofs.Common.{refl}
use Rattle.wasm_module.specs.internal.ModuleReading.{import_kind_at, import_after}
use Rattle.wasm_syntax.proofs.Exits.{handed_on}
use Rattle.wasm_module.proofs.parts.ImportKindDecode.decode.Goals as goal

pub returns-in_err-byte : goal.returns-in_err-byte
unfolding import_kind_at import_after
returns-in_err-byte c = handed_on _ _ c.from_residual.result _ c.from_residual.ensures.1 (λ other. rw (c.in_err-byte.ensures other) refl)

pub returns-in_err-u32-in-0 : goal.returns-in_err-u32-in-0
unfolding import_kind_at import_after
returns-in_err-u32-in-0 c = handed_on _ _ c.from_residual-in_err-u32-in-0.result _ c.from_residual-in_err-u32-in-0.ensures.1 (λ other. rw (c.in_ok-byte.ensures, c.in-0.is, c.in_err-u32-in-0.ensures other) refl)

pub returns-in_ok-u32-in-0 : goal.returns-in_ok-u32-in-0
unfolding import_kind_at import_after
returns-in_ok-u32-in-0 c = rw (c.in_ok-byte.ensures, c.in-0.is, c.in_ok-u32-in-0.ensures) refl

pub returns-in_err-table_type-in-1 : goal.returns-in_err-table_type-in-1
unfolding import_kind_at import_after
returns-in_err-table_type-in-1 c = handed_on _ _ c.from_residual-in_err-table_type-in-1.result _ c.from_residual-in_err-table_type-in-1.ensures.1 (λ other. rw (c.in_ok-byte.ensures, c.in-1.is, c.in_err-table_type-in-1.ensures other) refl)

pub returns-in_ok-table_type-in-1 : goal.returns-in_ok-table_type-in-1
unfolding import_kind_at import_after
returns-in_ok-table_type-in-1 c = rw (c.in_ok-byte.ensures, c.in-1.is, c.in_ok-table_type-in-1.ensures) refl

pub returns-in_err-decode-in-2 : goal.returns-in_err-decode-in-2
unfolding import_kind_at import_after
returns-in_err-decode-in-2 c = handed_on _ _ c.from_residual-in_err-decode-in-2.result _ c.from_residual-in_err-decode-in-2.ensures.1 (λ other. rw (c.in_ok-byte.ensures, c.in-2.is, c.in_err-decode-in-2.ensures other) refl)

pub returns-in_ok-decode-in-2 : goal.returns-in_ok-decode-in-2
unfolding import_kind_at import_after
returns-in_ok-decode-in-2 c = rw (c.in_ok-byte.ensures, c.in-2.is, c.in_ok-decode-in-2.ensures) refl

pub returns-in_err-decode-in-3 : goal.returns-in_err-decode-in-3
unfolding import_kind_at import_after
returns-in_err-decode-in-3 c = handed_on _ _ c.from_residual-in_err-decode-in-3.result _ c.from_residual-in_err-decode-in-3.ensures.1 (λ other. rw (c.in_ok-byte.ensures, c.in-3.is, c.in_err-decode-in-3.ensures other) refl)

pub returns-in_ok-decode-in-3 : goal.returns-in_ok-decode-in-3
unfolding import_kind_at import_after
returns-in_ok-decode-in-3 c = rw (c.in_ok-byte.ensures, c.in-3.is, c.in_ok-decode-in-3.ensures) refl
