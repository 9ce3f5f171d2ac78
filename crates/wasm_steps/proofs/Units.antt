-- Which steps take a unit.
use Rattle.std.proofs.Common.{◌≡◌, ℕ, List, refl}
use Rattle.wasm_steps.specs.Configuration.{Val, Instance, Store, Code, NextIsPlain}
use Rattle.wasm_steps.specs.Steps.{unreachable_traps, nop_step, block_step, loop_step, if_then_set, if_then_zero, if_else_set, if_else_zero, br_if_stays, branches, returns, call_step, call_indirect_step, call_undefined, call_uninitialized, call_mistyped, drop_step, select_first, select_second, local_get_step, local_set_step, local_tee_step, global_get_step, global_set_step, load_step, load_traps, store_step, store_traps, size_step, grows, grows_not, copy_step, copy_traps, fill_step, fill_traps, i32_const_step, i64_const_step, eqz_step, compare_step, unary_step, binary_step, binary_traps, wrap_step, extend_signed, extend_unsigned, f32_const_step, f64_const_step, float_step, float_traps, Jumps, Returns, here, out, Reduces, AdminStep, invokes, exhausted, leaves_label, leaves_frame, stops_label, stops_frame}

-- a branch or a return is a plain instruction
jumps_plain : {l n : ℕ} {c : Code} {kept : List Val} → Jumps l c n kept → NextIsPlain c
jumps_plain (here below asks is count) = tt
jumps_plain (out j) = jumps_plain j

returns_plain : {n : ℕ} {c : Code} {kept : List Val} → Returns c n kept → NextIsPlain c
returns_plain (here below is count) = tt
returns_plain (out r) = returns_plain r

-- a rule of a plain instruction counts nothing itself
pub rewrites : {i : Instance} {s s' : Store} {f f' : List Val} {c c' : Code} → Reduces i s f c s' f' c' → NextIsPlain c × (s'.used ≡ s.used)
rewrites unreachable_traps = (tt, refl)
rewrites nop_step = (tt, refl)
rewrites block_step = (tt, refl)
rewrites loop_step = (tt, refl)
rewrites (if_then_set _) = (tt, refl)
rewrites if_then_zero = (tt, refl)
rewrites (if_else_set _) = (tt, refl)
rewrites if_else_zero = (tt, refl)
rewrites br_if_stays = (tt, refl)
rewrites call_step = (tt, refl)
rewrites (call_indirect_step _ _ _) = (tt, refl)
rewrites (call_undefined _) = (tt, refl)
rewrites (call_uninitialized _) = (tt, refl)
rewrites (call_mistyped _ _ _) = (tt, refl)
rewrites drop_step = (tt, refl)
rewrites (select_first _) = (tt, refl)
rewrites select_second = (tt, refl)
rewrites (local_get_step _) = (tt, refl)
rewrites (local_set_step _) = (tt, refl)
rewrites (local_tee_step _) = (tt, refl)
rewrites (global_get_step _) = (tt, refl)
rewrites (global_set_step _) = (tt, refl)
rewrites (load_step _ _) = (tt, refl)
rewrites (load_traps _ _) = (tt, refl)
rewrites (store_step _ _) = (tt, refl)
rewrites (store_traps _ _) = (tt, refl)
rewrites size_step = (tt, refl)
rewrites (grows _) = (tt, refl)
rewrites (grows_not _) = (tt, refl)
rewrites (copy_step _ _) = (tt, refl)
rewrites (copy_traps _) = (tt, refl)
rewrites (fill_step _) = (tt, refl)
rewrites (fill_traps _) = (tt, refl)
rewrites i32_const_step = (tt, refl)
rewrites i64_const_step = (tt, refl)
rewrites eqz_step = (tt, refl)
rewrites compare_step = (tt, refl)
rewrites unary_step = (tt, refl)
rewrites (binary_step _) = (tt, refl)
rewrites (binary_traps _) = (tt, refl)
rewrites wrap_step = (tt, refl)
rewrites extend_signed = (tt, refl)
rewrites extend_unsigned = (tt, refl)
rewrites f32_const_step = (tt, refl)
rewrites f64_const_step = (tt, refl)
rewrites (float_step _ _ _ _) = (tt, refl)
rewrites (float_traps _ _ _ _ _) = (tt, refl)
rewrites (branches jumps) = (jumps_plain jumps, refl)
rewrites (returns returned) = (returns_plain returned, refl)

-- the other rules are of no plain instruction
pub is_free : {i : Instance} {n : ℕ} {c c' : Code} → AdminStep i n c c' → NextIsPlain c → ⊥
is_free (invokes args callee few is count) p = p
is_free (exhausted callee full) p = p
is_free leaves_label p = p
is_free leaves_frame p = p
is_free stops_label p = p
is_free stops_frame p = p
