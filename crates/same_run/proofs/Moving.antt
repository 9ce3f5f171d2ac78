-- The steps once more, as a function: what a configuration does next, and that each step is that.
use Rattle.std.proofs.Common.{◌≡◌, ◌≢◌, ℕ, zero, suc, ◌+◌, ◌/◌, ◌<◌, ◌≤◌, Bool, true, false, cond, List, [], ◌∷◌, ◌++◌, length, take, drop, reverse, Option, Some, None, Result, Ok, Err, slice_get, refl, sym, ◌∙◌, ap, subst, inl, inr, arith}
use Rattle.std.specs.Prelude.{nat_eq, nat_le}
use Rattle.std.proofs.Math.Seq.{drop-append_seam}
use Rattle.std.proofs.lemmas.Option.{none-some, same_Some, slice_get_past}
use Rattle.std.proofs.lemmas.Bool.{eq-eqb, ne_eqb, le-leb, lt-leb}
use Rattle.wasm_syntax.specs.declared.instruction.ValueType.TheVariants.{I32}
use Rattle.wasm_syntax.specs.declared.instruction.FloatOperator.{FloatOperator}
use Rattle.wasm_syntax.specs.declared.instruction.Instruction.{Instruction}
use Rattle.wasm_syntax.specs.declared.instruction.Instruction.TheVariants as op
use Rattle.wasm_syntax.specs.declared.module.FuncType.{FuncType}
use Rattle.wasm_syntax.specs.Nested.{Instructions, done, plain, block, loop, if_then, if_else, invoke, append}
use Rattle.wasm_valid.specs.Arities.{arity, float_takes, float_gives}
use Rattle.wasm_num.specs.declared.trap.Trap.{Trap}
use Rattle.wasm_num.specs.declared.trap.Trap.TheVariants as traps
use Rattle.wasm_store.specs.declared.call.HostCall.{HostCall}
use Rattle.wasm_store.specs.declared.call.Answer.{Answer}
use Rattle.wasm_store.specs.declared.call.Answer.TheVariants.{Value as value, Exit as exit}
use Rattle.wasm_store.specs.Instances.{outside}
use Rattle.wasm_syntax.specs.ValueTypes.{integer}
use Rattle.wasm_steps.specs.Configuration.{Val, val, numbers, types, zeros, Function, Callee, imported, own, signature_of, Instance, Store, trapped, exited, Code, code, label, frame, stopped, Configuration, at, code_of, used_by}
use Rattle.wasm_steps.specs.FloatOperators.{float_number}
use Rattle.wasm_steps.specs.Steps.{LoadOp, StoreOp, load_of, store_of, loaded, bytes_at, unreachable_traps, nop_step, block_step, loop_step, if_then_set, if_then_zero, if_else_set, if_else_zero, br_if_stays, branches, returns, call_step, call_indirect_step, call_undefined, call_uninitialized, call_mistyped, drop_step, select_first, select_second, local_get_step, local_set_step, local_tee_step, global_get_step, global_set_step, load_step, load_traps, store_step, store_traps, size_step, grows, grows_not, copy_step, copy_traps, fill_step, fill_traps, i32_const_step, i64_const_step, eqz_step, compare_step, unary_step, binary_step, binary_traps, wrap_step, extend_signed, extend_unsigned, f32_const_step, f64_const_step, float_step, float_traps, Reduces, AdminStep, invokes, exhausted, leaves_label, leaves_frame, stops_label, stops_frame, tick, CallsOf, given, Event, silent, answers, Step, plain_step, free_step, host_answers, host_exits, in_label, in_frame}
use Rattle.same_run.specs.Growth.{RefusesGrowth, RefusesMemory}
use Rattle.same_run.specs.NextStep.{AnswersOnce}
use Rattle.same_run.proofs.Branching.{kept_of, kept_to, asked, jump_of, jumps, jumps_so_far, return_of, returns_so, jumps_not_returns}
use Rattle.same_run.proofs.Rewriting.{typed, mistyped, rewritten, accessed, performed, load_to, stored, store_to, copied, filled, grown, of_callee, of_element, pushed, computed, store_is_no_load}

-- a next configuration, or a question to the host with what each answer leads to
pub data Move : Type 0 where
  goes : Configuration → Move
  asks : HostCall → List ℕ → (List ℕ → Answer → Configuration) → Move

-- ---- the function

abbrev pub ticked : Configuration → Configuration
ticked (at s f c) = at (tick s) f c

abbrev pub reduced : Option Configuration → Option Move
reduced None = None
reduced (Some c) = Some (goes (ticked c))

abbrev pub replied : Store → List Val → List Val → FuncType → Instructions → List ℕ → Answer → Configuration
replied s f vs sg rest memory (value e) = at (record s { memory = memory }) f (code (given sg.results e ++ vs) rest)
replied s f vs sg rest memory (exit status) = at (record s { memory = memory }) f (stopped (exited status))

abbrev pub own_frame : List Val → List Val → FuncType → Function → Instructions → Code
own_frame args vs sg b rest = frame vs (length sg.results) (reverse args ++ zeros b.locals) (label [] (length sg.results) done (code [] b.code) done) rest

abbrev pub entering : ℕ → Store → List Val → List Val → Instructions → Option Callee → Option Move
entering n s f all rest None = None
entering n s f all rest (Some (outside sg k)) = None
entering n s f all rest (Some (imported sg call)) = Some (asks call (numbers (reverse (take (length sg.params) all))) (replied s f (drop (length sg.params) all) sg rest))
entering n s f all rest (Some (own sg b)) =
    Some (goes (at s f (cond (nat_eq n 65536) (stopped (trapped traps.CallStackExhausted)) (own_frame (take (length sg.params) all) (drop (length sg.params) all) sg b rest))))

abbrev pub next_first : Instance → ℕ → Store → List Val → List Val → Instructions → Option Move
next_first i n s f vs done = None
next_first i n s f vs (plain o rest) = reduced (rewritten i s f vs (plain o rest))
next_first i n s f vs (block t body rest) = reduced (rewritten i s f vs (block t body rest))
next_first i n s f vs (loop t body rest) = reduced (rewritten i s f vs (loop t body rest))
next_first i n s f vs (if_then t body rest) = reduced (rewritten i s f vs (if_then t body rest))
next_first i n s f vs (if_else t body other rest) = reduced (rewritten i s f vs (if_else t body other rest))
next_first i n s f vs (invoke x rest) = entering n s f vs rest (slice_get i.callees x)

-- what is done leaves a label or a frame
abbrev pub left_first : Store → List Val → List Val → Instructions → List Val → Instructions → Option Move
left_first s f vs rest ws done = Some (goes (at s f (code (ws ++ vs) rest)))
left_first s f vs rest ws more = None

abbrev pub left : Store → List Val → List Val → Instructions → Code → Option Move
left s f vs rest (code ws is) = left_first s f vs rest ws is
left s f vs rest (stopped w) = Some (goes (at s f (stopped w)))
left s f vs rest (label ws m k inner more) = None
left s f vs rest (frame ws m g inner more) = None

-- the same around what is at work in it
abbrev pub around : (Configuration → Configuration) → Move → Move
around w (goes c) = goes (w c)
around w (asks call args reply) = asks call args (λ memory answer. w (reply memory answer))

abbrev pub in_a_label : List Val → ℕ → Instructions → Instructions → Configuration → Configuration
in_a_label vs m k rest (at s f c) = at s f (label vs m k c rest)

abbrev pub in_a_frame : List Val → List Val → ℕ → Instructions → Configuration → Configuration
in_a_frame f vs m rest (at s g c) = at s f (frame vs m g c rest)

abbrev pub one_out : (Configuration → Configuration) → Option Move → Option Move → Option Move
one_out w leaves (Some move) = Some (around w move)
one_out w leaves None = leaves

abbrev pub or_branch : Store → List Val → List Val → Instructions → Option (List Val) → Option Move → Option Move
or_branch s f vs rest (Some kept) other = Some (goes (at (tick s) f (code (kept ++ vs) rest)))
or_branch s f vs rest None other = other

abbrev pub next : Instance → ℕ → Store → List Val → Code → Option Move
next i n s f (code vs is) = next_first i n s f vs is
next i n s f (label vs m k inner rest) = or_branch s f vs (append k rest) (jump_of 0 inner m) (one_out (in_a_label vs m k rest) (left s f vs rest inner) (next i n s f inner))
next i n s f (frame vs m g inner rest) = or_branch s f vs rest (return_of inner m) (one_out (in_a_frame f vs m rest) (left s f vs rest inner) (next i (suc n) s g inner))
next i n s f (stopped w) = None

-- ---- plain instructions

-- what is left of some values past the first
left_of : (n : ℕ) (first rest all : List Val) → all ≡ first ++ rest → length first ≡ n → drop n all ≡ rest
left_of n first rest all is count =
    ap (λ (k : ℕ). drop k all) (sym count) ∙ (ap (λ (vs : List Val). drop (length first) vs) is ∙ drop-append_seam first rest)

count_of_types : (vs : List Val) → length (types vs) ≡ length vs
count_of_types [] = refl
count_of_types (v ∷ vs) = ap suc (count_of_types vs)

-- what an operator on floats makes of the values on top
float_computed : (s : Store) (f all vs args : List Val) (o : FloatOperator) (rest : Instructions) (r : Result ℕ Trap)
    → all ≡ args ++ vs → types args ≡ float_takes o → float_number o (numbers args) ≡ r
    → computed s f (float_gives o) (drop (length (float_takes o)) all) rest (float_number o (numbers (take (length (float_takes o)) all))) ≡ computed s f (float_gives o) vs rest r
float_computed s f all vs args o rest r is takes gives =
    let count : length args ≡ length (float_takes o) = sym (count_of_types args) ∙ ap length takes in
    ap (λ (ws : List Val). computed s f (float_gives o) ws rest (float_number o (numbers (take (length (float_takes o)) all)))) (left_of (length (float_takes o)) args vs all is count)
    ∙ (ap (λ (ws : List Val). computed s f (float_gives o) vs rest (float_number o (numbers ws))) (kept_of (length (float_takes o)) args vs all is count)
    ∙ ap (computed s f (float_gives o) vs rest) gives)

either : {X : Type 0} (b : Bool) (x : X) → cond b x x ≡ x
either true x = refl
either false x = refl

over_limit : (a b : ℕ) → (a ≤ b → ⊥) → b < a
over_limit a b isnt = omega (arith, isnt)

module _ (i : Instance) where
  abbrev Leads : ℕ → Store → List Val → Code → Store → List Val → Code → Type 0
  Leads n s f c s' f' c' = next i n s f c ≡ Some (goes (at (tick s') f' c'))

  loads : (n : ℕ) (s : Store) (f vs : List Val) (rest : Instructions) (o : Instruction) (l : LoadOp) → load_of o ≡ Some l
      → next i n s f (code vs (plain o rest)) ≡ Some (goes (at (tick s) f (load_to s vs rest l)))
  loads n s f vs rest o l is = ap (λ a. reduced (accessed s f vs rest a (store_of o) (performed i s f vs rest o))) is

  stores : (n : ℕ) (s : Store) (f vs : List Val) (rest : Instructions) (o : Instruction) (l : StoreOp) → store_of o ≡ Some l
      → next i n s f (code vs (plain o rest)) ≡ Some (goes (ticked (store_to s f vs rest l)))
  stores n s f vs rest o l is =
      ap (λ a. reduced (accessed s f vs rest a (store_of o) (performed i s f vs rest o))) (store_is_no_load o l is)
      ∙ ap (λ a. reduced (accessed s f vs rest None a (performed i s f vs rest o))) is

  pub reduces : {s s' : Store} {f f' : List Val} {c c' : Code} (rule : Reduces i s f c s' f' c') → (RefusesGrowth rule → ⊥) → (n : ℕ) → Leads n s f c s' f' c'
  reduces unreachable_traps given n = refl
  reduces nop_step given n = refl
  reduces block_step given n = refl
  reduces loop_step given n = refl
  reduces (if_then_set {s = s} {f = f} {vs = vs} {t = t} {c = c} {body = body} {rest = rest} set) given n =
      ap (λ b. Some (goes (at (tick s) f (label vs (arity t) done (code [] (cond b done body)) rest)))) (ne_eqb c 0 set)
  reduces if_then_zero given n = refl
  reduces (if_else_set {s = s} {f = f} {vs = vs} {t = t} {c = c} {body = body} {other = other} {rest = rest} set) given n =
      ap (λ b. Some (goes (at (tick s) f (label vs (arity t) done (code [] (cond b other body)) rest)))) (ne_eqb c 0 set)
  reduces if_else_zero given n = refl
  reduces br_if_stays given n = refl
  reduces (branches {s = s} {f = f} {vs = vs} {n = m} {k = k} {rest = rest} {inner = inner} jump) given n =
      ap (λ j. or_branch s f vs (append k rest) j (one_out (in_a_label vs m k rest) (left s f vs rest inner) (next i n s f inner))) (jumps jump)
  reduces (returns {s = s} {f = f} {g = g} {vs = vs} {n = m} {rest = rest} {inner = inner} back) given n =
      ap (λ j. or_branch s f vs rest j (one_out (in_a_frame f vs m rest) (left s f vs rest inner) (next i (suc n) s g inner))) (returns_so back)
  reduces call_step given n = refl
  reduces (call_indirect_step {s = s} {f = f} {vs = vs} {x = x} {e = e} {a = a} {c = c} {rest = rest} element callee type_is) given n =
      ap (λ o. Some (goes (at (tick s) f (of_element i x vs rest o)))) element
      ∙ (ap (λ o. Some (goes (at (tick s) f (of_callee i x a vs rest o)))) callee
      ∙ ap (λ b. Some (goes (at (tick s) f (cond b (code vs (invoke a rest)) (stopped (trapped traps.IndirectCallMismatch)))))) (typed (slice_get i.func_types x) (signature_of c) type_is))
  reduces (call_undefined {s = s} {f = f} {vs = vs} {x = x} {e = e} {rest = rest} over) given n =
      ap (λ o. Some (goes (at (tick s) f (of_element i x vs rest o)))) (slice_get_past s.table e over)
  reduces (call_uninitialized {s = s} {f = f} {vs = vs} {x = x} {rest = rest} element) given n =
      ap (λ o. Some (goes (at (tick s) f (of_element i x vs rest o)))) element
  reduces (call_mistyped {s = s} {f = f} {vs = vs} {x = x} {e = e} {a = a} {c = c} {rest = rest} element callee type_isnt) given n =
      ap (λ o. Some (goes (at (tick s) f (of_element i x vs rest o)))) element
      ∙ (ap (λ o. Some (goes (at (tick s) f (of_callee i x a vs rest o)))) callee
      ∙ ap (λ b. Some (goes (at (tick s) f (cond b (code vs (invoke a rest)) (stopped (trapped traps.IndirectCallMismatch)))))) (mistyped (slice_get i.func_types x) (signature_of c) type_isnt))
  reduces drop_step given n = refl
  reduces (select_first {s = s} {f = f} {vs = vs} {x = x} {y = y} {c = c} {rest = rest} set) given n =
      ap (λ b. Some (goes (at (tick s) f (code (cond b y x ∷ vs) rest)))) (ne_eqb c 0 set)
  reduces select_second given n = refl
  reduces (local_get_step {s = s} {f = f} {vs = vs} {rest = rest} is) given n = ap (λ o. reduced (pushed s f vs rest o)) is
  reduces (local_set_step inside) given n = refl
  reduces (local_tee_step inside) given n = refl
  reduces (global_get_step {s = s} {f = f} {vs = vs} {rest = rest} is) given n = ap (λ o. reduced (pushed s f vs rest o)) is
  reduces (global_set_step inside) given n = refl
  reduces (load_step {s = s} {f = f} {vs = vs} {o = o} {l = l} {a = a} {rest = rest} is inside) given n =
      loads n s f (val I32 a ∷ vs) rest o l is
      ∙ ap (λ b. Some (goes (at (tick s) f (cond b (code (val l.value_type (loaded l (bytes_at s.memory (a + l.memarg.offset) l.bytes)) ∷ vs) rest) (stopped (trapped traps.OutOfBoundsMemory))))))
      (le-leb (a + l.memarg.offset + l.bytes) (length s.memory) inside)
  reduces (load_traps {s = s} {f = f} {vs = vs} {o = o} {l = l} {a = a} {rest = rest} is past) given n =
      loads n s f (val I32 a ∷ vs) rest o l is
      ∙ ap (λ b. Some (goes (at (tick s) f (cond b (code (val l.value_type (loaded l (bytes_at s.memory (a + l.memarg.offset) l.bytes)) ∷ vs) rest) (stopped (trapped traps.OutOfBoundsMemory))))))
      (lt-leb (a + l.memarg.offset + l.bytes) (length s.memory) past)
  reduces (store_step {s = s} {f = f} {vs = vs} {o = o} {l = l} {a = a} {x = x} {rest = rest} is inside) given n =
      stores n s f (val l.value_type x ∷ val I32 a ∷ vs) rest o l is
      ∙ ap (λ b. Some (goes (ticked (stored b s f vs rest l a x)))) (le-leb (a + l.memarg.offset + l.bytes) (length s.memory) inside)
  reduces (store_traps {s = s} {f = f} {vs = vs} {o = o} {l = l} {a = a} {x = x} {rest = rest} is past) given n =
      stores n s f (val l.value_type x ∷ val I32 a ∷ vs) rest o l is
      ∙ ap (λ b. Some (goes (ticked (stored b s f vs rest l a x)))) (lt-leb (a + l.memarg.offset + l.bytes) (length s.memory) past)
  reduces size_step given n = refl
  reduces (grows {s = s} {f = f} {vs = vs} {n = m} {rest = rest} fits) given n =
      ap (λ b. Some (goes (ticked (grown b s f m vs rest)))) (le-leb (length s.memory / 65536 + m) i.page_limit fits)
  reduces (grows_not {s = s} {f = f} {vs = vs} {n = m} {rest = rest} why) given n =
      ap (λ b. Some (goes (ticked (grown b s f m vs rest)))) (lt-leb (length s.memory / 65536 + m) i.page_limit (over_limit (length s.memory / 65536 + m) i.page_limit given))
  reduces (copy_step {s = s} {f = f} {vs = vs} {d = d} {o = o} {n = m} {rest = rest} from to) given n =
      ap (λ b. Some (goes (ticked (copied b (nat_le (d + m) (length s.memory)) s f m o d vs rest)))) (le-leb (o + m) (length s.memory) from)
      ∙ ap (λ b. Some (goes (ticked (copied true b s f m o d vs rest)))) (le-leb (d + m) (length s.memory) to)
  reduces (copy_traps {s = s} {f = f} {vs = vs} {d = d} {o = o} {n = m} {rest = rest} (inl from)) given n =
      ap (λ b. Some (goes (ticked (copied b (nat_le (d + m) (length s.memory)) s f m o d vs rest)))) (lt-leb (o + m) (length s.memory) from)
  reduces (copy_traps {s = s} {f = f} {vs = vs} {d = d} {o = o} {n = m} {rest = rest} (inr to)) given n =
      ap (λ b. Some (goes (ticked (copied (nat_le (o + m) (length s.memory)) b s f m o d vs rest)))) (lt-leb (d + m) (length s.memory) to)
      ∙ ap (λ c. Some (goes (ticked c))) (either (nat_le (o + m) (length s.memory)) (at s f (stopped (trapped traps.OutOfBoundsMemory))))
  reduces (fill_step {s = s} {f = f} {vs = vs} {d = d} {x = x} {n = m} {rest = rest} to) given n =
      ap (λ b. Some (goes (ticked (filled b s f m x d vs rest)))) (le-leb (d + m) (length s.memory) to)
  reduces (fill_traps {s = s} {f = f} {vs = vs} {d = d} {x = x} {n = m} {rest = rest} to) given n =
      ap (λ b. Some (goes (ticked (filled b s f m x d vs rest)))) (lt-leb (d + m) (length s.memory) to)
  reduces i32_const_step given n = refl
  reduces i64_const_step given n = refl
  reduces eqz_step given n = refl
  reduces compare_step given n = refl
  reduces unary_step given n = refl
  reduces (binary_step {s = s} {f = f} {vs = vs} {t = t} {rest = rest} is) given n = ap (λ r. Some (goes (ticked (computed s f (integer t) vs rest r)))) is
  reduces (binary_traps {s = s} {f = f} {vs = vs} {t = t} {rest = rest} is) given n = ap (λ r. Some (goes (ticked (computed s f (integer t) vs rest r)))) is
  reduces wrap_step given n = refl
  reduces extend_signed given n = refl
  reduces extend_unsigned given n = refl
  reduces f32_const_step given n = refl
  reduces f64_const_step given n = refl
  reduces (float_step {s = s} {f = f} {all = all} {vs = vs} {o = o} {r = r} {rest = rest} args is takes gives) given n =
      ap (λ z. Some (goes (ticked z))) (float_computed s f all vs args o rest (Ok r) is takes gives)
  reduces (float_traps {s = s} {f = f} {all = all} {o = o} {e = e} {rest = rest} args vs is takes gives) given n =
      ap (λ z. Some (goes (ticked z))) (float_computed s f all vs args o rest (Err e) is takes gives)

-- ---- where steps are made, no branch and no return comes next

load_asks_none : (o : Instruction) (l : LoadOp) (vs : List Val) → load_of o ≡ Some l → asked o vs ≡ None
load_asks_none (op.Load a m) l vs is = refl
load_asks_none other l vs is = absurd (none-some l is)

store_asks_none : (o : Instruction) (l : StoreOp) (vs : List Val) → store_of o ≡ Some l → asked o vs ≡ None
store_asks_none (op.Store a m) l vs is = refl
store_asks_none other l vs is = absurd (none-some l is)

load_returns_not : (o : Instruction) (l : LoadOp) (vs : List Val) (rest : Instructions) (m : ℕ) → load_of o ≡ Some l → return_of (code vs (plain o rest)) m ≡ None
load_returns_not (op.Load a x) l vs rest m is = refl
load_returns_not other l vs rest m is = absurd (none-some l is)

store_returns_not : (o : Instruction) (l : StoreOp) (vs : List Val) (rest : Instructions) (m : ℕ) → store_of o ≡ Some l → return_of (code vs (plain o rest)) m ≡ None
store_returns_not (op.Store a x) l vs rest m is = refl
store_returns_not other l vs rest m is = absurd (none-some l is)

zero_apart : (l : ℕ) → zero ≢ suc l
zero_apart l is = omega (arith, is)

reduces_no_jump : {i : Instance} {s s' : Store} {f f' : List Val} {c c' : Code} → Reduces i s f c s' f' c' → (l m : ℕ) → jump_of l c m ≡ None
reduces_no_jump (branches jump) l m = jumps_so_far jump (suc l) m (zero_apart l)
reduces_no_jump (load_step {vs = vs} {o = o} {l = x} {a = a} is inside) l m = ap (kept_to l m) (load_asks_none o x (val I32 a ∷ vs) is)
reduces_no_jump (load_traps {vs = vs} {o = o} {l = x} {a = a} is past) l m = ap (kept_to l m) (load_asks_none o x (val I32 a ∷ vs) is)
reduces_no_jump (store_step {vs = vs} {o = o} {l = x} {a = a} {x = y} is inside) l m = ap (kept_to l m) (store_asks_none o x (val x.value_type y ∷ val I32 a ∷ vs) is)
reduces_no_jump (store_traps {vs = vs} {o = o} {l = x} {a = a} {x = y} is past) l m = ap (kept_to l m) (store_asks_none o x (val x.value_type y ∷ val I32 a ∷ vs) is)
reduces_no_jump other l m = refl

reduces_no_return : {i : Instance} {s s' : Store} {f f' : List Val} {c c' : Code} → Reduces i s f c s' f' c' → (m : ℕ) → return_of c m ≡ None
reduces_no_return (branches jump) m = jumps_not_returns jump m
reduces_no_return (load_step {vs = vs} {o = o} {l = x} {a = a} {rest = rest} is inside) m = load_returns_not o x (val I32 a ∷ vs) rest m is
reduces_no_return (load_traps {vs = vs} {o = o} {l = x} {a = a} {rest = rest} is past) m = load_returns_not o x (val I32 a ∷ vs) rest m is
reduces_no_return (store_step {vs = vs} {o = o} {l = x} {a = a} {x = y} {rest = rest} is inside) m = store_returns_not o x (val x.value_type y ∷ val I32 a ∷ vs) rest m is
reduces_no_return (store_traps {vs = vs} {o = o} {l = x} {a = a} {x = y} {rest = rest} is past) m = store_returns_not o x (val x.value_type y ∷ val I32 a ∷ vs) rest m is
reduces_no_return other m = refl

free_no_jump : {i : Instance} {n : ℕ} {c c' : Code} → AdminStep i n c c' → (l m : ℕ) → jump_of l c m ≡ None
free_no_jump (invokes args callee few is count) l m = refl
free_no_jump (exhausted callee full) l m = refl
free_no_jump leaves_label l m = refl
free_no_jump leaves_frame l m = refl
free_no_jump stops_label l m = refl
free_no_jump stops_frame l m = refl

free_no_return : {i : Instance} {n : ℕ} {c c' : Code} → AdminStep i n c c' → (m : ℕ) → return_of c m ≡ None
free_no_return (invokes args callee few is count) m = refl
free_no_return (exhausted callee full) m = refl
free_no_return leaves_label m = refl
free_no_return leaves_frame m = refl
free_no_return stops_label m = refl
free_no_return stops_frame m = refl

-- ---- the other steps

entered_own : {i : Instance} {n : ℕ} {c c' : Code} → AdminStep i n c c' → (s : Store) (f : List Val) → next i n s f c ≡ Some (goes (at s f c'))
entered_own (invokes {n = n} {x = x} {all = all} {vs = vs} {sg = sg} {b = b} {rest = rest} args callee few is count) s f =
    ap (λ o. entering n s f all rest o) callee
    ∙ (ap (λ t. Some (goes (at s f (cond t (stopped (trapped traps.CallStackExhausted)) (own_frame (take (length sg.params) all) (drop (length sg.params) all) sg b rest))))) (ne_eqb n 65536 (less_apart n few))
    ∙ (ap (λ (some : List Val). Some (goes (at s f (own_frame some (drop (length sg.params) all) sg b rest)))) (kept_of (length sg.params) args vs all is count)
    ∙ ap (λ (ws : List Val). Some (goes (at s f (own_frame args ws sg b rest)))) (left_of (length sg.params) args vs all is count)))
  where
    less_apart : (n : ℕ) → n < 65536 → n ≢ 65536
    less_apart n less is = omega (arith, less, is)
entered_own (exhausted {n = n} {x = x} {vs = vs} {sg = sg} {b = b} {rest = rest} callee full) s f =
    ap (λ o. entering n s f vs rest o) callee
    ∙ ap (λ t. Some (goes (at s f (cond t (stopped (trapped traps.CallStackExhausted)) (own_frame (take (length sg.params) vs) (drop (length sg.params) vs) sg b rest))))) (eq-eqb n 65536 full)
entered_own leaves_label s f = refl
entered_own leaves_frame s f = refl
entered_own stops_label s f = refl
entered_own stops_frame s f = refl

-- what is seen of an answer
abbrev pub event_of : HostCall → Answer → Event
event_of call (value e) = answers call e
event_of call (exit status) = silent

abbrev pub next_of : Instance → ℕ → Configuration → Option Move
next_of i n (at s f c) = next i n s f c

abbrev pub memory_of : Configuration → List ℕ
memory_of (at s f c) = s.memory

asked_host : (i : Instance) (n x : ℕ) (call : HostCall) (s : Store) (f all : List Val) (sg : FuncType) (rest : Instructions) (args vs : List Val)
    → slice_get i.callees x ≡ Some (imported sg call) → all ≡ args ++ vs → length args ≡ length sg.params
    → next i n s f (code all (invoke x rest)) ≡ Some (asks call (numbers (reverse args)) (replied s f vs sg rest))
asked_host i n x call s f all sg rest args vs callee is count =
    ap (λ o. entering n s f all rest o) callee
    ∙ (ap (λ (some : List Val). Some (asks call (numbers (reverse some)) (replied s f (drop (length sg.params) all) sg rest))) (kept_of (length sg.params) args vs all is count)
    ∙ ap (λ (ws : List Val). Some (asks call (numbers (reverse args)) (replied s f ws sg rest))) (left_of (length sg.params) args vs all is count))

module _ {H : Type 0} {Calls : CallsOf H} {i : Instance} where
  no_jump : {n : ℕ} {h h' : H} {c d : Configuration} {ev : Event} → Step H Calls i n h c ev h' d → (l m : ℕ) → jump_of l (code_of c) m ≡ None
  no_jump (plain_step rule) l m = reduces_no_jump rule l m
  no_jump (free_step rule) l m = free_no_jump rule l m
  no_jump (host_answers args vs callee is count call) l m = refl
  no_jump (host_exits args vs callee is count call) l m = refl
  no_jump (in_label step) l m = no_jump step (suc l) m
  no_jump (in_frame step) l m = refl

  no_return : {n : ℕ} {h h' : H} {c d : Configuration} {ev : Event} → Step H Calls i n h c ev h' d → (m : ℕ) → return_of (code_of c) m ≡ None
  no_return (plain_step rule) m = reduces_no_return rule m
  no_return (free_step rule) m = free_no_return rule m
  no_return (host_answers args vs callee is count call) m = refl
  no_return (host_exits args vs callee is count call) m = refl
  no_return (in_label step) m = no_return step m
  no_return (in_frame step) m = refl

module _ (H : Type 0) (Calls : CallsOf H) (i : Instance) where
  -- the move is what was done
  abbrev pub IsMade : Move → H → List ℕ → ℕ → Event → H → Configuration → Type 0
  IsMade (goes c) h memory used ev h' d = (ev ≡ silent) × (h' ≡ h) × (d ≡ c)
  IsMade (asks call args reply) h memory used ev h' d = (memory' : List ℕ) × (answer : Answer) × Calls h memory used call args h' memory' answer
      × (ev ≡ event_of call answer) × (d ≡ reply memory' answer)

  -- a step is the next move
  pub record IsNext (n : ℕ) (h : H) (c : Configuration) (ev : Event) (h' : H) (d : Configuration) : Type 0 where
    pub move : Move
    pub is : next_of i n c ≡ Some move
    pub made : IsMade move h (memory_of c) (used_by c) ev h' d

  made_around : (w : Configuration → Configuration) (move : Move) (h h' : H) (memory : List ℕ) (used : ℕ) (ev : Event) (d : Configuration)
      → IsMade move h memory used ev h' d → IsMade (around w move) h memory used ev h' (w d)
  made_around w (goes c) h h' memory used ev d (quiet, same, is) = (quiet, same, ap w is)
  made_around w (asks call args reply) h h' memory used ev d (memory', answer, answered, told, is) = (memory', answer, answered, told, ap w is)

  pub is_next : {n : ℕ} {h h' : H} {c d : Configuration} {ev : Event} (step : Step H Calls i n h c ev h' d) → (RefusesMemory step → ⊥) → IsNext n h c ev h' d
  is_next {n = n} (plain_step {s' = s'} {f' = f'} {c' = c'} rule) given = record { move = goes (at (tick s') f' c'); is = reduces i rule given n; made = (refl, refl, refl) }
  is_next (free_step {s = s} {f = f} {c' = c'} rule) given = record { move = goes (at s f c'); is = entered_own rule s f; made = (refl, refl, refl) }
  is_next {n = n} (host_answers {x = x} {call = call} {e = e} {s = s} {memory = memory} {f = f} {all = all} {sg = sg} {rest = rest} args vs callee is count answered) given = record {
    move = asks call (numbers (reverse args)) (replied s f vs sg rest);
    is = asked_host i n x call s f all sg rest args vs callee is count;
    made = (memory, value e, answered, refl, refl);
  }
  is_next {n = n} (host_exits {x = x} {status = status} {call = call} {s = s} {memory = memory} {f = f} {all = all} {sg = sg} {rest = rest} args vs callee is count answered) given = record {
    move = asks call (numbers (reverse args)) (replied s f vs sg rest);
    is = asked_host i n x call s f all sg rest args vs callee is count;
    made = (memory, exit status, answered, refl, refl);
  }
  is_next {n = n} (in_label {m = m} {h = h} {h' = h'} {s = s} {s' = s'} {f = f} {f' = f'} {vs = vs} {k = k} {rest = rest} {c = c} {c' = c'} {ev = ev} step) given =
      let inner = is_next step given in
      record {
        move = around (in_a_label vs m k rest) inner.move;
        is = ap (λ j. or_branch s f vs (append k rest) j (one_out (in_a_label vs m k rest) (left s f vs rest c) (next i n s f c))) (no_jump step 0 m)
            ∙ ap (one_out (in_a_label vs m k rest) (left s f vs rest c)) inner.is;
        made = made_around (in_a_label vs m k rest) inner.move h h' s.memory s.used ev (at s' f' c') inner.made;
      }
  is_next {n = n} (in_frame {m = m} {h = h} {h' = h'} {s = s} {s' = s'} {f = f} {g = g} {g' = g'} {vs = vs} {rest = rest} {c = c} {c' = c'} {ev = ev} step) given =
      let inner = is_next step given in
      record {
        move = around (in_a_frame f vs m rest) inner.move;
        is = ap (λ j. or_branch s f vs rest j (one_out (in_a_frame f vs m rest) (left s f vs rest c) (next i (suc n) s g c))) (no_return step m)
            ∙ ap (one_out (in_a_frame f vs m rest) (left s f vs rest c)) inner.is;
        made = made_around (in_a_frame f vs m rest) inner.move h h' s.memory s.used ev (at s' g' c') inner.made;
      }

  -- ---- two steps

  module _ (Same : H → H → Type 0) (failed : H → Bool) where
    -- Hosts that are the same in this sense answer the same to the same question, where nothing has failed afterwards.
    abbrev pub AnswersAlike : Type 0
    AnswersAlike = (h g h1 g1 : H) (memory memory1 memory2 : List ℕ) (used : ℕ) (call : HostCall) (args : List ℕ) (answer1 answer2 : Answer) → Same h g
        → Calls h memory used call args h1 memory1 answer1 → Calls g memory used call args g1 memory2 answer2 → failed h1 ≡ false → failed g1 ≡ false
        → Same h1 g1 × (memory1 ≡ memory2) × (answer1 ≡ answer2)

    made_alike : AnswersAlike → (move : Move) (h g h1 g1 : H) (memory : List ℕ) (used : ℕ) (ev1 ev2 : Event) (c1 c2 : Configuration) → Same h g
        → failed h1 ≡ false → failed g1 ≡ false → IsMade move h memory used ev1 h1 c1 → IsMade move g memory used ev2 g1 c2 → (ev1 ≡ ev2) × Same h1 g1 × (c1 ≡ c2)
    made_alike alike (goes c) h g h1 g1 memory used ev1 ev2 c1 c2 same sound1 sound2 (quiet1, still1, is1) (quiet2, still2, is2) = (
      quiet1 ∙ sym quiet2,
      subst (λ (x : H). Same x g1) (sym still1) (subst (λ (x : H). Same h x) (sym still2) same),
      is1 ∙ sym is2,
    )
    made_alike alike (asks call args reply) h g h1 g1 memory used ev1 ev2 c1 c2 same sound1 sound2 (memory1, answer1, answered1, told1, is1) (memory2, answer2, answered2, told2, is2) =
        let both = alike h g h1 g1 memory memory1 memory2 used call args answer1 answer2 same answered1 answered2 sound1 sound2 in (
          told1 ∙ (ap (event_of call) both.2 ∙ sym told2),
          both.0,
          is1 ∙ ((λ j. reply (both.1 j) (both.2 j)) ∙ sym is2),
        )

    pub next_alike : AnswersAlike → (n : ℕ) (h g h1 g1 : H) (c d c1 c2 : Configuration) (ev1 ev2 : Event) → Same h g → c ≡ d
        → (one : Step H Calls i n h c ev1 h1 c1) → (other : Step H Calls i n g d ev2 g1 c2) → (RefusesMemory one → ⊥) → (RefusesMemory other → ⊥)
        → failed h1 ≡ false → failed g1 ≡ false → (ev1 ≡ ev2) × Same h1 g1 × (c1 ≡ c2)
    next_alike alike n h g h1 g1 c d c1 c2 ev1 ev2 same_host same one other given1 given2 sound1 sound2 =
        let a = is_next one given1 in
        let b = is_next other given2 in
        let move_is : a.move ≡ b.move = same_Some a.move b.move (sym a.is ∙ (ap (next_of i n) same ∙ b.is)) in
        let made : IsMade b.move h (memory_of c) (used_by c) ev1 h1 c1 = subst (λ (move : Move). IsMade move h (memory_of c) (used_by c) ev1 h1 c1) move_is a.made in
        made_alike alike b.move h g h1 g1 (memory_of d) (used_by d) ev1 ev2 c1 c2 same_host sound1 sound2
        (subst (λ (x : Configuration). IsMade b.move h (memory_of x) (used_by x) ev1 h1 c1) same made) b.made

-- a host that answers once answers alike where it is the same
pub once_alike : (H : Type 0) (Calls : CallsOf H) (i : Instance) (failed : H → Bool) → AnswersOnce H Calls failed → AnswersAlike H Calls i (λ (h g : H). h ≡ g) failed
once_alike H Calls i failed once h g h1 g1 memory memory1 memory2 used call args answer1 answer2 same answered1 answered2 sound1 sound2 =
    once g h1 g1 memory memory1 memory2 used call args answer1 answer2 (subst (λ (x : H). Calls x memory used call args h1 memory1 answer1) same answered1) answered2 sound1 sound2
