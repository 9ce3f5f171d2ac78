-- The typing by recursion over the nested code is the typing by rules.
use Rattle.std.proofs.Common.{◌≡◌, List, [], ◌∷◌, ◌++◌, refl, sym, ap, ◌∙◌, subst, append_assoc, reverse}
use Rattle.wasm_syntax.specs.declared.instruction.ValueType.{ValueType}
use Rattle.wasm_syntax.specs.declared.instruction.ValueType.TheVariants.{I32, I64, F32, F64}
use Rattle.wasm_syntax.specs.declared.instruction.BlockType.{BlockType}
use Rattle.wasm_syntax.specs.ValueTypes.{integer}
use Rattle.wasm_syntax.specs.Accesses.{load_access, store_access}
use Rattle.wasm_syntax.specs.declared.instruction.Instruction.{Instruction}
use Rattle.wasm_syntax.specs.declared.instruction.Instruction.TheVariants as op
use Rattle.wasm_syntax.specs.Nested.{Instructions, done, plain, block, loop, if_then, if_else, invoke, append}
use Rattle.wasm_valid.specs.Arities.{float_takes, float_gives, results_of}
use Rattle.wasm_valid.specs.Typing.{Context, Labels, Moves, Leaves, OpTyped, Typed}
use Rattle.wasm_valid.specs.Standard.{HasType, none, one, a_block, a_loop, an_if, an_if_else, a_call, sequence, widened}

-- ---- widening

moves_wide : (takes gives a b w : List ValueType) → Moves takes gives a b → Moves takes gives (a ++ w) (b ++ w)
moves_wide takes gives a b w m =
    (m.0 ++ w, ap (λ (l : List ValueType). l ++ w) m.1 ∙ append_assoc takes m.0 w, ap (λ (l : List ValueType). l ++ w) m.2 ∙ append_assoc gives m.0 w)

leaves_wide : (takes a w : List ValueType) → Leaves takes a → Leaves takes (a ++ w)
leaves_wide takes a w m = (m.0 ++ w, ap (λ (l : List ValueType). l ++ w) m.1 ∙ append_assoc takes m.0 w)

op_wide : (c : Context) (ls : Labels) (i : Instruction) (a b w : List ValueType) → OpTyped c ls i a b → OpTyped c ls i (a ++ w) (b ++ w)
op_wide c ls op.Unreachable a b w h = tt
op_wide c ls op.Nop a b w h = moves_wide [] [] a b w h
op_wide c ls (op.Block t) a b w h = h
op_wide c ls (op.Loop t) a b w h = h
op_wide c ls (op.If t) a b w h = h
op_wide c ls op.Else a b w h = h
op_wide c ls op.End a b w h = h
op_wide c ls (op.Br l) a b w h = (h.0, h.1, leaves_wide h.0 a w h.2)
op_wide c ls (op.BrIf l) a b w h = (h.0, h.1, moves_wide (I32 ∷ h.0) h.0 a b w h.2)
op_wide c ls (op.BrTable table) a b w h = (h.0, h.1, h.2, leaves_wide (I32 ∷ h.0) a w h.3)
op_wide c ls op.Return a b w h = leaves_wide c.returns a w h
op_wide c ls (op.Call x) a b w h = (h.0, h.1, moves_wide (reverse h.0.params) h.0.results a b w h.2)
op_wide c ls (op.CallIndirect x) a b w h = (h.0, h.1, h.2, moves_wide (I32 ∷ reverse h.0.params) h.0.results a b w h.3)
op_wide c ls op.Drop a b w h = (h.0, moves_wide (h.0 ∷ []) [] a b w h.1)
op_wide c ls op.Select a b w h = (h.0, moves_wide (I32 ∷ h.0 ∷ h.0 ∷ []) (h.0 ∷ []) a b w h.1)
op_wide c ls (op.LocalGet x) a b w h = (h.0, h.1, moves_wide [] (h.0 ∷ []) a b w h.2)
op_wide c ls (op.LocalSet x) a b w h = (h.0, h.1, moves_wide (h.0 ∷ []) [] a b w h.2)
op_wide c ls (op.LocalTee x) a b w h = (h.0, h.1, moves_wide (h.0 ∷ []) (h.0 ∷ []) a b w h.2)
op_wide c ls (op.GlobalGet x) a b w h = (h.0, h.1, moves_wide [] (h.0.value_type ∷ []) a b w h.2)
op_wide c ls (op.GlobalSet x) a b w h = (h.0, h.1, h.2, moves_wide (h.0.value_type ∷ []) [] a b w h.3)
op_wide c ls (op.Load o m) a b w h = (h.0, h.1, moves_wide (I32 ∷ []) ((load_access o).value_type ∷ []) a b w h.2)
op_wide c ls (op.Store o m) a b w h = (h.0, h.1, moves_wide ((store_access o).value_type ∷ I32 ∷ []) [] a b w h.2)
op_wide c ls op.MemorySize a b w h = (h.0, moves_wide [] (I32 ∷ []) a b w h.1)
op_wide c ls op.MemoryGrow a b w h = (h.0, moves_wide (I32 ∷ []) (I32 ∷ []) a b w h.1)
op_wide c ls op.MemoryCopy a b w h = (h.0, moves_wide (I32 ∷ I32 ∷ I32 ∷ []) [] a b w h.1)
op_wide c ls op.MemoryFill a b w h = (h.0, moves_wide (I32 ∷ I32 ∷ I32 ∷ []) [] a b w h.1)
op_wide c ls (op.I32Const n) a b w h = moves_wide [] (I32 ∷ []) a b w h
op_wide c ls (op.I64Const n) a b w h = moves_wide [] (I64 ∷ []) a b w h
op_wide c ls (op.Eqz t) a b w h = moves_wide (integer t ∷ []) (I32 ∷ []) a b w h
op_wide c ls (op.Compare t o) a b w h = moves_wide (integer t ∷ integer t ∷ []) (I32 ∷ []) a b w h
op_wide c ls (op.Unary t o) a b w h = (h.0, moves_wide (integer t ∷ []) (integer t ∷ []) a b w h.1)
op_wide c ls (op.Binary t o) a b w h = moves_wide (integer t ∷ integer t ∷ []) (integer t ∷ []) a b w h
op_wide c ls op.I32WrapI64 a b w h = moves_wide (I64 ∷ []) (I32 ∷ []) a b w h
op_wide c ls op.I64ExtendI32S a b w h = moves_wide (I32 ∷ []) (I64 ∷ []) a b w h
op_wide c ls op.I64ExtendI32U a b w h = moves_wide (I32 ∷ []) (I64 ∷ []) a b w h
op_wide c ls (op.F32Const n) a b w h = moves_wide [] (F32 ∷ []) a b w h
op_wide c ls (op.F64Const n) a b w h = moves_wide [] (F64 ∷ []) a b w h
op_wide c ls (op.Float o) a b w h = moves_wide (float_takes o) (float_gives o ∷ []) a b w h

typed_wide : (c : Context) (code : Instructions) (ls : Labels) (a b w : List ValueType) → Typed c ls code a b → Typed c ls code (a ++ w) (b ++ w)
typed_wide c done ls a b w h = ap (λ (l : List ValueType). l ++ w) h
typed_wide c (plain i rest) ls a b w h = (h.0 ++ w, op_wide c ls i a h.0 w h.1, typed_wide c rest ls h.0 b w h.2)
typed_wide c (block t body rest) ls a b w h = (h.0, subst (λ (l : List ValueType). Typed c ls rest l (b ++ w)) (append_assoc (results_of t) a w) (typed_wide c rest ls (results_of t ++ a) b w h.1))
typed_wide c (loop t body rest) ls a b w h = (h.0, subst (λ (l : List ValueType). Typed c ls rest l (b ++ w)) (append_assoc (results_of t) a w) (typed_wide c rest ls (results_of t ++ a) b w h.1))
typed_wide c (if_then t body rest) ls a b w h = (h.0 ++ w, ap (λ (l : List ValueType). l ++ w) h.1, h.2, h.3, typed_wide c rest ls h.0 b w h.4)
typed_wide c (if_else t body other rest) ls a b w h = (h.0 ++ w, ap (λ (l : List ValueType). l ++ w) h.1, h.2, h.3, subst (λ (l : List ValueType). Typed c ls rest l (b ++ w)) (append_assoc (results_of t) h.0 w) (typed_wide c rest ls (results_of t ++ h.0) b w h.4))
typed_wide c (invoke x rest) ls a b w h = (h.0, h.1, h.2 ++ w, moves_wide (reverse h.0.params) h.0.results a h.2 w h.3, typed_wide c rest ls h.2 b w h.4)

-- ---- one part after another

typed_more : (c : Context) (code more : Instructions) (ls : Labels) (a m b : List ValueType) → Typed c ls code a m → Typed c ls more m b → Typed c ls (append code more) a b
typed_more c done more ls a m b h k = subst (λ (l : List ValueType). Typed c ls more l b) (sym h) k
typed_more c (plain i rest) more ls a m b h k = (h.0, h.1, typed_more c rest more ls h.0 m b h.2 k)
typed_more c (block t body rest) more ls a m b h k = (h.0, typed_more c rest more ls (results_of t ++ a) m b h.1 k)
typed_more c (loop t body rest) more ls a m b h k = (h.0, typed_more c rest more ls (results_of t ++ a) m b h.1 k)
typed_more c (if_then t body rest) more ls a m b h k = (h.0, h.1, h.2, h.3, typed_more c rest more ls h.0 m b h.4 k)
typed_more c (if_else t body other rest) more ls a m b h k = (h.0, h.1, h.2, h.3, typed_more c rest more ls (results_of t ++ h.0) m b h.4 k)
typed_more c (invoke x rest) more ls a m b h k = (h.0, h.1, h.2, h.3, typed_more c rest more ls h.2 m b h.4 k)

no_more : (l : List ValueType) → l ++ [] ≡ l
no_more [] = refl
no_more (t ∷ l) = ap (λ (x : List ValueType). t ∷ x) (no_more l)

-- ---- both ways

pub typed_by_rules : (c : Context) (ls : Labels) (code : Instructions) (a b : List ValueType) → HasType c ls code a b → Typed c ls code a b
typed_by_rules c _ _ _ _ (none ls) = refl
typed_by_rules c _ _ _ _ (one ls i a b h) = (b, h, refl)
typed_by_rules c _ _ _ _ (a_block ls t body h) = (typed_by_rules c (results_of t ∷ ls) body [] (results_of t) h, no_more (results_of t))
typed_by_rules c _ _ _ _ (a_loop ls t body h) = (typed_by_rules c ([] ∷ ls) body [] (results_of t) h, no_more (results_of t))
typed_by_rules c _ _ _ _ (an_if ls body h) = ([], refl, refl, typed_by_rules c ([] ∷ ls) body [] [] h, refl)
typed_by_rules c _ _ _ _ (an_if_else ls t body other h k) = ([], refl, typed_by_rules c (results_of t ∷ ls) body [] (results_of t) h, typed_by_rules c (results_of t ∷ ls) other [] (results_of t) k, no_more (results_of t))
typed_by_rules c _ _ _ _ (a_call ls x f e) = (f, e, f.results, ([], sym (no_more (reverse f.params)), sym (no_more f.results)), refl)
typed_by_rules c _ _ _ _ (sequence ls first rest whole a m b e h k) =
    subst (λ (code : Instructions). Typed c ls code a b) (sym e) (typed_more c first rest ls a m b (typed_by_rules c ls first a m h) (typed_by_rules c ls rest m b k))
typed_by_rules c _ _ _ _ (widened ls code a b below wide_a wide_b p q h) =
    subst (λ (x : List ValueType). Typed c ls code x wide_b) (sym p) (subst (λ (y : List ValueType). Typed c ls code (a ++ below) y) (sym q) (typed_wide c code ls a b below (typed_by_rules c ls code a b h)))

-- no instruction, at any types
nothing_wide : (c : Context) (ls : Labels) (a b : List ValueType) → a ≡ b → HasType c ls done a b
nothing_wide c ls a b e = widened ls done [] [] a a b refl (sym e) (none ls)

pub rules_by_typed : (c : Context) (code : Instructions) (ls : Labels) (a b : List ValueType) → Typed c ls code a b → HasType c ls code a b
rules_by_typed c done ls a b h = nothing_wide c ls a b h
rules_by_typed c (plain i rest) ls a b h = sequence ls (plain i done) rest (plain i rest) a h.0 b refl (one ls i a h.0 h.1) (rules_by_typed c rest ls h.0 b h.2)
rules_by_typed c (block t body rest) ls a b h =
    sequence ls (block t body done) rest (block t body rest) a (results_of t ++ a) b refl
    (widened ls (block t body done) [] (results_of t) a a (results_of t ++ a) refl refl (a_block ls t body (rules_by_typed c body (results_of t ∷ ls) [] (results_of t) h.0)))
    (rules_by_typed c rest ls (results_of t ++ a) b h.1)
rules_by_typed c (loop t body rest) ls a b h =
    sequence ls (loop t body done) rest (loop t body rest) a (results_of t ++ a) b refl
    (widened ls (loop t body done) [] (results_of t) a a (results_of t ++ a) refl refl (a_loop ls t body (rules_by_typed c body ([] ∷ ls) [] (results_of t) h.0)))
    (rules_by_typed c rest ls (results_of t ++ a) b h.1)
rules_by_typed c (if_then t body rest) ls a b h =
    let inner = rules_by_typed c body ([] ∷ ls) [] [] h.3 in
    let begin = subst (λ (u : BlockType). HasType c ls (if_then u body done) (I32 ∷ []) []) (sym h.2) (an_if ls body inner) in
    sequence ls (if_then t body done) rest (if_then t body rest) a h.0 b refl
    (widened ls (if_then t body done) (I32 ∷ []) [] h.0 a h.0 h.1 refl begin) (rules_by_typed c rest ls h.0 b h.4)
rules_by_typed c (if_else t body other rest) ls a b h =
    let first = rules_by_typed c body (results_of t ∷ ls) [] (results_of t) h.2 in
    let second = rules_by_typed c other (results_of t ∷ ls) [] (results_of t) h.3 in
    sequence ls (if_else t body other done) rest (if_else t body other rest) a (results_of t ++ h.0) b refl
    (widened ls (if_else t body other done) (I32 ∷ []) (results_of t) h.0 a (results_of t ++ h.0) h.1 refl (an_if_else ls t body other first second)) (rules_by_typed c rest ls (results_of t ++ h.0) b h.4)
rules_by_typed c (invoke x rest) ls a b h =
    sequence ls (invoke x done) rest (invoke x rest) a h.2 b refl
    (widened ls (invoke x done) (reverse h.0.params) h.0.results h.3.0 a h.2 h.3.1 h.3.2 (a_call ls x h.0 h.1)) (rules_by_typed c rest ls h.2 b h.4)
