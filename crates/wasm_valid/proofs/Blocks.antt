-- Code that is left to be walked, with the blocks that are open: it is typed before an instruction exactly where it is typed
-- after it, with what the instruction makes of the blocks.
use Rattle.std.proofs.Common.{◌≡◌, List, [], ◌∷◌, ◌++◌, Option, Some, None, Bool, true, false, ◌&&◌, refl, sym, ap, ◌∙◌, subst, append_assoc, inl, inr}
use Rattle.std.specs.Option.{option_and_then}
use Rattle.wasm_syntax.specs.declared.instruction.ValueType.{ValueType}
use Rattle.wasm_syntax.specs.declared.instruction.ValueType.TheVariants.{I32}
use Rattle.wasm_syntax.specs.declared.instruction.BlockType.{BlockType}
use Rattle.wasm_syntax.specs.declared.instruction.BlockType.TheVariants.{Empty, Value}
use Rattle.wasm_syntax.specs.declared.instruction.Instruction.{Instruction}
use Rattle.wasm_syntax.specs.declared.instruction.Instruction.TheVariants as op
use Rattle.wasm_syntax.specs.Nested.{Instructions, done, plain, block, loop, if_then, if_else, invoke, IsPlain, IsWritten, flatten}
use Rattle.wasm_valid.specs.declared.control_frames.BlockKind.{BlockKind}
use Rattle.wasm_valid.specs.declared.control_frames.BlockKind.TheVariants.{Block, Loop, If}
use Rattle.wasm_valid.specs.Arities.{results_of}
use Rattle.wasm_valid.specs.Typing.{Context, Labels, OpTyped, Typed}
use Rattle.wasm_valid.specs.internal.Stack.{Stack, nothing, if_true, pop, push, can_be}
use Rattle.wasm_valid.specs.internal.Effects.{after}
use Rattle.wasm_valid.specs.internal.Blocks.{OpenBlock, label_of, labels_of, new_block, with_stack, may_end, ends, is_if, ended, elsed, on_stack, opened_in, stepped, is_finished}
use Rattle.wasm_valid.specs.internal.Fits.{FitsTypes}
use Rattle.wasm_valid.specs.internal.Bodies.{Split, IsNone, Run, Part, Ending, Going}
use Rattle.wasm_valid.proofs.Heads.{same_head, same_tail, same_some, some_not_none, same_block, same_loop, same_if, block_not_loop, block_not_if, loop_not_if, else_not_end, some_first}
use Rattle.wasm_valid.proofs.Fitting.{pop_complete, pop_sound, push_complete, push_sound, can_be_fits, fits_can_be}
use Rattle.wasm_valid.proofs.Instructed.{op_walks, and_true}

-- ---- how code begins

-- what ends a part of code
abbrev IsLast : Instruction → Type 0
IsLast op.End = Unit {0}
IsLast op.Else = Unit {0}
IsLast i = ⊥

plain_last : (i : Instruction) → IsPlain i → IsLast i → ⊥
plain_last op.End p l = p
plain_last op.Else p l = p
plain_last i p l = l

not_empty : (last : Instruction) (code : Instructions) → IsWritten code → flatten last code ≡ [] → ⊥
not_empty last done w e = some_first e
not_empty last (plain i rest) w e = some_first e
not_empty last (block t body rest) w e = some_first e
not_empty last (loop t body rest) w e = some_first e
not_empty last (if_then t body rest) w e = some_first e
not_empty last (if_else t body other rest) w e = some_first e
not_empty last (invoke x rest) w e = absurd w

-- What an instruction makes of what may stand before it: the code after it has a first part A, and goes on from another stack.
pub record Turns (c : Context) (ls : Labels) (i : Instruction) (s : Stack) (A : List Instruction → Type 0) (r : Stack) : Type 0 where
  pub goes : (last : Instruction) (rs : List ValueType) (flat : List Instruction) → IsLast last → Run last c ls s rs (i ∷ flat) → Split A (Run last c ls r rs) flat
  pub comes : (last : Instruction) (rs : List ValueType) (flat : List Instruction) → Split A (Run last c ls r rs) flat → Run last c ls s rs (i ∷ flat)

abbrev Never : Context → Labels → Instruction → Stack → Type 0
Never c ls i s = (last : Instruction) (rs : List ValueType) (flat : List Instruction) → IsLast last → Run last c ls s rs (i ∷ flat) → ⊥

-- ---- plain instructions

plain_goes : (c : Context) (ls : Labels) (i : Instruction) (s : Stack) → IsPlain i → (last : Instruction) (rs : List ValueType) (flat : List Instruction) → IsLast last → (code : Instructions) (a : List ValueType) → IsWritten code → flatten last code ≡ i ∷ flat → FitsTypes s a → Typed c ls code a rs
    → (r : Stack) × (after c ls i s ≡ Some r) × Run last c ls r rs flat
plain_goes c ls i s p last rs flat l done a w e f t = absurd (plain_last i p (subst IsLast (same_head e) l))
plain_goes c ls i s p last rs flat l (plain j rest) a w e f t =
    let same : j ≡ i = same_head e in
    let more : flatten last rest ≡ flat = same_tail e in
    let x = (op_walks c ls i s).complete a t.0 f (subst (λ (k : Instruction). OpTyped c ls k a t.0) same t.1) in
    (x.0, x.1, record { code = rest; written = w.1; is = more; from = t.0; fits = x.2; typed = t.2 })
plain_goes c ls i s p last rs flat l (block t body rest) a w e f h = absurd (subst IsPlain (sym (same_head e)) p)
plain_goes c ls i s p last rs flat l (loop t body rest) a w e f h = absurd (subst IsPlain (sym (same_head e)) p)
plain_goes c ls i s p last rs flat l (if_then t body rest) a w e f h = absurd (subst IsPlain (sym (same_head e)) p)
plain_goes c ls i s p last rs flat l (if_else t body other rest) a w e f h = absurd (subst IsPlain (sym (same_head e)) p)
plain_goes c ls i s p last rs flat l (invoke x rest) a w e f h = absurd w

plain_turns : (c : Context) (ls : Labels) (i : Instruction) (s r : Stack) → IsPlain i → after c ls i s ≡ Some r → Turns c ls i s IsNone r
plain_turns c ls i s r p e = record {
  goes = λ last rs flat l q.
      let x = plain_goes c ls i s p last rs flat l q.code q.from q.written q.is q.fits q.typed in
      let same : x.0 ≡ r = same_some x.1 e in
      record { front = []; back = flat; is = refl; first = refl; second = subst (λ (y : Stack). Run last c ls y rs flat) same x.2 };
  comes = λ last rs flat q.
      let k = q.second in
      let y = (op_walks c ls i s).sound r k.from e k.fits in
      let flat-is : q.back ≡ flat = sym (q.is ∙ ap (λ (l : List Instruction). l ++ q.back) q.first) in
      record { code = plain i k.code; written = (p, k.written); is = ap (λ (l : List Instruction). i ∷ l) (k.is ∙ flat-is); from = y.0; fits = y.1; typed = (k.from, y.2, k.typed) };
}

plain_never : (c : Context) (ls : Labels) (i : Instruction) (s : Stack) → IsPlain i → after c ls i s ≡ None → Never c ls i s
plain_never c ls i s p e last rs flat l q =
    let x = plain_goes c ls i s p last rs flat l q.code q.from q.written q.is q.fits q.typed in
    some_not_none x.1 e

-- ---- the beginning of a block

-- nothing but the empty stack fits where nothing is
only_nothing : (a : List ValueType) → FitsTypes nothing a → a ≡ []
only_nothing a f = f

abbrev BlockTurn : Context → Labels → BlockType → Stack → Instruction → List ValueType → List Instruction → Type 0
BlockTurn c ls t s last rs flat = Split (Run op.End c (results_of t ∷ ls) nothing (results_of t)) (Run last c ls (push (results_of t) s) rs) flat

block_goes : (c : Context) (ls : Labels) (t : BlockType) (s : Stack) (last : Instruction) (rs : List ValueType) (flat : List Instruction) → IsLast last → (code : Instructions) (a : List ValueType) → IsWritten code → flatten last code ≡ op.Block t ∷ flat → FitsTypes s a → Typed c ls code a rs → BlockTurn c ls t s last rs flat
block_goes c ls t s last rs flat l done a w e f h = absurd (subst IsLast (same_head e) l)
block_goes c ls t s last rs flat l (plain j rest) a w e f h = absurd (subst IsPlain (same_head e) w.0)
block_goes c ls t s last rs flat l (block u body rest) a w e f h =
    let same : u ≡ t = same_block (same_head e) in
    let more : flatten op.End body ++ flatten last rest ≡ flat = same_tail e in
    let made : BlockTurn c ls u s last rs flat = record {
      front = flatten op.End body;
      back = flatten last rest;
      is = sym more;
      first = record { code = body; written = w.0; is = refl; from = []; fits = refl; typed = h.0 };
      second = record { code = rest; written = w.1; is = refl; from = results_of u ++ a; fits = push_complete (results_of u) s a f; typed = h.1 };
    } in
    subst (λ (v : BlockType). BlockTurn c ls v s last rs flat) same made
block_goes c ls t s last rs flat l (loop u body rest) a w e f h = absurd (block_not_loop (sym (same_head e)))
block_goes c ls t s last rs flat l (if_then u body rest) a w e f h = absurd (block_not_if (sym (same_head e)))
block_goes c ls t s last rs flat l (if_else u body other rest) a w e f h = absurd (block_not_if (sym (same_head e)))
block_goes c ls t s last rs flat l (invoke x rest) a w e f h = absurd w

-- a beginning, what it begins, and what follows
joined : (i : Instruction) (x y front back flat : List Instruction) → x ≡ front → y ≡ back → flat ≡ front ++ back → i ∷ (x ++ y) ≡ i ∷ flat
joined i x y front back flat p q e = ap (λ (l : List Instruction). i ∷ (l ++ y)) p ∙ ap (λ (l : List Instruction). i ∷ (front ++ l)) q ∙ ap (λ (l : List Instruction). i ∷ l) (sym e)

block_comes : (c : Context) (ls : Labels) (t : BlockType) (s : Stack) (last : Instruction) (rs : List ValueType) (flat : List Instruction) → BlockTurn c ls t s last rs flat → Run last c ls s rs (op.Block t ∷ flat)
block_comes c ls t s last rs flat q =
    let k = q.first in
    let m = q.second in
    let x = push_sound (results_of t) s m.from m.fits in
    record {
      code = block t k.code m.code;
      written = (k.written, m.written);
      is = joined (op.Block t) (flatten op.End k.code) (flatten last m.code) q.front q.back flat k.is m.is q.is;
      from = x.0;
      fits = x.2;
      typed = (subst (λ (y : List ValueType). Typed c (results_of t ∷ ls) k.code y (results_of t)) (only_nothing k.from k.fits) k.typed, subst (λ (y : List ValueType). Typed c ls m.code y rs) x.1 m.typed);
    }

block_turns : (c : Context) (ls : Labels) (t : BlockType) (s : Stack) → Turns c ls (op.Block t) s (Run op.End c (results_of t ∷ ls) nothing (results_of t)) (push (results_of t) s)
block_turns c ls t s = record {
  goes = λ last rs flat l q. block_goes c ls t s last rs flat l q.code q.from q.written q.is q.fits q.typed;
  comes = λ last rs flat q. block_comes c ls t s last rs flat q;
}

abbrev LoopTurn : Context → Labels → BlockType → Stack → Instruction → List ValueType → List Instruction → Type 0
LoopTurn c ls t s last rs flat = Split (Run op.End c ([] ∷ ls) nothing (results_of t)) (Run last c ls (push (results_of t) s) rs) flat

loop_goes : (c : Context) (ls : Labels) (t : BlockType) (s : Stack) (last : Instruction) (rs : List ValueType) (flat : List Instruction) → IsLast last → (code : Instructions) (a : List ValueType) → IsWritten code → flatten last code ≡ op.Loop t ∷ flat → FitsTypes s a → Typed c ls code a rs → LoopTurn c ls t s last rs flat
loop_goes c ls t s last rs flat l done a w e f h = absurd (subst IsLast (same_head e) l)
loop_goes c ls t s last rs flat l (plain j rest) a w e f h = absurd (subst IsPlain (same_head e) w.0)
loop_goes c ls t s last rs flat l (loop u body rest) a w e f h =
    let same : u ≡ t = same_loop (same_head e) in
    let more : flatten op.End body ++ flatten last rest ≡ flat = same_tail e in
    let made : LoopTurn c ls u s last rs flat = record {
      front = flatten op.End body;
      back = flatten last rest;
      is = sym more;
      first = record { code = body; written = w.0; is = refl; from = []; fits = refl; typed = h.0 };
      second = record { code = rest; written = w.1; is = refl; from = results_of u ++ a; fits = push_complete (results_of u) s a f; typed = h.1 };
    } in
    subst (λ (v : BlockType). LoopTurn c ls v s last rs flat) same made
loop_goes c ls t s last rs flat l (block u body rest) a w e f h = absurd (block_not_loop (same_head e))
loop_goes c ls t s last rs flat l (if_then u body rest) a w e f h = absurd (loop_not_if (sym (same_head e)))
loop_goes c ls t s last rs flat l (if_else u body other rest) a w e f h = absurd (loop_not_if (sym (same_head e)))
loop_goes c ls t s last rs flat l (invoke x rest) a w e f h = absurd w

loop_comes : (c : Context) (ls : Labels) (t : BlockType) (s : Stack) (last : Instruction) (rs : List ValueType) (flat : List Instruction) → LoopTurn c ls t s last rs flat → Run last c ls s rs (op.Loop t ∷ flat)
loop_comes c ls t s last rs flat q =
    let k = q.first in
    let m = q.second in
    let x = push_sound (results_of t) s m.from m.fits in
    record {
      code = loop t k.code m.code;
      written = (k.written, m.written);
      is = joined (op.Loop t) (flatten op.End k.code) (flatten last m.code) q.front q.back flat k.is m.is q.is;
      from = x.0;
      fits = x.2;
      typed = (subst (λ (y : List ValueType). Typed c ([] ∷ ls) k.code y (results_of t)) (only_nothing k.from k.fits) k.typed, subst (λ (y : List ValueType). Typed c ls m.code y rs) x.1 m.typed);
    }

loop_turns : (c : Context) (ls : Labels) (t : BlockType) (s : Stack) → Turns c ls (op.Loop t) s (Run op.End c ([] ∷ ls) nothing (results_of t)) (push (results_of t) s)
loop_turns c ls t s = record {
  goes = λ last rs flat l q. loop_goes c ls t s last rs flat l q.code q.from q.written q.is q.fits q.typed;
  comes = λ last rs flat q. loop_comes c ls t s last rs flat q;
}

-- ---- the beginning of an if

abbrev IfTurn : Context → Labels → BlockType → Stack → Instruction → List ValueType → List Instruction → Type 0
IfTurn c ls t r last rs flat = Split (Part c (results_of t ∷ ls) If t nothing) (Run last c ls (push (results_of t) r) rs) flat

abbrev IfGoes : Context → Labels → BlockType → Stack → Instruction → List ValueType → List Instruction → Type 0
IfGoes c ls t s last rs flat = (r : Stack) × (pop I32 s ≡ Some r) × IfTurn c ls t r last rs flat

if_goes : (c : Context) (ls : Labels) (t : BlockType) (s : Stack) (last : Instruction) (rs : List ValueType) (flat : List Instruction) → IsLast last → (code : Instructions) (a : List ValueType) → IsWritten code → flatten last code ≡ op.If t ∷ flat → FitsTypes s a → Typed c ls code a rs → IfGoes c ls t s last rs flat
if_goes c ls t s last rs flat l done a w e f h = absurd (subst IsLast (same_head e) l)
if_goes c ls t s last rs flat l (plain j rest) a w e f h = absurd (subst IsPlain (same_head e) w.0)
if_goes c ls t s last rs flat l (if_then u body rest) a w e f h =
    let none : Empty ≡ t = (let k = h.2 in cc) in
    let more : flatten op.End body ++ flatten last rest ≡ flat = same_tail e in
    let x = pop_complete s I32 h.0 (subst (λ (y : List ValueType). FitsTypes s y) h.1 f) in
    let made : IfTurn c ls Empty x.0 last rs flat = record {
      front = flatten op.End body;
      back = flatten last rest;
      is = sym more;
      first = inl (refl, record { code = body; written = w.0; is = refl; from = []; fits = refl; typed = h.3 });
      second = record { code = rest; written = w.1; is = refl; from = h.0; fits = x.2; typed = h.4 };
    } in
    (x.0, x.1, subst (λ (v : BlockType). IfTurn c ls v x.0 last rs flat) none made)
if_goes c ls t s last rs flat l (if_else u body other rest) a w e f h =
    let same : u ≡ t = same_if (same_head e) in
    let more : (flatten op.Else body ++ flatten op.End other) ++ flatten last rest ≡ flat = same_tail e in
    let x = pop_complete s I32 h.0 (subst (λ (y : List ValueType). FitsTypes s y) h.1 f) in
    let made : IfTurn c ls u x.0 last rs flat = record {
      front = flatten op.Else body ++ flatten op.End other;
      back = flatten last rest;
      is = sym more;
      first = inr (record {
        front = flatten op.Else body;
        back = flatten op.End other;
        is = refl;
        first = record { code = body; written = w.0; is = refl; from = []; fits = refl; typed = h.2 };
        second = record { code = other; written = w.1; is = refl; from = []; fits = refl; typed = h.3 };
      });
      second = record { code = rest; written = w.2; is = refl; from = results_of u ++ h.0; fits = push_complete (results_of u) x.0 h.0 x.2; typed = h.4 };
    } in
    (x.0, x.1, subst (λ (v : BlockType). IfTurn c ls v x.0 last rs flat) same made)
if_goes c ls t s last rs flat l (block u body rest) a w e f h = absurd (block_not_if (same_head e))
if_goes c ls t s last rs flat l (loop u body rest) a w e f h = absurd (loop_not_if (same_head e))
if_goes c ls t s last rs flat l (invoke x rest) a w e f h = absurd w

then_comes : (c : Context) (ls : Labels) (s r : Stack) (last : Instruction) (rs : List ValueType) (flat front back : List Instruction) → pop I32 s ≡ Some r → flat ≡ front ++ back → Run op.End c ([] ∷ ls) nothing [] front → Run last c ls r rs back → Run last c ls s rs (op.If Empty ∷ flat)
then_comes c ls s r last rs flat front back e is k m = record {
  code = if_then Empty k.code m.code;
  written = (k.written, m.written);
  is = joined (op.If Empty) (flatten op.End k.code) (flatten last m.code) front back flat k.is m.is is;
  from = I32 ∷ m.from;
  fits = pop_sound s r I32 m.from e m.fits;
  typed = (m.from, refl, refl, subst (λ (y : List ValueType). Typed c ([] ∷ ls) k.code y []) (only_nothing k.from k.fits) k.typed, m.typed);
}

else_comes : (c : Context) (ls : Labels) (t : BlockType) (s r : Stack) (last : Instruction) (rs : List ValueType) (flat front back : List Instruction) → pop I32 s ≡ Some r → flat ≡ front ++ back → Split (Run op.Else c (results_of t ∷ ls) nothing (results_of t)) (Run op.End c (results_of t ∷ ls) nothing (results_of t)) front → Run last c ls (push (results_of t) r) rs back → Run last c ls s rs (op.If t ∷ flat)
else_comes c ls t s r last rs flat front back e is p m =
    let k = p.first in
    let n = p.second in
    let x = push_sound (results_of t) r m.from m.fits in
    let parts : flatten op.Else k.code ++ flatten op.End n.code ≡ front = ap (λ (l : List Instruction). l ++ flatten op.End n.code) k.is ∙ ap (λ (l : List Instruction). p.front ++ l) n.is ∙ sym p.is in
    record {
      code = if_else t k.code n.code m.code;
      written = (k.written, n.written, m.written);
      is = joined (op.If t) (flatten op.Else k.code ++ flatten op.End n.code) (flatten last m.code) front back flat parts m.is is;
      from = I32 ∷ x.0;
      fits = pop_sound s r I32 x.0 e x.2;
      typed = (
        x.0,
        refl,
        subst (λ (y : List ValueType). Typed c (results_of t ∷ ls) k.code y (results_of t)) (only_nothing k.from k.fits) k.typed,
        subst (λ (y : List ValueType). Typed c (results_of t ∷ ls) n.code y (results_of t)) (only_nothing n.from n.fits) n.typed,
        subst (λ (y : List ValueType). Typed c ls m.code y rs) x.1 m.typed,
      );
    }

if_comes : (c : Context) (ls : Labels) (t : BlockType) (s r : Stack) (last : Instruction) (rs : List ValueType) (flat : List Instruction) → pop I32 s ≡ Some r → IfTurn c ls t r last rs flat → Run last c ls s rs (op.If t ∷ flat)
if_comes c ls t s r last rs flat e q =
    elim (q.first) [
      | inl k ↦
          let body = subst (λ (v : BlockType). Run op.End c (results_of v ∷ ls) nothing (results_of v) q.front) k.0 k.1 in
          let rest = subst (λ (v : BlockType). Run last c ls (push (results_of v) r) rs q.back) k.0 q.second in
          subst (λ (v : BlockType). Run last c ls s rs (op.If v ∷ flat)) (sym k.0) (then_comes c ls s r last rs flat q.front q.back e q.is body rest)
      | inr k ↦ else_comes c ls t s r last rs flat q.front q.back e q.is k q.second
    ]

if_turns : (c : Context) (ls : Labels) (t : BlockType) (s r : Stack) → pop I32 s ≡ Some r → Turns c ls (op.If t) s (Part c (results_of t ∷ ls) If t nothing) (push (results_of t) r)
if_turns c ls t s r e = record {
  goes = λ last rs flat l q.
      let x = if_goes c ls t s last rs flat l q.code q.from q.written q.is q.fits q.typed in
      let same : x.0 ≡ r = same_some x.1 e in
      subst (λ (y : Stack). IfTurn c ls t y last rs flat) same x.2;
  comes = λ last rs flat q. if_comes c ls t s r last rs flat e q;
}

if_never : (c : Context) (ls : Labels) (t : BlockType) (s : Stack) → pop I32 s ≡ None → Never c ls (op.If t) s
if_never c ls t s e last rs flat l q =
    let x = if_goes c ls t s last rs flat l q.code q.from q.written q.is q.fits q.typed in
    some_not_none x.1 e

-- ---- the end of a part

last_goes : (c : Context) (ls : Labels) (i : Instruction) (s : Stack) (last : Instruction) (rs : List ValueType) (flat : List Instruction) → IsLast last → IsLast i → (code : Instructions) (a : List ValueType) → IsWritten code → flatten last code ≡ i ∷ flat → FitsTypes s a → Typed c ls code a rs → (last ≡ i) × IsNone flat × FitsTypes s rs
last_goes c ls i s last rs flat l m done a w e f h = (same_head e, sym (same_tail e), subst (λ (y : List ValueType). FitsTypes s y) h f)
last_goes c ls i s last rs flat l m (plain j rest) a w e f h = absurd (plain_last i (subst IsPlain (same_head e) w.0) m)
last_goes c ls i s last rs flat l m (block u body rest) a w e f h = absurd (subst IsLast (sym (same_head e)) m)
last_goes c ls i s last rs flat l m (loop u body rest) a w e f h = absurd (subst IsLast (sym (same_head e)) m)
last_goes c ls i s last rs flat l m (if_then u body rest) a w e f h = absurd (subst IsLast (sym (same_head e)) m)
last_goes c ls i s last rs flat l m (if_else u body other rest) a w e f h = absurd (subst IsLast (sym (same_head e)) m)
last_goes c ls i s last rs flat l m (invoke x rest) a w e f h = absurd w

run_last : (c : Context) (ls : Labels) (i : Instruction) (s : Stack) (last : Instruction) (rs : List ValueType) (flat : List Instruction) → IsLast last → IsLast i → Run last c ls s rs (i ∷ flat) → (last ≡ i) × IsNone flat × FitsTypes s rs
run_last c ls i s last rs flat l m q = last_goes c ls i s last rs flat l m q.code q.from q.written q.is q.fits q.typed

last_run : (c : Context) (ls : Labels) (s : Stack) (last : Instruction) (rs : List ValueType) → FitsTypes s rs → Run last c ls s rs (last ∷ [])
last_run c ls s last rs f = record { code = done; written = tt; is = refl; from = rs; fits = f; typed = refl }

-- ---- in an open block

split_map : {A B C : List Instruction → Type 0} (flat : List Instruction) → ((x : List Instruction) → B x → C x) → Split A B flat → Split A C flat
split_map flat f q = record { front = q.front; back = q.back; is = q.is; first = q.first; second = f q.back q.second }

split_goes : (A P O Q : List Instruction → Type 0) (i : Instruction) (flat : List Instruction) → (P [] → ⊥) → ((x : List Instruction) → P (i ∷ x) → Split A O x) → Split P Q (i ∷ flat) → Split A (Split O Q) flat
split_goes A P O Q i flat some f q = by_front q.front q.back q.is q.first q.second where
  by_front : (front back : List Instruction) → i ∷ flat ≡ front ++ back → P front → Q back → Split A (Split O Q) flat
  by_front [] back e p k = absurd (some p)
  by_front (j ∷ x) back e p k =
      let same : j ≡ i = sym (same_head e) in
      let more : flat ≡ x ++ back = same_tail e in
      let y = f x (subst (λ (o : Instruction). P (o ∷ x)) same p) in
      record {
        front = y.front;
        back = y.back ++ back;
        is = more ∙ ap (λ (l : List Instruction). l ++ back) y.is ∙ append_assoc y.front y.back back;
        first = y.first;
        second = record { front = y.back; back = back; is = refl; first = y.second; second = k };
      }

split_comes : (A P O Q : List Instruction → Type 0) (i : Instruction) (flat : List Instruction) → ((x : List Instruction) → Split A O x → P (i ∷ x)) → Split A (Split O Q) flat → Split P Q (i ∷ flat)
split_comes A P O Q i flat f q =
    let k = q.second in
    record {
      front = i ∷ (q.front ++ k.front);
      back = k.back;
      is = ap (λ (l : List Instruction). i ∷ l) (q.is ∙ ap (λ (l : List Instruction). q.front ++ l) k.is ∙ sym (append_assoc q.front k.front k.back));
      first = f (q.front ++ k.front) (record { front = q.front; back = k.front; is = refl; first = q.first; second = k.first });
      second = k.second;
    }

run_some : (c : Context) (ls : Labels) (s : Stack) (last : Instruction) (rs : List ValueType) → Run last c ls s rs [] → ⊥
run_some c ls s last rs q = not_empty last q.code q.written q.is

no_front : (c : Context) (ls : Labels) (s : Stack) (rs : List ValueType) (front back : List Instruction) → [] ≡ front ++ back → Run op.Else c ls s rs front → ⊥
no_front c ls s rs [] back e k = run_some c ls s op.Else rs k
no_front c ls s rs (i ∷ x) back e k = cc

part_some : (c : Context) (ls : Labels) (k : BlockKind) (t : BlockType) (s : Stack) → Part c ls k t s [] → ⊥
part_some c ls Block t s q = run_some c ls s op.End (results_of t) q
part_some c ls Loop t s q = run_some c ls s op.End (results_of t) q
part_some c ls If t s q =
    elim q [
      | inl p ↦ run_some c ls s op.End (results_of t) p.1
      | inr p ↦ no_front c ls s (results_of t) p.front p.back p.is p.first
    ]

part_goes : (c : Context) (ls : Labels) (i : Instruction) (s r : Stack) (A : List Instruction → Type 0) → Turns c ls i s A r → (k : BlockKind) (t : BlockType) (flat : List Instruction) → Part c ls k t s (i ∷ flat) → Split A (Part c ls k t r) flat
part_goes c ls i s r A turn Block t flat q = turn.goes op.End (results_of t) flat tt q
part_goes c ls i s r A turn Loop t flat q = turn.goes op.End (results_of t) flat tt q
part_goes c ls i s r A turn If t flat q =
    elim q [
      | inl p ↦ split_map flat (λ x y. inl (p.0, y)) (turn.goes op.End (results_of t) flat tt p.1)
      | inr p ↦
          split_map flat (λ x y. inr y)
          (split_goes A (Run op.Else c ls s (results_of t)) (Run op.Else c ls r (results_of t)) (Run op.End c ls nothing (results_of t)) i flat (run_some c ls s op.Else (results_of t)) (λ x y. turn.goes op.Else (results_of t) x tt y) p)
    ]

part_comes : (c : Context) (ls : Labels) (i : Instruction) (s r : Stack) (A : List Instruction → Type 0) → Turns c ls i s A r → (k : BlockKind) (t : BlockType) (flat : List Instruction) → Split A (Part c ls k t r) flat → Part c ls k t s (i ∷ flat)
part_comes c ls i s r A turn Block t flat q = turn.comes op.End (results_of t) flat q
part_comes c ls i s r A turn Loop t flat q = turn.comes op.End (results_of t) flat q
part_comes c ls i s r A turn If t flat q =
    elim (q.second) [
      | inl p ↦ inl (p.0, turn.comes op.End (results_of t) flat (record { front = q.front; back = q.back; is = q.is; first = q.first; second = p.1 }))
      | inr p ↦
          inr (split_comes A (Run op.Else c ls s (results_of t)) (Run op.Else c ls r (results_of t)) (Run op.End c ls nothing (results_of t)) i flat (λ x y. turn.comes op.Else (results_of t) x y) (record { front = q.front; back = q.back; is = q.is; first = q.first; second = p }))
    ]

-- ---- the ends of parts

-- of a part with an else, what stands before the else
before_else : (c : Context) (ls : Labels) (t : BlockType) (s : Stack) (i : Instruction) (flat front back : List Instruction) → IsLast i → i ∷ flat ≡ front ++ back → Run op.Else c ls s (results_of t) front → (op.Else ≡ i) × (flat ≡ back) × FitsTypes s (results_of t)
before_else c ls t s i flat [] back l e k = absurd (run_some c ls s op.Else (results_of t) k)
before_else c ls t s i flat (j ∷ x) back l e k =
    let same : j ≡ i = sym (same_head e) in
    let more : flat ≡ x ++ back = same_tail e in
    let r = run_last c ls i s op.Else (results_of t) x tt l (subst (λ (o : Instruction). Run op.Else c ls s (results_of t) (o ∷ x)) same k) in
    (r.0, more ∙ ap (λ (y : List Instruction). y ++ back) r.1, r.2)

part_ends : (c : Context) (ls : Labels) (k : BlockKind) (t : BlockType) (s : Stack) (flat : List Instruction) → Part c ls k t s (op.End ∷ flat) → IsNone flat × (may_end k t && can_be (results_of t) s ≡ true)
part_ends c ls Block t s flat q = let r = run_last c ls op.End s op.End (results_of t) flat tt tt q in (r.1, fits_can_be (results_of t) s r.2)
part_ends c ls Loop t s flat q = let r = run_last c ls op.End s op.End (results_of t) flat tt tt q in (r.1, fits_can_be (results_of t) s r.2)
part_ends c ls If Empty s flat q =
    elim q [
      | inl p ↦ let r = run_last c ls op.End s op.End [] flat tt tt p.1 in (r.1, fits_can_be [] s r.2)
      | inr p ↦ let r = before_else c ls Empty s op.End flat p.front p.back tt p.is p.first in absurd (else_not_end r.0)
    ]
part_ends c ls If (Value v) s flat q =
    elim q [
      | inl p ↦ let e = p.0 in cc
      | inr p ↦ let r = before_else c ls (Value v) s op.End flat p.front p.back tt p.is p.first in absurd (else_not_end r.0)
    ]

ends_part : (c : Context) (ls : Labels) (k : BlockKind) (t : BlockType) (s : Stack) → may_end k t && can_be (results_of t) s ≡ true → Part c ls k t s (op.End ∷ [])
ends_part c ls Block t s e = last_run c ls s op.End (results_of t) (can_be_fits (results_of t) s e)
ends_part c ls Loop t s e = last_run c ls s op.End (results_of t) (can_be_fits (results_of t) s e)
ends_part c ls If Empty s e = inl (refl, last_run c ls s op.End [] (can_be_fits [] s e))
ends_part c ls If (Value v) s e = cc

part_elses : (c : Context) (ls : Labels) (k : BlockKind) (t : BlockType) (s : Stack) (flat : List Instruction) → Part c ls k t s (op.Else ∷ flat) → (is_if k && can_be (results_of t) s ≡ true) × Run op.End c ls nothing (results_of t) flat
part_elses c ls Block t s flat q = let r = run_last c ls op.Else s op.End (results_of t) flat tt tt q in absurd (else_not_end (sym r.0))
part_elses c ls Loop t s flat q = let r = run_last c ls op.Else s op.End (results_of t) flat tt tt q in absurd (else_not_end (sym r.0))
part_elses c ls If t s flat q =
    elim q [
      | inl p ↦ let r = run_last c ls op.Else s op.End (results_of t) flat tt tt p.1 in absurd (else_not_end (sym r.0))
      | inr p ↦
          let r = before_else c ls t s op.Else flat p.front p.back tt p.is p.first in
          (fits_can_be (results_of t) s r.2, subst (λ (y : List Instruction). Run op.End c ls nothing (results_of t) y) (sym r.1) p.second)
    ]

elses_part : (c : Context) (ls : Labels) (k : BlockKind) (t : BlockType) (s : Stack) (flat : List Instruction) → is_if k && can_be (results_of t) s ≡ true → Run op.End c ls nothing (results_of t) flat → Part c ls k t s (op.Else ∷ flat)
elses_part c ls Block t s flat e k = cc
elses_part c ls Loop t s flat e k = cc
elses_part c ls If t s flat e k =
    inr (record { front = op.Else ∷ []; back = flat; is = refl; first = last_run c ls s op.Else (results_of t) (can_be_fits (results_of t) s e); second = k })

-- ---- all open blocks

-- the rest of the code, where the innermost block has this stack
abbrev From : Context → OpenBlock → List OpenBlock → Stack → List Instruction → Type 0
From c b bs s flat = Split (Part c (labels_of (b ∷ bs)) b.kind b.block_type s) (Ending c bs (results_of b.block_type)) flat

goes_on : (c : Context) (i : Instruction) (b : OpenBlock) (bs : List OpenBlock) (r : Stack) (A : List Instruction → Type 0) (flat : List Instruction) → Turns c (labels_of (b ∷ bs)) i b.stack A r → Going c (b ∷ bs) (i ∷ flat) → Split A (From c b bs r) flat
goes_on c i b bs r A flat turn q =
    let ls = labels_of (b ∷ bs) in
    split_goes A (Part c ls b.kind b.block_type b.stack) (Part c ls b.kind b.block_type r) (Ending c bs (results_of b.block_type)) i flat
    (part_some c ls b.kind b.block_type b.stack) (λ x y. part_goes c ls i b.stack r A turn b.kind b.block_type x y) q

comes_from : (c : Context) (i : Instruction) (b : OpenBlock) (bs : List OpenBlock) (r : Stack) (A : List Instruction → Type 0) (flat : List Instruction) → Turns c (labels_of (b ∷ bs)) i b.stack A r → Split A (From c b bs r) flat → Going c (b ∷ bs) (i ∷ flat)
comes_from c i b bs r A flat turn q =
    let ls = labels_of (b ∷ bs) in
    split_comes A (Part c ls b.kind b.block_type b.stack) (Part c ls b.kind b.block_type r) (Ending c bs (results_of b.block_type)) i flat
    (λ x y. part_comes c ls i b.stack r A turn b.kind b.block_type x y) q

-- what can stand nowhere
part_never : (c : Context) (ls : Labels) (i : Instruction) (s : Stack) (k : BlockKind) (t : BlockType) (flat : List Instruction) → Never c ls i s → Part c ls k t s (i ∷ flat) → ⊥
part_never c ls i s Block t flat never q = never op.End (results_of t) flat tt q
part_never c ls i s Loop t flat never q = never op.End (results_of t) flat tt q
part_never c ls i s If t flat never q =
    elim q [
      | inl p ↦ never op.End (results_of t) flat tt p.1
      | inr p ↦ by_front c ls i s t flat never p.front p.back p.is p.first
    ] where
      by_front : (c : Context) (ls : Labels) (i : Instruction) (s : Stack) (t : BlockType) (flat : List Instruction) → Never c ls i s → (front back : List Instruction) → i ∷ flat ≡ front ++ back → Run op.Else c ls s (results_of t) front → ⊥
      by_front c ls i s t flat never [] back e k = run_some c ls s op.Else (results_of t) k
      by_front c ls i s t flat never (j ∷ x) back e k =
          let same : j ≡ i = sym (same_head e) in
          never op.Else (results_of t) x tt (subst (λ (o : Instruction). Run op.Else c ls s (results_of t) (o ∷ x)) same k)

never_goes : (c : Context) (i : Instruction) (b : OpenBlock) (bs : List OpenBlock) (flat : List Instruction) → Never c (labels_of (b ∷ bs)) i b.stack → Going c (b ∷ bs) (i ∷ flat) → ⊥
never_goes c i b bs flat never q = by_front q.front q.back q.is q.first where
  by_front : (front back : List Instruction) → i ∷ flat ≡ front ++ back → Part c (labels_of (b ∷ bs)) b.kind b.block_type b.stack front → ⊥
  by_front [] back e k = part_some c (labels_of (b ∷ bs)) b.kind b.block_type b.stack k
  by_front (j ∷ x) back e k =
      let same : j ≡ i = sym (same_head e) in
      part_never c (labels_of (b ∷ bs)) i b.stack b.kind b.block_type x never (subst (λ (o : Instruction). Part c (labels_of (b ∷ bs)) b.kind b.block_type b.stack (o ∷ x)) same k)

-- ---- one instruction

-- the code is typed before it exactly where it is typed after it
abbrev pub Answered : Context → Instruction → List Instruction → List OpenBlock → Option (List OpenBlock) → Type 0
Answered c i flat bs None = Going c bs (i ∷ flat) → ⊥
Answered c i flat bs (Some ds) = (Going c bs (i ∷ flat) → Going c ds flat) × (Going c ds flat → Going c bs (i ∷ flat))

nothing_before : {B : List Instruction → Type 0} (flat : List Instruction) → B flat → Split IsNone B flat
nothing_before flat b = record { front = []; back = flat; is = refl; first = refl; second = b }

without_front : {B : List Instruction → Type 0} (flat : List Instruction) → Split IsNone B flat → B flat
without_front {B} flat q = subst B (sym (q.is ∙ ap (λ (l : List Instruction). l ++ q.back) q.first)) q.second

plain_answer : (c : Context) (i : Instruction) (flat : List Instruction) (b : OpenBlock) (bs : List OpenBlock) → IsPlain i → (o : Option Stack) → after c (labels_of (b ∷ bs)) i b.stack ≡ o → Answered c i flat (b ∷ bs) (on_stack b bs o)
plain_answer c i flat b bs p None e = never_goes c i b bs flat (plain_never c (labels_of (b ∷ bs)) i b.stack p e)
plain_answer c i flat b bs p (Some r) e =
    let turn = plain_turns c (labels_of (b ∷ bs)) i b.stack r p e in
    ((λ q. without_front flat (goes_on c i b bs r IsNone flat turn q)), (λ q. comes_from c i b bs r IsNone flat turn (nothing_before flat q)))

begun_answer : (c : Context) (t : BlockType) (flat : List Instruction) (b : OpenBlock) (bs : List OpenBlock) (o : Option Stack) → pop I32 b.stack ≡ o → Answered c (op.If t) flat (b ∷ bs) (option_and_then (opened_in If t) (on_stack b bs o))
begun_answer c t flat b bs None e = never_goes c (op.If t) b bs flat (if_never c (labels_of (b ∷ bs)) t b.stack e)
begun_answer c t flat b bs (Some r) e =
    let turn = if_turns c (labels_of (b ∷ bs)) t b.stack r e in
    let A = Part c (results_of t ∷ labels_of (b ∷ bs)) If t nothing in
    ((λ q. goes_on c (op.If t) b bs (push (results_of t) r) A flat turn q), (λ q. comes_from c (op.If t) b bs (push (results_of t) r) A flat turn q))

-- an end closes the innermost block
end_goes : (c : Context) (b : OpenBlock) (bs : List OpenBlock) (flat : List Instruction) → Going c (b ∷ bs) (op.End ∷ flat) → (ends b ≡ true) × Ending c bs (results_of b.block_type) flat
end_goes c b bs flat q = by_front q.front q.back q.is q.first q.second where
  by_front : (front back : List Instruction) → op.End ∷ flat ≡ front ++ back → Part c (labels_of (b ∷ bs)) b.kind b.block_type b.stack front → Ending c bs (results_of b.block_type) back → (ends b ≡ true) × Ending c bs (results_of b.block_type) flat
  by_front [] back e k m = absurd (part_some c (labels_of (b ∷ bs)) b.kind b.block_type b.stack k)
  by_front (j ∷ x) back e k m =
      let same : j ≡ op.End = sym (same_head e) in
      let more : flat ≡ x ++ back = same_tail e in
      let r = part_ends c (labels_of (b ∷ bs)) b.kind b.block_type b.stack x (subst (λ (o : Instruction). Part c (labels_of (b ∷ bs)) b.kind b.block_type b.stack (o ∷ x)) same k) in
      (r.1, subst (Ending c bs (results_of b.block_type)) (sym (more ∙ ap (λ (l : List Instruction). l ++ back) r.0)) m)

end_comes : (c : Context) (b : OpenBlock) (bs : List OpenBlock) (flat : List Instruction) → ends b ≡ true → Ending c bs (results_of b.block_type) flat → Going c (b ∷ bs) (op.End ∷ flat)
end_comes c b bs flat e q = record { front = op.End ∷ []; back = flat; is = refl; first = ends_part c (labels_of (b ∷ bs)) b.kind b.block_type b.stack e; second = q }

end_answer : (c : Context) (flat : List Instruction) (b : OpenBlock) (bs : List OpenBlock) → (flat ≡ [] → ⊥) → Answered c op.End flat (b ∷ bs) (ended b bs)
end_answer c flat b [] some = λ q. some (end_goes c b [] flat q).1
end_answer c flat b (d ∷ bs) some = by_test (ends b) refl where
  by_test : (t : Bool) → ends b ≡ t → Answered c op.End flat (b ∷ d ∷ bs) (if_true t (with_stack d (push (results_of b.block_type) d.stack) ∷ bs))
  by_test true e = ((λ q. (end_goes c b (d ∷ bs) flat q).1), (λ q. end_comes c b (d ∷ bs) flat e q))
  by_test false e = λ q. let h = (end_goes c b (d ∷ bs) flat q).0 in cc

-- an else begins the second part of an if
else_goes : (c : Context) (b : OpenBlock) (bs : List OpenBlock) (flat : List Instruction) → Going c (b ∷ bs) (op.Else ∷ flat) → (is_if b.kind && can_be (results_of b.block_type) b.stack ≡ true) × Split (Run op.End c (labels_of (b ∷ bs)) nothing (results_of b.block_type)) (Ending c bs (results_of b.block_type)) flat
else_goes c b bs flat q = by_front q.front q.back q.is q.first q.second where
  by_front : (front back : List Instruction) → op.Else ∷ flat ≡ front ++ back → Part c (labels_of (b ∷ bs)) b.kind b.block_type b.stack front → Ending c bs (results_of b.block_type) back → (is_if b.kind && can_be (results_of b.block_type) b.stack ≡ true) × Split (Run op.End c (labels_of (b ∷ bs)) nothing (results_of b.block_type)) (Ending c bs (results_of b.block_type)) flat
  by_front [] back e k m = absurd (part_some c (labels_of (b ∷ bs)) b.kind b.block_type b.stack k)
  by_front (j ∷ x) back e k m =
      let same : j ≡ op.Else = sym (same_head e) in
      let more : flat ≡ x ++ back = same_tail e in
      let r = part_elses c (labels_of (b ∷ bs)) b.kind b.block_type b.stack x (subst (λ (o : Instruction). Part c (labels_of (b ∷ bs)) b.kind b.block_type b.stack (o ∷ x)) same k) in
      (r.0, record { front = x; back = back; is = more; first = r.1; second = m })

else_comes_from : (c : Context) (b : OpenBlock) (bs : List OpenBlock) (flat : List Instruction) → is_if b.kind && can_be (results_of b.block_type) b.stack ≡ true → Split (Run op.End c (labels_of (b ∷ bs)) nothing (results_of b.block_type)) (Ending c bs (results_of b.block_type)) flat → Going c (b ∷ bs) (op.Else ∷ flat)
else_comes_from c b bs flat e q = record {
  front = op.Else ∷ q.front;
  back = q.back;
  is = ap (λ (l : List Instruction). op.Else ∷ l) q.is;
  first = elses_part c (labels_of (b ∷ bs)) b.kind b.block_type b.stack q.front e q.first;
  second = q.second;
}

-- the labels stay
same_label : (k : BlockKind) (t : BlockType) → is_if k ≡ true → label_of k t ≡ results_of t
same_label If t e = refl
same_label Block t e = cc
same_label Loop t e = cc

else_answer : (c : Context) (flat : List Instruction) (b : OpenBlock) (bs : List OpenBlock) → Answered c op.Else flat (b ∷ bs) (elsed b bs)
else_answer c flat b bs = by_test (is_if b.kind && can_be (results_of b.block_type) b.stack) refl where
  by_test : (t : Bool) → is_if b.kind && can_be (results_of b.block_type) b.stack ≡ t → Answered c op.Else flat (b ∷ bs) (if_true t (new_block Block b.block_type ∷ bs))
  by_test true e =
      let same = same_label b.kind b.block_type (and_true (is_if b.kind) (can_be (results_of b.block_type) b.stack) e).0 in (
        (λ q. subst (λ (k : List ValueType). Split (Run op.End c (k ∷ labels_of bs) nothing (results_of b.block_type)) (Ending c bs (results_of b.block_type)) flat) same (else_goes c b bs flat q).1),
        (λ q. else_comes_from c b bs flat e (subst (λ (k : List ValueType). Split (Run op.End c (k ∷ labels_of bs) nothing (results_of b.block_type)) (Ending c bs (results_of b.block_type)) flat) (sym same) q)),
      )
  by_test false e = λ q. let h = (else_goes c b bs flat q).0 in cc

block_answer : (c : Context) (i : Instruction) (flat : List Instruction) (b : OpenBlock) (bs : List OpenBlock) → (flat ≡ [] → ⊥) → Answered c i flat (b ∷ bs) (stepped c i (b ∷ bs))
unfolding stepped
block_answer c (op.Block t) flat b bs some =
    let turn = block_turns c (labels_of (b ∷ bs)) t b.stack in
    let A = Run op.End c (results_of t ∷ labels_of (b ∷ bs)) nothing (results_of t) in
    ((λ q. goes_on c (op.Block t) b bs (push (results_of t) b.stack) A flat turn q), (λ q. comes_from c (op.Block t) b bs (push (results_of t) b.stack) A flat turn q))
block_answer c (op.Loop t) flat b bs some =
    let turn = loop_turns c (labels_of (b ∷ bs)) t b.stack in
    let A = Run op.End c ([] ∷ labels_of (b ∷ bs)) nothing (results_of t) in
    ((λ q. goes_on c (op.Loop t) b bs (push (results_of t) b.stack) A flat turn q), (λ q. comes_from c (op.Loop t) b bs (push (results_of t) b.stack) A flat turn q))
block_answer c (op.If t) flat b bs some = begun_answer c t flat b bs (pop I32 b.stack) refl
block_answer c op.Else flat b bs some = else_answer c flat b bs
block_answer c op.End flat b bs some = end_answer c flat b bs some
block_answer c i flat b bs some = plain_answer c i flat b bs tt (after c (labels_of (b ∷ bs)) i b.stack) refl

nowhere : (c : Context) (i : Instruction) → None ≡ stepped c i []
unfolding stepped
nowhere c (op.Block t) = refl
nowhere c (op.Loop t) = refl
nowhere c (op.If t) = refl
nowhere c op.Else = refl
nowhere c op.End = refl
nowhere c i = refl

pub step_answer : (c : Context) (i : Instruction) (flat : List Instruction) (bs : List OpenBlock) → (flat ≡ [] → ⊥) → Answered c i flat bs (stepped c i bs)
step_answer c i flat [] some = subst (Answered c i flat []) (nowhere c i) (λ q. cc)
step_answer c i flat (b ∷ bs) some = block_answer c i flat b bs some

-- ---- a whole body

no_ending : (c : Context) (d : OpenBlock) (bs : List OpenBlock) (rs : List ValueType) → Ending c (d ∷ bs) rs [] → ⊥
no_ending c d bs rs q = by_front q.front q.back q.is q.first where
  by_front : (front back : List Instruction) → [] ≡ front ++ back → Part c (labels_of (d ∷ bs)) d.kind d.block_type (push rs d.stack) front → ⊥
  by_front [] back e p = part_some c (labels_of (d ∷ bs)) d.kind d.block_type (push rs d.stack) p
  by_front (i ∷ x) back e p = cc

-- the last instruction is the end of the body
pub finish_answer : (c : Context) (bs : List OpenBlock) (t : Bool) → t ≡ is_finished bs → ((t ≡ true) → Going c bs (op.End ∷ [])) × (Going c bs (op.End ∷ []) → t ≡ true)
finish_answer c [] t e = ((λ h. cc), (λ q. cc))
finish_answer c (b ∷ []) t e = ((λ h. end_comes c b [] [] (sym e ∙ h) refl), (λ q. e ∙ (end_goes c b [] [] q).0))
finish_answer c (b ∷ d ∷ bs) t e = ((λ h. cc), (λ q. absurd (no_ending c d bs (results_of b.block_type) (end_goes c b (d ∷ bs) [] q).1)))

-- code is typed from the beginning of its body
pub body_from : (c : Context) (t : BlockType) (flat : List Instruction) → Going c (new_block Block t ∷ []) flat → (code : Instructions) × IsWritten code × (flatten op.End code ≡ flat) × Typed c (results_of t ∷ []) code [] (results_of t)
body_from c t flat q =
    let k = q.first in
    let same : k.from ≡ [] = only_nothing k.from k.fits in
    (k.code, k.written, k.is ∙ no_back q.front ∙ ap (λ (l : List Instruction). q.front ++ l) (sym q.second) ∙ sym q.is, subst (λ (y : List ValueType). Typed c (results_of t ∷ []) k.code y (results_of t)) same k.typed) where
      no_back : (l : List Instruction) → l ≡ l ++ []
      no_back [] = refl
      no_back (i ∷ l) = ap (λ (x : List Instruction). i ∷ x) (no_back l)

pub from_body : (c : Context) (t : BlockType) (flat : List Instruction) (code : Instructions) → IsWritten code → flatten op.End code ≡ flat → Typed c (results_of t ∷ []) code [] (results_of t) → Going c (new_block Block t ∷ []) flat
from_body c t flat code w e h = record {
  front = flat;
  back = [];
  is = no_back flat;
  first = record { code = code; written = w; is = e; from = []; fits = refl; typed = h };
  second = refl;
} where
  no_back : (l : List Instruction) → l ≡ l ++ []
  no_back [] = refl
  no_back (i ∷ l) = ap (λ (x : List Instruction). i ∷ x) (no_back l)
