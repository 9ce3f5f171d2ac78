-- The walk over the code of a body.
use Rattle.std.proofs.Common.{◌≡◌, ℕ, ◌+◌, ◌<◌, ◌≤◌, Bool, true, false, List, [], ◌∷◌, ◌++◌, length, drop, get_or, Option, Some, None, sym, ◌∙◌, ap, refl, subst, ◌↔◌, append_assoc}
use Rattle.std.specs.List.{slice_get}
use Rattle.std.specs.Option.{MatchOption}
use Rattle.std.proofs.lemmas.List.{drop_more, drop_all}
use Rattle.wasm_syntax.specs.declared.instruction.ValueType.{ValueType}
use Rattle.wasm_syntax.specs.declared.instruction.BlockType.{BlockType}
use Rattle.wasm_syntax.specs.declared.instruction.Instruction.{Instruction}
use Rattle.wasm_syntax.specs.declared.instruction.Instruction.TheVariants as op
use Rattle.wasm_syntax.specs.declared.module.FuncType.{FuncType}
use Rattle.wasm_syntax.specs.declared.module.Body.{Body}
use Rattle.wasm_syntax.specs.Nested.{Instructions, done, plain, block, loop, if_then, if_else, invoke, flatten}
use Rattle.wasm_valid.specs.declared.control_frames.BlockKind.TheVariants.{Block}
use Rattle.wasm_valid.specs.declared.function_context.FunctionContext.{FunctionContext}
use Rattle.wasm_valid.specs.Arities.{results_of}
use Rattle.wasm_valid.specs.Typing.{Context, Typed}
use Rattle.wasm_valid.specs.Spaces.{local_types}
use Rattle.wasm_valid.specs.Validity.{FunctionTyped}
use Rattle.wasm_valid.specs.internal.Blocks.{OpenBlock, new_block, stepped, is_finished}
use Rattle.wasm_valid.specs.internal.Bodies.{Going, BodyTyped}
use Rattle.wasm_valid.specs.internal.Operands.{StepsTo}
use Rattle.wasm_valid.specs.internal.Contexts.{IsModuleContext, IsFunctionContext}
use Rattle.wasm_valid.proofs.Blocks.{Answered, step_answer, finish_answer, body_from, from_body}

-- all code ends
pub ends_with : (last : Instruction) (code : Instructions) → (front : List Instruction) × (flatten last code ≡ front ++ last ∷ [])
ends_with last done = ([], refl)
ends_with last (plain i rest) = let r = ends_with last rest in (i ∷ r.0, ap (λ k. i ∷ k) r.1)
ends_with last (block t body rest) =
    let r = ends_with last rest in
    ((op.Block t ∷ flatten op.End body) ++ r.0, ap (λ k. (op.Block t ∷ flatten op.End body) ++ k) r.1 ∙ sym (append_assoc (op.Block t ∷ flatten op.End body) r.0 (last ∷ [])))
ends_with last (loop t body rest) =
    let r = ends_with last rest in
    ((op.Loop t ∷ flatten op.End body) ++ r.0, ap (λ k. (op.Loop t ∷ flatten op.End body) ++ k) r.1 ∙ sym (append_assoc (op.Loop t ∷ flatten op.End body) r.0 (last ∷ [])))
ends_with last (if_then t body rest) =
    let r = ends_with last rest in
    ((op.If t ∷ flatten op.End body) ++ r.0, ap (λ k. (op.If t ∷ flatten op.End body) ++ k) r.1 ∙ sym (append_assoc (op.If t ∷ flatten op.End body) r.0 (last ∷ [])))
ends_with last (if_else t body other rest) =
    let r = ends_with last rest in
    let first : List Instruction = (op.If t ∷ flatten op.Else body) ++ flatten op.End other in
    (first ++ r.0, ap (λ k. first ++ k) r.1 ∙ sym (append_assoc first r.0 (last ∷ [])))
ends_with last (invoke x rest) = ends_with last rest

-- ---- the loop

abbrev pub whole_of : List Instruction → List Instruction
whole_of inner = inner ++ op.End ∷ []

-- what is typed from here on is typed from the beginning
abbrev pub GoesOn : FunctionContext → List OpenBlock → List Instruction → ℕ → List OpenBlock → Type 0
GoesOn function_context start inner i bs =
    (c : Context) → IsFunctionContext function_context c → (Going c bs (whole_of (drop i inner)) ↔ Going c start (whole_of inner))

not_nil : (l : List Instruction) → whole_of l ≡ [] → ⊥
not_nil [] e = cc
not_nil (i ∷ l) e = cc

-- the code from here on
split : (inner : List Instruction) (i : ℕ) (item : Instruction) → i < length inner → item ≡ get_or inner i item → whole_of (drop i inner) ≡ item ∷ whole_of (drop (i + 1) inner)
split inner i item below is =
    ap whole_of (drop_more inner i item below ∙ ap (λ (x : Instruction). x ∷ drop (i + 1) inner) (sym is))

pub GoesOn-more : (function_context : FunctionContext) (start : List OpenBlock) (inner : List Instruction) (i : ℕ) (item : Instruction) (bs ds : List OpenBlock) → i < length inner → item ≡ get_or inner i item
    → GoesOn function_context start inner i bs → ((c : Context) → IsFunctionContext function_context c → StepsTo true (stepped c item bs) ds) → GoesOn function_context start inner (i + 1) ds
GoesOn-more function_context start inner i item bs ds below is before step = λ c at.
    let flat = whole_of (drop (i + 1) inner) in
    let one : Answered c item flat bs (Some ds) = subst (Answered c item flat bs) (step c at) (step_answer c item flat bs (not_nil (drop (i + 1) inner))) in
    let e = split inner i item below is in
    let b = before c at in (
      (λ q. b.0 (subst (Going c bs) (sym e) (one.1 q))),
      (λ q. one.0 (subst (Going c bs) e (b.1 q))),
    )

pub GoesOn-stops : (function_context : FunctionContext) (start : List OpenBlock) (inner : List Instruction) (i : ℕ) (item : Instruction) (bs ds : List OpenBlock) → i < length inner → item ≡ get_or inner i item
    → GoesOn function_context start inner i bs → ((c : Context) → IsFunctionContext function_context c → StepsTo false (stepped c item bs) ds) → (c : Context) → IsFunctionContext function_context c → Going c start (whole_of inner) → ⊥
GoesOn-stops function_context start inner i item bs ds below is before step c at q =
    let flat = whole_of (drop (i + 1) inner) in
    let none : Answered c item flat bs None = subst (Answered c item flat bs) (step c at) (step_answer c item flat bs (not_nil (drop (i + 1) inner))) in
    none (subst (Going c bs) (split inner i item below is) ((before c at).1 q))

pub GoesOn-ends : (function_context : FunctionContext) (start : List OpenBlock) (inner : List Instruction) (i : ℕ) (bs : List OpenBlock) (t : Bool) → length inner ≤ i → GoesOn function_context start inner i bs → t ≡ is_finished bs
    → (c : Context) → IsFunctionContext function_context c → ((t ≡ true → Going c start (whole_of inner)) × (Going c start (whole_of inner) → t ≡ true))
GoesOn-ends function_context start inner i bs t past before is c at =
    let e : whole_of (drop i inner) ≡ op.End ∷ [] = ap whole_of (drop_all i inner past) in
    let f = finish_answer c bs t is in
    let b = before c at in (
      (λ h. b.0 (subst (Going c bs) (sym e) (f.0 h))),
      (λ q. f.1 (subst (Going c bs) e (b.1 q))),
    )

-- code that doesn't end
pub no_end : (c : Context) (t : BlockType) (code : List Instruction) → ((front : List Instruction) → code ≡ front ++ op.End ∷ [] → ⊥) → Going c (new_block Block t ∷ []) code → ⊥
no_end c t code never q =
    let b = body_from c t code q in
    let e = ends_with op.End b.0 in
    never e.0 (sym b.2 ∙ e.1)

-- ---- a function

-- what a body is typed in
abbrev pub inside : Context → FuncType → Body → Context
inside c f b = record c { locals = f.params ++ local_types b.locals; returns = f.results }

pub scope_inside : (function_context : FunctionContext) (c : Context) (f : FuncType) (b : Body) → IsModuleContext function_context.module_context.now c → function_context.locals ≡ f.params ++ local_types b.locals → results_of function_context.returns ≡ f.results → IsFunctionContext function_context (inside c f b)
scope_inside function_context c f b is locals returns = record {
  module_context = record { types = is.types; functions = is.functions; table = is.table; memory = is.memory; globals = is.globals };
  locals = sym locals;
  returns = sym returns;
}

function_from : (c : Context) (f : FuncType) (b : Body) (t : BlockType) (flat : List Instruction) → results_of t ≡ f.results → flat ≡ b.code → Going (inside c f b) (new_block Block t ∷ []) flat → FunctionTyped c f b
function_from c f b t flat same is q =
    let k = body_from (inside c f b) t flat q in
    (k.0, (k.1, k.2 ∙ is), subst (λ (rs : List ValueType). Typed (inside c f b) (rs ∷ []) k.0 [] rs) same k.3)

from_function : (c : Context) (f : FuncType) (b : Body) (t : BlockType) (flat : List Instruction) → results_of t ≡ f.results → flat ≡ b.code → FunctionTyped c f b → Going (inside c f b) (new_block Block t ∷ []) flat
from_function c f b t flat same is h =
    from_body (inside c f b) t flat h.0 h.1.0 (h.1.1 ∙ sym is) (subst (λ (rs : List ValueType). Typed (inside c f b) (rs ∷ []) h.0 [] rs) (sym same) h.2)

abbrev pub Verdict : {A : Type 0} → Option A → Type 0 → Type 0
Verdict r P = MatchOption r P (λ x. P → ⊥)

pub function_answer : (function_context : FunctionContext) (f : FuncType) (b : Body) (flat : List Instruction) (r : Option ℕ) → function_context.locals ≡ f.params ++ local_types b.locals → results_of function_context.returns ≡ f.results → flat ≡ b.code
    → ((c : Context) → IsFunctionContext function_context c → Verdict r (Going c (new_block Block function_context.returns ∷ []) flat)) → (c : Context) → IsModuleContext function_context.module_context.now c → Verdict r (FunctionTyped c f b)
function_answer function_context f b flat None locals returns is h c at =
    function_from c f b function_context.returns flat returns is (h (inside c f b) (scope_inside function_context c f b at locals returns))
function_answer function_context f b flat (Some x) locals returns is h c at =
    λ k. h (inside c f b) (scope_inside function_context c f b at locals returns) (from_function c f b function_context.returns flat returns is k)

-- the type of this index
pub body_answer : (c : Context) (types : List FuncType) (x : ℕ) (f : FuncType) (b : Body) (r : Option ℕ) → Some f ≡ slice_get types x → Verdict r (FunctionTyped c f b) → Verdict r (BodyTyped c types x b)
body_answer c types x f b None e h = (f, sym e, h)
body_answer c types x f b (Some n) e h = λ k.
    let l = k.1 in
    let same : k.0 ≡ f = cc in
    h (subst (λ (g : FuncType). FunctionTyped c g b) same k.2)
