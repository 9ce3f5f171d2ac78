-- The frames of a machine are those of the configurations that it stands for.
use Rattle.std.proofs.Common.{◌≡◌, ℕ, zero, suc, ◌+◌, ◌-◌, ◌≤◌, List, [], ◌∷◌, ◌++◌, length, Some, refl, sym, ap, ◌∙◌, subst, arith, append_assoc, append-nil, inl, inr}
use Rattle.std.specs.Prelude.{slice_get, drop, map}
use Rattle.std.proofs.lemmas.List.Folds.{drop_split}
use Rattle.std.specs.List.{slice_range}
use Rattle.wasm_syntax.specs.declared.instruction.ValueType.{ValueType}
use Rattle.wasm_syntax.specs.declared.instruction.Instruction.{Instruction}
use Rattle.wasm_syntax.specs.declared.instruction.Instruction.TheVariants as op
use Rattle.wasm_syntax.specs.declared.module.Module.{Module}
use Rattle.wasm_syntax.specs.Nested.{Instructions, done, plain, block, loop, if_then, if_else, invoke, flatten}
use Rattle.wasm_valid.specs.Validity.{IsValid}
use Rattle.wasm_store.specs.declared.linked.Linked.{Linked}
use Rattle.wasm_valid.specs.Arities.{arity}
use Rattle.wasm_branch.specs.declared.target.Target.{Target}
use Rattle.wasm_branch.specs.Effects.{effect_of, after}
use Rattle.wasm_branch.specs.BranchTargets.{target, callees}
use Rattle.wasm_steps.specs.Configuration.{Val, Instance, Code, code, label, frame, Configuration, code_of}
use Rattle.wasm_lowering.proofs.Making.{drop_here}
use Rattle.wasm_interp.specs.Stands.{IsInstanceOf}
use Rattle.wasm_interp.specs.Frames.{Frame, flat, by_end, by_else, IsLeft, IsFrameOf, AreFrames, AreCalls, AreFramesOf, frame_of}
use Rattle.wasm_operands.specs.internal.BranchTables.{OwnFunction, HasTargets, Ends}
use Rattle.wasm_operands.specs.internal.Standing.{Flat, Program, Ring, inside, Within, Caller, framed, under, IsActive, Back, Stands}
use Rattle.wasm_operands.specs.declared.activation.Activation.{Activation}
use Rattle.wasm_interp.specs.internal.Programs.{program_of}
use Rattle.wasm_interp.proofs.PlainSteps.Programs.{text_at, is_text}
use Rattle.wasm_operands.specs.internal.Awaited.{Awaited}

-- ---- what stands in a flat list

drop_past : {X : Type 0} (xs : List X) (n : ℕ) → length xs ≤ n → drop n xs ≡ []
drop_past [] zero l = refl
drop_past [] (suc n) l = refl
drop_past (x ∷ xs) zero l = absurd (omega arith)
drop_past (x ∷ xs) (suc n) l = drop_past xs n (omega arith)

seam : (a b : List Instruction) (x last : Instruction) (u v : List Instruction) → u ≡ a ++ (x ∷ []) → v ≡ b ++ (last ∷ []) → u ++ v ≡ (a ++ (x ∷ b)) ++ (last ∷ [])
seam a b x last u v p q = ap (λ z. z ++ v) p ∙ ap (λ z. (a ++ (x ∷ [])) ++ z) q ∙ append_assoc a (x ∷ []) (b ++ (last ∷ [])) ∙ sym (append_assoc a (x ∷ b) (last ∷ []))

pub flatten_flat : (last : Instruction) (is : Instructions) → flatten last is ≡ flat is ++ (last ∷ [])
flatten_flat last done = refl
flatten_flat last (plain i rest) = ap (λ z. i ∷ z) (flatten_flat last rest)
flatten_flat last (block t body rest) = ap (λ z. op.Block t ∷ z) (seam (flat body) (flat rest) op.End last (flatten op.End body) (flatten last rest) (flatten_flat op.End body) (flatten_flat last rest))
flatten_flat last (loop t body rest) = ap (λ z. op.Loop t ∷ z) (seam (flat body) (flat rest) op.End last (flatten op.End body) (flatten last rest) (flatten_flat op.End body) (flatten_flat last rest))
flatten_flat last (if_then t body rest) = ap (λ z. op.If t ∷ z) (seam (flat body) (flat rest) op.End last (flatten op.End body) (flatten last rest) (flatten_flat op.End body) (flatten_flat last rest))
flatten_flat last (if_else t body other rest) =
    let later = seam (flat other) (flat rest) op.End last (flatten op.End other) (flatten last rest) (flatten_flat op.End other) (flatten_flat last rest) in
    ap (λ z. op.If t ∷ z) (append_assoc (flatten op.Else body) (flatten op.End other) (flatten last rest)
    ∙ seam (flat body) (flat other ++ (op.End ∷ flat rest)) op.Else last (flatten op.Else body) (flatten op.End other ++ flatten last rest) (flatten_flat op.Else body) later)
flatten_flat last (invoke x rest) = flatten_flat last rest

-- a part between an opening and what ends it
parted : (list : List Instruction) (n e : ℕ) (x : Instruction) (part rest : List Instruction) → slice_get list e ≡ Some x → drop n list ≡ part ++ drop e list → drop (e + 1) list ≡ rest → drop n list ≡ part ++ (x ∷ rest)
parted list n e x part rest here before next = before ∙ ap (λ z. part ++ z) (drop_here list e x here ∙ ap (λ z. x ∷ z) next)

-- instructions that are laid out from one position to another
pub laid : (t : OwnFunction) (ls : List Target) (h pc end : ℕ) (is : Instructions) → HasTargets t ls h pc end is → drop pc t.code ≡ flat is ++ drop end t.code
laid t ls h pc end done l = ap (λ z. drop z t.code) (sym l)
laid t ls h pc end (plain i rest) l = drop_here t.code pc i l.0.code ∙ ap (λ z. i ∷ z) (laid t ls (after (effect_of (callees t.context) i) h) (pc + 1) end rest l.1)
laid t ls h pc end (block bt body rest) l =
    drop_here t.code pc (op.Block bt) l.1.code
    ∙ ap (λ z. op.Block bt ∷ z) (parted t.code (pc + 1) l.0 op.End (flat body) (flat rest ++ drop end t.code) l.3.code (laid t (target (l.0 + 1) (arity bt) h ∷ ls) h (pc + 1) l.0 body l.2) (laid t ls (arity bt + h) (l.0 + 1) end rest l.4)
    ∙ sym (append_assoc (flat body) (op.End ∷ flat rest) (drop end t.code)))
laid t ls h pc end (loop bt body rest) l =
    drop_here t.code pc (op.Loop bt) l.1.code
    ∙ ap (λ z. op.Loop bt ∷ z) (parted t.code (pc + 1) l.0 op.End (flat body) (flat rest ++ drop end t.code) l.3.code (laid t (target pc 0 h ∷ ls) h (pc + 1) l.0 body l.2) (laid t ls (arity bt + h) (l.0 + 1) end rest l.4)
    ∙ sym (append_assoc (flat body) (op.End ∷ flat rest) (drop end t.code)))
laid t ls h pc end (if_then bt body rest) l =
    drop_here t.code pc (op.If bt) l.1.code
    ∙ ap (λ z. op.If bt ∷ z) (parted t.code (pc + 1) l.0 op.End (flat body) (flat rest ++ drop end t.code) l.3.code (laid t (target (l.0 + 1) (arity bt) (h - 1) ∷ ls) (h - 1) (pc + 1) l.0 body l.2) (laid t ls (arity bt + (h - 1)) (l.0 + 1) end rest l.4)
    ∙ sym (append_assoc (flat body) (op.End ∷ flat rest) (drop end t.code)))
laid t ls h pc end (if_else bt body other rest) l =
    let behind : drop (l.0 + 1) t.code ≡ (flat other ++ (op.End ∷ flat rest)) ++ drop end t.code =
    parted t.code (l.0 + 1) l.1 op.End (flat other) (flat rest ++ drop end t.code) l.6.code (laid t (target (l.1 + 1) (arity bt) (h - 1) ∷ ls) (h - 1) (l.0 + 1) l.1 other l.5) (laid t ls (arity bt + (h - 1)) (l.1 + 1) end rest l.7)
    ∙ sym (append_assoc (flat other) (op.End ∷ flat rest) (drop end t.code)) in
    drop_here t.code pc (op.If bt) l.2.code
    ∙ ap (λ z. op.If bt ∷ z) (parted t.code (pc + 1) l.0 op.Else (flat body) ((flat other ++ (op.End ∷ flat rest)) ++ drop end t.code) l.4.code (laid t (target (l.1 + 1) (arity bt) (h - 1) ∷ ls) (h - 1) (pc + 1) l.0 body l.3) behind
    ∙ sym (append_assoc (flat body) (op.Else ∷ (flat other ++ (op.End ∷ flat rest))) (drop end t.code)))
laid t ls h pc end (invoke x rest) l = absurd l

-- ---- what is left of a function

pub left_inside : (t : OwnFunction) (rs : List Ring) (end : ℕ) (b : List ValueType) (c : Code) (all : List Instruction) → Within t rs end b → IsLeft c (drop end t.code) all → IsLeft (inside rs c) [] all
left_inside t [] end b c all w l = subst (λ z. IsLeft c z all) (ap (λ z. drop z t.code) w.0 ∙ drop_past t.code (length t.code) (omega arith)) l
left_inside t (r ∷ rs) end b c all w l = left_inside t rs w.5.end w.5.leaves (label r.below r.arity r.cont c r.rest) all w.5.goes_on (by_ends w.1) where
  behind : drop w.0 t.code ≡ flat r.rest ++ drop w.5.end t.code
  behind = laid t _ _ w.0 w.5.end r.rest w.5.branch_targets

  by_ends : Ends t end w.0 → IsLeft (label r.below r.arity r.cont c r.rest) (drop w.5.end t.code) all
  by_ends (inl (here, go)) = (
    op.End ∷ [],
    by_end,
    subst (λ z. IsLeft c z all) (drop_here t.code end op.End here.code ∙ ap (λ z. op.End ∷ z) (ap (λ z. drop z t.code) (sym go) ∙ behind)) l,
  )
  by_ends (inr (to, here, go, lt)) = (
    op.Else ∷ slice_range t.code (end + 1) w.0,
    by_else (slice_range t.code (end + 1) w.0),
    subst (λ z. IsLeft c z all) (drop_here t.code end op.Else here.code
        ∙ ap (λ z. op.Else ∷ z) (drop_split t.code (end + 1) w.0 (omega (arith, go, lt)) ∙ ap (λ z. slice_range t.code (end + 1) w.0 ++ z) behind)) l,
  )

-- ---- frames

abbrev Told : Module → Instance → Code → List Frame → Type 0
Told m i c inner = (outer all : List Frame) → all ≡ inner ++ outer → AreFrames m i c outer all

told_inside : (m : Module) (i : Instance) (rs : List Ring) (c : Code) (inner : List Frame) → Told m i c inner → Told m i (inside rs c) inner
told_inside m i [] c inner h = h
told_inside m i (r ∷ rs) c inner h = told_inside m i rs (label r.below r.arity r.cont c r.rest) inner h

module _ (m : Module) (calls : List Linked) (i : Instance) (v : IsValid m) (k : IsInstanceOf m calls i) where
  abbrev prog : Program
  prog = program_of m calls i v k

  abbrev told_as : Activation → Frame
  told_as a = frame_of a

  frame_is : (t : OwnFunction) (a : Activation) (g : List Val) (n : ℕ) (low : List Val) (c : Code) → IsActive prog t a g n low → IsLeft c [] (drop a.pc t.code) → IsFrameOf m i (told_as a) n g c
  frame_is t a g n low c active l =
      let e = text_at v.context m.types m.functions m.bodies k.owned k.are_own v.functions a.function t active.text in
      let text = is_text m calls i v k a.function t active.text in
      let flat_is : t.code ≡ flatten op.End t.nested = ap (λ (z : OwnFunction). z.code) e.is ∙ sym e.nests.1 ∙ ap (λ (z : OwnFunction). flatten op.End z.nested) (sym e.is) in
      record {
        signature = t.signature;
        body = record { locals = t.extra; code = t.nested };
        callee = text.callee;
        arity = active.arity ∙ ap length text.returns;
        locals = active.typed ∙ text.locals;
        left = subst (λ z. IsLeft c [] (drop a.pc z)) flat_is l;
      }

  told_framed : (pending : Awaited) (ks : List Caller) (fs : List Activation) (t : OwnFunction) (a : Activation) (g : List Val) (n : ℕ) (c : Code) (inner : List Frame) → IsActive prog t a g n (under ks) → Back prog pending t a.function ks fs → IsLeft c [] (drop a.pc t.code) → Told m i c inner
      → Told m i (framed pending ks n g c) (inner ++ (told_as a ∷ map told_as fs))
  told_framed pending [] [] t a g n c inner active b l h = λ outer all e. (told_as a, frame_is t a g n [] c active l, h (told_as a ∷ outer) all (e ∙ append_assoc inner (told_as a ∷ []) outer))
  told_framed pending [] (f ∷ fs) t a g n c inner active b l h = absurd b
  told_framed pending (q ∷ ks) [] t a g n c inner active b l h = absurd b
  told_framed pending (q ∷ ks) (f ∷ fs) t a g n c inner active b l h =
      let call : Code = frame q.below n g c q.rest in
      let here : Told m i call (inner ++ (told_as a ∷ [])) = λ outer all e. (told_as a, frame_is t a g n (under (q ∷ ks)) c active l, h (told_as a ∷ outer) all (e ∙ append_assoc inner (told_as a ∷ []) outer)) in
      let left : IsLeft (inside q.labels call) [] (drop f.pc b.0.code) = left_inside b.0 q.labels b.2.end b.2.leaves call (drop f.pc b.0.code) b.2.goes_on (laid b.0 _ _ f.pc b.2.end q.rest b.2.branch_targets) in
      subst (λ z. Told m i (framed pending ks q.arity q.locals (inside q.labels call)) z) (append_assoc inner (told_as a ∷ []) (told_as f ∷ map told_as fs))
      (told_framed pending ks fs b.0 f q.locals q.arity (inside q.labels call) (inner ++ (told_as a ∷ [])) b.1 b.3 left (told_inside m i q.labels call (inner ++ (told_as a ∷ [])) here))

  -- each has called the one inside it
  calls_told : (pending : Awaited) (t : OwnFunction) (a : Activation) (ks : List Caller) (fs : List Activation) → Back prog pending t a.function ks fs → AreCalls m i (told_as a ∷ map told_as fs)
  calls_told pending t a [] [] b = tt
  calls_told pending t a [] (f ∷ fs) b = absurd b
  calls_told pending t a (q ∷ ks) [] b = absurd b
  calls_told pending t a (q ∷ ks) (f ∷ fs) b =
      let e = text_at v.context m.types m.functions m.bodies k.owned k.are_own v.functions f.function b.0 b.1.text in
      let text = is_text m calls i v k f.function b.0 b.1.text in
      let flat_is : b.0.code ≡ flatten op.End b.0.nested = ap (λ (z : OwnFunction). z.code) e.is ∙ sym e.nests.1 ∙ ap (λ (z : OwnFunction). flatten op.End z.nested) (sym e.is) in (
        record {
          signature = b.0.signature;
          body = record { locals = b.0.extra; code = b.0.nested };
          callee = text.callee;
          call = b.4.call;
          behind = b.4.behind;
          instruction = b.4.instruction;
          stands = ap (λ z. slice_get z b.4.call) (sym flat_is) ∙ b.4.stands;
          calls = b.4.calls;
        },
        calls_told pending b.0 f ks fs b.3,
      )

  -- the frames of a configuration
  frames_at : (pending : Awaited) (s : Flat) (c : Configuration) → Stands prog pending s c → AreFrames m i (code_of c) [] (told_as s.current ∷ map told_as s.suspended)
  frames_at pending s c st =
      let all = told_as s.current ∷ map told_as s.suspended in
      let work : Code = inside st.labels (code st.vs st.body) in
      let left : IsLeft work [] (drop s.current.pc st.text.code) = left_inside st.text st.labels st.running.end st.running.leaves (code st.vs st.body) (drop s.current.pc st.text.code) st.running.goes_on (laid st.text _ _ s.current.pc st.running.end st.body st.running.branch_targets) in
      let told : Told m i work [] = told_inside m i st.labels (code st.vs st.body) [] (λ outer all e. e) in
      subst (λ (y : Configuration). AreFrames m i (code_of y) [] all) (sym st.is)
      (told_framed pending st.callers s.suspended st.text s.current st.locals st.arity work [] st.active st.back left told [] all (sym (append-nil all)))

  -- those of a configuration that the machine stands for within a function
  pub frames_told : (pending : Awaited) (s : Flat) (c : Configuration) → Stands prog pending s c → AreFramesOf m i c (told_as s.current ∷ map told_as s.suspended)
  frames_told pending s c st = record { frames = frames_at pending s c st; calls = calls_told pending st.text s.current st.callers s.suspended st.back }
