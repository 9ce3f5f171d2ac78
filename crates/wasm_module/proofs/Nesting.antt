-- Instructions that are read one after the other nest as the grammar has them.
use Rattle.std.proofs.Common.{◌≡◌, ℕ, zero, suc, ◌+◌, ◌-◌, ◌<◌, ◌≤◌, Bool, true, false, cond, eqb, List, [], ◌∷◌, ◌++◌, length, Option, Some, None, refl, sym, ap, subst, ◌∙◌, append_assoc, arith, inl, inr, ◌⊎◌}
use Rattle.std.proofs.lemmas.Bool.{eqb-true}
use Rattle.std.proofs.lemmas.List.{append-nil, length-append, nil_from_length}
use Rattle.wasm_syntax.specs.declared.profile.Profile.{Profile}
use Rattle.wasm_syntax.specs.declared.instruction.BlockType.{BlockType}
use Rattle.wasm_syntax.specs.declared.instruction.Instruction.{Instruction}
use Rattle.wasm_syntax.specs.declared.instruction.Instruction.TheVariants as op
use Rattle.wasm_syntax.specs.declared.open_blocks.OpenBlock.{OpenBlock}
use Rattle.wasm_syntax.specs.declared.open_blocks.OpenBlock.TheVariants.{Plain, Conditional}
use Rattle.wasm_syntax.specs.Nested.{Instructions, done, plain, block, loop, if_then, if_else, invoke, IsPlain, flatten}
use Rattle.wasm_syntax.specs.Instructions.{SpellsInstruction, SpellsUpTo, SpellsExpression}
use Rattle.wasm_syntax.specs.internal.CodeReading.{instruction_at, after_instruction, code_from, code_at}
use Rattle.wasm_syntax.specs.Reading.{◌>>=◌, Reader}
use Rattle.wasm_module.proofs.Laws.{bind_some, some_is, chosen, Front, Reads}
use Rattle.wasm_module.proofs.Loop.{with_front}
use Rattle.wasm_module.proofs.InstructionLaws.{reads_instruction}

module _ (profile : Profile) where
  -- ---- what is read nests

  -- code up to this last instruction
  pub record PartOf (last : ℕ) (lo : Instruction) (text : List ℕ) (ops : List Instruction) : Type 0 where
    pub code : Instructions
    pub spells : SpellsUpTo profile last text code
    pub flat : flatten lo code ≡ ops

  -- two things, one after the other
  pub record Both (A B : List ℕ → List Instruction → Type 0) (text : List ℕ) (ops : List Instruction) : Type 0 where
    pub front : List ℕ
    pub back : List ℕ
    pub first : List Instruction
    pub second : List Instruction
    pub a : A front first
    pub b : B back second
    pub text-is : text ≡ front ++ back
    pub ops-are : ops ≡ first ++ second

  -- what closes an open block
  abbrev Part : OpenBlock → List ℕ → List Instruction → Type 0
  Part Plain text ops = PartOf 0x0B op.End text ops
  Part Conditional text ops = PartOf 0x0B op.End text ops ⊎ Both (PartOf 0x05 op.Else) (PartOf 0x0B op.End) text ops

  -- what closes all open blocks
  abbrev Closes : List OpenBlock → List ℕ → List Instruction → Type 0
  Closes [] text ops = (text ≡ []) × (ops ≡ [])
  Closes (f ∷ fs) text ops = Both (Part f) (Closes fs) text ops

  -- what may stand at the front of code
  pub record Prefix (text : List ℕ) (ops : List Instruction) : Type 0 where
    pub then_part : (last : ℕ) (lo : Instruction) (c : List ℕ) (cs : List Instruction) → PartOf last lo c cs → PartOf last lo (text ++ c) (ops ++ cs)

  -- a plain instruction may stand at the front
  plain_first : (a : List ℕ) (o : Instruction) → IsPlain o → SpellsInstruction profile a o → Prefix a (o ∷ [])
  plain_first a o is h = record { then_part = λ last lo c cs p. record { code = plain o p.code; spells = (a, c, is, h, p.spells, refl); flat = ap (λ (os : List Instruction). o ∷ os) p.flat } }

  -- a block may stand at the front
  block_first : (a b : List ℕ) (t : BlockType) (bs : List Instruction) → SpellsInstruction profile a (op.Block t) → PartOf 0x0B op.End b bs → Prefix (a ++ b) (op.Block t ∷ bs)
  block_first a b t bs h q = record { then_part = λ last lo c cs p. record { code = block t q.code p.code; spells = (a, b, c, h, q.spells, p.spells, refl); flat = rw (q.flat, p.flat) refl } }

  -- a loop may stand at the front
  loop_first : (a b : List ℕ) (t : BlockType) (bs : List Instruction) → SpellsInstruction profile a (op.Loop t) → PartOf 0x0B op.End b bs → Prefix (a ++ b) (op.Loop t ∷ bs)
  loop_first a b t bs h q = record { then_part = λ last lo c cs p. record { code = loop t q.code p.code; spells = (a, b, c, h, q.spells, p.spells, refl); flat = rw (q.flat, p.flat) refl } }

  -- an if may stand at the front
  if_first : (a b : List ℕ) (t : BlockType) (bs : List Instruction) → SpellsInstruction profile a (op.If t) → Part Conditional b bs → Prefix (a ++ b) (op.If t ∷ bs)
  if_first a b t bs h q =
      elim q [
        | inl q ↦ record { then_part = λ last lo c cs p. record { code = if_then t q.code p.code; spells = (a, b, c, h, q.spells, p.spells, refl); flat = rw (q.flat, p.flat) refl } }
        | inr q ↦ record {
          then_part = λ last lo c cs p. record {
            code = if_else t q.a.code q.b.code p.code;
            spells = (a, q.front, q.back, c, h, q.a.spells, q.b.spells, p.spells, rw (q.text-is) (simp append_assoc));
            flat = rw (q.ops-are, q.a.flat, q.b.flat, p.flat) refl;
          };
        }
      ]

  -- more at the front of what closes one block
  first_then : (f : OpenBlock) (a : List ℕ) (os : List Instruction) (c : List ℕ) (cs : List Instruction) → Prefix a os → Part f c cs → Part f (a ++ c) (os ++ cs)
  first_then Plain a os c cs p q = p.then_part 0x0B op.End c cs q
  first_then Conditional a os c cs p q =
      elim q [
        | inl q ↦ inl (p.then_part 0x0B op.End c cs q)
        | inr q ↦ inr (record {
          front = a ++ q.front;
          back = q.back;
          first = os ++ q.first;
          second = q.second;
          a = p.then_part 0x05 op.Else q.front q.first q.a;
          b = q.b;
          text-is = rw (q.text-is) (simp append_assoc);
          ops-are = rw (q.ops-are) (simp append_assoc);
        })
      ]

  -- more at the front of what closes the blocks
  more_first : (f : OpenBlock) (fs : List OpenBlock) (a : List ℕ) (os : List Instruction) (c : List ℕ) (cs : List Instruction) → Prefix a os → Closes (f ∷ fs) c cs → Closes (f ∷ fs) (a ++ c) (os ++ cs)
  more_first f fs a os c cs p q = record {
    front = a ++ q.front;
    back = q.back;
    first = os ++ q.first;
    second = q.second;
    a = first_then f a os q.front q.first p q.a;
    b = q.b;
    text-is = rw (q.text-is) (simp append_assoc);
    ops-are = rw (q.ops-are) (simp append_assoc);
  }

  -- a block at the front
  opened : (g f : OpenBlock) (fs : List OpenBlock) (a : List ℕ) (o : Instruction) (b : List ℕ) (os : List Instruction) → ((t : List ℕ) (ts : List Instruction) → Part g t ts → Prefix (a ++ t) (o ∷ ts)) → Closes (g ∷ f ∷ fs) b os → Closes (f ∷ fs) (a ++ b) (o ∷ os)
  opened g f fs a o b os make q =
      let made = more_first f fs (a ++ q.front) (o ∷ q.first) q.back q.second (make q.front q.first q.a) q.b in
      let text-is : (a ++ q.front) ++ q.back ≡ a ++ b = rw (q.text-is) (simp append_assoc) in
      let ops-are : (o ∷ q.first) ++ q.second ≡ o ∷ os = rw (q.ops-are) refl in
      subst (λ (t : List ℕ). Closes (f ∷ fs) t (o ∷ os)) text-is (subst (Closes (f ∷ fs) ((a ++ q.front) ++ q.back)) ops-are made)

  -- an instruction that has nothing after its opcode
  bare : (a : List ℕ) (code : ℕ) (immediates : List ℕ) → immediates ≡ [] → a ≡ code ∷ immediates → a ≡ code ∷ []
  bare a code immediates none is = is ∙ ap (λ (r : List ℕ). code ∷ r) none

  -- an end closes a block
  closed : (f : OpenBlock) (a : List ℕ) → SpellsInstruction profile a op.End → Part f a (op.End ∷ [])
  closed Plain a h = record { code = done; spells = bare a 0x0B h.0 h.1 h.2; flat = refl }
  closed Conditional a h = inl (record { code = done; spells = bare a 0x0B h.0 h.1 h.2; flat = refl })

  -- an else begins the second part of an if
  elsed : (fs : List OpenBlock) (a b : List ℕ) (os : List Instruction) → SpellsInstruction profile a op.Else → Closes (Plain ∷ fs) b os → Closes (Conditional ∷ fs) (a ++ b) (op.Else ∷ os)
  elsed fs a b os h q =
      let part : Part Conditional (a ++ q.front) (op.Else ∷ q.first) = inr (record { front = a; back = q.front; first = op.Else ∷ []; second = q.first; a = record { code = done; spells = bare a 0x05 h.0 h.1 h.2; flat = refl }; b = q.a; text-is = refl; ops-are = refl }) in
      record { front = a ++ q.front; back = q.back; first = op.Else ∷ q.first; second = q.second; a = part; b = q.b; text-is = rw (q.text-is) (simp append_assoc); ops-are = rw (q.ops-are) refl }

  -- the blocks that are open
  abbrev left_open : List OpenBlock → Option (List OpenBlock)
  left_open fs = Some fs

  -- one more instruction at the front
  one_more : (o : Instruction) (fs gs : List OpenBlock) (a b : List ℕ) (os : List Instruction) → after_instruction o fs ≡ left_open gs → SpellsInstruction profile a o → Closes gs b os → Closes fs (a ++ b) (o ∷ os)
  unfolding after_instruction
  one_more o [] gs a b os e h q = absurd cc
  one_more (op.Block t) (f ∷ fs) gs a b os e h q = opened Plain f fs a (op.Block t) b os (λ x xs p. block_first a x t xs h p) (let e' : gs ≡ Plain ∷ f ∷ fs = cc in subst (λ (k : List OpenBlock). Closes k b os) e' q)
  one_more (op.Loop t) (f ∷ fs) gs a b os e h q = opened Plain f fs a (op.Loop t) b os (λ x xs p. loop_first a x t xs h p) (let e' : gs ≡ Plain ∷ f ∷ fs = cc in subst (λ (k : List OpenBlock). Closes k b os) e' q)
  one_more (op.If t) (f ∷ fs) gs a b os e h q = opened Conditional f fs a (op.If t) b os (λ x xs p. if_first a x t xs h p) (let e' : gs ≡ Conditional ∷ f ∷ fs = cc in subst (λ (k : List OpenBlock). Closes k b os) e' q)
  one_more op.Else (Plain ∷ fs) gs a b os e h q = absurd cc
  one_more op.Else (Conditional ∷ fs) gs a b os e h q =
      let e' : gs ≡ Plain ∷ fs = cc in
      elsed fs a b os h (subst (λ (k : List OpenBlock). Closes k b os) e' q)
  one_more op.End (f ∷ fs) gs a b os e h q =
      let e' : gs ≡ fs = cc in
      record { front = a; back = b; first = op.End ∷ []; second = os; a = closed f a h; b = subst (λ (k : List OpenBlock). Closes k b os) e' q; text-is = refl; ops-are = refl }
  one_more o (f ∷ fs) gs a b os e h q =
      let e' : gs ≡ f ∷ fs = cc in
      more_first f fs a (o ∷ []) b os (plain_first a o tt h) (subst (λ (k : List OpenBlock). Closes k b os) e' q)

  -- the rest of the code
  abbrev go_on : ℕ → Instruction → List OpenBlock → List ℕ → Option (List Instruction × List ℕ)
  go_on n o gs rest = cond (eqb (length gs) 0) (Some (o ∷ [], rest)) (code_from profile n gs rest >>= λ os. Some (o ∷ os.0, os.1))

  -- what is read closes all open blocks
  code_takes : (n : ℕ) (fs : List OpenBlock) (bytes : List ℕ) (ops : List Instruction) (rest : List ℕ) → code_from profile n fs bytes ≡ Some (ops, rest) → Front (List Instruction) (Closes fs) bytes ops rest
  unfolding code_from
  code_takes zero fs bytes ops rest e = absurd cc
  code_takes (suc n) fs bytes ops rest e =
      let s = bind_some (instruction_at profile bytes) (λ o. after_instruction o.0 fs >>= λ gs. go_on n o.0 gs o.1) (ops, rest) e in
      let o = s.0.0 in
      let after = s.0.1 in
      let t = bind_some (after_instruction o fs) (λ gs. go_on n o gs after) (ops, rest) s.2 in
      let gs = t.0 in
      let fo = (reads_instruction profile).takes bytes o after s.1 in
      elim (chosen (eqb (length gs) 0) (Some (o ∷ [], after)) (code_from profile n gs after >>= λ os. Some (o ∷ os.0, os.1)) (Some (ops, rest)) t.2) [
        | inl h ↦
            let none : gs ≡ [] = nil_from_length gs (eqb-true _ _ h.0) in
            let made : Closes fs (fo.text ++ []) (o ∷ []) = one_more o fs gs fo.text [] [] t.1 fo.spells (subst (λ (k : List OpenBlock). Closes k [] []) (sym none) (refl, refl)) in
            let here : Front (List Instruction) (Closes fs) bytes (o ∷ []) after = record { text = fo.text ++ []; spells = made; parts = fo.parts ∙ ap (λ (x : List ℕ). x ++ after) (sym (append-nil fo.text)) } in
            subst (λ (q : List Instruction × List ℕ). Front (List Instruction) (Closes fs) bytes q.0 q.1) (some_is (o ∷ [], after) (ops, rest) h.1) here
        | inr h ↦
            let u = bind_some (code_from profile n gs after) (λ os. Some (o ∷ os.0, os.1)) (ops, rest) h.1 in
            let more = code_takes n gs after u.0.0 u.0.1 u.1 in
            let made = one_more o fs gs fo.text more.text u.0.0 t.1 fo.spells more.spells in
            let here : Front (List Instruction) (Closes fs) bytes (o ∷ u.0.0) u.0.1 = record { text = fo.text ++ more.text; spells = made; parts = fo.parts ∙ ap (λ (r : List ℕ). fo.text ++ r) more.parts ∙ sym (append_assoc fo.text more.text u.0.1) } in
            subst (λ (q : List Instruction × List ℕ). Front (List Instruction) (Closes fs) bytes q.0 q.1) (some_is (o ∷ u.0.0, u.0.1) (ops, rest) u.2) here
      ]

  -- ---- what nests is read

  -- the code from here on, nothing where no block is open
  abbrev code_on : ℕ → List OpenBlock → Reader (List Instruction)
  code_on n [] bytes = Some ([], bytes)
  code_on n (f ∷ fs) bytes = code_from profile n (f ∷ fs) bytes

  -- what was read before, in two parts
  joined : (a b : List Instruction) (read : Option (List Instruction × List ℕ)) → with_front a (with_front b read) ≡ with_front (a ++ b) read
  joined a b (Some x) = ap (λ (os : List Instruction). Some (os, x.1)) (sym (append_assoc a b x.0))
  joined a b None = refl

  -- the rest of the code, by the open blocks
  go_on_is : (n : ℕ) (o : Instruction) (gs : List OpenBlock) (rest : List ℕ) → go_on n o gs rest ≡ with_front (o ∷ []) (code_on n gs rest)
  go_on_is n o [] rest = refl
  go_on_is n o (g ∷ gs) rest = by_test (eqb (length (g ∷ gs)) 0) refl where
    by_test : (t : Bool) → eqb (length (g ∷ gs)) 0 ≡ t → cond t (Some (o ∷ [], rest)) (code_from profile n (g ∷ gs) rest >>= λ os. Some (o ∷ os.0, os.1)) ≡ with_front (o ∷ []) (code_from profile n (g ∷ gs) rest)
    by_test true is = absurd (let z : length (g ∷ gs) ≡ 0 = eqb-true _ _ is in omega arith)
    by_test false is = refl

  -- one instruction is read
  turn : (n : ℕ) (f : OpenBlock) (fs gs : List OpenBlock) (a : List ℕ) (o : Instruction) (rest : List ℕ) → SpellsInstruction profile a o → after_instruction o (f ∷ fs) ≡ left_open gs → code_on (suc n) (f ∷ fs) (a ++ rest) ≡ with_front (o ∷ []) (code_on n gs rest)
  unfolding code_from
  turn n f fs gs a o rest h e = rw ((reads_instruction profile).again a o rest h, e) (go_on_is n o gs rest)

  -- a plain instruction leaves the open blocks
  plain_keeps : (o : Instruction) (f : OpenBlock) (fs : List OpenBlock) → IsPlain o → after_instruction o (f ∷ fs) ≡ left_open (f ∷ fs)
  unfolding after_instruction
  plain_keeps (op.Block t) f fs h = absurd h
  plain_keeps (op.Loop t) f fs h = absurd h
  plain_keeps (op.If t) f fs h = absurd h
  plain_keeps op.Else f fs h = absurd h
  plain_keeps op.End f fs h = absurd h
  plain_keeps o f fs h = refl

  -- a block is opened
  opens_block : (t : BlockType) (f : OpenBlock) (fs : List OpenBlock) → after_instruction (op.Block t) (f ∷ fs) ≡ left_open (Plain ∷ f ∷ fs)
  unfolding after_instruction
  opens_block t f fs = refl

  -- a loop is opened
  opens_loop : (t : BlockType) (f : OpenBlock) (fs : List OpenBlock) → after_instruction (op.Loop t) (f ∷ fs) ≡ left_open (Plain ∷ f ∷ fs)
  unfolding after_instruction
  opens_loop t f fs = refl

  -- an if is opened
  opens_if : (t : BlockType) (f : OpenBlock) (fs : List OpenBlock) → after_instruction (op.If t) (f ∷ fs) ≡ left_open (Conditional ∷ f ∷ fs)
  unfolding after_instruction
  opens_if t f fs = refl

  -- an end closes the innermost block
  ends_block : (f : OpenBlock) (fs : List OpenBlock) → after_instruction op.End (f ∷ fs) ≡ left_open fs
  unfolding after_instruction
  ends_block f fs = refl

  -- an else turns the open if into a block
  turns_else : (fs : List OpenBlock) → after_instruction op.Else (Conditional ∷ fs) ≡ left_open (Plain ∷ fs)
  unfolding after_instruction
  turns_else fs = refl

  -- a block's beginning, what closes it, and the code after it
  nested : (o : Instruction) (bs cs : List Instruction) (g f : OpenBlock) (fs gs : List OpenBlock) (a b c text rest : List ℕ) (k : ℕ) → SpellsInstruction profile a o → after_instruction o (f ∷ fs) ≡ left_open (g ∷ f ∷ fs)
      → ((r : List ℕ) (j : ℕ) → code_on (length bs + j) (g ∷ f ∷ fs) (b ++ r) ≡ with_front bs (code_on j (f ∷ fs) r))
      → code_on (length cs + k) (f ∷ fs) (c ++ rest) ≡ with_front cs (code_on k gs rest) → text ≡ a ++ b ++ c
      → code_on (length (o ∷ bs ++ cs) + k) (f ∷ fs) (text ++ rest) ≡ with_front (o ∷ bs ++ cs) (code_on k gs rest)
  nested o bs cs g f fs gs a b c text rest k h e inner more text-is =
      let n : length (o ∷ bs ++ cs) + k ≡ suc (length bs + (length cs + k)) = omega (arith, length-append bs cs) in
      let whole : text ++ rest ≡ a ++ (b ++ (c ++ rest)) = rw text-is (simp append_assoc) in
      let after : code_on (length bs + (length cs + k)) (g ∷ f ∷ fs) (b ++ (c ++ rest)) ≡ with_front (bs ++ cs) (code_on k gs rest) = inner (c ++ rest) (length cs + k) ∙ ap (with_front bs) more ∙ joined bs cs (code_on k gs rest) in
      ap (λ (m : ℕ). code_on m (f ∷ fs) (text ++ rest)) n ∙ ap (code_on (suc (length bs + (length cs + k))) (f ∷ fs)) whole ∙ turn (length bs + (length cs + k)) f fs (g ∷ f ∷ fs) a o (b ++ (c ++ rest)) h e ∙ ap (with_front (o ∷ [])) after ∙ joined (o ∷ []) (bs ++ cs) (code_on k gs rest)

  -- the two parts of an if
  two : (bs cs : List Instruction) (g f : OpenBlock) (fs gs : List OpenBlock) (b c rest : List ℕ) (k : ℕ)
      → ((r : List ℕ) (j : ℕ) → code_on (length bs + j) (g ∷ fs) (b ++ r) ≡ with_front bs (code_on j (f ∷ fs) r))
      → code_on (length cs + k) (f ∷ fs) (c ++ rest) ≡ with_front cs (code_on k gs rest)
      → code_on (length (bs ++ cs) + k) (g ∷ fs) ((b ++ c) ++ rest) ≡ with_front (bs ++ cs) (code_on k gs rest)
  two bs cs g f fs gs b c rest k inner more =
      let n : length (bs ++ cs) + k ≡ length bs + (length cs + k) = omega (arith, length-append bs cs) in
      ap (λ (m : ℕ). code_on m (g ∷ fs) ((b ++ c) ++ rest)) n ∙ ap (code_on (length bs + (length cs + k)) (g ∷ fs)) (append_assoc b c rest) ∙ inner (c ++ rest) (length cs + k) ∙ ap (with_front bs) more ∙ joined bs cs (code_on k gs rest)

  -- code that is spelled up to its end is read
  part_again : (code : Instructions) (last : ℕ) (lo : Instruction) (f : OpenBlock) (fs gs : List OpenBlock) (text rest : List ℕ) (k : ℕ) → SpellsInstruction profile (last ∷ []) lo → after_instruction lo (f ∷ fs) ≡ left_open gs → SpellsUpTo profile last text code → code_on (length (flatten lo code) + k) (f ∷ fs) (text ++ rest) ≡ with_front (flatten lo code) (code_on k gs rest)
  part_again done last lo f fs gs text rest k h e p =
      let n : 1 + k ≡ suc k = omega arith in
      rw (n, p) (turn k f fs gs (last ∷ []) lo rest h e)
  part_again (plain o more) last lo f fs gs text rest k h e p =
      let os = flatten lo more in
      let n : suc (length os) + k ≡ suc (length os + k) = omega arith in
      let text-is : text ++ rest ≡ p.0 ++ (p.1 ++ rest) = rw p.5 (append_assoc p.0 p.1 rest) in
      rw (n, text-is) (turn (length os + k) f fs (f ∷ fs) p.0 o (p.1 ++ rest) p.3 (plain_keeps o f fs p.2) ∙ ap (with_front (o ∷ [])) (part_again more last lo f fs gs p.1 rest k h e p.4) ∙ joined (o ∷ []) os (code_on k gs rest))
  part_again (block t body more) last lo f fs gs text rest k h e p =
      nested (op.Block t) (flatten op.End body) (flatten lo more) Plain f fs gs p.0 p.1 p.2 text rest k p.3 (opens_block t f fs) (λ r j. part_again body 0x0B op.End Plain (f ∷ fs) (f ∷ fs) p.1 r j ([], refl, refl) (ends_block Plain (f ∷ fs)) p.4) (part_again more last lo f fs gs p.2 rest k h e p.5) p.6
  part_again (loop t body more) last lo f fs gs text rest k h e p =
      nested (op.Loop t) (flatten op.End body) (flatten lo more) Plain f fs gs p.0 p.1 p.2 text rest k p.3 (opens_loop t f fs) (λ r j. part_again body 0x0B op.End Plain (f ∷ fs) (f ∷ fs) p.1 r j ([], refl, refl) (ends_block Plain (f ∷ fs)) p.4) (part_again more last lo f fs gs p.2 rest k h e p.5) p.6
  part_again (if_then t body more) last lo f fs gs text rest k h e p =
      nested (op.If t) (flatten op.End body) (flatten lo more) Conditional f fs gs p.0 p.1 p.2 text rest k p.3 (opens_if t f fs) (λ r j. part_again body 0x0B op.End Conditional (f ∷ fs) (f ∷ fs) p.1 r j ([], refl, refl) (ends_block Conditional (f ∷ fs)) p.4) (part_again more last lo f fs gs p.2 rest k h e p.5) p.6
  part_again (if_else t body other more) last lo f fs gs text rest k h e p =
      let both = λ (r : List ℕ) (j : ℕ). two (flatten op.Else body) (flatten op.End other) Conditional Plain (f ∷ fs) (f ∷ fs) p.1 p.2 r j (λ r j. part_again body 0x05 op.Else Conditional (f ∷ fs) (Plain ∷ f ∷ fs) p.1 r j ([], refl, refl) (turns_else (f ∷ fs)) p.5) (part_again other 0x0B op.End Plain (f ∷ fs) (f ∷ fs) p.2 r j ([], refl, refl) (ends_block Plain (f ∷ fs)) p.6) in
      let text-is : text ≡ p.0 ++ (p.1 ++ p.2) ++ p.3 = rw p.8 (simp append_assoc) in
      nested (op.If t) (flatten op.Else body ++ flatten op.End other) (flatten lo more) Conditional f fs gs p.0 (p.1 ++ p.2) p.3 text rest k p.4 (opens_if t f fs) both (part_again more last lo f fs gs p.3 rest k h e p.7) text-is
  part_again (invoke x more) last lo f fs gs text rest k h e p = absurd p

  -- ---- an expression

  -- an instruction has a byte at least
  not_empty : (a : List ℕ) (o : Instruction) → SpellsInstruction profile a o → 0 < length a
  not_empty a o h = rw h.2 (omega arith)

  -- code has no more instructions than bytes
  not_longer : (code : Instructions) (last : ℕ) (lo : Instruction) (text : List ℕ) → SpellsUpTo profile last text code → length (flatten lo code) ≤ length text
  not_longer done last lo text p = rw p (omega arith)
  not_longer (plain o more) last lo text p = rw p.5 (omega (arith, length-append p.0 p.1, not_empty p.0 o p.3, not_longer more last lo p.1 p.4))
  not_longer (block t body more) last lo text p = rw p.6 (omega (arith, length-append (p.0 ++ p.1) p.2, length-append p.0 p.1, length-append (flatten op.End body) (flatten lo more), not_empty p.0 (op.Block t) p.3, not_longer body 0x0B op.End p.1 p.4, not_longer more last lo p.2 p.5))
  not_longer (loop t body more) last lo text p = rw p.6 (omega (arith, length-append (p.0 ++ p.1) p.2, length-append p.0 p.1, length-append (flatten op.End body) (flatten lo more), not_empty p.0 (op.Loop t) p.3, not_longer body 0x0B op.End p.1 p.4, not_longer more last lo p.2 p.5))
  not_longer (if_then t body more) last lo text p = rw p.6 (omega (arith, length-append (p.0 ++ p.1) p.2, length-append p.0 p.1, length-append (flatten op.End body) (flatten lo more), not_empty p.0 (op.If t) p.3, not_longer body 0x0B op.End p.1 p.4, not_longer more last lo p.2 p.5))
  not_longer (if_else t body other more) last lo text p = rw p.8 (omega (arith, length-append (p.0 ++ p.1 ++ p.2) p.3, length-append (p.0 ++ p.1) p.2, length-append p.0 p.1, length-append (flatten op.Else body ++ flatten op.End other) (flatten lo more), length-append (flatten op.Else body) (flatten op.End other), not_empty p.0 (op.If t) p.4, not_longer body 0x05 op.Else p.1 p.5, not_longer other 0x0B op.End p.2 p.6, not_longer more last lo p.3 p.7))
  not_longer (invoke x more) last lo text p = absurd p

  -- what closes the block of an expression is an expression
  alone_is : (text : List ℕ) (ops : List Instruction) → Closes (Plain ∷ []) text ops → SpellsExpression profile text ops
  alone_is text ops q =
      let text-is : q.front ≡ text = sym (q.text-is ∙ ap (λ (r : List ℕ). q.front ++ r) q.b.0 ∙ append-nil q.front) in
      let ops-are : q.first ≡ ops = sym (q.ops-are ∙ ap (λ (r : List Instruction). q.first ++ r) q.b.1 ∙ append-nil q.first) in
      (q.a.code, subst (λ (t : List ℕ). SpellsUpTo profile 0x0B t q.a.code) text-is q.a.spells, q.a.flat ∙ ops-are)

  -- expressions
  pub reads_code : Reads (List Instruction) (SpellsExpression profile) (code_at profile)
  unfolding code_at
  reads_code = record {
    takes = λ bytes ops rest e.
        let f = code_takes (length bytes) (Plain ∷ []) bytes ops rest e in
        record { text = f.text; spells = alone_is f.text ops f.spells; parts = f.parts };
    again = λ text ops rest h.
        let os = flatten op.End h.0 in
        let short = not_longer h.0 0x0B op.End text h.1 in
        let n : length (text ++ rest) ≡ length os + (length (text ++ rest) - length os) = omega (arith, length-append text rest) in
        let p = part_again h.0 0x0B op.End Plain [] [] text rest (length (text ++ rest) - length os) ([], refl, refl) (ends_block Plain []) h.1 in
        let all : os ++ [] ≡ ops = append-nil os ∙ h.2 in
        ap (λ (m : ℕ). code_from profile m (Plain ∷ []) (text ++ rest)) n ∙ p ∙ ap (λ (x : List Instruction). Some (x, rest)) all;
  }
