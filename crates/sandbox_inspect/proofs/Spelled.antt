-- The bytes of a module that they spell: the entry of each function, and where in it each instruction stands.
use Rattle.std.proofs.Common.{◌≡◌, ◌≢◌, ℕ, zero, suc, ◌≤◌, cond, List, [], ◌∷◌, ◌++◌, length, take, drop, Option, Some, None, refl, sym, ap, ◌∙◌, subst, arith, append_assoc, length-append}
use Rattle.std.specs.Prelude.{slice_get, nat_lt, unwrap_or}
use Rattle.std.proofs.lemmas.Bool.{lt-ltb, ne_eqb}
use Rattle.std.proofs.lemmas.Option.{slice_get_within}
use Rattle.wasm_syntax.specs.declared.profile.Profile.{Profile}
use Rattle.wasm_syntax.specs.declared.instruction.Instruction.{Instruction}
use Rattle.wasm_syntax.specs.declared.instruction.Instruction.TheVariants as op
use Rattle.wasm_syntax.specs.declared.module.Body.{Body}
use Rattle.wasm_syntax.specs.declared.module.Module.{Module}
use Rattle.wasm_syntax.specs.Grammar.{Each, U32, Vector, Sized}
use Rattle.wasm_syntax.specs.Nested.{Instructions, done, plain, block, loop, if_then, if_else, invoke, flatten}
use Rattle.wasm_syntax.specs.Instructions.{SpellsInstruction, SpellsUpTo}
use Rattle.wasm_syntax.specs.Sections.{Custom, Section as SpellsSection, BodyContent}
use Rattle.wasm_syntax.specs.Module.{Sections, SpellsSections, SpellsWith, module_of}
use Rattle.wasm_syntax.specs.Reading.{◌>>=◌, u32_at, sized_at, raw_of}
use Rattle.wasm_module.proofs.Combine.{reads_raw, reads_sized, reads_u32}
use Rattle.wasm_valid.specs.Offsets.{StandsBehind}
use Rattle.sandbox_inspect.specs.declared.sections.Wanted.TheVariants.{Code}
use Rattle.sandbox_inspect.specs.Places.{Section, section_of, is_wanted, find_section, nth_entry, own_entry}

module _ (profile : Profile) where
  -- ---- sections

  -- a section's bytes are an id, a size and its content
  section_read : (id : ℕ) (size content rest : List ℕ) → U32 size (length content) → section_of ((id ∷ (size ++ content)) ++ rest) ≡ Some (record { from = (id ∷ (size ++ content)) ++ rest; id = id; content = content; rest = rest })
  section_read id size content rest u =
      ap (λ (o : Option (List ℕ × List ℕ)). o >>= λ s. Some (record { from = (id ∷ (size ++ content)) ++ rest; id = id; content = s.0; rest = s.1 }))
      ((reads_sized reads_raw).again (size ++ content) content rest (size, content, u, refl, refl))

  -- looking for the code section goes past these bytes
  abbrev Passes : List ℕ → Type 0
  Passes text = (n : ℕ) (rest : List ℕ) → length (text ++ rest) ≤ n → (k : ℕ) × (length rest ≤ k) × (find_section Code n (text ++ rest) ≡ find_section Code k rest)

  passes_none : (text : List ℕ) → text ≡ [] → Passes text
  passes_none [] e n rest l = (n, l, refl)
  passes_none (b ∷ bs) e n rest l = cc

  passes_both : (a b text : List ℕ) → text ≡ a ++ b → Passes a → Passes b → Passes text
  passes_both a b text e p q n rest l =
      let all : text ++ rest ≡ a ++ (b ++ rest) = ap (λ z. z ++ rest) e ∙ append_assoc a b rest in
      let x = p n (b ++ rest) (omega (arith, l, ap length all)) in
      let y = q x.0 rest x.1 in
      (y.0, y.1, ap (find_section Code n) all ∙ x.2 ∙ y.2)

  -- a section of another id
  passes_one : (id : ℕ) (size content text : List ℕ) → id ≢ 10 → U32 size (length content) → text ≡ id ∷ (size ++ content) → Passes text
  passes_one id size content text other u e zero rest l = absurd (omega (arith, l, ap length e, length-append text rest))
  passes_one id size content text other u e (suc n) rest l = (
    n,
    omega (arith, l, length-append text rest, ap length e),
    ap (λ z. find_section Code (suc n) (z ++ rest)) e
        ∙ ap (λ (o : Option Section). o >>= λ s. cond (is_wanted Code s) (Some s) (find_section Code n s.rest)) (section_read id size content rest u)
        ∙ ap (λ b. cond b (Some (record { from = (id ∷ (size ++ content)) ++ rest; id = id; content = content; rest = rest })) (find_section Code n rest)) (ne_eqb id 10 other),
  )

  passes_customs : (cs : List (List ℕ × List ℕ)) (text : List ℕ) → Each Custom text cs → Passes text
  passes_customs [] text e = passes_none text e
  passes_customs (c ∷ cs) text (front, back, (mark, sized, is_mark, (size, content, u, h, parts), whole), later, e) =
      passes_both front back text e (passes_one 0 size content front (omega arith) u (whole ∙ ap (λ z. z ++ sized) is_mark ∙ ap (λ z. 0 ∷ z) parts)) (passes_customs cs back later)

  passes_section : {X : Type 0} (id : ℕ) (A : List ℕ → X → Type 0) (text : List ℕ) (o : Option X) → id ≢ 10 → SpellsSection id A text o → Passes text
  passes_section id A text None other e = passes_none text e
  passes_section id A text (Some x) other (section, customs, (mark, sized, is_mark, (size, content, u, h, parts), whole), cs, e) =
      passes_both section customs text e (passes_one id size content section other u (whole ∙ ap (λ z. z ++ sized) is_mark ∙ ap (λ z. id ∷ z) parts)) (passes_customs cs.0 customs cs.1)

  -- what comes before the code section
  passes_before : (text : List ℕ) (s : Sections) (k : SpellsSections profile text s) → (front : List ℕ) × Passes front × (text ≡ front ++ (k.bodies ++ k.data_segments))
  passes_before text s k =
      let a = passes_customs k.customs_are.0 k.customs k.customs_are.1 in
      let b = passes_section 1 _ k.types s.types (omega arith) k.types_are in
      let c = passes_section 2 _ k.imports s.imports (omega arith) k.imports_are in
      let d = passes_section 3 _ k.functions s.functions (omega arith) k.functions_are in
      let e = passes_section 4 _ k.tables s.tables (omega arith) k.tables_are in
      let f = passes_section 5 _ k.memories s.memories (omega arith) k.memories_are in
      let g = passes_section 6 _ k.globals s.globals (omega arith) k.globals_are in
      let h = passes_section 7 _ k.exports s.exports (omega arith) k.exports_are in
      let i = passes_section 8 _ k.start s.start (omega arith) k.start_is in
      let j = passes_section 9 _ k.element_segments s.element_segments (omega arith) k.element_segments_are in
      let l = passes_section 12 _ k.data_count s.data_count (omega arith) k.data_count_is in
      let front = k.customs ++ (k.types ++ (k.imports ++ (k.functions ++ (k.tables ++ (k.memories ++ (k.globals ++ (k.exports ++ (k.start ++ (k.element_segments ++ k.data_count))))))))) in (
        front,
        passes_both k.customs _ front refl a (passes_both k.types _ _ refl b (passes_both k.imports _ _ refl c (passes_both k.functions _ _ refl d (passes_both k.tables _ _ refl e
            (passes_both k.memories _ _ refl f (passes_both k.globals _ _ refl g (passes_both k.exports _ _ refl h (passes_both k.start _ _ refl i (passes_both k.element_segments _ _ refl j l))))))))),
        k.text_is ∙ sym (simp append_assoc),
      )

  -- ---- entries

  -- an entry is read by its size
  entry_read : (front back : List ℕ) (b : Body) → Sized (BodyContent profile) front b → sized_at raw_of (front ++ back) ≡ Some (b.bytes, back)
  entry_read front back b (size, content, u, h, e) =
      (reads_sized reads_raw).again front b.bytes back (size, content, u, h.0, e)

  entries_read : (bs : List Body) (own : ℕ) (b : Body) (entries : List ℕ) → Each (Sized (BodyContent profile)) entries bs → slice_get bs own ≡ Some b → (rest : List ℕ) × (nth_entry own entries ≡ Some (b.bytes, rest))
  entries_read [] own b entries k e = cc
  entries_read (x ∷ bs) zero b entries (front, back, k, later, parts) e =
      let same : x ≡ b = cc in
      (back, ap (sized_at raw_of) parts ∙ entry_read front back x k ∙ ap (λ (y : Body). Some (y.bytes, back)) same)
  entries_read (x ∷ bs) (suc own) b entries (front, back, k, later, parts) e =
      let r = entries_read bs own b back later e in
      (r.0, ap (λ (z : List ℕ). sized_at raw_of z >>= λ e. nth_entry own e.1) parts ∙ ap (λ (o : Option (List ℕ × List ℕ)). o >>= λ e. nth_entry own e.1) (entry_read front back x k) ∙ r.1)

  -- the body of this index
  body_spelled : (bs : List Body) (own : ℕ) (b : Body) (entries : List ℕ) → Each (Sized (BodyContent profile)) entries bs → slice_get bs own ≡ Some b → BodyContent profile b.bytes b
  body_spelled [] own b entries k e = cc
  body_spelled (x ∷ bs) zero b entries (front, back, (size, content, u, h, p), later, parts) e =
      let same : x ≡ b = cc in
      subst (λ (y : Body). BodyContent profile y.bytes y) same (subst (λ z. BodyContent profile z x) h.0 h)
  body_spelled (x ∷ bs) (suc own) b entries (front, back, k, later, parts) e = body_spelled bs own b back later e

  -- ---- instructions

  each_after : {X : Type 0} (A : List ℕ → X → Type 0) (a b : List ℕ) (xs ys : List X) → Each A a xs → Each A b ys → Each A (a ++ b) (xs ++ ys)
  each_after A a b [] ys e f = subst (λ z. Each A z ys) (ap (λ z. z ++ b) (sym e)) f
  each_after A a b (x ∷ xs) ys (front, back, h, later, e) f =
      (front, back ++ b, h, each_after A back b xs ys later f, ap (λ z. z ++ b) e ∙ append_assoc front back b)

  each_one : {X : Type 0} (A : List ℕ → X → Type 0) (a b text : List ℕ) (x : X) (xs : List X) → A a x → Each A b xs → text ≡ a ++ b → Each A text (x ∷ xs)
  each_one A a b text x xs h k e = (a, b, h, k, e)

  spelled_end : SpellsInstruction profile (0x0B ∷ []) op.End
  spelled_end = ([], refl, refl)

  spelled_else : SpellsInstruction profile (0x05 ∷ []) op.Else
  spelled_else = ([], refl, refl)

  -- instructions and what ends them are spelled one after the other
  spelled_each : (last : ℕ) (end : Instruction) → SpellsInstruction profile (last ∷ []) end → (text : List ℕ) (is : Instructions) → SpellsUpTo profile last text is → Each (SpellsInstruction profile) text (flatten end is)
  spelled_each last end h text done e = (last ∷ [], [], h, refl, e)
  spelled_each last end h text (plain i rest) (a, b, p, k, r, e) = each_one (SpellsInstruction profile) a b text i _ k (spelled_each last end h b rest r) e
  spelled_each last end h text (block t body rest) (a, b, c, k, q, r, e) =
      each_one (SpellsInstruction profile) a (b ++ c) text (op.Block t) _ k (each_after (SpellsInstruction profile) b c _ _ (spelled_each 0x0B op.End spelled_end b body q) (spelled_each last end h c rest r)) (e ∙ simp append_assoc)
  spelled_each last end h text (loop t body rest) (a, b, c, k, q, r, e) =
      each_one (SpellsInstruction profile) a (b ++ c) text (op.Loop t) _ k (each_after (SpellsInstruction profile) b c _ _ (spelled_each 0x0B op.End spelled_end b body q) (spelled_each last end h c rest r)) (e ∙ simp append_assoc)
  spelled_each last end h text (if_then t body rest) (a, b, c, k, q, r, e) =
      each_one (SpellsInstruction profile) a (b ++ c) text (op.If t) _ k (each_after (SpellsInstruction profile) b c _ _ (spelled_each 0x0B op.End spelled_end b body q) (spelled_each last end h c rest r)) (e ∙ simp append_assoc)
  spelled_each last end h text (if_else t body other rest) (a, b, c, d, k, q, o, r, e) =
      each_one (SpellsInstruction profile) a ((b ++ c) ++ d) text (op.If t) _ k
      (each_after (SpellsInstruction profile) (b ++ c) d _ _ (each_after (SpellsInstruction profile) b c _ _ (spelled_each 0x05 op.Else spelled_else b body q) (spelled_each 0x0B op.End spelled_end c other o)) (spelled_each last end h d rest r))
      (e ∙ simp append_assoc)
  spelled_each last end h text (invoke x rest) e = absurd e

  -- so are the first of them
  each_front : {X : Type 0} (A : List ℕ → X → Type 0) (n : ℕ) (xs : List X) (text : List ℕ) → Each A text xs → (front : List ℕ) × (back : List ℕ) × Each A front (take n xs) × (text ≡ front ++ back)
  each_front A zero xs text k = ([], text, refl, refl)
  each_front A (suc n) [] text k = ([], text, refl, refl)
  each_front A (suc n) (x ∷ xs) text (front, back, h, later, e) =
      let r = each_front A n xs back later in
      (front ++ r.0, r.1, (front, r.0, h, r.2, refl), e ∙ ap (λ z. front ++ z) r.3 ∙ sym (append_assoc front r.0 r.1))

  stands_behind : (b : Body) (index : ℕ) → BodyContent profile b.bytes b → (before : List ℕ) × StandsBehind profile b index before
  stands_behind b index (same, (locals, code, spells_locals, (nested, upto, flat), parts)) =
      let each = subst (Each (SpellsInstruction profile) code) flat (spelled_each 0x0B op.End spelled_end code nested upto) in
      let f = each_front (SpellsInstruction profile) index b.code code each in (
        locals ++ f.0,
        record {
          locals = locals;
          instructions = f.0;
          after = f.1;
          spells_locals = spells_locals;
          spells_instructions = f.2;
          before_is = refl;
          bytes = parts ∙ ap (λ z. locals ++ z) f.3 ∙ sym (append_assoc locals f.0 f.1);
        },
      )

  -- ---- all of it

  -- the body of this index stands in its entry of the code section
  section_found : (text customs rest content size : List ℕ) (front : List ℕ) → Passes front → U32 size (length content) → (n : ℕ) → text ≡ front ++ ((10 ∷ (size ++ content)) ++ rest) → length text ≤ n
      → (s : Section) × (find_section Code n text ≡ Some s) × (s.content ≡ content)
  section_found text customs rest content size front p u n e l =
      let x = p n ((10 ∷ (size ++ content)) ++ rest) (omega (arith, l, ap length e)) in
      let found : Section = record { from = (10 ∷ (size ++ content)) ++ rest; id = 10; content = content; rest = rest } in
      (found, ap (find_section Code n) e ∙ x.2 ∙ at_once x.0 x.1, refl) where
        at_once : (k : ℕ) → length ((10 ∷ (size ++ content)) ++ rest) ≤ k → find_section Code k ((10 ∷ (size ++ content)) ++ rest) ≡ Some (record { from = (10 ∷ (size ++ content)) ++ rest; id = 10; content = content; rest = rest })
        at_once zero l = absurd (omega arith)
        at_once (suc k) l = ap (λ (o : Option Section). o >>= λ s. cond (is_wanted Code s) (Some s) (find_section Code k s.rest)) (section_read 10 size content rest u)

  some_bodies : (o : Option (List Body)) (own : ℕ) (b : Body) → slice_get (unwrap_or o []) own ≡ Some b → (bs : List Body) × (o ≡ Some bs) × (slice_get bs own ≡ Some b)
  some_bodies None own b e = cc
  some_bodies (Some bs) own b e = (bs, refl, e)

  -- the entry of a body in the code section, whatever the bytes before and after
  spelled_entry : (bytes text : List ℕ) (s : Sections) (own : ℕ) (b : Body) → drop 8 bytes ≡ text → length text ≤ length bytes → SpellsSections profile text s → slice_get (unwrap_or s.bodies []) own ≡ Some b
      → (behind : List ℕ) × (own_entry bytes own ≡ Some (b.bytes, behind)) × BodyContent profile b.bytes b
  spelled_entry bytes text s own b tail short k e =
      let (bs, is, there) = some_bodies s.bodies own b e in
      let before = passes_before text s k in
      let (section, customs, (mark, sized, is_mark, (size, content, u, (count, entries, counted, each, whole), parts), joined), cs, pieces) = subst (SpellsSection 10 (Vector (Sized (BodyContent profile))) k.bodies) is k.bodies_are in
      let section_is : section ≡ 10 ∷ (size ++ content) = joined ∙ ap (λ z. z ++ sized) is_mark ∙ ap (λ z. 10 ∷ z) parts in
      let all : text ≡ before.0 ++ ((10 ∷ (size ++ content)) ++ (customs ++ k.data_segments)) = before.2 ∙ ap (λ z. before.0 ++ (z ++ k.data_segments)) pieces ∙ ap (λ z. before.0 ++ z) (append_assoc section customs k.data_segments) ∙ ap (λ z. before.0 ++ (z ++ (customs ++ k.data_segments))) section_is in
      let f = section_found text customs (customs ++ k.data_segments) content size before.0 before.1 u (length bytes) all short in
      let r = entries_read bs own b entries each there in
      let number : u32_at f.0.content ≡ Some (length bs, entries) = ap u32_at (f.2 ∙ whole) ∙ reads_u32.again count (length bs) entries counted in (
        r.0 ++ f.0.rest,
        ap (λ z. find_section Code (length bytes) z >>= λ s. u32_at s.content >>= λ n. cond (nat_lt own n.0) (nth_entry own n.1 >>= λ x. Some (x.0, x.1 ++ s.rest)) None) tail
            ∙ ap (λ (o : Option Section). o >>= λ s. u32_at s.content >>= λ n. cond (nat_lt own n.0) (nth_entry own n.1 >>= λ x. Some (x.0, x.1 ++ s.rest)) None) f.1
            ∙ ap (λ (o : Option (ℕ × List ℕ)). o >>= λ n. cond (nat_lt own n.0) (nth_entry own n.1 >>= λ x. Some (x.0, x.1 ++ f.0.rest)) None) number
            ∙ ap (λ z. cond z (nth_entry own entries >>= λ x. Some (x.0, x.1 ++ f.0.rest)) None) (lt-ltb own (length bs) (slice_get_within bs own b there))
            ∙ ap (λ (o : Option (List ℕ × List ℕ)). o >>= λ x. Some (x.0, x.1 ++ f.0.rest)) r.1,
        body_spelled bs own b entries each there,
      )

  -- an instruction of a module that is spelled
  pub spelled_instruction : (bytes : List ℕ) (m : Module) (own : ℕ) (b : Body) (index : ℕ) → SpellsWith profile bytes m → slice_get m.bodies own ≡ Some b
      → (behind : List ℕ) × (own_entry bytes own ≡ Some (b.bytes, behind)) × (before : List ℕ) × StandsBehind profile b index before
  unfolding module_of
  spelled_instruction bytes m own b index (s, parts, is) e =
      let there : slice_get (unwrap_or s.bodies []) own ≡ Some b = ap (λ (y : Module). slice_get y.bodies own) (sym is) ∙ e in
      let f = spelled_entry bytes parts.text s own b (ap (drop 8) parts.preamble) (omega (arith, ap length parts.preamble)) parts.sections there in
      let h = stands_behind b index f.2 in
      (f.0, f.1, h.0, h.1)
