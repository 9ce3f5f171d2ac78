-- A module is read exactly where the grammar has one.
use Rattle.std.proofs.Common.{eq-eqb, ◌≡◌, ℕ, Bool, true, false, cond, eqb, leb, List, [], ◌∷◌, ◌++◌, length, Option, Some, None, Result, Ok, Err, refl, sym, ap, subst, ◌∙◌}
use Rattle.std.specs.Prelude.{unwrap_or, IfOk, IfErr, IfSome}
use Rattle.std.proofs.lemmas.Bool.{eqb-true, leb-true, le-leb}
use Rattle.std.proofs.lemmas.List.{append-nil, nil_from_length}
use Rattle.wasm_syntax.specs.declared.profile.Profile.{Profile}
use Rattle.wasm_syntax.specs.declared.fault.LoadFault.{LoadFault}
use Rattle.wasm_syntax.specs.declared.fault.LoadFault.TheVariants as faults
use Rattle.wasm_syntax.specs.declared.module.FuncType.{FuncType}
use Rattle.wasm_syntax.specs.declared.module.Body.{Body}
use Rattle.wasm_syntax.specs.declared.module.Module.{Module}
use Rattle.wasm_syntax.specs.Grammar.{Then, U32, Vector, Sized}
use Rattle.wasm_syntax.specs.Types.{SpellsFuncType, SpellsLimits, SpellsTable}
use Rattle.wasm_syntax.specs.Sections.{Customs, Section, SpellsImport, SpellsGlobal, SpellsExport, SpellsElements, BodyContent, SpellsData}
use Rattle.wasm_syntax.specs.Module.{Sections, SpellsSections, SpellsParts, SpellsWith, CountsAgree, FitsProfile, module_of}
use Rattle.wasm_module.specs.internal.ModuleReading.{preamble_at, Held, sections_of, sections_at, is_few, fits_profile, is_counted, counts_agree, module_and_count, module_from}
use Rattle.wasm_syntax.specs.Reading.{◌>>=◌, Gives, Reader, byte_at, map_at, vector_at, whole, customs_at, section_at}
use Rattle.wasm_module.proofs.Laws.{both_true, bind_some, guard_some, some_is, Front, Reads}
use Rattle.wasm_module.proofs.Combine.{then_takes, reads_byte, reads_u32, reads_vector, reads_whole}
use Rattle.wasm_module.proofs.TypeLaws.{reads_func_type, reads_limits, reads_table}
use Rattle.wasm_module.proofs.PartLaws.{reads_import, reads_global, reads_export, reads_elements, reads_body, reads_data}
use Rattle.wasm_module.proofs.Sections.{customs_take, customs_reread, Past-nil, is_new, ReadsSections, one_section, sections_then}
use Rattle.wasm_module.proofs.ModuleOf.{HeldInOrder, in_order, held_at}

-- where reading goes on after a byte, the bytes begin with it
one_byte : {Y : Type 0} (b : ℕ) (bytes : List ℕ) (f : Unit {0} × List ℕ → Option Y) (y : Y) → (byte_at b bytes >>= f) ≡ Some y → (rest : List ℕ) × (bytes ≡ b ∷ rest) × (f (tt, rest) ≡ Some y)
one_byte {Y} b bytes f y e =
    let s = bind_some (byte_at b bytes) f y e in
    let t = (reads_byte b).takes bytes s.0.0 s.0.1 s.1 in
    (s.0.1, t.parts ∙ ap (λ (x : List ℕ). x ++ s.0.1) t.spells, s.2)

-- the preamble, and bytes after it
abbrev preamble_then : List ℕ → List ℕ
preamble_then rest = 0x00 ∷ 0x61 ∷ 0x73 ∷ 0x6D ∷ 0x01 ∷ 0x00 ∷ 0x00 ∷ 0x00 ∷ rest

-- the preamble that is read
preamble_takes : (bytes : List ℕ) (x : Unit {0}) (rest : List ℕ) → preamble_at bytes ≡ Some (x, rest) → bytes ≡ preamble_then rest
unfolding preamble_at
preamble_takes bytes x rest e0 =
    let e1 = one_byte 0x00 bytes _ (x, rest) e0 in
    let e2 = one_byte 0x61 e1.0 _ (x, rest) e1.2 in
    let e3 = one_byte 0x73 e2.0 _ (x, rest) e2.2 in
    let e4 = one_byte 0x6D e3.0 _ (x, rest) e3.2 in
    let e5 = one_byte 0x01 e4.0 _ (x, rest) e4.2 in
    let e6 = one_byte 0x00 e5.0 _ (x, rest) e5.2 in
    let e7 = one_byte 0x00 e6.0 _ (x, rest) e6.2 in
    let t = (reads_byte 0x00).takes e7.0 x rest e7.2 in
    let e8 : e7.0 ≡ 0x00 ∷ rest = t.parts ∙ ap (λ (a : List ℕ). a ++ rest) t.spells in
    rw (e1.1, e2.1, e3.1, e4.1, e5.1, e6.1, e7.1, e8) refl

-- the preamble is read
preamble_again : (rest : List ℕ) → preamble_at (preamble_then rest) ≡ Some (tt, rest)
unfolding preamble_at
preamble_again rest = refl

-- the ids of these sections, the last first
abbrev ids : List ℕ
ids = 11 ∷ 10 ∷ 12 ∷ 9 ∷ 8 ∷ 7 ∷ 6 ∷ 5 ∷ 4 ∷ 3 ∷ 2 ∷ 1 ∷ []

-- a section with this id that is a vector
vector_section : {before : List ℕ} {X : Type 0} {A : List ℕ → X → Type 0} {a : Reader X} (id : ℕ) → is_new id (0 ∷ before) ≡ true → Reads X A a → ReadsSections before (id ∷ before) (Option (List X)) (Section id (Vector A)) (section_at id (whole (vector_at a)))
vector_section id new ra = one_section id new (reads_whole (reads_vector ra))

-- custom sections that are read are spelled so
customs_front : (bytes : List ℕ) (x : Unit {0}) (rest : List ℕ) → customs_at bytes ≡ Some (x, rest) → Front (Unit {0}) (λ text x. Customs text) bytes x rest
customs_front bytes x rest e = let c = customs_take bytes x rest e in record { text = c.0; spells = c.1; parts = c.2 }

-- what the sections hold, one after the other
abbrev held : Sections → Held
held s = (tt, (s.types, (s.imports, (s.functions, (s.tables, (s.memories, (s.globals, (s.exports, (s.start, (s.element_segments, (s.data_count, (s.bodies, s.data_segments))))))))))))

-- the test of the limit says no more than it
fits_take : (types : List FuncType) (functions : List ℕ) (bodies : List Body) → fits_profile types functions bodies ≡ true → FitsProfile types functions bodies
unfolding fits_profile
fits_take types [] bodies e = tt
fits_take types (f ∷ fs) [] e = tt
fits_take types (f ∷ fs) (b ∷ bs) e = let p = both_true (is_few types f b) (fits_profile types fs bs) e in (leb-true _ _ p.0, fits_take types fs bs p.1)

-- what is within the limit passes its test
fits_again : (types : List FuncType) (functions : List ℕ) (bodies : List Body) → FitsProfile types functions bodies → fits_profile types functions bodies ≡ true
unfolding fits_profile
fits_again types [] bodies h = refl
fits_again types (f ∷ fs) [] h = refl
fits_again types (f ∷ fs) (b ∷ bs) h = rw (le-leb _ _ h.0) (fits_again types fs bs h.1)

-- a count that passes is right
counted_takes : (count : Option ℕ) (n : ℕ) → is_counted count n ≡ true → IfSome count (λ c. c ≡ n)
counted_takes None n e = tt
counted_takes (Some c) n e = eqb-true _ _ e

-- a right count passes
counted_again : (count : Option ℕ) (n : ℕ) → IfSome count (λ c. c ≡ n) → is_counted count n ≡ true
counted_again None n h = refl
counted_again (Some c) n h = eq-eqb c n h

-- what passes is whole
whole_takes : (s : Sections) → counts_agree (module_of s) s.data_count ≡ true → CountsAgree s
unfolding counts_agree module_of
whole_takes s e =
    let p = both_true (fits_profile (unwrap_or s.types []) (unwrap_or s.functions []) (unwrap_or s.bodies [])) _ e in
    let q = both_true (eqb (length (unwrap_or s.functions [])) (length (unwrap_or s.bodies []))) _ p.1 in
    record { one_body_each = eqb-true _ _ q.0; data_counted = counted_takes s.data_count (length (unwrap_or s.data_segments [])) q.1; profile = fits_take _ _ _ p.0 }

-- what is whole passes
whole_again : (s : Sections) → CountsAgree s → counts_agree (module_of s) s.data_count ≡ true
unfolding counts_agree module_of
whole_again s h = rw (fits_again (unwrap_or s.types []) (unwrap_or s.functions []) (unwrap_or s.bodies []) h.profile, eq-eqb _ _ h.one_body_each, counted_again s.data_count (length (unwrap_or s.data_segments [])) h.data_counted) refl

-- what is answered once the sections are read
abbrev checked : (Module × Option ℕ) × List ℕ → Option Module
checked m = cond (eqb (length m.1) 0) (cond (counts_agree m.0.0 m.0.1) (Some m.0.0) None) None

-- where a guarded answer is given, the guard holds
some_if : {A : Type 0} (b : Bool) (o : Option A) (y : A) → cond b o None ≡ Some y → (b ≡ true) × (o ≡ Some y)
some_if true o y e = (refl, e)
some_if false o y e = absurd cc

-- ---- by what is taken

module _ (profile : Profile) where
  -- the spellings of the sections that have a place in the order
  abbrev InOrder : List ℕ → HeldInOrder → Type 0
  InOrder =
      Then (Section 1 (Vector (SpellsFuncType profile))) (
      Then (Section 2 (Vector (SpellsImport profile))) (
      Then (Section 3 (Vector U32)) (
      Then (Section 4 (Vector SpellsTable)) (
      Then (Section 5 (Vector SpellsLimits)) (
      Then (Section 6 (Vector (SpellsGlobal profile))) (
      Then (Section 7 (Vector SpellsExport)) (
      Then (Section 8 U32) (
      Then (Section 9 (Vector (SpellsElements profile))) (
      Then (Section 12 U32) (
      Then (Section 10 (Vector (Sized (BodyContent profile))))
      (Section 11 (Vector (SpellsData profile)))))))))))))

  -- the laws of these sections
  reads_in_order : ReadsSections [] ids HeldInOrder InOrder (in_order profile)
  reads_in_order =
      sections_then (vector_section 1 refl (reads_func_type profile)) (
      sections_then (vector_section 2 refl (reads_import profile)) (
      sections_then (vector_section 3 refl reads_u32) (
      sections_then (vector_section 4 refl reads_table) (
      sections_then (vector_section 5 refl reads_limits) (
      sections_then (vector_section 6 refl (reads_global profile)) (
      sections_then (vector_section 7 refl (reads_export profile)) (
      sections_then (one_section 8 refl (reads_whole reads_u32)) (
      sections_then (vector_section 9 refl (reads_elements profile)) (
      sections_then (one_section 12 refl (reads_whole reads_u32)) (
      sections_then (vector_section 10 refl (reads_body profile))
      (vector_section 11 refl (reads_data profile))))))))))))

  -- custom sections, and the others in their order
  abbrev AllSections : List ℕ → Held → Type 0
  AllSections = Then (λ text x. Customs text) InOrder

  -- sections that are read are spelled so
  all_sections_take : (bytes : List ℕ) (x : Held) (rest : List ℕ) → held_at profile bytes ≡ Some (x, rest) → Front Held AllSections bytes x rest
  all_sections_take = then_takes customs_front reads_in_order.takes

  -- sections that are spelled so are read
  all_sections_again : (text : List ℕ) (x : Held) → AllSections text x → held_at profile text ≡ Some (x, [])
  all_sections_again text x h =
      let stop = (reads_in_order.past h.1 x.1 [] (Past-nil ids) h.3).no_custom in
      let regrouped : text ≡ h.0 ++ (h.1 ++ []) = rw (append-nil h.1) h.4 in
      rw (regrouped, customs_reread h.0 (h.1 ++ []) stop h.2, reads_in_order.again h.1 x.1 [] (Past-nil ids) h.3) refl

  -- the sections as they are spelled
  sections_are : (text : List ℕ) (x : Held) → AllSections text x → SpellsSections profile text (sections_of x)
  sections_are text x h =
      let h1 = h.3 in
      let h2 = h1.3 in
      let h3 = h2.3 in
      let h4 = h3.3 in
      let h5 = h4.3 in
      let h6 = h5.3 in
      let h7 = h6.3 in
      let h8 = h7.3 in
      let h9 = h8.3 in
      let h12 = h9.3 in
      let h10 = h12.3 in
      record {
        customs = h.0;
        types = h1.0;
        imports = h2.0;
        functions = h3.0;
        tables = h4.0;
        memories = h5.0;
        globals = h6.0;
        exports = h7.0;
        start = h8.0;
        element_segments = h9.0;
        data_count = h12.0;
        bodies = h10.0;
        data_segments = h10.1;
        customs_are = h.2;
        types_are = h1.2;
        imports_are = h2.2;
        functions_are = h3.2;
        tables_are = h4.2;
        memories_are = h5.2;
        globals_are = h6.2;
        exports_are = h7.2;
        start_is = h8.2;
        element_segments_are = h9.2;
        data_count_is = h12.2;
        bodies_are = h10.2;
        data_segments_are = h10.3;
        text_is = rw (h.4, h1.4, h2.4, h3.4, h4.4, h5.4, h6.4, h7.4, h8.4, h9.4, h12.4, h10.4) refl;
      }

  -- the sections are spelled one after the other
  sections_back : (text : List ℕ) (s : Sections) → SpellsSections profile text s → AllSections text (held s)
  sections_back text s h = (h.customs, _, h.customs_are, (h.types, _, h.types_are, (h.imports, _, h.imports_are, (h.functions, _, h.functions_are, (h.tables, _, h.tables_are, (h.memories, _, h.memories_are, (h.globals, _, h.globals_are, (h.exports, _, h.exports_are, (h.start, _, h.start_is, (h.element_segments, _, h.element_segments_are, (h.data_count, _, h.data_count_is, (h.bodies, h.data_segments, h.bodies_are, h.data_segments_are, refl), refl), refl), refl), refl), refl), refl), refl), refl), refl), refl), h.text_is)

  -- the sections that are read
  sections_take : (bytes : List ℕ) (s : Sections) (rest : List ℕ) → sections_at profile bytes ≡ Some (s, rest) → Front Sections (SpellsSections profile) bytes s rest
  unfolding sections_at
  sections_take bytes s rest e =
      let q = bind_some (held_at profile bytes) (λ u. Some (sections_of u.0, u.1)) (s, rest) e in
      let f = all_sections_take bytes q.0.0 q.0.1 q.1 in
      let here : Front Sections (SpellsSections profile) bytes (sections_of q.0.0) q.0.1 = record { text = f.text; spells = sections_are f.text q.0.0 f.spells; parts = f.parts } in
      subst (λ (p : Sections × List ℕ). Front Sections (SpellsSections profile) bytes p.0 p.1) (some_is (sections_of q.0.0, q.0.1) (s, rest) q.2) here

  -- the sections are read
  sections_again : (text : List ℕ) (s : Sections) → SpellsSections profile text s → sections_at profile text ≡ Some (s, [])
  unfolding sections_at
  sections_again text s h = rw (all_sections_again text (held s) (sections_back text s h)) refl

  -- a module that is read is spelled by the bytes
  module_takes : (bytes : List ℕ) (m : Module) → module_from profile bytes ≡ Some m → SpellsWith profile bytes m
  unfolding module_from
  module_takes bytes m e =
      let g = some_if (leb (length bytes) 67108864) (preamble_at bytes >>= λ p. map_at module_and_count (sections_at profile) p.1 >>= checked) m e in
      let p = bind_some (preamble_at bytes) (λ p. map_at module_and_count (sections_at profile) p.1 >>= checked) m g.1 in
      let r = bind_some (map_at module_and_count (sections_at profile) p.0.1) checked m p.2 in
      let q = bind_some (sections_at profile p.0.1) (λ s. Some (module_and_count s.0, s.1)) r.0 r.1 in
      let s = q.0.0 in
      let is = some_is (module_and_count s, q.0.1) r.0 q.2 in
      let n = some_if (eqb (length r.0.1) 0) (cond (counts_agree r.0.0.0 r.0.0.1) (Some r.0.0.0) None) m r.2 in
      let k = guard_some (counts_agree r.0.0.0 r.0.0.1) r.0.0.0 m n.1 in
      let f = sections_take p.0.1 s q.0.1 q.1 in
      let after : q.0.1 ≡ [] = ap (λ (x : (Module × Option ℕ) × List ℕ). x.1) is ∙ nil_from_length r.0.1 (eqb-true _ _ n.0) in
      let rest-is : p.0.1 ≡ f.text = f.parts ∙ ap (λ (x : List ℕ). f.text ++ x) after ∙ append-nil f.text in
      let fits : counts_agree (module_of s) s.data_count ≡ true = ap (λ (x : (Module × Option ℕ) × List ℕ). counts_agree x.0.0 x.0.1) is ∙ k.0 in
      let spells : SpellsParts profile bytes s = record { text = f.text; short = leb-true _ _ g.0; preamble = preamble_takes bytes p.0.0 p.0.1 p.1 ∙ ap preamble_then rest-is; sections = f.spells; whole = whole_takes s fits } in
      (s, spells, sym (ap (λ (x : (Module × Option ℕ) × List ℕ). x.0.0) is ∙ k.1))

  -- a module that the bytes spell is read
  module_again : (bytes : List ℕ) (m : Module) → SpellsWith profile bytes m → module_from profile bytes ≡ Some m
  unfolding module_from
  module_again bytes m h =
      let s = h.0 in
      let parts = h.1 in
      let small : leb (length bytes) 67108864 ≡ true = le-leb _ _ parts.short in
      let pre : preamble_at bytes ≡ Some (tt, parts.text) = ap preamble_at parts.preamble ∙ preamble_again parts.text in
      rw (small, pre, sections_again parts.text s parts.sections, whole_again s parts.whole) (ap (λ (x : Module). Some x) (sym h.2))

  -- bytes spell at most one module
  pub one_module : (bytes : List ℕ) (m n : Module) → SpellsWith profile bytes m → SpellsWith profile bytes n → m ≡ n
  one_module bytes m n a b = some_is m n (sym (module_again bytes m a) ∙ module_again bytes n b)

  -- a module that is returned is spelled by the bytes
  pub is_found : (bytes : List ℕ) (r : Result Module LoadFault) → Gives (λ m. m) r (module_from profile bytes) → IfOk r (λ m. SpellsWith profile bytes m)
  is_found bytes (Ok m) given = module_takes bytes m given
  is_found bytes (Err e) given = tt

  -- bytes that are refused spell no module
  pub is_refused : (bytes : List ℕ) (r : Result Module LoadFault) → Gives (λ m. m) r (module_from profile bytes) → IfErr r (λ e. (e ≡ faults.Memory → ⊥) → (m : Module) → SpellsWith profile bytes m → ⊥)
  is_refused bytes (Ok m) given = tt
  is_refused bytes (Err e) given = λ other m h. let a : module_from profile bytes ≡ Some m = module_again bytes m h in let b : module_from profile bytes ≡ None = given other in cc
