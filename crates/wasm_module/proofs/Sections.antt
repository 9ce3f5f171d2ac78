-- The laws of sections, which may be absent, and of the custom sections after them.
use Rattle.std.proofs.Common.{eq-eqb, ◌≡◌, ℕ, zero, suc, ◌≤◌, Bool, true, false, cond, eqb, List, [], ◌∷◌, ◌++◌, length, Option, Some, None, refl, sym, ap, subst, ◌∙◌, append_assoc, arith, inl, inr}
use Rattle.std.specs.List.{AllByRecursion}
use Rattle.std.proofs.lemmas.Bool.{eqb-true}
use Rattle.std.proofs.lemmas.List.{length-append}
use Rattle.wasm_syntax.specs.Grammar.{Then, Each, Sized}
use Rattle.wasm_syntax.specs.Sections.{CustomContent, Custom, Customs, Section}
use Rattle.wasm_syntax.specs.Reading.{◌>>=◌, Reader, WholeReader, next_at, begins, name_at, custom_of, sized_at, customs_from, customs_at, section_at, then_at}
use Rattle.wasm_module.proofs.Laws.{bind_some, some_is, chosen, Front, Reads, ReadsWhole}
use Rattle.wasm_module.proofs.Combine.{then_takes, reads_name, reads_sized}

-- ---- one custom section

-- what is read of a custom section: that it begins with a name
abbrev Ignored : List ℕ → Unit {0} → Type 0
Ignored content x = (c : List ℕ × List ℕ) × CustomContent content c

-- the content of a custom section
reads_ignored : ReadsWhole (Unit {0}) Ignored custom_of
unfolding custom_of
reads_ignored = record {
  takes = λ bytes x e.
      let s = bind_some (name_at bytes) (λ x. Some tt) x e in
      let f = reads_name.takes bytes s.0.0 s.0.1 s.1 in
      ((s.0.0, s.0.1), (f.text, s.0.1, f.spells, refl, f.parts));
  again = λ bytes x h.
      let whole : bytes ≡ h.1.0 ++ h.1.1 = h.1.4 in
      rw (whole, reads_name.again h.1.0 h.0.0 h.1.1 h.1.2) refl;
}

-- a custom section after its id
reads_custom : Reads (Unit {0}) (Sized Ignored) (sized_at custom_of)
reads_custom = reads_sized reads_ignored

-- a custom section that is read is one
custom_text : (text : List ℕ) → Sized Ignored text tt → (c : List ℕ × List ℕ) × Custom (0 ∷ text) c
custom_text text h = (h.3.0, (0 ∷ [], text, refl, (h.0, h.1, h.2, h.3.1, h.4), refl))

-- of a custom section its name is read
ignored_text : (text : List ℕ) (c : List ℕ × List ℕ) → Sized CustomContent text c → Sized Ignored text tt
ignored_text text c h = (h.0, h.1, h.2, (c, h.3), h.4)

-- ---- custom sections

-- what begins with a byte
starts : (id : ℕ) (bytes : List ℕ) → begins id bytes ≡ true → (rest : List ℕ) × (bytes ≡ id ∷ rest)
starts id [] e = absurd cc
starts id (b ∷ bs) e = (bs, ap (λ (c : ℕ). c ∷ bs) (eqb-true _ _ e))

-- bytes begin with their first
does_start : (id : ℕ) (bytes : List ℕ) → begins id (id ∷ bytes) ≡ true
does_start id bytes = eq-eqb id id refl

-- custom sections that are read, at most this many
customs_takes : (n : ℕ) (bytes : List ℕ) (x : Unit {0}) (rest : List ℕ) → customs_from n bytes ≡ Some (x, rest) → (text : List ℕ) × Customs text × (bytes ≡ text ++ rest)
unfolding customs_from
customs_takes zero bytes x rest e = let p = some_is (tt, bytes) (x, rest) e in ([], ([], refl), ap (λ (q : Unit {0} × List ℕ). q.1) p)
customs_takes (suc n) bytes x rest e =
    elim (chosen (begins 0 bytes) (next_at bytes >>= λ b. sized_at custom_of b.1 >>= λ x. customs_from n x.1) (Some (tt, bytes)) (Some (x, rest)) e) [
      | inl h ↦
          let at = starts 0 bytes h.0 in
          let read : (sized_at custom_of at.0 >>= λ x. customs_from n x.1) ≡ Some (x, rest) = subst (λ (bs : List ℕ). (next_at bs >>= λ b. sized_at custom_of b.1 >>= λ x. customs_from n x.1) ≡ Some (x, rest)) at.1 h.1 in
          let s = bind_some (sized_at custom_of at.0) (λ x. customs_from n x.1) (x, rest) read in
          let f = reads_custom.takes at.0 s.0.0 s.0.1 s.1 in
          let more = customs_takes n s.0.1 x rest s.2 in
          let c = custom_text f.text f.spells in
          ((0 ∷ f.text) ++ more.0, (c.0 ∷ more.1.0, (0 ∷ f.text, more.0, c.1, more.1.1, refl)), at.1 ∙ ap (λ (r : List ℕ). 0 ∷ r) (f.parts ∙ ap (λ (r : List ℕ). f.text ++ r) more.2 ∙ sym (append_assoc f.text more.0 rest)))
      | inr h ↦ let p = some_is (tt, bytes) (x, rest) h.1 in ([], ([], refl), ap (λ (q : Unit {0} × List ℕ). q.1) p)
    ]

-- custom sections are read, up to what is none
customs_again : (n : ℕ) (cs : List (List ℕ × List ℕ)) (text rest : List ℕ) → length cs ≤ n → begins 0 rest ≡ false → Each Custom text cs → customs_from n (text ++ rest) ≡ Some (tt, rest)
unfolding customs_from
customs_again zero [] text rest le stop h = rw h refl
customs_again (suc n) [] text rest le stop h = rw (h, stop) refl
customs_again zero (c ∷ cs) text rest le stop h = absurd (omega arith)
customs_again (suc n) (c ∷ cs) text rest le stop h =
    let one = h.2 in
    let whole : text ++ rest ≡ 0 ∷ (one.1 ++ (h.1 ++ rest)) = rw (h.4, one.4, one.2) (simp append_assoc) in
    ap (customs_from (suc n)) whole ∙ rw (reads_custom.again one.1 tt (h.1 ++ rest) (ignored_text one.1 c one.3), customs_again n cs h.1 rest (omega arith) stop h.3) refl

-- there are no more custom sections than bytes
each_longer : (cs : List (List ℕ × List ℕ)) (text : List ℕ) → Each Custom text cs → length cs ≤ length text
each_longer [] text h = omega arith
each_longer (c ∷ cs) text h =
    let one = h.2 in
    rw (h.4, one.4, one.2) (omega (arith, each_longer cs h.1 h.3, length-append one.1 h.1))

-- what is read is custom sections
pub customs_take : (bytes : List ℕ) (x : Unit {0}) (rest : List ℕ) → customs_at bytes ≡ Some (x, rest) → (text : List ℕ) × Customs text × (bytes ≡ text ++ rest)
unfolding customs_at
customs_take bytes x rest e = customs_takes (length bytes) bytes x rest e

-- custom sections are read
pub customs_reread : (text rest : List ℕ) → begins 0 rest ≡ false → Customs text → customs_at (text ++ rest) ≡ Some (tt, rest)
unfolding customs_at
customs_reread text rest stop h = customs_again (length (text ++ rest)) h.0 text rest (omega (arith, each_longer h.0 text h.1, length-append text rest)) stop h.1

-- ---- a section

-- a section that is there
abbrev present : {X : Type 0} → WholeReader X → Reader (Option X)
present w bytes = sized_at w bytes >>= λ x. customs_at x.1 >>= λ y. Some (Some x.0, y.1)

-- a section that is read is spelled so
section_takes : {X : Type 0} {A : List ℕ → X → Type 0} {w : WholeReader X} (id : ℕ) → ReadsWhole X A w → (bytes : List ℕ) (o : Option X) (rest : List ℕ) → section_at id w bytes ≡ Some (o, rest) → Front (Option X) (Section id A) bytes o rest
unfolding section_at
section_takes {X} {A} {w} id rw_ bytes o rest e =
    elim (chosen (begins id bytes) (next_at bytes >>= λ b. present w b.1) (Some (None, bytes)) (Some (o, rest)) e) [
      | inl h ↦
          let at = starts id bytes h.0 in
          let read : present w at.0 ≡ Some (o, rest) = subst (λ (bs : List ℕ). (next_at bs >>= λ b. present w b.1) ≡ Some (o, rest)) at.1 h.1 in
          let s = bind_some (sized_at w at.0) (λ x. customs_at x.1 >>= λ y. Some (Some x.0, y.1)) (o, rest) read in
          let t = bind_some (customs_at s.0.1) (λ y. Some (Some s.0.0, y.1)) (o, rest) s.2 in
          let f = (reads_sized rw_).takes at.0 s.0.0 s.0.1 s.1 in
          let c = customs_take s.0.1 t.0.0 t.0.1 t.1 in
          let made : Front (Option X) (Section id A) bytes (Some s.0.0) t.0.1 = record {
            text = (id ∷ f.text) ++ c.0;
            spells = (id ∷ f.text, c.0, (id ∷ [], f.text, refl, f.spells, refl), c.1, refl);
            parts = at.1 ∙ ap (λ (r : List ℕ). id ∷ r) (f.parts ∙ ap (λ (r : List ℕ). f.text ++ r) c.2 ∙ sym (append_assoc f.text c.0 t.0.1));
          } in
          subst (λ (q : Option X × List ℕ). Front (Option X) (Section id A) bytes q.0 q.1) (some_is (Some s.0.0, t.0.1) (o, rest) t.2) made
      | inr h ↦
          let made : Front (Option X) (Section id A) bytes None bytes = record { text = []; spells = refl; parts = refl } in
          subst (λ (q : Option X × List ℕ). Front (Option X) (Section id A) bytes q.0 q.1) (some_is (None, bytes) (o, rest) h.1) made
    ]

-- a section that is spelled so is read
section_again : {X : Type 0} {A : List ℕ → X → Type 0} {w : WholeReader X} (id : ℕ) → ReadsWhole X A w → (text : List ℕ) (o : Option X) (rest : List ℕ) → begins 0 rest ≡ false → begins id rest ≡ false → Section id A text o → section_at id w (text ++ rest) ≡ Some (o, rest)
unfolding section_at
section_again id rw_ text None rest stop other h = rw (h, other) refl
section_again {w = w} id rw_ text (Some x) rest stop other h =
    let one = h.2 in
    let whole : text ++ rest ≡ id ∷ (one.1 ++ (h.1 ++ rest)) = rw (h.4, one.4, one.2) (simp append_assoc) in
    ap (section_at id w) whole ∙ rw (does_start id (one.1 ++ (h.1 ++ rest)), (reads_sized rw_).again one.1 x (h.1 ++ rest) one.3, customs_reread h.1 rest stop h.3) refl

-- ---- sections in their order

-- no custom section and none of these sections begins the bytes
pub record Past (ids : List ℕ) (bytes : List ℕ) : Type 0 where
  pub no_custom : begins 0 bytes ≡ false
  pub none : AllByRecursion (λ k. begins k bytes ≡ false) ids

-- no section begins where there are no bytes
pub Past-nil : (ids : List ℕ) → Past ids []
Past-nil ids = record { no_custom = refl; none = each ids } where
  each : (ids : List ℕ) → AllByRecursion (λ k. begins k [] ≡ false) ids
  each [] = tt
  each (k ∷ ks) = (refl, each ks)

-- whether an id is none of these
abbrev pub is_new : ℕ → List ℕ → Bool
is_new id [] = true
is_new id (k ∷ ks) = cond (eqb id k) false (is_new id ks)

-- another id does not begin a section
new_begins_not : (id : ℕ) (ids : List ℕ) (bytes : List ℕ) → is_new id ids ≡ true → AllByRecursion (λ k. begins k (id ∷ bytes) ≡ false) ids
new_begins_not id [] bytes e = tt
new_begins_not id (k ∷ ks) bytes e = by_test (eqb id k) refl (new_begins_not id ks bytes) e where
  by_test : (t : Bool) → eqb id k ≡ t → (is_new id ks ≡ true → AllByRecursion (λ k. begins k (id ∷ bytes) ≡ false) ks) → cond t false (is_new id ks) ≡ true → AllByRecursion (λ k. begins k (id ∷ bytes) ≡ false) (k ∷ ks)
  by_test true is more e = absurd cc
  by_test false is more e = (is, more e)

-- before a section none of those before it begins
Past-section : (X : Type 0) (A : List ℕ → X → Type 0) (before : List ℕ) (id : ℕ) (text : List ℕ) (o : Option X) (rest : List ℕ) → is_new id (0 ∷ before) ≡ true → Past (id ∷ before) rest → Section id A text o → Past before (text ++ rest)
Past-section X A before id text None rest new past h = record { no_custom = rw h past.no_custom; none = rw h past.none.1 }
Past-section X A before id text (Some x) rest new past h =
    let one = h.2 in
    let whole : id ∷ (one.1 ++ (h.1 ++ rest)) ≡ text ++ rest = rw (h.4, one.4, one.2) (simp append_assoc) in
    let all = new_begins_not id (0 ∷ before) (one.1 ++ (h.1 ++ rest)) new in
    subst (Past before) whole (record { no_custom = all.0; none = all.1 })

-- The laws of what reads sections: none of those before begins what it reads, where none up to its last begins what follows.
pub record ReadsSections (before through : List ℕ) (X : Type 0) (S : List ℕ → X → Type 0) (r : Reader X) : Type 0 where
  pub takes : (bytes : List ℕ) (x : X) (rest : List ℕ) → r bytes ≡ Some (x, rest) → Front X S bytes x rest
  pub again : (text : List ℕ) (x : X) (rest : List ℕ) → Past through rest → S text x → r (text ++ rest) ≡ Some (x, rest)
  pub past : (text : List ℕ) (x : X) (rest : List ℕ) → Past through rest → S text x → Past before (text ++ rest)

-- one section
pub one_section : {before : List ℕ} {X : Type 0} {A : List ℕ → X → Type 0} {w : WholeReader X} (id : ℕ) → is_new id (0 ∷ before) ≡ true → ReadsWhole X A w → ReadsSections before (id ∷ before) (Option X) (Section id A) (section_at id w)
one_section {before} {X} {A} id new rw_ = record {
  takes = section_takes id rw_;
  again = λ text o rest past. section_again id rw_ text o rest past.no_custom past.none.0;
  past = λ text o rest. Past-section X A before id text o rest new;
}

-- sections, and those after them
pub sections_then : {before middle through : List ℕ} {X Y : Type 0} {A : List ℕ → X → Type 0} {B : List ℕ → Y → Type 0} {a : Reader X} {b : Reader Y} → ReadsSections before middle X A a → ReadsSections middle through Y B b → ReadsSections before through (X × Y) (Then A B) (then_at a b)
sections_then {before} ra rb = record {
  takes = then_takes ra.takes rb.takes;
  again = λ text x rest p h.
      let regrouped : text ++ rest ≡ h.0 ++ (h.1 ++ rest) = rw h.4 (append_assoc h.0 h.1 rest) in
      rw (regrouped, ra.again h.0 x.0 (h.1 ++ rest) (rb.past h.1 x.1 rest p h.3) h.2, rb.again h.1 x.1 rest p h.3) refl;
  past = λ text x rest p h.
      let regrouped : h.0 ++ (h.1 ++ rest) ≡ text ++ rest = rw h.4 (sym (append_assoc h.0 h.1 rest)) in
      subst (Past before) regrouped (ra.past h.0 x.0 (h.1 ++ rest) (rb.past h.1 x.1 rest p h.3) h.2);
}
