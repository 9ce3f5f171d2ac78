-- What the loops over segments keep: from what is left it follows for the whole.
use Rattle.std.proofs.Common.{◌≡◌, ℕ, zero, suc, ◌+◌, ◌<◌, ◌≤◌, List, [], ◌∷◌, length, drop, Option, Some, refl, sym, ap, ◌∙◌, subst, arith, inl, inr, length-append, length-take, length-drop, Bool, true, false}
use Rattle.std.specs.Prelude.{slice_get}
use Rattle.std.specs.Bool.{OnTrue, OnFalse}
use Rattle.std.proofs.lemmas.List.{length-map}
use Rattle.wasm_syntax.specs.declared.module.ElementSegment.{ElementSegment}
use Rattle.wasm_syntax.specs.declared.module.DataSegment.{DataSegment}
use Rattle.wasm_store.specs.Values.{Val}
use Rattle.wasm_store.specs.Bytes.{written}
use Rattle.wasm_store.specs.Elements.{with_functions}
use Rattle.wasm_store.specs.NotStarting.{ElementsOutside, DataOutside}
use Rattle.wasm_store.specs.Instantiation.{segment_start, ElementsInside, DataInside, with_elements, with_data}
use Rattle.wasm_store.proofs.Functions.{left_from, nothing_left}

-- ---- tests of ranges

module _ (gs : List Val) (size : ℕ) where
  -- if the segments that are left are inside, all are; if one of them is outside, one of all is
  pub record ElementsChecked (es : List ElementSegment) (k : ℕ) : Type 0 where
    pub inside : ElementsInside gs size (drop k es) → ElementsInside gs size es
    pub outside : ElementsOutside gs size (drop k es) → ElementsOutside gs size es

  pub elements_none : (es : List ElementSegment) → ElementsChecked es 0
  elements_none es = record { inside = λ h. h; outside = λ h. h }

  -- a segment more that is inside
  pub elements_next : (es : List ElementSegment) (k : ℕ) (e : ElementSegment) → slice_get es k ≡ Some e → segment_start gs e.offset + length e.functions ≤ size → ElementsChecked es k → ElementsChecked es (k + 1)
  elements_next es k e s l c =
      let f = left_from es k e s in
      record {
        inside = λ h. c.inside (subst (ElementsInside gs size) (sym f) (l, h));
        outside = λ h. c.outside (subst (ElementsOutside gs size) (sym f) (inr h));
      }

  -- at the end all are inside
  pub elements_all : (es : List ElementSegment) (k : ℕ) → length es ≤ k → ElementsChecked es k → ElementsInside gs size es
  elements_all es k l c = c.inside (subst (ElementsInside gs size) (sym (nothing_left es k l)) tt)

  -- a segment is outside
  pub elements_one : (es : List ElementSegment) (k : ℕ) (e : ElementSegment) → slice_get es k ≡ Some e → size < segment_start gs e.offset + length e.functions → ElementsChecked es k → ElementsOutside gs size es
  elements_one es k e s l c = c.outside (subst (ElementsOutside gs size) (sym (left_from es k e s)) (inl l))

  -- where all are inside, each is
  pub element_inside : (es : List ElementSegment) (k : ℕ) (e : ElementSegment) → ElementsInside gs size es → slice_get es k ≡ Some e → segment_start gs e.offset + length e.functions ≤ size
  element_inside [] k e h s = cc
  element_inside (x ∷ xs) zero e h s = let f : x ≡ e = cc in subst (λ (y : ElementSegment). segment_start gs y.offset + length y.functions ≤ size) f h.0
  element_inside (x ∷ xs) (suc k) e h s = element_inside xs k e h.1 s

  -- the same for data
  pub record DataChecked (ds : List DataSegment) (k : ℕ) : Type 0 where
    pub inside : DataInside gs size (drop k ds) → DataInside gs size ds
    pub outside : DataOutside gs size (drop k ds) → DataOutside gs size ds

  pub data_none : (ds : List DataSegment) → DataChecked ds 0
  data_none ds = record { inside = λ h. h; outside = λ h. h }

  -- a segment more that is inside
  pub data_next : (ds : List DataSegment) (k : ℕ) (d : DataSegment) → slice_get ds k ≡ Some d → segment_start gs d.offset + length d.bytes ≤ size → DataChecked ds k → DataChecked ds (k + 1)
  data_next ds k d s l c =
      let f = left_from ds k d s in
      record {
        inside = λ h. c.inside (subst (DataInside gs size) (sym f) (l, h));
        outside = λ h. c.outside (subst (DataOutside gs size) (sym f) (inr h));
      }

  -- at the end all are inside
  pub data_all : (ds : List DataSegment) (k : ℕ) → length ds ≤ k → DataChecked ds k → DataInside gs size ds
  data_all ds k l c = c.inside (subst (DataInside gs size) (sym (nothing_left ds k l)) tt)

  -- a segment is outside
  pub data_one : (ds : List DataSegment) (k : ℕ) (d : DataSegment) → slice_get ds k ≡ Some d → size < segment_start gs d.offset + length d.bytes → DataChecked ds k → DataOutside gs size ds
  data_one ds k d s l c = c.outside (subst (DataOutside gs size) (sym (left_from ds k d s)) (inl l))

  -- where all are inside, each is
  pub datum_inside : (ds : List DataSegment) (k : ℕ) (d : DataSegment) → DataInside gs size ds → slice_get ds k ≡ Some d → segment_start gs d.offset + length d.bytes ≤ size
  datum_inside [] k d h s = cc
  datum_inside (x ∷ xs) zero d h s = let f : x ≡ d = cc in subst (λ (y : DataSegment). segment_start gs y.offset + length y.bytes ≤ size) f h.0
  datum_inside (x ∷ xs) (suc k) d h s = datum_inside xs k d h.1 s

-- ---- writes

module _ (gs : List Val) where
  -- this many segments are set
  pub record TableFilled (before : List (Option ℕ)) (es : List ElementSegment) (k : ℕ) (table : List (Option ℕ)) : Type 0 where
    pub same : with_elements gs table (drop k es) ≡ with_elements gs before es
    pub size : length table ≡ length before

  pub table_none : (table : List (Option ℕ)) (es : List ElementSegment) → TableFilled table es 0 table
  table_none table es = record { same = refl; size = refl }

  -- a segment more
  pub table_next : (before table table' : List (Option ℕ)) (es : List ElementSegment) (k : ℕ) (e : ElementSegment) → slice_get es k ≡ Some e → segment_start gs e.offset + length e.functions ≤ length before → table' ≡ with_functions table (segment_start gs e.offset) e.functions → TableFilled before es k table → TableFilled before es (k + 1) table'
  table_next before table table' es k e s l w f = record {
    same = ap (λ y. with_elements gs y (drop (k + 1) es)) w ∙ ap (with_elements gs table) (sym (left_from es k e s)) ∙ f.same;
    size = ap length w ∙ simp (length-append, length-take, length-drop, length-map) (omega (arith, l, f.size));
  }

  -- at the end all are set
  pub table_all : (before table : List (Option ℕ)) (es : List ElementSegment) (k : ℕ) → length es ≤ k → TableFilled before es k table → table ≡ with_elements gs before es
  table_all before table es k l f = ap (with_elements gs table) (sym (nothing_left es k l)) ∙ f.same

  -- this many segments are written
  pub record MemoryFilled (before : List ℕ) (ds : List DataSegment) (k : ℕ) (memory : List ℕ) : Type 0 where
    pub same : with_data gs memory (drop k ds) ≡ with_data gs before ds
    pub size : length memory ≡ length before

  pub memory_none : (memory : List ℕ) (ds : List DataSegment) → MemoryFilled memory ds 0 memory
  memory_none memory ds = record { same = refl; size = refl }

  -- a segment more
  pub memory_next : (before memory memory' : List ℕ) (ds : List DataSegment) (k : ℕ) (d : DataSegment) → slice_get ds k ≡ Some d → segment_start gs d.offset + length d.bytes ≤ length before → memory' ≡ written memory (segment_start gs d.offset) d.bytes → MemoryFilled before ds k memory → MemoryFilled before ds (k + 1) memory'
  memory_next before memory memory' ds k d s l w f = record {
    same = ap (λ y. with_data gs y (drop (k + 1) ds)) w ∙ ap (with_data gs memory) (sym (left_from ds k d s)) ∙ f.same;
    size = ap length w ∙ simp (length-append, length-take, length-drop) (omega (arith, l, f.size));
  }

  -- at the end all are written
  pub memory_all : (before memory : List ℕ) (ds : List DataSegment) (k : ℕ) → length ds ≤ k → MemoryFilled before ds k memory → memory ≡ with_data gs before ds
  memory_all before memory ds k l f = ap (with_data gs memory) (sym (nothing_left ds k l)) ∙ f.same

-- bytes that fit are written
pub was_written : (b : Bool) (memory memory' bytes : List ℕ) (start : ℕ) → OnTrue b ((start + length bytes ≤ length memory) × (memory' ≡ written memory start bytes)) → OnFalse b ((length memory < start + length bytes) × (memory' ≡ memory)) → start + length bytes ≤ length memory → memory' ≡ written memory start bytes
was_written true memory memory' bytes start t f l = t.1
was_written false memory memory' bytes start t f l = absurd (omega (arith, f.0, l))

-- functions that fit are set
pub was_set : (b : Bool) (table table' : List (Option ℕ)) (functions : List ℕ) (start : ℕ) → OnTrue b ((start + length functions ≤ length table) × (table' ≡ with_functions table start functions)) → OnFalse b ((length table < start + length functions) × (table' ≡ table)) → start + length functions ≤ length table → table' ≡ with_functions table start functions
was_set true table table' functions start t f l = t.1
was_set false table table' functions start t f l = absurd (omega (arith, f.0, l))
