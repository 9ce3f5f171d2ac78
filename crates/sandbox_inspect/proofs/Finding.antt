-- Looking for the first of some, as a loop does.
use Rattle.std.proofs.Common.{◌≡◌, ℕ, suc, ◌+◌, ◌-◌, ◌<◌, ◌≤◌, ◌==◌, ◌&&◌, nat_lt, nat_le, cond, Bool, true, false, List, length, Option, Some, None, refl, ◌∙◌, ap, arith}
use Rattle.std.proofs.lemmas.Bool.{lt-ltb, le-ltb, lt-leb}
use Rattle.wasm_syntax.specs.Reading.{◌>>=◌, u32_at, sized_at, raw_of}
use Rattle.sandbox_inspect.specs.declared.sections.Wanted.{Wanted}
use Rattle.sandbox_inspect.specs.Places.{Section, section_of, is_wanted, find_section, holding_entry, nth_entry, name_among, Exported, exported_of, exports_function, exported_among}

-- of `most` turns the one after the first i
one_less : (most i : ℕ) → i < most → most - i ≡ suc (most - (i + 1))
one_less most i h = omega arith

none_left : (most i : ℕ) → most ≤ i → most - i ≡ 0
none_left most i h = omega arith

-- ---- a section

module _ (w : Wanted) (most i : ℕ) (rest : List ℕ) where
  pub find_turn : i < most → (o : Option Section) → section_of rest ≡ o → find_section w (most - i) rest ≡ (o >>= λ s. cond (is_wanted w s) (Some s) (find_section w (most - (i + 1)) s.rest))
  find_turn h o is = ap (λ (n : ℕ). find_section w n rest) (one_less most i h)
      ∙ ap (λ (o : Option Section). o >>= λ s. cond (is_wanted w s) (Some s) (find_section w (most - (i + 1)) s.rest)) is

  pub find_none : i < most → section_of rest ≡ None → find_section w (most - i) rest ≡ None
  find_none h none = find_turn h None none

  pub find_here : (s : Section) → i < most → section_of rest ≡ Some s → is_wanted w s ≡ true → find_section w (most - i) rest ≡ Some s
  find_here s h is wanted = find_turn h (Some s) is ∙ ap (λ (b : Bool). cond b (Some s) (find_section w (most - (i + 1)) s.rest)) wanted

  pub find_on : (s : Section) → i < most → section_of rest ≡ Some s → is_wanted w s ≡ false → find_section w (most - i) rest ≡ find_section w (most - (i + 1)) s.rest
  find_on s h is other = find_turn h (Some s) is ∙ ap (λ (b : Bool). cond b (Some s) (find_section w (most - (i + 1)) s.rest)) other

  pub find_done : most ≤ i → find_section w (most - i) rest ≡ None
  find_done h = ap (λ (n : ℕ). find_section w n rest) (none_left most i h)

-- ---- an entry

abbrev pub holds : ℕ → List ℕ → List ℕ → Bool
holds left entries after = nat_lt (length after) left && nat_le left (length entries)

-- the byte is in a later entry, or in an earlier one
pub holds_later : (left : ℕ) (entries after : List ℕ) → left ≤ length after → holds left entries after ≡ false
holds_later left entries after h = rw (le-ltb (length after) left h) refl

pub holds_earlier : (left : ℕ) (entries after : List ℕ) → length after < left → length entries < left → holds left entries after ≡ false
holds_earlier left entries after h g = rw (lt-ltb (length after) left h, lt-leb left (length entries) g) refl

module _ (count i left : ℕ) (rest : List ℕ) where
  pub entry_turn : i < count → (o : Option (List ℕ × List ℕ)) → sized_at raw_of rest ≡ o
      → holding_entry (count - i) i left rest ≡ (o >>= λ e. cond (holds left rest e.1) (Some i) (holding_entry (count - (i + 1)) (i + 1) left e.1))
  entry_turn h o is = ap (λ (n : ℕ). holding_entry n i left rest) (one_less count i h)
      ∙ ap (λ (o : Option (List ℕ × List ℕ)). o >>= λ e. cond (holds left rest e.1) (Some i) (holding_entry (count - (i + 1)) (i + 1) left e.1)) is

  pub entry_none : i < count → sized_at raw_of rest ≡ None → holding_entry (count - i) i left rest ≡ None
  entry_none h none = entry_turn h None none

  pub entry_here : (content after : List ℕ) → i < count → sized_at raw_of rest ≡ Some (content, after) → holds left rest after ≡ true → holding_entry (count - i) i left rest ≡ Some i
  entry_here content after h is here = entry_turn h (Some (content, after)) is ∙ ap (λ (b : Bool). cond b (Some i) (holding_entry (count - (i + 1)) (i + 1) left after)) here

  pub entry_on : (content after : List ℕ) → i < count → sized_at raw_of rest ≡ Some (content, after) → holds left rest after ≡ false
      → holding_entry (count - i) i left rest ≡ holding_entry (count - (i + 1)) (i + 1) left after
  entry_on content after h is other = entry_turn h (Some (content, after)) is ∙ ap (λ (b : Bool). cond b (Some i) (holding_entry (count - (i + 1)) (i + 1) left after)) other

  pub entry_done : count ≤ i → holding_entry (count - i) i left rest ≡ None
  entry_done h = ap (λ (n : ℕ). holding_entry n i left rest) (none_left count i h)

-- ---- the entry after so many others

module _ (before i : ℕ) (rest : List ℕ) where
  pub nth_turn : i < before → (o : Option (List ℕ × List ℕ)) → sized_at raw_of rest ≡ o → nth_entry (before - i) rest ≡ (o >>= λ e. nth_entry (before - (i + 1)) e.1)
  nth_turn h o is = ap (λ (n : ℕ). nth_entry n rest) (one_less before i h) ∙ ap (λ (o : Option (List ℕ × List ℕ)). o >>= λ e. nth_entry (before - (i + 1)) e.1) is

  pub nth_none : i < before → sized_at raw_of rest ≡ None → nth_entry (before - i) rest ≡ None
  nth_none h none = nth_turn h None none

  pub nth_on : (content after : List ℕ) → i < before → sized_at raw_of rest ≡ Some (content, after) → nth_entry (before - i) rest ≡ nth_entry (before - (i + 1)) after
  nth_on content after h is = nth_turn h (Some (content, after)) is

  pub nth_done : before ≤ i → nth_entry (before - i) rest ≡ sized_at raw_of rest
  nth_done h = ap (λ (n : ℕ). nth_entry n rest) (none_left before i h)

-- ---- a name

module _ (count i index : ℕ) (rest : List ℕ) where
  abbrev by_name : ℕ → Option (List ℕ × List ℕ) → Option (List ℕ)
  by_name found o = o >>= λ name. cond (found == index) (Some name.0) (name_among (count - (i + 1)) index name.1)

  pub name_turn : i < count → (o : Option (ℕ × List ℕ)) → u32_at rest ≡ o
      → name_among (count - i) index rest ≡ (o >>= λ n. by_name n.0 (sized_at raw_of n.1))
  name_turn h o is = ap (λ (n : ℕ). name_among n index rest) (one_less count i h)
      ∙ ap (λ (o : Option (ℕ × List ℕ)). o >>= λ n. by_name n.0 (sized_at raw_of n.1)) is

  pub name_no_index : i < count → u32_at rest ≡ None → name_among (count - i) index rest ≡ None
  name_no_index h none = name_turn h None none

  pub name_no_text : (found : ℕ) (text : List ℕ) → i < count → u32_at rest ≡ Some (found, text) → sized_at raw_of text ≡ None → name_among (count - i) index rest ≡ None
  name_no_text found text h is none = name_turn h (Some (found, text)) is ∙ ap (by_name found) none

  pub name_here : (found : ℕ) (text name after : List ℕ) → i < count → u32_at rest ≡ Some (found, text) → sized_at raw_of text ≡ Some (name, after) → (found == index) ≡ true
      → name_among (count - i) index rest ≡ Some name
  name_here found text name after h is sized here = name_turn h (Some (found, text)) is ∙ ap (by_name found) sized
      ∙ ap (λ (b : Bool). cond b (Some name) (name_among (count - (i + 1)) index after)) here

  pub name_on : (found : ℕ) (text name after : List ℕ) → i < count → u32_at rest ≡ Some (found, text) → sized_at raw_of text ≡ Some (name, after) → (found == index) ≡ false
      → name_among (count - i) index rest ≡ name_among (count - (i + 1)) index after
  name_on found text name after h is sized other = name_turn h (Some (found, text)) is ∙ ap (by_name found) sized
      ∙ ap (λ (b : Bool). cond b (Some name) (name_among (count - (i + 1)) index after)) other

  pub name_done : count ≤ i → name_among (count - i) index rest ≡ None
  name_done h = ap (λ (n : ℕ). name_among n index rest) (none_left count i h)

-- ---- an export

module _ (count i index : ℕ) (rest : List ℕ) where
  pub export_turn : i < count → (o : Option Exported) → exported_of rest ≡ o
      → exported_among (count - i) index rest ≡ (o >>= λ e. cond (exports_function index e) (Some e.name) (exported_among (count - (i + 1)) index e.rest))
  export_turn h o is = ap (λ (n : ℕ). exported_among n index rest) (one_less count i h)
      ∙ ap (λ (o : Option Exported). o >>= λ e. cond (exports_function index e) (Some e.name) (exported_among (count - (i + 1)) index e.rest)) is

  pub export_on : (e : Exported) → i < count → exported_of rest ≡ Some e → exports_function index e ≡ false → exported_among (count - i) index rest ≡ exported_among (count - (i + 1)) index e.rest
  export_on e h is other = export_turn h (Some e) is ∙ ap (λ (b : Bool). cond b (Some e.name) (exported_among (count - (i + 1)) index e.rest)) other

  pub export_none : i < count → exported_of rest ≡ None → exported_among (count - i) index rest ≡ None
  export_none h none = export_turn h None none

  pub export_here : (e : Exported) → i < count → exported_of rest ≡ Some e → exports_function index e ≡ true → exported_among (count - i) index rest ≡ Some e.name
  export_here e h is here = export_turn h (Some e) is ∙ ap (λ (b : Bool). cond b (Some e.name) (exported_among (count - (i + 1)) index e.rest)) here

  pub export_done : count ≤ i → exported_among (count - i) index rest ≡ None
  export_done h = ap (λ (n : ℕ). exported_among n index rest) (none_left count i h)
