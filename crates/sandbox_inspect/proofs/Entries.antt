-- Where an entry of the code section stands among the bytes.
use Rattle.std.specs.Prelude.{nat_lt}
use Rattle.std.specs.Option.{option_map}
use Rattle.std.proofs.Common.{◌≡◌, ℕ, zero, suc, ◌+◌, cond, Bool, true, false, List, [], ◌∷◌, ◌++◌, length, take, drop, Option, Some, None, refl, sym, ap, ◌∙◌, append_assoc, length-append}
use Rattle.std.proofs.lemmas.List.{take-append-drop}
use Rattle.wasm_syntax.specs.Reading.{◌>>=◌, u32_at, sized_at, raw_of}
use Rattle.wasm_module.proofs.Laws.{bind_some, some_is}
use Rattle.wasm_module.proofs.Combine.{reads_raw, reads_sized, reads_u32}
use Rattle.sandbox_inspect.specs.declared.sections.Wanted.{Wanted}
use Rattle.sandbox_inspect.specs.declared.sections.Wanted.TheVariants.{Code}
use Rattle.sandbox_inspect.specs.Places.{Section, section_of, is_wanted, find_section, module_section, nth_entry, own_entry}

-- some bytes end with these
abbrev pub EndsWith : List ℕ → List ℕ → Type 0
EndsWith bytes last = (front : List ℕ) × (bytes ≡ front ++ last)

ends_within : (bytes middle last : List ℕ) → EndsWith bytes middle → EndsWith middle last → EndsWith bytes last
ends_within bytes middle last (f, e) (g, h) = (f ++ g, e ∙ ap (λ z. f ++ z) h ∙ sym (append_assoc f g last))

number_ends : (bytes : List ℕ) (n : ℕ) (rest : List ℕ) → u32_at bytes ≡ Some (n, rest) → EndsWith bytes rest
number_ends bytes n rest e = let f = reads_u32.takes bytes n rest e in (f.text, f.parts)

sized_ends : (bytes content rest : List ℕ) → sized_at raw_of bytes ≡ Some (content, rest) → EndsWith bytes (content ++ rest)
sized_ends bytes content rest e =
    let f = (reads_sized reads_raw).takes bytes content rest e in
    (f.spells.0, f.parts ∙ ap (λ z. z ++ rest) (f.spells.4 ∙ ap (λ z. f.spells.0 ++ z) f.spells.3) ∙ append_assoc f.spells.0 content rest)

section_ends : (bytes : List ℕ) (s : Section) → section_of bytes ≡ Some s → EndsWith bytes (s.content ++ s.rest)
section_ends [] s e = cc
section_ends (b ∷ bytes) s e =
    let k = bind_some (sized_at raw_of bytes) (λ c. Some (record { from = b ∷ bytes; id = b; content = c.0; rest = c.1 })) s e in
    let same : record { from = b ∷ bytes; id = b; content = k.0.0; rest = k.0.1 } ≡ s = some_is _ _ k.2 in
    let f = sized_ends bytes k.0.0 k.0.1 k.1 in
    (b ∷ f.0, ap (λ z. b ∷ z) f.1 ∙ ap (λ (s : Section). b ∷ (f.0 ++ (s.content ++ s.rest))) same)

-- what stands behind a section's content ends the bytes
behind_ends : (bytes content rest : List ℕ) → EndsWith bytes (content ++ rest) → EndsWith bytes rest
behind_ends bytes content rest (f, e) = (f ++ content, e ∙ sym (append_assoc f content rest))

find_ends : (w : Wanted) (n : ℕ) (bytes : List ℕ) (s : Section) → find_section w n bytes ≡ Some s → EndsWith bytes (s.content ++ s.rest)
find_ends w zero bytes s e = cc
find_ends w (suc n) bytes s e = by_turn (λ f. find_ends w n k.0.rest s f) (is_wanted w k.0) refl where
  k : (t : Section) × (section_of bytes ≡ Some t) × (cond (is_wanted w t) (Some t) (find_section w n t.rest) ≡ Some s)
  k = bind_some (section_of bytes) (λ t. cond (is_wanted w t) (Some t) (find_section w n t.rest)) s e

  here : EndsWith bytes (k.0.content ++ k.0.rest)
  here = section_ends bytes k.0 k.1

  by_turn : (find_section w n k.0.rest ≡ Some s → EndsWith k.0.rest (s.content ++ s.rest)) → (b : Bool) → is_wanted w k.0 ≡ b → EndsWith bytes (s.content ++ s.rest)
  by_turn later true is =
      let same : k.0 ≡ s = some_is _ _ (sym (ap (λ z. cond z (Some k.0) (find_section w n k.0.rest)) is) ∙ k.2) in
      (here.0, here.1 ∙ ap (λ (t : Section). here.0 ++ (t.content ++ t.rest)) same)
  by_turn later false is =
      let found : find_section w n k.0.rest ≡ Some s = sym (ap (λ z. cond z (Some k.0) (find_section w n k.0.rest)) is) ∙ k.2 in
      ends_within bytes k.0.rest (s.content ++ s.rest) (behind_ends bytes k.0.content k.0.rest here) (later found)

pub module_ends : (w : Wanted) (bytes : List ℕ) (s : Section) → module_section w bytes ≡ Some s → EndsWith bytes (s.content ++ s.rest)
module_ends w bytes s e = ends_within bytes (drop 8 bytes) (s.content ++ s.rest) (take 8 bytes, sym (take-append-drop 8 bytes)) (find_ends w (length bytes) (drop 8 bytes) s e)

pub entry_ends : (n : ℕ) (entries content rest : List ℕ) → nth_entry n entries ≡ Some (content, rest) → EndsWith entries (content ++ rest)
entry_ends zero entries content rest e = sized_ends entries content rest e
entry_ends (suc n) entries content rest e =
    let k = bind_some (sized_at raw_of entries) (λ c. nth_entry n c.1) (content, rest) e in
    ends_within entries k.0.1 (content ++ rest) (behind_ends entries k.0.0 k.0.1 (sized_ends entries k.0.0 k.0.1 k.1)) (entry_ends n k.0.1 content rest k.2)

-- the content of an entry, and all that stands behind it
pub held_ends : (bytes : List ℕ) (s : Section) (count own : ℕ) (entries content after : List ℕ) → module_section Code bytes ≡ Some s → u32_at s.content ≡ Some (count, entries) → nth_entry own entries ≡ Some (content, after)
    → EndsWith bytes (content ++ (after ++ s.rest))
held_ends bytes s count own entries content after e f g =
    let outer = module_ends Code bytes s e in
    let inner = ends_within s.content entries (content ++ after) (number_ends s.content count entries f) (entry_ends own entries content after g) in (
      outer.0 ++ inner.0,
      outer.1 ∙ ap (λ z. outer.0 ++ (z ++ s.rest)) inner.1
          ∙ ap (λ z. outer.0 ++ z) (append_assoc inner.0 (content ++ after) s.rest ∙ ap (λ z. inner.0 ++ z) (append_assoc content after s.rest))
          ∙ sym (append_assoc outer.0 inner.0 (content ++ (after ++ s.rest))),
    )

pub own_ends : (bytes : List ℕ) (own : ℕ) (content behind : List ℕ) → own_entry bytes own ≡ Some (content, behind) → EndsWith bytes (content ++ behind)
own_ends bytes own content behind e =
    let k = bind_some (module_section Code bytes) _ (content, behind) e in
    let n = bind_some (u32_at k.0.content) _ (content, behind) k.2 in
    by_count k.0 k.1 n.0.0 n.0.1 n.1 (nat_lt own n.0.0) n.2 where
      by_count : (s : Section) → module_section Code bytes ≡ Some s → (count : ℕ) (entries : List ℕ) → u32_at s.content ≡ Some (count, entries) → (b : Bool)
          → cond b (◌>>=◌ {B = List ℕ × List ℕ} (nth_entry own entries) (λ x. Some (x.0, x.1 ++ s.rest))) None ≡ Some (content, behind) → EndsWith bytes (content ++ behind)
      by_count s es count entries ec true f =
          let x = bind_some {B = List ℕ × List ℕ} (nth_entry own entries) (λ x. Some (x.0, x.1 ++ s.rest)) (content, behind) f in
          let same : (x.0.0, x.0.1 ++ s.rest) ≡ (content, behind) = some_is _ _ x.2 in
          let h = held_ends bytes s count own entries x.0.0 x.0.1 es ec x.1 in
          (h.0, h.1 ∙ ap (λ (z : List ℕ × List ℕ). h.0 ++ (z.0 ++ z.1)) same)
      by_count s es count entries ec false f = cc

-- as a function has it that gives how many bytes stand behind
mapped : (o : Option (List ℕ × List ℕ)) (content : List ℕ) (n : ℕ) → Some (content, n) ≡ option_map {U = List ℕ × ℕ} (λ e. (e.0, length e.1)) o → (behind : List ℕ) × (o ≡ Some (content, behind)) × (n ≡ length behind)
mapped None content n h = cc
mapped (Some e) content n h =
    let p : (content, n) ≡ (e.0, length e.1) = some_is _ _ h in
    (e.1, ap (λ (x : List ℕ). Some (x, e.1)) (sym (ap (λ (x : List ℕ × ℕ). x.0) p)), ap (λ (x : List ℕ × ℕ). x.1) p)

pub held : (bytes : List ℕ) (own : ℕ) (content : List ℕ) (n : ℕ) → Some (content, n) ≡ option_map {U = List ℕ × ℕ} (λ e. (e.0, length e.1)) (own_entry bytes own)
    → (behind : List ℕ) × (own_entry bytes own ≡ Some (content, behind)) × (n ≡ length behind) × (front : List ℕ) × (bytes ≡ front ++ (content ++ behind)) × (length bytes ≡ length front + (length content + length behind))
held bytes own content n h =
    let m = mapped (own_entry bytes own) content n h in
    let e = own_ends bytes own content m.0 m.1 in
    (m.0, m.1, m.2, e.0, e.1, ap length e.1 ∙ length-append e.0 (content ++ m.0) ∙ ap (λ z. length e.0 + z) (length-append content m.0))
