-- What an entry more or less does to the keys and the children.
use Rattle.std.proofs.Common.{◌≡◌, ◌≢◌, ◌⊎◌, ◌↔◌, inl, inr, ℕ, ◌≤◌, ◌<◌, ◌^◌, Bool, true, false, List, [], take, refl, sym, ◌∙◌, ap, subst, arith}
use Rattle.std.specs.List.{Contains}
use Rattle.std.specs.Prelude.{bytes_eq}
use Rattle.std.proofs.lemmas.Bool.{false≢true}
use Rattle.std.proofs.lemmas.Slice.Eq.{bytes_eq-Decides}
use Rattle.byteorder.specs.Endian.{big_bytes}
use Rattle.vol_dirs.specs.internal.Rising.{AddsItem, Drops}
use Rattle.vol_dirs.specs.Key.{key_of, IsPlain}
use Rattle.vol_dirs.specs.internal.Key.{parent_in, name_in, IsKey}
use Rattle.vol_dirs.specs.Listing.{HoldsEntry}
use Rattle.vol_dirs.specs.internal.Listing.{IsListing}
use Rattle.vol_dirs.proofs.Spelled.{child_of_key, key_is, plain_in_key, same_key}

equal_or_not : (a b : List ℕ) → (a ≡ b) ⊎ (a ≢ b)
equal_or_not a b = by (bytes_eq a b) refl
  where
    by : (r : Bool) → bytes_eq a b ≡ r → (a ≡ b) ⊎ (a ≢ b)
    by true is = inl ((bytes_eq-Decides a b).0 is)
    by false is = inr (λ same. false≢true (sym is ∙ (bytes_eq-Decides a b).1 same))

-- nothing is held
pub no_listing : (slots : ℕ) → IsListing slots [] []
no_listing slots = record {
  numbered = λ key s has. absurd (omega (arith, has.1));
  formed = λ key s has. absurd (omega (arith, has.1));
  one_each = λ key other s has also. absurd (omega (arith, has.1));
  no_more = λ child s has none. omega (arith, has.1);
  no_fewer = λ key s has none. omega (arith, has.1);
}

module _ (slots : ℕ) (keys : List (List ℕ × ℕ)) (children : List (List ℕ × ℕ)) (is : IsListing slots keys children) where
  -- each key that is held is that of a name
  pub name_held : (key : List ℕ) (s : ℕ) → Contains keys (key, s) → HoldsEntry keys (parent_in key) (name_in key) s
  name_held key s has =
      let formed = is.formed key s has in
      record {
        narrow = formed.narrow;
        plain = plain_in_key key formed;
        held = subst (λ (k : List ℕ). Contains keys (k, s)) (sym formed.spelled) has;
      }

  pub key_free : (s : ℕ) → ((p : ℕ) (n : List ℕ) → HoldsEntry keys p n s → ⊥) → (key : List ℕ) → Contains keys (key, s) → ⊥
  key_free s free key has = free (parent_in key) (name_in key) (name_held key s has)

  -- and a serial that isn't held is no child's
  pub child_free : (s : ℕ) → ((key : List ℕ) → Contains keys (key, s) → ⊥) → (child : List ℕ) → Contains children (child, s) → ⊥
  child_free s free child has = is.no_more child s has (λ key held parent. free key held)

  -- a serial that is held has one child, of its entry's directory
  pub only_child : (p : ℕ) (n : List ℕ) (s : ℕ) → HoldsEntry keys p n s → (child : List ℕ) → Contains children (child, s) → child ≡ big_bytes 4 p
  only_child p n s h child has = elim (equal_or_not child (big_bytes 4 p)) [
    | inl same ↦ same
    | inr differ ↦ absurd (is.no_more child s has (λ key held parent. differ (sym parent ∙ ap (λ (l : List ℕ). take 4 l) (is.one_each key (key_of p n) s held h.held) ∙ child_of_key p n)))
  ]

  pub one_name : (p q : ℕ) (n m : List ℕ) (s : ℕ) → HoldsEntry keys p n s → HoldsEntry keys q m s → (p ≡ q) × (n ≡ m)
  one_name p q n m s one other = same_key p q n m one.narrow other.narrow one.plain other.plain (is.one_each (key_of p n) (key_of q m) s one.held other.held)

  module _ (p s : ℕ) (n : List ℕ) (narrow : p < 2 ^ 32) (plain : IsPlain n) (new_keys : List (List ℕ × ℕ)) (new_children : List (List ℕ × ℕ)) where
    pub listing_more : 1 ≤ s → s ≤ slots → ((key : List ℕ) → Contains keys (key, s) → ⊥) → AddsItem keys new_keys (key_of p n, s) → AddsItem children new_children (big_bytes 4 p, s) → IsListing slots new_keys new_children
    listing_more first last free more more_children = record {
      numbered = λ key t has. elim (more.only (key, t) has) [
        | inl old ↦ is.numbered key t old
        | inr this ↦ let serial = ap (λ (x : List ℕ × ℕ). x.1) this in (omega (arith, serial), omega (arith, serial))
      ];
      formed = λ key t has. elim (more.only (key, t) has) [
        | inl old ↦ is.formed key t old
        | inr this ↦ subst IsKey (ap (λ (x : List ℕ × ℕ). x.0) this) (key_is p n narrow plain)
      ];
      one_each = λ key other t has also. elim (more.only (key, t) has) [
        | inl old ↦ elim (more.only (other, t) also) [
          | inl old2 ↦ is.one_each key other t old old2
          | inr this2 ↦ absurd (free key (subst (λ (u : ℕ). Contains keys (key, u)) (sym (ap (λ (x : List ℕ × ℕ). x.1) this2)) old))
        ]
        | inr this ↦ elim (more.only (other, t) also) [
          | inl old2 ↦ absurd (free other (subst (λ (u : ℕ). Contains keys (other, u)) (sym (ap (λ (x : List ℕ × ℕ). x.1) this)) old2))
          | inr this2 ↦ sym (ap (λ (x : List ℕ × ℕ). x.0) this) ∙ ap (λ (x : List ℕ × ℕ). x.0) this2
        ]
      ];
      no_more = λ child t has none. elim (more_children.only (child, t) has) [
        | inl old ↦ is.no_more child t old (λ key held parent. none key (more.kept (key, t) held) parent)
        | inr this ↦ none (key_of p n) (subst (λ (u : ℕ). Contains new_keys (key_of p n, u)) (ap (λ (x : List ℕ × ℕ). x.1) this) more.there) (child_of_key p n ∙ ap (λ (x : List ℕ × ℕ). x.0) this)
      ];
      no_fewer = λ key t has none. elim (more.only (key, t) has) [
        | inl old ↦ is.no_fewer key t old (λ child. none (more_children.kept (take 4 key, t) child))
        | inr this ↦
            let parent : big_bytes 4 p ≡ take 4 key = sym (child_of_key p n) ∙ ap (λ (x : List ℕ × ℕ). take 4 x.0) this in
            let serial : s ≡ t = ap (λ (x : List ℕ × ℕ). x.1) this in
            none (subst (λ (x : List ℕ × ℕ). Contains new_children x) (λ i. (parent i, serial i)) more_children.there)
      ];
    }

    pub listing_less : Contains keys (key_of p n, s) → Drops keys new_keys (key_of p n, s) → Drops children new_children (big_bytes 4 p, s) → IsListing slots new_keys new_children
    listing_less held less less_children = record {
      numbered = λ key t has. is.numbered key t (less.only (key, t) has);
      formed = λ key t has. is.formed key t (less.only (key, t) has);
      one_each = λ key other t has also. is.one_each key other t (less.only (key, t) has) (less.only (other, t) also);
      no_more = λ child t has none. is.no_more child t (less_children.only (child, t) has) (λ key old parent. elim (less.kept (key, t) old) [
        | inl still ↦ none key still parent
        | inr this ↦
            let same_parent : child ≡ big_bytes 4 p = sym parent ∙ sym (ap (λ (x : List ℕ × ℕ). take 4 x.0) this) ∙ child_of_key p n in
            let same_serial : t ≡ s = sym (ap (λ (x : List ℕ × ℕ). x.1) this) in
            less_children.gone (subst (λ (x : List ℕ × ℕ). Contains new_children x) (λ i. (same_parent i, same_serial i)) has)
      ]);
      no_fewer = λ key t has none. is.no_fewer key t (less.only (key, t) has) (λ child. elim (less_children.kept (take 4 key, t) child) [
        | inl still ↦ none still
        | inr this ↦
            let serial : t ≡ s = sym (ap (λ (x : List ℕ × ℕ). x.1) this) in
            let at_s : Contains new_keys (key, s) = subst (λ (u : ℕ). Contains new_keys (key, u)) serial has in
            let bytes : key ≡ key_of p n = is.one_each key (key_of p n) s (less.only (key, s) at_s) held in
            less.gone (subst (λ (k : List ℕ). Contains new_keys (k, s)) bytes at_s)
      ]);
    }

    pub names_more : AddsItem keys new_keys (key_of p n, s) → (q : ℕ) (m : List ℕ) (t : ℕ)
        → HoldsEntry new_keys q m t ↔ (HoldsEntry keys q m t ⊎ (q ≡ p) × (m ≡ n) × (t ≡ s))
    names_more more q m t = (
      λ h. elim (more.only (key_of q m, t) h.held) [
        | inl old ↦ inl (record { narrow = h.narrow; plain = h.plain; held = old })
        | inr this ↦ let same = same_key p q n m narrow h.narrow plain h.plain (ap (λ (x : List ℕ × ℕ). x.0) this) in inr (sym same.0, sym same.1, sym (ap (λ (x : List ℕ × ℕ). x.1) this))
      ],
      λ either. elim either [
        | inl h ↦ record { narrow = h.narrow; plain = h.plain; held = more.kept (key_of q m, t) h.held }
        | inr (parent, name, serial) ↦ record {
          narrow = subst (λ (x : ℕ). x < 2 ^ 32) (sym parent) narrow;
          plain = subst IsPlain (sym name) plain;
          held = subst (λ (x : List ℕ × ℕ). Contains new_keys x) (λ i. (key_of (sym parent i) (sym name i), sym serial i)) more.there;
        }
      ],
    )

    pub names_less : Contains keys (key_of p n, s) → Drops keys new_keys (key_of p n, s) → (q : ℕ) (m : List ℕ) (t : ℕ)
        → HoldsEntry new_keys q m t ↔ (HoldsEntry keys q m t × (t ≢ s))
    names_less held less q m t = (
      λ h. (
        record { narrow = h.narrow; plain = h.plain; held = less.only (key_of q m, t) h.held },
        λ serial.
            let at_s : Contains new_keys (key_of q m, s) = subst (λ (u : ℕ). Contains new_keys (key_of q m, u)) serial h.held in
            let bytes : key_of q m ≡ key_of p n = is.one_each (key_of q m) (key_of p n) s (less.only (key_of q m, s) at_s) held in
            less.gone (subst (λ (k : List ℕ). Contains new_keys (k, s)) bytes at_s),
      ),
      λ (h, other). elim (less.kept (key_of q m, t) h.held) [
        | inl still ↦ record { narrow = h.narrow; plain = h.plain; held = still }
        | inr this ↦ absurd (other (sym (ap (λ (x : List ℕ × ℕ). x.1) this)))
      ],
    )
