-- What the names show of the slots, from call to call.
use Rattle.std.proofs.Common.{◌≡◌, ◌≢◌, ◌⊎◌, ◌↔◌, inl, inr, ℕ, ◌+◌, ◌≤◌, List, take, get_or, refl, sym, ◌∙◌, ap, subst, arith}
use Rattle.std.proofs.lemmas.Bool.{cases_eq}
use Rattle.std.proofs.lemmas.Bool.Decides.{nat_tests}
use Rattle.vol_sector.specs.Disk.{Image, put}
use Rattle.vol_inode.specs.declared.entry.Entry.{Entry}
use Rattle.vol_inode.specs.declared.entry.Kind.{Kind}
use Rattle.vol_inode.specs.declared.entry.Kind.TheVariants.{Directory, File}
use Rattle.vol_inode.specs.declared.version.Version.{Version}
use Rattle.vol_inode.specs.Entry.{IsEntry, name_of}
use Rattle.vol_inode.specs.Spelling.{spelling, kind_byte, unused}
use Rattle.vol_inode.proofs.Fields.{parent_is, name_is}
use Rattle.vol_dirs.specs.declared.dirs.Dirs.{Dirs}
use Rattle.vol_dirs.specs.Slots.{slot_sector}
use Rattle.vol_dirs.specs.Seats.{is_directory, seat_of, seat_at, TakesSeat, KeepSeats}
use Rattle.vol_dirs.specs.Names.{Names, IsFree, IsNameOf, IsSpelled, IsInSlot, Shows}
use Rattle.vol_dirs.proofs.Seating.{chosen, not_chosen}

put_same : (at k : ℕ) (bytes : List ℕ) (image : Image) → k ≡ at → put at bytes image k ≡ bytes
put_same at k bytes image same = grind (arith, nat_tests)

put_other : (at k : ℕ) (bytes : List ℕ) (image : Image) → k ≢ at → put at bytes image k ≡ image k
put_other at k bytes image differ = grind (arith, nat_tests)

-- two entries with the same sector
same_entry : (v : Version) (e f : Entry) → IsEntry v e → IsEntry v f → spelling e ≡ spelling f → (e.parent ≡ f.parent) × (name_of e ≡ name_of f)
same_entry v e f one other same =
    let long : e.name_length ≡ f.name_length = ap (λ (l : List ℕ). get_or l 1 0) same in
    let name : e.name ≡ f.name = sym (name_is (spelling e) e one.widths refl) ∙ name_is (spelling e) f other.widths same in (
      sym (parent_is (spelling e) e one.widths refl) ∙ parent_is (spelling e) f other.widths same,
      λ i. take (long i) (name i),
    )

same_kind : (k l : Kind) → kind_byte k ≡ kind_byte l → k ≡ l
same_kind Directory Directory same = refl
same_kind Directory File same = absurd (omega arith)
same_kind File Directory same = absurd (omega arith)
same_kind File File same = refl

-- entries of one kind and one parent have one seat
seat_by : (e f : Entry) → e.kind ≡ f.kind → e.parent ≡ f.parent → seat_of e ≡ seat_of f
seat_by e f kinds parents = λ i. record { parent = parents i; directory = is_directory (kinds i) }

same_seat : (v : Version) (e f : Entry) → IsEntry v e → IsEntry v f → spelling e ≡ spelling f → seat_of e ≡ seat_of f
same_seat v e f one other same = seat_by e f (same_kind e.kind f.kind (ap (λ (l : List ℕ). get_or l 0 0) same)) (same_entry v e f one other same).0

some_kind : (k : Kind) → kind_byte k ≡ 0 → ⊥
some_kind Directory is = omega arith
some_kind File is = omega arith

-- an entry's sector isn't that of an unused slot
not_unused : (e : Entry) → spelling e ≡ unused → ⊥
not_unused e same = some_kind e.kind (ap (λ (l : List ℕ). get_or l 0 0) same)

-- what is in a slot is seen in an image with the same sector there
same_slot : (v : Version) (one other : Image) (slots more p : ℕ) (n : List ℕ) (t : ℕ) → other (slot_sector t) ≡ one (slot_sector t) → t ≤ more → IsInSlot v one slots p n t → IsInSlot v other more p n t
same_slot v one other slots more p n t same last slot = record {
  first = slot.first;
  last = last;
  spelled = subst (λ (b : List ℕ). IsSpelled v b p n) (sym same) slot.spelled;
}

pub spelled_by : (v : Version) (bytes : List ℕ) (e : Entry) (s p : ℕ) (n : List ℕ) (t : ℕ) → IsEntry v e → bytes ≡ spelling e → IsNameOf e s p n t → IsSpelled v bytes p n
spelled_by v bytes e s p n t right is that = record { entry = e; right = right; spelled = is; parent_is = that.parent_is; name_is = that.name_is }

-- the entry is in its slot
own_slot : (v : Version) (image : Image) (slots s : ℕ) (e : Entry) (p : ℕ) (n : List ℕ) (t : ℕ) → IsEntry v e → 1 ≤ s → s ≤ slots → image (slot_sector s) ≡ spelling e → IsNameOf e s p n t → IsInSlot v image slots p n t
own_slot v image slots s e p n t right first last is that = record {
  first = subst (λ (x : ℕ). 1 ≤ x) (sym that.serial_is) first;
  last = subst (λ (x : ℕ). x ≤ slots) (sym that.serial_is) last;
  spelled = spelled_by v (image (slot_sector t)) e s p n t right (ap (λ (x : ℕ). image (slot_sector x)) that.serial_is ∙ is) that;
}

-- and no other is
pub spelled_is : (v : Version) (bytes : List ℕ) (e : Entry) (s p : ℕ) (n : List ℕ) (t : ℕ) → IsEntry v e → bytes ≡ spelling e → t ≡ s → IsSpelled v bytes p n → IsNameOf e s p n t
spelled_is v bytes e s p n t right is at spelled =
    let same = same_entry v spelled.entry e spelled.right right (sym spelled.spelled ∙ is) in
    record { parent_is = spelled.parent_is ∙ same.0; name_is = spelled.name_is ∙ same.1; serial_is = at }

slot_is_own : (v : Version) (image : Image) (slots s : ℕ) (e : Entry) (p : ℕ) (n : List ℕ) (t : ℕ) → IsEntry v e → image (slot_sector s) ≡ spelling e → t ≡ s → IsInSlot v image slots p n t → IsNameOf e s p n t
slot_is_own v image slots s e p n t right is at slot = spelled_is v (image (slot_sector t)) e s p n t right (ap (λ (x : ℕ). image (slot_sector x)) at ∙ is) at slot.spelled

module _ (v : Version) (slots s : ℕ) (before after : Image) (old new : Dirs) (shown : Shows v before slots old) where
  pub shown_put : (e : Entry) → IsEntry v e → 1 ≤ s → s ≤ slots → after ≡ put (slot_sector s) (spelling e) before
      → ((p : ℕ) (n : List ℕ) (t : ℕ) → Names new p n t ↔ (Names old p n t × (t ≢ s) ⊎ IsNameOf e s p n t)) → TakesSeat old new s e → Shows v after slots new
  shown_put e right first last is names seats = record {
    names = λ p n t. (
      λ held. elim ((names p n t).0 held) [
        | inl (h, differ) ↦ let slot = (shown.names p n t).0 h in same_slot v before after slots slots p n t (elsewhere t differ) slot.last slot
        | inr that ↦ own_slot v after slots s e p n t right first last here that
      ],
      λ slot. elim (cases_eq t s) [
        | inl same ↦ (names p n t).1 (inr (slot_is_own v after slots s e p n t right here same slot))
        | inr differ ↦ (names p n t).1 (inl ((shown.names p n t).1 (same_slot v after before slots slots p n t (sym (elsewhere t differ)) slot.last slot), differ))
      ],
    );
    seats = λ t f from til other spelled. elim (cases_eq t s) [
      | inl same ↦
          let one : spelling e ≡ spelling f = sym (ap (λ (x : ℕ). after (slot_sector x)) same ∙ here) ∙ spelled in
          seats t from ∙ chosen t s (seat_of e) (seat_at old t) same ∙ same_seat v e f right other one
      | inr differ ↦ seats t from ∙ not_chosen t s (seat_of e) (seat_at old t) differ ∙ shown.seats t f from til other (sym (elsewhere t differ) ∙ spelled)
    ];
  }
    where
      here : after (slot_sector s) ≡ spelling e
      here = ap (λ (m : Image). m (slot_sector s)) is ∙ put_same (slot_sector s) (slot_sector s) (spelling e) before refl

      elsewhere : (u : ℕ) → u ≢ s → after (slot_sector u) ≡ before (slot_sector u)
      elsewhere u differ = ap (λ (m : Image). m (slot_sector u)) is ∙ put_other (slot_sector s) (slot_sector u) (spelling e) before (λ same. differ (omega arith))

  pub shown_added : (e : Entry) → IsEntry v e → 1 ≤ s → s ≤ slots → IsFree old s → after ≡ put (slot_sector s) (spelling e) before
      → ((p : ℕ) (n : List ℕ) (t : ℕ) → Names new p n t ↔ (Names old p n t ⊎ IsNameOf e s p n t)) → TakesSeat old new s e → Shows v after slots new
  shown_added e right first last free is names seats = shown_put e right first last is (λ p n t. (
    λ held. elim ((names p n t).0 held) [
      | inl h ↦ inl (h, λ same. free p n (subst (λ (x : ℕ). Names old p n x) same h))
      | inr that ↦ inr that
    ],
    λ either. (names p n t).1 (elim either [ inl (h, differ) ↦ inl h | inr that ↦ inr that ]),
  )) seats

  pub shown_removed : after ≡ put (slot_sector s) unused before → ((p : ℕ) (n : List ℕ) (t : ℕ) → Names new p n t ↔ Names old p n t × (t ≢ s)) → KeepSeats old new → Shows v after slots new
  shown_removed is names seats = record {
    names = λ p n t. (
      λ held. let h = (names p n t).0 held in let slot = (shown.names p n t).0 h.0 in same_slot v before after slots slots p n t (elsewhere t h.1) slot.last slot,
      λ slot. elim (cases_eq t s) [
        | inl same ↦ let spelled = slot.spelled in absurd (not_unused spelled.entry (sym spelled.spelled ∙ ap (λ (x : ℕ). after (slot_sector x)) same ∙ here))
        | inr differ ↦ (names p n t).1 ((shown.names p n t).1 (same_slot v after before slots slots p n t (sym (elsewhere t differ)) slot.last slot), differ)
      ],
    );
    seats = λ t f from til other spelled. elim (cases_eq t s) [
      | inl same ↦ absurd (not_unused f (sym spelled ∙ ap (λ (x : ℕ). after (slot_sector x)) same ∙ here))
      | inr differ ↦ seats t from ∙ shown.seats t f from til other (sym (elsewhere t differ) ∙ spelled)
    ];
  }
    where
      here : after (slot_sector s) ≡ unused
      here = ap (λ (m : Image). m (slot_sector s)) is ∙ put_same (slot_sector s) (slot_sector s) unused before refl

      elsewhere : (u : ℕ) → u ≢ s → after (slot_sector u) ≡ before (slot_sector u)
      elsewhere u differ = ap (λ (m : Image). m (slot_sector u)) is ∙ put_other (slot_sector s) (slot_sector u) unused before (λ same. differ (omega arith))

pub free_slot : (v : Version) (image : Image) (slots s : ℕ) (dirs : Dirs) → Shows v image slots dirs → image (slot_sector s) ≡ unused → IsFree dirs s
free_slot v image slots s dirs shown is p n held = let slot = (shown.names p n s).0 held in let spelled = slot.spelled in not_unused spelled.entry (sym spelled.spelled ∙ is)

pub same_shown : (v : Version) (one other : Image) (slots : ℕ) (dirs : Dirs) → Shows v one slots dirs → ((s : ℕ) → 1 ≤ s → s ≤ slots → other (slot_sector s) ≡ one (slot_sector s)) → Shows v other slots dirs
same_shown v one other slots dirs shown same = record {
  names = λ p n t. (
    λ held. let slot = (shown.names p n t).0 held in same_slot v one other slots slots p n t (same t slot.first slot.last) slot.last slot,
    λ slot. (shown.names p n t).1 (same_slot v other one slots slots p n t (sym (same t slot.first slot.last)) slot.last slot),
  );
  seats = λ t f from til right spelled. shown.seats t f from til right (sym (same t from til) ∙ spelled);
}

-- no slot was read yet
pub shown_first : (v : Version) (image : Image) (dirs : Dirs) → ((s : ℕ) → IsFree dirs s) → Shows v image 0 dirs
shown_first v image dirs free = record {
  names = λ p n t. (λ held. absurd (free t p n held), λ slot. absurd (omega (arith, slot.first, slot.last)));
  seats = λ t f from til right spelled. absurd (omega (arith, from, til));
}

-- one slot more was read
pub shown_next : (v : Version) (image : Image) (k : ℕ) (old new : Dirs) → Shows v image k old
    → ((p : ℕ) (n : List ℕ) (t : ℕ) → Names new p n t ↔ (Names old p n t ⊎ (t ≡ k + 1) × IsSpelled v (image (slot_sector (k + 1))) p n))
    → ((e : Entry) → IsEntry v e → image (slot_sector (k + 1)) ≡ spelling e → seat_at new (k + 1) ≡ seat_of e) → ((t : ℕ) → 1 ≤ t → t ≢ k + 1 → seat_at new t ≡ seat_at old t) → Shows v image (k + 1) new
shown_next v image k old new shown names seat others = record {
  names = λ p n t. (
    λ held. elim ((names p n t).0 held) [
      | inl h ↦ let slot = (shown.names p n t).0 h in same_slot v image image k (k + 1) p n t refl (omega (arith, slot.last)) slot
      | inr (same, spelled) ↦ record { first = omega arith; last = omega arith; spelled = subst (λ (b : List ℕ). IsSpelled v b p n) (ap image (omega arith)) spelled }
    ],
    λ slot. elim (cases_eq t (k + 1)) [
      | inl same ↦ (names p n t).1 (inr (same, subst (λ (b : List ℕ). IsSpelled v b p n) (ap image (omega arith)) slot.spelled))
      | inr differ ↦ (names p n t).1 (inl ((shown.names p n t).1 (same_slot v image image (k + 1) k p n t refl (omega (arith, slot.last)) slot)))
    ],
  );
  seats = λ t f from til right spelled. elim (cases_eq t (k + 1)) [
    | inl same ↦ ap (seat_at new) same ∙ seat f right (ap (λ (x : ℕ). image (slot_sector x)) (sym same) ∙ spelled)
    | inr differ ↦ others t from differ ∙ shown.seats t f from (omega (arith, til, differ)) right spelled
  ];
}

-- the entry in a slot is another one with the same parent and name
rewritten_slot : (v : Version) (one other : Image) (slots s : ℕ) (d e : Entry) → IsEntry v d → IsEntry v e → one (slot_sector s) ≡ spelling d → other (slot_sector s) ≡ spelling e
    → d.parent ≡ e.parent → name_of d ≡ name_of e → ((t : ℕ) → 1 ≤ t → t ≤ slots → t ≢ s → other (slot_sector t) ≡ one (slot_sector t))
    → (p : ℕ) (n : List ℕ) (t : ℕ) → IsInSlot v one slots p n t → IsInSlot v other slots p n t
rewritten_slot v one other slots s d e right too is now parents names same p n t slot = elim (cases_eq t s) [
  | inl here ↦
      let that = slot_is_own v one slots s d p n t right is here slot in
      let now_e : IsNameOf e s p n t = record { parent_is = that.parent_is ∙ parents; name_is = that.name_is ∙ names; serial_is = here } in
      own_slot v other slots s e p n t too (omega (arith, slot.first)) (omega (arith, slot.last)) now now_e
  | inr differ ↦ same_slot v one other slots slots p n t (same t slot.first slot.last differ) slot.last slot
]

pub rewritten_shown : (v : Version) (one other : Image) (slots s : ℕ) (d e : Entry) (dirs : Dirs) → Shows v one slots dirs → IsEntry v d → IsEntry v e → one (slot_sector s) ≡ spelling d → other (slot_sector s) ≡ spelling e
    → d.kind ≡ e.kind → d.parent ≡ e.parent → name_of d ≡ name_of e → ((t : ℕ) → 1 ≤ t → t ≤ slots → t ≢ s → other (slot_sector t) ≡ one (slot_sector t)) → Shows v other slots dirs
rewritten_shown v one other slots s d e dirs shown right too is now kinds parents names same = record {
  names = λ p n t. (
    λ held. rewritten_slot v one other slots s d e right too is now parents names same p n t ((shown.names p n t).0 held),
    λ slot. (shown.names p n t).1 (rewritten_slot v other one slots s e d too right now is (sym parents) (sym names) (λ u first last differ. sym (same u first last differ)) p n t slot),
  );
  seats = λ t f from til last spelled. elim (cases_eq t s) [
    | inl here ↦
        let at : one (slot_sector t) ≡ spelling d = ap (λ (x : ℕ). one (slot_sector x)) here ∙ is in
        let that : spelling e ≡ spelling f = sym (ap (λ (x : ℕ). other (slot_sector x)) here ∙ now) ∙ spelled in
        shown.seats t d from til right at ∙ seat_by d e kinds parents ∙ same_seat v e f too last that
    | inr differ ↦ shown.seats t f from til last (sym (same t from til differ) ∙ spelled)
  ];
}

-- only the first slot was taken up, and no other is used
pub shown_alone : (v : Version) (image : Image) (slots : ℕ) (e : Entry) (dirs : Dirs) → IsEntry v e → 1 ≤ slots → image (slot_sector 1) ≡ spelling e → ((s : ℕ) → 2 ≤ s → s ≤ slots → image (slot_sector s) ≡ unused)
    → ((p : ℕ) (n : List ℕ) (t : ℕ) → Names dirs p n t → IsNameOf e 1 p n t) → ((p : ℕ) (n : List ℕ) (t : ℕ) → IsNameOf e 1 p n t → Names dirs p n t) → seat_at dirs 1 ≡ seat_of e → Shows v image slots dirs
shown_alone v image slots e dirs right some first others only held seat = record {
  names = λ p n t. (
    λ names. own_slot v image slots 1 e p n t right (omega arith) some first (only p n t names),
    λ slot. elim (cases_eq t 1) [
      | inl same ↦ held p n t (slot_is_own v image slots 1 e p n t right first same slot)
      | inr differ ↦
          let none = others t (omega (arith, slot.first, differ)) slot.last in
          absurd (not_unused slot.spelled.entry (sym slot.spelled.spelled ∙ none))
    ],
  );
  seats = λ t f from til other spelled. elim (cases_eq t 1) [
    | inl same ↦
        let one : spelling e ≡ spelling f = sym (ap (λ (x : ℕ). image (slot_sector x)) same ∙ first) ∙ spelled in
        ap (seat_at dirs) same ∙ seat ∙ same_seat v e f right other one
    | inr differ ↦ absurd (not_unused f (sym spelled ∙ others t (omega (arith, from, differ)) til))
  ];
}

-- one slot more, which holds this entry
pub shown_more : (v : Version) (image : Image) (k : ℕ) (e : Entry) (old new : Dirs) → Shows v image k old → IsEntry v e → image (slot_sector (k + 1)) ≡ spelling e
    → ((p : ℕ) (n : List ℕ) (t : ℕ) → Names new p n t ↔ (Names old p n t ⊎ IsNameOf e (k + 1) p n t)) → TakesSeat old new (k + 1) e → Shows v image (k + 1) new
shown_more v image k e old new shown right is names seats = shown_next v image k old new shown (λ p n t. (
  λ held. elim ((names p n t).0 held) [ inl h ↦ inl h | inr that ↦ inr (that.serial_is, spelled_by v (image (slot_sector (k + 1))) e (k + 1) p n t right is that) ],
  λ either. (names p n t).1 (elim either [ inl h ↦ inl h | inr (same, spelled) ↦ inr (spelled_is v (image (slot_sector (k + 1))) e (k + 1) p n t right is same spelled) ]),
))
    (λ f other spelled. seats (k + 1) (omega arith) ∙ chosen (k + 1) (k + 1) (seat_of e) (seat_at old (k + 1)) refl ∙ same_seat v e f right other (sym is ∙ spelled))
    (λ t from differ. seats t from ∙ not_chosen t (k + 1) (seat_of e) (seat_at old t) differ)

-- one slot more, which isn't used
pub shown_past : (v : Version) (image : Image) (k : ℕ) (dirs : Dirs) → Shows v image k dirs → image (slot_sector (k + 1)) ≡ unused → Shows v image (k + 1) dirs
shown_past v image k dirs shown is = shown_next v image k dirs dirs shown (λ p n t. (
  λ held. inl held,
  λ either. elim either [ inl h ↦ h | inr (same, spelled) ↦ absurd (not_unused spelled.entry (sym spelled.spelled ∙ is)) ],
))
    (λ f other spelled. absurd (not_unused f (sym spelled ∙ is)))
    (λ t from differ. refl)
