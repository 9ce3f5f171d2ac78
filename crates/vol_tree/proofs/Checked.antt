-- What reading one slot says of it.
use Rattle.std.proofs.Common.{inl, inr, ◌≡◌, ◌+◌, ◌<◌, ℕ, List, [], ◌∷◌, ◌++◌, length, take, map, Option, Some, None, refl, sym, ◌∙◌, ap, subst, rules, arith}
use Rattle.std.specs.List.{flat_map}
use Rattle.std.proofs.lemmas.Bool.{cases_lt}
use Rattle.std.proofs.lemmas.Option.{same_Some, none-some}
use Rattle.std.proofs.lemmas.List.{take_more, flat_map_more, map-append}
use Rattle.std.proofs.lemmas.List.Sums.{sum_by_more}
use Rattle.std.proofs.lemmas.List.Elements.{All-contains}
use Rattle.vol_sector.specs.Disk.{Image}
use Rattle.vol_inode.specs.declared.entry.Entry.{Entry}
use Rattle.vol_inode.specs.Entry.{IsEntry, HasWidths, name_of}
use Rattle.vol_inode.specs.Spelling.{spelling, unused}
use Rattle.vol_body.specs.Survey.{AreInside, IsTrimmed}
use Rattle.vol_dirs.specs.declared.dirs.Dirs.{Dirs}
use Rattle.vol_dirs.specs.Names.{Shows}
use Rattle.vol_tree.specs.declared.superblock.Superblock.{Superblock}
use Rattle.vol_tree.specs.declared.reading.Entries.{Entries}
use Rattle.vol_tree.specs.Clauses.{slots_in, slot_in}
use Rattle.vol_tree.specs.internal.Reads.{held_at, parent_in, directory_in, named_in, reserved_in, IsPlaced, IsNew, IsRight, AddsSlot, FitIn, HaveRead}
use Rattle.vol_tree.proofs.SlotsRead.{slots_at, slot_read, slots_count}
use Rattle.vol_dirs.specs.Slots.{slot_sector}

pub at_some : {X : Type 0} (o : Option X) (x : X) (P : X → Type 0) → o ≡ Some x → ((y : X) → o ≡ Some y → P y) → P x
at_some o x P is all = all x is

module _ (content : Image) (v : Superblock) (s : ℕ) (lt : s < v.slots) where
  -- a slot that isn't used
  module _ (none : content (slot_sector (s + 1)) ≡ unused) where
    pub held_none : held_at content v s ≡ None
    held_none = slots_at content v.slots s lt ∙ ap slot_in none ∙ slot_read None (λ e is. absurd (none-some e is))

    pub right_none : IsRight content v s (held_at content v s)
    right_none = subst (IsRight content v s) (sym held_none) (record {
      bytes = none;
      entry = λ e is. absurd (none-some e is);
      placed = λ e is. absurd (none-some e is);
      trimmed = λ e is. absurd (none-some e is);
    })

  -- an entry
  module _ (e : Entry) (right : IsEntry v.version e) (spelled : content (slot_sector (s + 1)) ≡ spelling e) where
    pub held_some : held_at content v s ≡ Some e
    held_some = slots_at content v.slots s lt ∙ ap slot_in spelled ∙ slot_read (Some e) (λ d is. subst HasWidths (same_Some e d is) right.widths)

    pub right_some : IsPlaced content v s e → IsTrimmed content e → IsRight content v s (held_at content v s)
    right_some placed trimmed = subst (IsRight content v s) (sym held_some) (record {
      bytes = spelled;
      entry = λ d is. subst (IsEntry v.version) (same_Some e d is) right;
      placed = λ d is. subst (IsPlaced content v s) (same_Some e d is) placed;
      trimmed = λ d is. subst (IsTrimmed content) (same_Some e d is) trimmed;
    })

    -- where the names of the slots before are held
    module _ (dirs : Dirs) (shows : Shows v.version content s dirs) where
      pub new_placed : IsNew dirs (s + 1) e → IsPlaced content v s e
      new_placed is = record {
        top = λ none. is.top (omega (arith, none));
        below = λ some. is.below (λ one. some (omega (arith, one)));
        first = λ some t there. is.first some t ((shows.names e.parent (name_of e) t).1 there);
      }

      placed_new : IsPlaced content v s e → IsNew dirs (s + 1) e
      placed_new is = record {
        top = λ one. is.top (omega (arith, one));
        below = λ other. is.below (λ none. other (omega (arith, none)));
        first = λ some t names. is.first some t ((shows.names e.parent (name_of e) t).0 names);
      }

      pub some_contradicts : (found : Entries) → (IsNew dirs (s + 1) e → IsTrimmed content e → FitIn content v (Some e) found → ⊥)
          → IsRight content v s (held_at content v s) → FitIn content v (held_at content v s) found → ⊥
      some_contradicts found none is fits = none (placed_new (is.placed e held_some)) (is.trimmed e held_some) (subst (λ (o : Option Entry). FitIn content v o found) held_some fits)

-- the slot that no entry is read from
pub refused_contradicts : (content : Image) (v : Superblock) (s : ℕ) → ((e : Entry) → IsEntry v.version e → content (slot_sector (s + 1)) ≡ spelling e → ⊥) → (content (slot_sector (s + 1)) ≡ unused → ⊥)
    → IsRight content v s (held_at content v s) → ⊥
refused_contradicts content v s no_entry not_unused is = go (held_at content v s) is
  where
    go : (o : Option Entry) → IsRight content v s o → ⊥
    go None is = not_unused is.bytes
    go (Some e) is = no_entry e (is.entry e refl) is.bytes

-- ---- from slot to slot

pub none_inside : (first end : ℕ) (numbers : List ℕ) → numbers ≡ [] → AreInside first end numbers
none_inside first end numbers none = subst (AreInside first end) (sym none) (record { inside = λ n has. absurd (All-contains (λ m. ⊥) [] n (search rules) has); few = omega arith })

pub none_read : (content : Image) (v : Superblock) (found : Entries) → found.named.items ≡ [] → found.parents.items ≡ [] → found.directories.items ≡ [] → found.reserved ≡ 0 → HaveRead content v 0 found
none_read content v found named parents directories reserved = record {
  named = named;
  parents = parents;
  directories = directories;
  reserved = reserved;
  right = λ s lt. absurd (omega (arith, lt));
}

pub more_read : (content : Image) (v : Superblock) (s : ℕ) (old new : Entries) → s < v.slots → HaveRead content v s old → AddsSlot content (held_at content v s) old new → IsRight content v s (held_at content v s)
    → HaveRead content v (s + 1) new
more_read content v s old new lt was adds right =
    let slots = slots_in content v.slots in
    let o = held_at content v s in
    let within : s < length slots = omega (arith, lt, slots_count content v.slots) in
    let more : take s slots ++ o ∷ [] ≡ take (s + 1) slots = sym (take_more slots s None within) in
    record {
      named = adds.named ∙ ap (λ (l : List ℕ). l ++ named_in content o) was.named ∙ flat_map_more (named_in content) [] (take s slots) o ∙ ap (flat_map (named_in content)) more;
      parents = adds.parents ∙ ap (λ (l : List ℕ). l ++ parent_in o ∷ []) was.parents ∙ sym (map-append parent_in (take s slots) (o ∷ [])) ∙ ap (map parent_in) more;
      directories = adds.directories ∙ ap (λ l. l ++ directory_in o ∷ []) was.directories ∙ sym (map-append directory_in (take s slots) (o ∷ [])) ∙ ap (map directory_in) more;
      reserved = adds.reserved ∙ ap (λ (n : ℕ). n + reserved_in o) was.reserved ∙ sym (sum_by_more reserved_in slots s None within);
      right = λ t below. elim (cases_lt t s) [
        | inl before ↦ was.right t before
        | inr past ↦ let same : s ≡ t = omega (arith, below, past) in subst (λ (k : ℕ). IsRight content v k (held_at content v k)) same right
      ];
    }
