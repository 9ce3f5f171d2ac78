-- Which entries descriptors have.
use Rattle.std.proofs.Common.{◌≡◌, ◌<◌, ◌↔◌, ℕ, zero, suc, Bool, true, Option, Some, None, IsTrue, sym, ◌∙◌, ap, subst, inl, inr, arith}
use Rattle.std.specs.Prelude.{vec_len}
use Rattle.std.proofs.lemmas.Bool.{false≢true, or_cases, or_left, or_right, cases_eq, cases_lt, cases_Bool, eq-eqb, eqb-true, false_from_ne_true}
use Rattle.std.proofs.lemmas.List.{get_or_past}
use Rattle.wasi_fd.specs.declared.descriptor.Descriptor.{Descriptor}
use Rattle.wasi_fd.specs.declared.descriptor.Descriptor.TheVariants.{Stream, Entry}
use Rattle.wasi_fd.specs.declared.table.Descriptors.{Descriptors}
use Rattle.wasi_fd.specs.Table.{Table, table_of, IsOf}
use Rattle.wasi_bodies.specs.World.{World, is_of, holds_below, held_open}
use Rattle.wasi_fd.specs.declared.table.TheConstants.{PLACES}

is_of_if : (serial : ℕ) (d : Option Descriptor) → is_of serial d ≡ true → IsOf serial d
is_of_if serial None h = absurd (false≢true h)
is_of_if serial (Some (Stream s)) h = absurd (false≢true h)
is_of_if serial (Some (Entry o)) h = eqb-true o.serial serial h

if_is_of : (serial : ℕ) (d : Option Descriptor) → IsOf serial d → is_of serial d ≡ true
if_is_of serial None h = absurd h
if_is_of serial (Some (Stream s)) h = absurd h
if_is_of serial (Some (Entry o)) h = eq-eqb o.serial serial h

has_one : (n serial : ℕ) (table : Table) → holds_below n serial table ≡ true → (k : ℕ) × IsOf serial (table k)
has_one zero serial table h = absurd (false≢true h)
has_one (suc n) serial table h = elim (or_cases (is_of serial (table n)) (holds_below n serial table) h) [
  | inl here ↦ (n, is_of_if serial (table n) here)
  | inr below ↦ has_one n serial table below
]

holds_one : (n serial : ℕ) (table : Table) (k : ℕ) → k < n → IsOf serial (table k) → holds_below n serial table ≡ true
holds_one zero serial table k low h = absurd (omega arith)
holds_one (suc n) serial table k low h = elim (cases_eq k n) [
  | inl here ↦ or_left (is_of serial (table n)) (holds_below n serial table) (if_is_of serial (table n) (subst (λ (k : ℕ). IsOf serial (table k)) here h))
  | inr apart ↦ or_right (is_of serial (table n)) (holds_below n serial table) (holds_one n serial table k (omega arith) h)
]

-- only the numbers of places are open
few : (d : Descriptors) (serial k : ℕ) → IsOf serial (table_of d k) → k < PLACES
few d serial k h = elim (cases_lt k PLACES) [
  | inl below ↦ below
  | inr past ↦
      let size : vec_len d.places ≡ PLACES = d.size in
      let none : table_of d k ≡ None = get_or_past d.places.items k None (omega (arith, d.places.ok.0, size)) in
      absurd (subst (IsOf serial) none h)
]

held_if : (d : Descriptors) (serial : ℕ) → ((n : ℕ) × IsOf serial (table_of d n)) → holds_below PLACES serial (table_of d) ≡ true
held_if d serial h = holds_one PLACES serial (table_of d) h.0 (few d serial h.0 h.1) h.1

pub held_as : (d : Descriptors) (serial : ℕ) (b : Bool) → (IsTrue b ↔ ((n : ℕ) × IsOf serial (table_of d n))) → (w : World) → w.table ≡ table_of d → b ≡ held_open w serial
held_as d serial b h w table = elim (cases_Bool b) [
  | inl held ↦ held ∙ sym (ap (holds_below PLACES serial) table ∙ held_if d serial (h.0 held))
  | inr free ↦ free ∙ sym (ap (holds_below PLACES serial) table ∙ false_from_ne_true _ (λ held. false≢true (sym free ∙ h.1 (has_one PLACES serial (table_of d) held))))
]
