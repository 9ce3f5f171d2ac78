-- 29 has its cause: no check answers it, and the volume only where it has failed.
use Rattle.std.proofs.Common.{◌≡◌, ◌≢◌, inl, inr, ℕ, Bool, true, false, List, Result, Ok, Err, MatchResult, ap, sym, ◌∙◌, refl, arith}
use Rattle.std.proofs.lemmas.Bool.{false≢true}
use Rattle.vol_tree.specs.declared.errno.Errno.{Errno}
use Rattle.vol_tree.specs.declared.errno.Errno.TheVariants as errno
use Rattle.vol_tree.specs.Numbers.{number_of}
use Rattle.vol_tree.specs.Clauses.{is_io}
use Rattle.vol_tree.specs.Opened.{Opened, Keeps}
use Rattle.path_walk.specs.declared.walking.Reached.{Reached as ReachedValue}
use Rattle.path_walk.specs.Paths.{path_read}
use Rattle.wasi_fd.specs.Table.{Table}
use Rattle.wasi_bodies.specs.World.{World}
use Rattle.wasm_store.specs.declared.call.Errno.{Errno as Number}
use Rattle.wasi_bodies.specs.Checks.{Checked}
use Rattle.wasi_bodies.specs.internal.Entries.{errno_of}
use Rattle.wasi_bodies.proofs.OpenEntries.{some_world}
use Rattle.wasi_bodies.proofs.bodies.VolumeCalls.{io_or, never_if, ok_no_io}

-- ---- the volume

pub asked_29 : (X : Type 0) {P : Type 0} (e : Errno) (n : ℕ) → (is_io {X = X} (Err e) ≡ true → P) → n ≡ number_of e → n ≡ 29 → P
asked_29 X e n failed number is = elim (io_or X e) [
  | inl (io, fails) ↦ failed fails
  | inr (other, works) ↦ absurd (other (sym number ∙ is))
]

-- a path that can't be read doesn't answer it
pub text_never : (text : List ℕ) → path_read text ≢ Err errno.Io
text_never text =
    never_if _ errno.NotFound _ (λ is. cc) (never_if _ errno.BadText _ (λ is. cc) (never_if _ errno.Invalid _ (λ is. cc)
    (never_if _ errno.NotCapable _ (λ is. cc) (never_if _ errno.NameTooLong _ (λ is. cc) (ok_no_io _)))))

pub no_text_io : (X : Type 0) (text : List ℕ) (e : Errno) → path_read text ≡ Err e → is_io {X = X} (Err e) ≡ true → ⊥
no_text_io X text e is io = elim (io_or X e) [
  | inl (same, fails) ↦ text_never text (is ∙ ap Err same)
  | inr (other, works) ↦ false≢true (sym works ∙ io)
]

-- a walk, which begins only where the path stays inside
pub walk_io : {D : Type 0} {honest : D → Type 0} {sectors_on failures : D → ℕ} (inside : Bool) (old new : Opened D) (r : Result ReachedValue Errno)
    → (inside ≡ true → Keeps honest sectors_on failures old new (is_io r)) → (inside ≡ false → (new ≡ old) × (r ≡ Err errno.NotCapable)) → is_io r ≡ true → new.failed ≡ true
walk_io true old new r kept outside io = (kept refl).failed ∙ io
walk_io false old new r kept outside io = absurd (false≢true (sym (ap (λ (r : Result ReachedValue Errno). is_io r) (outside refl).1) ∙ io))

-- ---- answers that aren't 29

pub no_29_at_0 : {P : Type 0} → ◌≡◌ {A = ℕ} 0 29 → P
no_29_at_0 is = absurd (omega (arith, is))

pub not_29 : {X P : Type 0} (r : Checked X) (e : ℕ) → r ≢ Err 29 → r ≡ Err e → e ≡ 29 → P
not_29 r e never is same = absurd (never (is ∙ ap Err same))

pub result_not_29 : {P : Type 0} (r : Result (Unit {0}) Number) (part : Checked (Unit {0})) → part ≢ Err 29 → MatchResult r (λ u. part ≡ Ok u) (λ e. part ≡ Err e.0) → errno_of r ≡ 29 → P
result_not_29 (Ok u) part never is = no_29_at_0
result_not_29 (Err e) part never is = not_29 part e.0 never is

-- a check of the descriptors
pub check_not_29 : {X P : Type 0} (table : Table) (part : World → Checked X) (e : ℕ) → ((w : World) → part w ≢ Err 29) → ((w : World) → w.table ≡ table → part w ≡ Err e) → e ≡ 29 → P
unfolding some_world
check_not_29 table part e never is same = absurd (never (some_world table) (is (some_world table) refl ∙ ap Err same))
