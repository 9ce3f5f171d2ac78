-- No refusal has the number of success.
use Rattle.std.proofs.Common.{◌≡◌, ◌≢◌, ℕ, Bool, true, false, Option, Some, None, Result, Ok, Err, refl, subst, sym, ◌∙◌}
use Rattle.std.specs.Option.{option_map_or, ok_or}
use Rattle.vol_tree.specs.declared.errno.Errno.{Errno}
use Rattle.vol_tree.specs.declared.errno.Errno.TheVariants as errno
use Rattle.vol_tree.specs.Numbers.{number_of}
use Rattle.wasi_fd.specs.declared.descriptor.Descriptor.{Descriptor}
use Rattle.wasi_fd.specs.declared.descriptor.Descriptor.TheVariants.{Stream, Entry}
use Rattle.wasi_fd.specs.declared.descriptor.EntryKind.{EntryKind}
use Rattle.wasi_fd.specs.declared.descriptor.EntryKind.TheVariants as kinds
use Rattle.wasi_bodies.specs.World.{World}
use Rattle.wasi_bodies.specs.Checks.{Checked, and_then, guard, get, of_kind, has, descriptor, opened_entry, entry_at, by_kind, no_streams}

-- an answer is no refusal
pub ok_no_err : {X E : Type 0} (r : Result X E) (x : X) (e : E) → r ≡ Ok x → r ≡ Err e → ⊥
ok_no_err {X = X} {E = E} r x e is also = let both : ◌≡◌ {A = Result X E} (Ok x) (Err e) = sym is ∙ also in cc

-- a refusal has another number than 0
abbrev pub NeverZero : {X : Type 0} → Checked X → Type 0
NeverZero (Ok x) = Unit {0}
NeverZero (Err n) = n ≢ 0

pub not_zero : {X : Type 0} (r : Checked X) (n : ℕ) → NeverZero r → r ≡ Err n → n ≢ 0
not_zero r n never is = subst NeverZero is never

after : {A B : Type 0} (r : Checked A) (f : A → Checked B) → NeverZero r → ((x : A) → NeverZero (f x)) → NeverZero (and_then r f)
unfolding and_then
after (Ok x) f never later = later x
after (Err n) f never later = never

guarded : (b : Bool) (n : ℕ) → n ≢ 0 → NeverZero (guard b n)
unfolding guard
guarded true n other = tt
guarded false n other = other

gotten : (w : World) (fd : ℕ) → NeverZero (get w fd)
gotten w fd = by_place (w.table fd)
  where
    by_place : (d : Option Descriptor) → NeverZero (ok_or d 8)
    by_place None = λ is. cc
    by_place (Some d) = tt

by_option : (o : Option ℕ) → ((n : ℕ) → o ≡ Some n → n ≢ 0) → NeverZero {X = Unit {0}} (option_map_or (λ errno. Err errno) o (Ok tt))
by_option None other = tt
by_option (Some n) other = other n refl

kinds_taken : (d : Descriptor) → NeverZero (of_kind no_streams d)
kinds_taken (Stream s) = λ is. cc
kinds_taken (Entry o) = by_option (by_kind no_streams o.kind) (none_taken o.kind)
  where
    none_taken : (k : EntryKind) (n : ℕ) → by_kind no_streams k ≡ Some n → n ≢ 0
    none_taken kinds.Directory n is = cc
    none_taken kinds.File n is = cc

entered : (d : Descriptor) → NeverZero (opened_entry d)
entered (Stream s) = λ is. cc
entered (Entry o) = tt

-- an entry that isn't there to be synced
pub entry_never_zero : (w : World) (fd right : ℕ) → NeverZero (entry_at w fd no_streams right)
entry_never_zero w fd right =
    after (descriptor w fd no_streams right) opened_entry (after (get w fd) _ (gotten w fd) (λ d. after (of_kind no_streams d) _ (kinds_taken d) (λ u. after (guard (has d right) 76) _ (guarded (has d right) 76 (λ is. cc)) (λ u. tt)))) entered

-- nor has one of the volume
pub number_never_zero : (e : Errno) → number_of e ≢ 0
number_never_zero errno.Exist = λ is. cc
number_never_zero errno.TooBig = λ is. cc
number_never_zero errno.BadText = λ is. cc
number_never_zero errno.Invalid = λ is. cc
number_never_zero errno.Io = λ is. cc
number_never_zero errno.IsDirectory = λ is. cc
number_never_zero errno.NameTooLong = λ is. cc
number_never_zero errno.NotFound = λ is. cc
number_never_zero errno.NoSpace = λ is. cc
number_never_zero errno.NotDirectory = λ is. cc
number_never_zero errno.NotEmpty = λ is. cc
number_never_zero errno.NotCapable = λ is. cc
