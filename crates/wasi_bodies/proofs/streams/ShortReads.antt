-- Bytes of one read, into the first buffer that has room.
use Rattle.std.proofs.Common.{◌≡◌, ◌⊎◌, inl, inr, ℕ, ◌+◌, ◌<◌, ◌≤◌, min, max, List, [], ◌∷◌, ◌++◌, length, take, drop, get_or, Bool, true, false, cond, Option, Result, Ok, Err, IfOk, OnErr, refl, sym, ap, ◌∙◌, subst, take-append-drop, arith}
use Rattle.std.proofs.KnownBytes.{Consumes-nil}
use Rattle.std.proofs.lemmas.Bool.{false≢true}
use Rattle.std.proofs.lemmas.List.{map-append}
use Rattle.std.proofs.lemmas.List.Sums.{sum_by-append}
use Rattle.std.specs.Io.KnownBytes.{Consumes}
use Rattle.vol_body.specs.declared.source.MemorySpan.{MemorySpan}
use Rattle.wasi_bodies.specs.World.{most_read, least_read, pieces_after}
use Rattle.wasi_bodies.specs.Checks.{Buffer, total}
use Rattle.wasi_bodies.specs.internal.checks.Buffers.{pair_of, list_of}
use Rattle.wasi_bodies.specs.internal.streams.Inputs.{Came, Dealt, SomeDealt, Broke}
use Rattle.wasi_bodies.proofs.checks.BufferArrays.{total_more}
use Rattle.wasi_bodies.proofs.streams.ReaderBytes.{put_none, dealt_rest, dealt_more}

-- ---- the buffers

parts_of : (bs : List MemorySpan) (n : ℕ) → list_of (take n bs) ++ list_of (drop n bs) ≡ list_of bs
parts_of bs n = sym (map-append pair_of (take n bs) (drop n bs)) ∙ ap list_of (take-append-drop n bs)

-- one buffer has no more room than all
pub room_at : (bs : List MemorySpan) (i : ℕ) (d : MemorySpan) → i < length bs → (get_or bs i d).len ≤ total (list_of bs)
room_at bs i d h =
    let f : Buffer → ℕ = λ b. b.1 in
    let sum = total_more bs i d h in
    let both = sum_by-append f (list_of (take (i + 1) bs)) (list_of (drop (i + 1) bs)) in
    let whole : total (list_of (take (i + 1) bs) ++ list_of (drop (i + 1) bs)) ≡ total (list_of bs) = ap total (parts_of bs (i + 1)) in
    omega (arith, sum, both, whole)

-- none came
pub nothing_dealt : (a c : Option (List ℕ)) (m m2 : List ℕ) (bs : List Buffer) → Consumes a c [] → m2 ≡ m → Dealt a c m bs m2 0
nothing_dealt a c m m2 bs none same = record { bytes = []; consumed = none; many = refl; few = omega arith; stand = same ∙ sym (put_none m bs) }

pub untouched : (a : Option (List ℕ)) (m : List ℕ) (bs : List Buffer) → Dealt a a m bs m 0
untouched a m bs = nothing_dealt a a m m bs (Consumes-nil a) refl

-- what came stands in a buffer before which none has room
pub dealt_once : (a c : Option (List ℕ)) (m m2 : List ℕ) (bs : List MemorySpan) (i k : ℕ) (d : MemorySpan) → i < length bs → total (list_of (take i bs)) ≡ 0
    → Came a c m (get_or bs i d).pointer (get_or bs i d).len m2 k → Dealt a c m (list_of bs) m2 k
dealt_once a c m m2 bs i k d h empty came =
    let before : Dealt a a m (list_of (take i bs)) m 0 = untouched a m (list_of (take i bs)) in
    let all : 0 + k ≡ k = omega arith in
    let here : Dealt a c m (list_of (take (i + 1) bs)) m2 k = subst (λ (n : ℕ). Dealt a c m (list_of (take (i + 1) bs)) m2 n) all (dealt_more a a c m m m2 bs i 0 k d h before came (inl (sym empty))) in
    subst (λ (l : List Buffer). Dealt a c m l m2 k) (parts_of bs (i + 1)) (dealt_rest a c m m2 (list_of (take (i + 1) bs)) (list_of (drop (i + 1) bs)) k here)

-- ---- either way of reading

at_least : (n t : ℕ) → n ≡ t → t ≤ n
at_least n t same = omega (arith, same)

module _ {E : Type 0} where
  pub all_least : (r : Result ℕ E) (goes : Type 0) (t : ℕ) → IfOk r (λ n. goes → n ≡ t) → IfOk r (λ n. goes → least_read false t ≤ n)
  all_least (Ok n) goes t full = λ is. at_least n t (full is)
  all_least (Err e) goes t full = tt

  pub broke_long : (r : Result ℕ E) (a c : Option (List ℕ)) (m m2 : List ℕ) (bs : List Buffer) → OnErr r (SomeDealt a c m bs m2) → OnErr r (Broke false a c m bs m2)
  broke_long (Ok n) a c m m2 bs some = tt
  broke_long (Err e) a c m m2 bs some = record { some = some; none = λ is. absurd (false≢true is) }

  pub broke_short : (r : Result ℕ E) (a c : Option (List ℕ)) (m m2 : List ℕ) (bs : List Buffer) → OnErr r (Dealt a c m bs m2 0) → OnErr r (Broke true a c m bs m2)
  broke_short (Ok n) a c m m2 bs none = tt
  broke_short (Err e) a c m m2 bs none = record { some = record { count = 0; dealt = none }; none = λ is. refl }

-- ---- what the row reads

-- what a read of so many bytes has found
abbrev pub piece_of : Bool → ℕ → List ℕ
piece_of short n = cond short (n ∷ []) []

pub no_piece : (short : Bool) (n : ℕ) → short ≡ false → piece_of short n ≡ []
no_piece true n is = absurd (false≢true (sym is))
no_piece false n is = refl

pub later : (short : Bool) (n : ℕ) (others : List ℕ) → others ≡ pieces_after short (piece_of short n ++ others)
later true n others = refl
later false n others = refl

so_many : (n t : ℕ) → n ≤ t → min t 1 ≤ n → n ≡ min t (max 1 n)
so_many n t few some = omega (arith, few, some)

same_so : (n t : ℕ) → n ≤ t → t ≤ n → n ≡ t
same_so n t few some = omega (arith, few, some)

no_more : (n t : ℕ) → n ≤ t → n ≤ min t (max 1 n)
no_more n t few = omega (arith, few)

none_most : (n t k : ℕ) → n ≡ 0 → n ≤ min t (max 1 k)
none_most n t k none = omega (arith, none)

-- the bytes that came are as many as the row takes, or the input has no more
pub reads_so_many : (short : Bool) (n t : ℕ) (others : List ℕ) → n ≤ t → least_read short t ≤ n → n ≡ most_read short (piece_of short n ++ others) t
reads_so_many true n t others few some = so_many n t few some
reads_so_many false n t others few some = same_so n t few some

pub reads_no_more : (short : Bool) (n t : ℕ) (others : List ℕ) → n ≤ t → n ≤ most_read short (piece_of short n ++ others) t
reads_no_more true n t others few = no_more n t few
reads_no_more false n t others few = few

pub reads_before_failure : (short : Bool) (n t : ℕ) (others : List ℕ) → n ≤ t → (short ≡ true → n ≡ 0) → n ≤ most_read short others t
reads_before_failure true n t others few none = none_most n t (get_or others 0 0) (none refl)
reads_before_failure false n t others few none = few
