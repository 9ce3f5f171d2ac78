-- Laws of the sectors past a bound: an operation that writes none of them leaves them, and so do operations one after
-- the other. Devices show by them that they go on (`goes_on` of the trait `Device`).
use Rattle.std.specs.Prelude.{◌≡◌, ◌≢◌, ◌⊎◌, ◌<◌, ◌≤◌, ◌==◌, if◌then◌else◌, ℕ, List}
use Rattle.std.proofs.Common.{inl, inr, ⊎_elim, ap, ◌∙◌, arith}
use Rattle.std.proofs.lemmas.Bool.Decides.{nat_tests}
use Rattle.vol_sector.specs.Disk.{Image, Disk, put, Wrote, After, Leaves}
use Rattle.vol_sector.specs.Past.{PastStays, LeavesPast}

same : (d : Disk) (P : Image → Type 0) → Leaves d d P
same d P = record { later = omega arith; since = λ t c le left. inl left; now = λ c may. inl may }

joins : (end : ℕ) (x y z : Image) → PastStays end x y → PastStays end y z → PastStays end x z
joins end x y z one two k past = two k past ∙ one k past

pub past_same : (end : ℕ) (a : Disk) → LeavesPast end a a
past_same end a = record { seen = λ k past i. a.seen k; crash = same a _ }

pub past_then : (end : ℕ) (a b c : Disk) → LeavesPast end a b → LeavesPast end b c → LeavesPast end a c
past_then end a b c first second = record {
  seen = joins end a.seen b.seen c.seen first.seen second.seen;
  crash = record {
    later = omega (arith, first.crash.later, second.crash.later);
    since = λ t m le left. ⊎_elim (first.crash.since t m le) (λ after. inr (on m after)) (second.crash.since t m (omega (arith, le, first.crash.later)) left);
    now = λ m may. ⊎_elim (first.crash.now m) (λ after. inr (on m after)) (second.crash.now m may);
  };
}
  where
    step : (m d : Image) → a.may_leave d ⊎ After (PastStays end) a.may_leave d → PastStays end d m → After (PastStays end) a.may_leave m
    step m d (inl was) s = (d, was, s)
    step m d (inr after) s = (after.0, after.1, joins end after.0 d m after.2 s)

    on : (m : Image) → After (PastStays end) b.may_leave m → After (PastStays end) a.may_leave m
    on m after = step m after.0 (first.crash.now after.0 after.1) after.2

-- a sector before them is written
pub past_wrote : (end n : ℕ) (bytes : List ℕ) (a b : Disk) → n < end → Wrote n bytes a.seen b.seen → Leaves a b (After (Wrote n bytes) a.may_leave) → LeavesPast end a b
past_wrote end n bytes a b before seen crash = record {
  seen = stays a.seen b.seen seen;
  crash = record {
    later = crash.later;
    since = λ t m le left. ⊎_elim (λ was. inl was) (λ after. inr (on m after)) (crash.since t m le left);
    now = λ m may. ⊎_elim (λ was. inl was) (λ after. inr (on m after)) (crash.now m may);
  };
}
  where
    other : (k : ℕ) (x y : List ℕ) → k ≢ n → (if k == n then x else y) ≡ y
    other k x y ne = grind (arith, nat_tests)

    stays : (x y : Image) → Wrote n bytes x y → PastStays end x y
    stays x y (inl is) k past = ap (λ (m : Image). m k) is
    stays x y (inr is) k past = ap (λ (m : Image). m k) is ∙ other k bytes (x k) (omega (arith, past, before))

    on : (m : Image) → After (Wrote n bytes) a.may_leave m → After (PastStays end) a.may_leave m
    on m after = (after.0, after.1, stays after.0 m after.2)

-- nothing is written
pub past_quiet : (end : ℕ) (a b : Disk) → b.seen ≡ a.seen → Leaves a b (λ m. ⊥) → LeavesPast end a b
past_quiet end a b seen quiet = record {
  seen = λ k past. ap (λ (m : Image). m k) seen;
  crash = record {
    later = quiet.later;
    since = λ t m le left. ⊎_elim (λ was. inl was) (λ none. absurd none) (quiet.since t m le left);
    now = λ m may. ⊎_elim (λ was. inl was) (λ none. absurd none) (quiet.now m may);
  };
}
