-- Steps of a survey.
use Rattle.std.proofs.Common.{◌≡◌, ◌≢◌, ◌⊎◌, inl, inr, ⊎_elim, Bool, false, OnOk, ◌≤◌, ◌<◌, ◌+◌, ◌-◌, ◌*◌, ◌==◌, not, ℕ, zero, suc, List, [], ◌∷◌, ◌++◌, length, take, drop, map, get_or, replicate, Result, Ok, Err, IfErr, IsErrAnd, refl, sym, ◌∙◌, ap, subst, arith}
use Rattle.std.proofs.lemmas.Result.{IfErr-weaker, on_ok_weaker}
use Rattle.std.proofs.lemmas.List.{append_assoc, append-nil, length-append, take_more, take-append-drop, ext_get_or, flat_map_more, length-replicate, get_or-replicate}
use Rattle.std.proofs.lemmas.List.FromFn.{length-map-range_with_len, get_or-map-range_with_len}
use Rattle.std.proofs.lemmas.Grind.{flat_map-append}
use Rattle.std.proofs.lemmas.List.Elements.{filter-append, Contains-append_left, Contains-push, Contains-push_cases}
use Rattle.std.proofs.lemmas.Bool.Decides.{nat_tests}
use Rattle.std.specs.List.{range_with_len}
use Rattle.byteorder.specs.Endian.{little_number}
use Rattle.vol_sector.specs.Disk.{Image}
use Rattle.vol_sector.specs.Fault.{is_device, device_failed, IsDamage}
use Rattle.vol_sector.specs.declared.device.Device.{Ghosts}
use Rattle.vol_sector.proofs.Damages.{damage_not_device}
use Rattle.vol_sector.specs.declared.fault.VolumeFault.{VolumeFault}
use Rattle.vol_sector.specs.declared.fault.VolumeFault.TheVariants as faults
use Rattle.vol_log.specs.Log.{device_of, has_failed}
use Rattle.vol_log.specs.Reading.{OnlyReads}
use Rattle.vol_log.specs.declared.log.Log.{Log}
use Rattle.vol_log.proofs.Readings.{reads_same, reads_then}
use Rattle.vol_body.specs.Body.{number_in}
use Rattle.vol_body.specs.Survey.{nonzero, AreInside}
use Rattle.vol_inode.specs.Space.{inner_blocks_for, double_blocks_for}
use Rattle.vol_body.specs.internal.Surveying.{listed, with_listed, all_listed, with_all_listed, all_with_all_listed, Pushes, Overflows, Surveys, ListsNoneFrom, LaterNone, TripleNone}
use Rattle.vol_body.proofs.Places.{number_there}

-- a beginning of numbers that are inside
pub inside_left : (first end : ℕ) (xs ys : List ℕ) → AreInside first end (xs ++ ys) → AreInside first end xs
inside_left first end xs ys all = record {
  inside = λ n has. all.inside n (Contains-append_left xs ys n has);
  few = omega (arith, all.few, length-append xs ys);
}

pub nonzero-append : (xs ys : List ℕ) → nonzero (xs ++ ys) ≡ nonzero xs ++ nonzero ys
nonzero-append xs ys = filter-append (λ n. not (n == 0)) xs ys

pushed_both : (old xs ys : List ℕ) → old ++ nonzero (xs ++ ys) ≡ (old ++ nonzero xs) ++ nonzero ys
pushed_both old xs ys = ap (λ (l : List ℕ). old ++ l) (nonzero-append xs ys) ∙ sym (append_assoc old (nonzero xs) (nonzero ys))

-- numbers are pushed after others
pub pushes_then : (first end : ℕ) (a b c xs ys : List ℕ) → Pushes first end a b xs → Pushes first end b c ys → Pushes first end a c (xs ++ ys)
pushes_then first end a b c xs ys one two = record {
  named = two.named ∙ ap (λ (l : List ℕ). l ++ nonzero ys) one.named ∙ sym (pushed_both a xs ys);
  inside = two.inside;
}

pub overflows_before : (first end : ℕ) (a xs ys : List ℕ) → Overflows first end a xs → Overflows first end a (xs ++ ys)
overflows_before first end a xs ys over all = over (inside_left first end (a ++ nonzero xs) (nonzero ys) (subst (AreInside first end) (pushed_both a xs ys) all))

pub overflows_then : (first end : ℕ) (a b xs ys : List ℕ) → Pushes first end a b xs → Overflows first end b ys → Overflows first end a (xs ++ ys)
overflows_then first end a b xs ys one over all =
    over (subst (AreInside first end) (pushed_both a xs ys ∙ sym (ap (λ (l : List ℕ). l ++ nonzero ys) one.named)) all)

pub one_number : (n : ℕ) → n ≢ 0 → nonzero (n ∷ []) ≡ n ∷ []
one_number n some = grind (arith, nat_tests)

-- a number that is out of the range, or for which there is no space
pub overflows_outside : (first end : ℕ) (old : List ℕ) (n : ℕ) → n ≢ 0 → ((first ≤ n) × (n < end) → ⊥) → Overflows first end old (n ∷ [])
overflows_outside first end old n some out all =
    out ((subst (λ (l : List ℕ). AreInside first end (old ++ l)) (one_number n some) all).inside n (Contains-push old n))

pub overflows_full : (first end : ℕ) (old : List ℕ) (n : ℕ) → n ≢ 0 → end - first ≤ length old → Overflows first end old (n ∷ [])
overflows_full first end old n some full all =
    omega (arith, full, (subst (λ (l : List ℕ). AreInside first end (old ++ l)) (one_number n some) all).few, length-append old (n ∷ []))

pub pushes_one : (first end : ℕ) (old new : List ℕ) (n : ℕ) → AreInside first end old → n ≢ 0 → first ≤ n → n < end → length old < end - first → new ≡ old ++ n ∷ [] → Pushes first end old new (n ∷ [])
pushes_one first end old new n all some from below room is = record {
  named = is ∙ ap (λ (l : List ℕ). old ++ l) (sym (one_number n some));
  inside = subst (AreInside first end) (sym is) (record {
    inside = λ m has. ⊎_elim (λ was. all.inside m was) (λ same. subst (λ (k : ℕ). (first ≤ k) × (k < end)) same (from, below)) (Contains-push_cases old n m has);
    few = omega (arith, room, length-append old (n ∷ []));
  });
}

-- before the first one
pub pushes_none : (first end : ℕ) (old : List ℕ) → AreInside first end old → Pushes first end old old []
pushes_none first end old all = record { named = sym (append-nil old); inside = all }

-- the next number is pushed after those before it
pub pushes_next : (first end : ℕ) (a b c xs : List ℕ) (i : ℕ) → i < length xs → Pushes first end a b (take i xs) → Pushes first end b c (get_or xs i 0 ∷ []) → Pushes first end a c (take (i + 1) xs)
pushes_next first end a b c xs i lt one two = subst (Pushes first end a c) (sym (take_more xs i 0 lt)) (pushes_then first end a b c (take i xs) (get_or xs i 0 ∷ []) one two)

pub overflows_next : (first end : ℕ) (a b xs : List ℕ) (i : ℕ) → i < length xs → Pushes first end a b (take i xs) → Overflows first end b (get_or xs i 0 ∷ []) → Overflows first end a xs
overflows_next first end a b xs i lt one over =
    subst (Overflows first end a) (ap (λ (l : List ℕ). l ++ drop (i + 1) xs) (sym (take_more xs i 0 lt)) ∙ take-append-drop (i + 1) xs)
    (overflows_before first end a (take i xs ++ get_or xs i 0 ∷ []) (drop (i + 1) xs) (overflows_then first end a b (take i xs) (get_or xs i 0 ∷ []) one over))

-- what a `?` hands on
pub handed_on : {T : Type 0} (r : Result T VolumeFault) (P : VolumeFault → Type 0) (x : VolumeFault) → IsErrAnd r (λ y. y ≡ x) → P x → IfErr r P
handed_on (Ok t) P x is holds = tt
handed_on (Err e) P x is holds = subst P (sym is) holds

pub device_not_damaged : {X : Type 0} → IsDamage faults.Device → X
device_not_damaged is = absurd is

-- whether the device failed, where the fault is handed on
pub failed_on : {T : Type 0} (r : Result T VolumeFault) (x : VolumeFault) (failed : Bool) → IsErrAnd r (λ y. y ≡ x) → failed ≡ is_device x → failed ≡ device_failed r
failed_on (Ok t) x failed is now = absurd is
failed_on (Err e) x failed is now = now ∙ ap is_device (sym is)

pub not_device : (x : VolumeFault) → IsDamage x ⊎ (x ≡ faults.Memory) → is_device x ≡ false
not_device x is = ⊎_elim (λ damaged. damage_not_device x damaged) (λ memory. ap is_device memory) is

pub no_device_failed : {T : Type 0} (r : Result T VolumeFault) → IfErr r (λ x. IsDamage x ⊎ (x ≡ faults.Memory)) → device_failed r ≡ false
no_device_failed (Ok t) is = refl
no_device_failed (Err x) is = not_device x is

-- two of the three faults
pub or_memory : (x : VolumeFault) → IsDamage x ⊎ (x ≡ faults.Memory) → IsDamage x ⊎ ((x ≡ faults.Device) ⊎ (x ≡ faults.Memory))
or_memory x is = ⊎_elim (λ damaged. inl damaged) (λ memory. inr (inr memory)) is

pub or_device : (x : VolumeFault) → IsDamage x ⊎ (x ≡ faults.Device) → IsDamage x ⊎ ((x ≡ faults.Device) ⊎ (x ≡ faults.Memory))
or_device x is = ⊎_elim (λ damaged. inl damaged) (λ device. inr (inl device)) is

-- what holds anyway holds at Ok
pub at_any_ok : {T E : Type 0} (r : Result T E) (P : Type 0) → P → OnOk r P
at_any_ok (Ok x) P holds = holds
at_any_ok (Err e) P holds = tt

numbers_of : (f : ℕ → ℕ) (m : ℕ) (numbers : List ℕ) → length numbers ≡ m → ((i : ℕ) → i < m → get_or numbers i 0 ≡ f i) → numbers ≡ map f (range_with_len 0 m)
numbers_of f m numbers long same =
    ext_get_or 0 numbers (map f (range_with_len 0 m)) (long ∙ sym (length-map-range_with_len f 0 m)) (λ i lt. let within : i < m = omega (arith, lt, long) in same i within ∙ sym (get_or-map-range_with_len f 0 m i i 0 within (omega arith)))

-- the numbers as they are read
pub listed_read : (content : Image) (n : ℕ) (image numbers : List ℕ) → n ≢ 0 → image ≡ content n → length numbers ≡ 128
    → ((i : ℕ) → i < 128 → get_or numbers i 0 ≡ little_number 4 (drop (4 * i) image)) → numbers ≡ listed content n
unfolding listed
listed_read content n image numbers some is long read =
    numbers_of (number_in content n) 128 numbers long (λ i lt. read i lt ∙ ap (λ (l : List ℕ). little_number 4 (drop (4 * i) l)) is ∙ sym (number_there content n i some))

pub listed_none : (content : Image) (n : ℕ) → n ≡ 0 → replicate 128 0 ≡ listed content n
unfolding listed
listed_none content n none = numbers_of (number_in content n) 128 (replicate 128 0) (length-replicate {A = ℕ} 128 0) (λ i lt. get_or-replicate 128 i 0 0 lt ∙ sym (ap (λ (m : ℕ). number_in content m i) none))

pub number_listed : (content : Image) (n i : ℕ) → i < 128 → get_or (listed content n) i 0 ≡ number_in content n i
unfolding listed
number_listed content n i lt = get_or-map-range_with_len (number_in content n) 0 128 i i 0 lt (omega arith)

pub length-listed : (content : Image) (n : ℕ) → length (listed content n) ≡ 128
unfolding listed
length-listed content n = length-map-range_with_len (number_in content n) 0 128

-- one more list
pub listed_more : (content : Image) (xs : List ℕ) (i : ℕ) → i < length xs → all_listed content (take i xs) ++ with_listed content (get_or xs i 0) ≡ all_listed content (take (i + 1) xs)
listed_more content xs i lt = flat_map_more (with_listed content) [] (take i xs) (get_or xs i 0) ∙ ap (all_listed content) (sym (take_more xs i 0 lt))

pub overflows_list : (content : Image) (first end : ℕ) (a b xs : List ℕ) (i : ℕ) → i < length xs → Pushes first end a b (all_listed content (take i xs)) → Overflows first end b (with_listed content (get_or xs i 0))
    → Overflows first end a (all_listed content xs)
overflows_list content first end a b xs i lt one over =
    let so_far = all_listed content (take i xs) in
    let this = with_listed content (get_or xs i 0) in
    let rest = all_listed content (drop (i + 1) xs) in
    subst (Overflows first end a)
    (ap (λ (l : List ℕ). l ++ rest) (listed_more content xs i lt)
    ∙ sym (flat_map-append (with_listed content) (take (i + 1) xs) (drop (i + 1) xs)) ∙ ap (all_listed content) (take-append-drop (i + 1) xs))
    (overflows_before first end a (so_far ++ this) rest (overflows_then first end a b so_far this one over))

-- the same of double-indirect blocks
pub doubles_more : (content : Image) (xs : List ℕ) (i : ℕ) → i < length xs → all_with_all_listed content (take i xs) ++ with_all_listed content (get_or xs i 0) ≡ all_with_all_listed content (take (i + 1) xs)
doubles_more content xs i lt = flat_map_more (with_all_listed content) [] (take i xs) (get_or xs i 0) ∙ ap (all_with_all_listed content) (sym (take_more xs i 0 lt))

pub overflows_double : (content : Image) (first end : ℕ) (a b xs : List ℕ) (i : ℕ) → i < length xs → Pushes first end a b (all_with_all_listed content (take i xs)) → Overflows first end b (with_all_listed content (get_or xs i 0))
    → Overflows first end a (all_with_all_listed content xs)
overflows_double content first end a b xs i lt one over =
    let so_far = all_with_all_listed content (take i xs) in
    let this = with_all_listed content (get_or xs i 0) in
    let rest = all_with_all_listed content (drop (i + 1) xs) in
    subst (Overflows first end a)
    (ap (λ (l : List ℕ). l ++ rest) (doubles_more content xs i lt)
    ∙ sym (flat_map-append (with_all_listed content) (take (i + 1) xs) (drop (i + 1) xs)) ∙ ap (all_with_all_listed content) (take-append-drop (i + 1) xs))
    (overflows_before first end a (so_far ++ this) rest (overflows_then first end a b so_far this one over))

-- ---- sector 0 stands for no list

zeros_none : (k : ℕ) → nonzero (replicate k 0) ≡ []
zeros_none zero = refl
zeros_none (suc k) = zeros_none k

pub none_listed : (content : Image) (n : ℕ) → n ≡ 0 → nonzero (with_listed content n) ≡ []
none_listed content n none = (λ i. nonzero (none i ∷ sym (listed_none content n none) i)) ∙ zeros_none 128

none_of_all : (content : Image) (k : ℕ) → nonzero (all_listed content (replicate k 0)) ≡ []
none_of_all content zero = refl
none_of_all content (suc k) =
    nonzero-append (with_listed content 0) (all_listed content (replicate k 0)) ∙ (λ i. none_listed content 0 refl i ++ none_of_all content k i)

pub none_later : (content : Image) (n : ℕ) → n ≡ 0 → nonzero (n ∷ all_listed content (listed content n)) ≡ []
none_later content n none = (λ i. nonzero (none i ∷ all_listed content (sym (listed_none content n none) i))) ∙ none_of_all content 128

none_of_doubles : (content : Image) (k : ℕ) → nonzero (all_with_all_listed content (replicate k 0)) ≡ []
none_of_doubles content zero = refl
none_of_doubles content (suc k) =
    nonzero-append (with_all_listed content 0) (all_with_all_listed content (replicate k 0)) ∙ (λ i. none_later content 0 refl i ++ none_of_doubles content k i)

pub none_of_triple : (content : Image) (n : ℕ) → n ≡ 0 → nonzero (n ∷ all_with_all_listed content (listed content n)) ≡ []
none_of_triple content n none = (λ i. nonzero (none i ∷ all_with_all_listed content (sym (listed_none content n none) i))) ∙ none_of_doubles content 128

pushes_zeros : (first end : ℕ) (old numbers : List ℕ) → AreInside first end old → nonzero numbers ≡ [] → Pushes first end old old numbers
pushes_zeros first end old numbers all none = record { named = sym (append-nil old) ∙ ap (λ (l : List ℕ). old ++ l) (sym none); inside = all }

pub lists_none : (content : Image) (n from : ℕ) → n ≡ 0 → ListsNoneFrom content n from
lists_none content n from none i le lt = ap (λ (m : ℕ). number_in content m i) none

pub later_list_none : (content : Image) (n start count : ℕ) → n ≡ 0 → LaterNone content n start count
later_list_none content n start count none = record {
  own = lists_none content n (inner_blocks_for (count - start)) none;
  later = λ i lt. lists_none content (get_or (listed content n) i 0) (count - (start + 128 * i)) (number_listed content n i lt ∙ ap (λ (m : ℕ). number_in content m i) none);
}

pub triple_none : (content : Image) (n count : ℕ) → n ≡ 0 → TripleNone content n count
triple_none content n count none = record {
  own = lists_none content n (double_blocks_for (count - 16570)) none;
  doubles = λ m lt. later_list_none content (get_or (listed content n) m 0) (16570 + 16384 * m) count (number_listed content n m lt ∙ ap (λ (x : ℕ). number_in content x m) none);
}

-- ---- what a step of a survey answers

module _ {D : Type 0} {g : Ghosts D} (first end : ℕ) where
  -- a `?` hands on the fault
  pub surveys_handed : (old new : Log D g) (a z numbers : List ℕ) (NonePast : Type 0) (r : Result (Unit {0}) VolumeFault) (x : VolumeFault) → IsErrAnd r (λ y. y ≡ x)
      → (g.honest (device_of old) → IsDamage x → NonePast → Overflows first end a numbers) → IsDamage x ⊎ ((x ≡ faults.Device) ⊎ (x ≡ faults.Memory)) → OnlyReads old new → has_failed new ≡ is_device x → Surveys first end old new a z numbers NonePast r
  surveys_handed old new a z numbers NonePast (Ok t) x is damaged refused reads failed = absurd is
  surveys_handed old new a z numbers NonePast (Err e) x is damaged refused reads failed = record {
    pushes = λ h. tt;
    past = λ h. tt;
    inside = tt;
    damaged = λ h. subst (λ (y : VolumeFault). IsDamage y → NonePast → Overflows first end a numbers) (sym is) (damaged h);
    refused = subst (λ (y : VolumeFault). IsDamage y ⊎ ((y ≡ faults.Device) ⊎ (y ≡ faults.Memory))) (sym is) refused;
    reads = reads;
    failed = failed ∙ ap is_device (sym is);
  }

  -- none is pushed
  pub surveys_none : (log : Log D g) (a numbers : List ℕ) (NonePast : Type 0) → AreInside first end a → nonzero numbers ≡ [] → NonePast → has_failed log ≡ false → Surveys first end log log a a numbers NonePast (Ok tt)
  surveys_none log a numbers NonePast all none past working = record {
    pushes = λ h. pushes_zeros first end a numbers all none;
    past = λ h. past;
    inside = all;
    damaged = λ h. tt;
    refused = tt;
    reads = reads_same log;
    failed = working;
  }

  -- a step after others
  pub surveys_then : (old mid new : Log D g) (a b z xs ys zs : List ℕ) (NonePast Rest : Type 0) (r : Result (Unit {0}) VolumeFault) → (g.honest (device_of old) → Pushes first end a b xs) → OnlyReads old mid → has_failed mid ≡ false
      → Surveys first end mid new b z zs Rest r → (g.honest (device_of old) → zs ≡ ys) → (g.honest (device_of old) → Rest → NonePast) → (g.honest (device_of old) → NonePast → Rest) → Surveys first end old new a z (xs ++ ys) NonePast r
  surveys_then old mid new a b z xs ys zs NonePast Rest r pushed reads working step same whole part = record {
    pushes = λ h. on_ok_weaker r (λ p. pushes_then first end a b z xs ys (pushed h) (subst (Pushes first end b z) (same h) p)) (step.pushes (reads.honest.0 h));
    past = λ h. on_ok_weaker r (whole h) (step.past (reads.honest.0 h));
    inside = step.inside;
    damaged = λ h. IfErr-weaker r
        (λ fault. IsDamage fault → Rest → Overflows first end b zs)
        (λ fault. IsDamage fault → NonePast → Overflows first end a (xs ++ ys))
        (λ fault holds is past. overflows_then first end a b xs ys (pushed h) (subst (Overflows first end b) (same h) (holds is (part h past))))
        (step.damaged (reads.honest.0 h));
    refused = step.refused;
    reads = reads_then old mid new working reads step.reads;
    failed = step.failed;
  }
