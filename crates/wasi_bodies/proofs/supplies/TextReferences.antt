-- Texts that references name.
use Rattle.std.proofs.Common.{◌≡◌, ◌≤◌, true, ℕ, ◌+◌, ◌<◌, List, [], ◌∷◌, ◌++◌, length, take, get_or, arith, add-one, add-zero, append-nil, append_assoc, refl, ap, ◌∙◌, sym}
use Rattle.std.proofs.lemmas.List.{length-map}
use Rattle.std.proofs.lemmas.List.Sums.{sum_by-cons, sum_by-append, sum_by_more_le}
use Rattle.std.proofs.Math.Seq.{take-suc}
use Rattle.byteorder.specs.Endian.{little_bytes}
use Rattle.std.proofs.lemmas.Bool.{and_parts, leb-true}
use denote.Ref.{Bor}
use Rattle.wasi_bodies.specs.supplies.Texts as references
use Rattle.wasi_bodies.specs.supplies.Texts.{Texts, texts_of}
use Rattle.wasi_bodies.specs.supplies.Rows.{ended_bytes, pointers, ended}
use Rattle.wasi_bodies.specs.declared.settings.TheConstants.{MOST_TEXTS, MOST_TEXT_BYTES}

pub same_ended : (ts : Texts) → ended_bytes (texts_of ts) ≡ references.ended_bytes ts
same_ended [] = refl
same_ended (t ∷ ts) =
    sum_by-cons (λ (x : List ℕ). length x + 1) t.now (texts_of ts)
    ∙ ap (λ (n : ℕ). length t.now + 1 + n) (same_ended ts)
    ∙ sym (sum_by-cons (λ (x : Bor (List ℕ)). length x.now + 1) t ts)

-- texts that fit are short
pub fits_ended : (ts : Texts) → references.texts_fit ts ≡ true → references.ended_bytes ts ≤ MOST_TEXT_BYTES
fits_ended ts h = leb-true _ _ (and_parts _ _ (and_parts _ _ h).0).1

pub few_texts : (ts : Texts) → references.texts_fit ts ≡ true → (length (texts_of ts) ≡ length ts) × (length ts ≤ MOST_TEXTS)
few_texts ts h = (length-map ts _, leb-true _ _ (and_parts _ _ (and_parts _ _ h).0).0)

-- ---- one text more

taken_more : (ts : Texts) (i : ℕ) (d : Bor (List ℕ)) → i < length ts → take (i + 1) ts ≡ take i ts ++ (get_or ts i d ∷ [])
taken_more ts i d h = rw add-one (take-suc ts i d h)

pub sum_more : (ts : Texts) (i : ℕ) (d : Bor (List ℕ)) → i < length ts → references.ended_bytes (take (i + 1) ts) ≡ references.ended_bytes (take i ts) + (length (get_or ts i d).now + 1)
sum_more ts i d h =
    let f : Bor (List ℕ) → ℕ = λ t. length t.now + 1 in
    ap references.ended_bytes (taken_more ts i d h) ∙ (sum_by-append f (take i ts) (get_or ts i d ∷ []) ∙ ap (λ (n : ℕ). references.ended_bytes (take i ts) + n) (sum_by-cons f (get_or ts i d) [] ∙ add-zero _))

-- none of the texts is past the last
pub within_all : (ts : Texts) (i : ℕ) (d : Bor (List ℕ)) → i < length ts → references.ended_bytes (take i ts) + (length (get_or ts i d).now + 1) ≤ references.ended_bytes ts
within_all ts i d h = sum_by_more_le (λ (t : Bor (List ℕ)). length t.now + 1) ts i d h

pointers_push : (first : ℕ) (ts : Texts) (t : Bor (List ℕ)) → pointers first (texts_of (ts ++ t ∷ [])) ≡ pointers first (texts_of ts) ++ little_bytes 4 (first + references.ended_bytes ts)
pointers_push first [] t = append-nil _ ∙ ap (little_bytes 4) (sym (add-zero first))
pointers_push first (x ∷ ts) t =
    ap (λ (l : List ℕ). little_bytes 4 first ++ l) (pointers_push (first + length x.now + 1) ts t)
    ∙ (sym (append_assoc (little_bytes 4 first) (pointers (first + length x.now + 1) (texts_of ts)) _)
    ∙ ap (λ (n : ℕ). (little_bytes 4 first ++ pointers (first + length x.now + 1) (texts_of ts)) ++ little_bytes 4 n)
    (let parts = sum_by-cons (λ (t : Bor (List ℕ)). length t.now + 1) x ts in omega (arith, parts)))

ended_push : (ts : Texts) (t : Bor (List ℕ)) → ended (texts_of (ts ++ t ∷ [])) ≡ ended (texts_of ts) ++ (t.now ++ 0 ∷ [])
ended_push [] t = refl
ended_push (x ∷ ts) t =
    ap (λ (l : List ℕ). x.now ++ 0 ∷ l) (ended_push ts t) ∙ sym (append_assoc x.now (0 ∷ ended (texts_of ts)) _)

pub pointers_more : (first : ℕ) (ts : Texts) (i : ℕ) (d : Bor (List ℕ)) → i < length ts
    → pointers first (texts_of (take (i + 1) ts)) ≡ pointers first (texts_of (take i ts)) ++ little_bytes 4 (first + references.ended_bytes (take i ts))
pointers_more first ts i d h = ap (λ (l : Texts). pointers first (texts_of l)) (taken_more ts i d h) ∙ pointers_push first (take i ts) (get_or ts i d)

pub ended_more : (ts : Texts) (i : ℕ) (d : Bor (List ℕ)) → i < length ts → ended (texts_of (take (i + 1) ts)) ≡ ended (texts_of (take i ts)) ++ ((get_or ts i d).now ++ 0 ∷ [])
ended_more ts i d h = ap (λ (l : Texts). ended (texts_of l)) (taken_more ts i d h) ∙ ended_push (take i ts) (get_or ts i d)
