-- Lemmas on images that are read back.
use Rattle.std.proofs.Common.{◌≡◌, inl, inr, ℕ, suc, ◌+◌, ◌<◌, List, [], ◌∷◌, length, get_or, set, refl, sym, ◌∙◌, ap, subst, arith}
use Rattle.std.proofs.lemmas.List.{map-set, set-get_or, get_or-map, get_or-set_same, get_or-set_other}
use Rattle.std.proofs.lemmas.Bool.{cases_eq}
use Rattle.vol_sector.specs.Disk.{Image}
use Rattle.vol_log.specs.Batch.{logged}
use Rattle.vol_log.specs.internal.Batch.{numbers}
use Rattle.vol_log.specs.declared.staged.Staged.{Staged}
use Rattle.vol_log.proofs.Images.{blank}

pub numbers_set : (batch : List Staged) (i : ℕ) (x : List ℕ) → i < length batch → numbers (set batch i (record { sector = (get_or batch i blank).sector; image = x })) ≡ numbers batch
numbers_set batch i x lt =
    map-set (λ (t : Staged). t.sector) batch i (record { sector = (get_or batch i blank).sector; image = x })
    ∙ ap (λ (n : ℕ). set (numbers batch) i n) (sym (get_or-map (λ (t : Staged). t.sector) batch i blank 0 lt))
    ∙ set-get_or (numbers batch) i 0

pub read_more : (batch : List Staged) (i : ℕ) (n : ℕ) (x : List ℕ) (seen : Image) → i < length batch → x ≡ seen (2 + i) → ((j : ℕ) → j < i → (get_or batch j blank).image ≡ seen (2 + j)) → (j : ℕ) → j < i + 1 → (get_or (set batch i (record { sector = n; image = x })) j blank).image ≡ seen (2 + j)
read_more batch i n x seen lt is so_far j lt_j = elim (cases_eq j i) [
  | inl same ↦ subst (λ (q : ℕ). (get_or (set batch i new) q blank).image ≡ seen (2 + q)) (sym same) (ap (λ (t : Staged). t.image) (get_or-set_same batch i new blank lt) ∙ is)
  | inr other ↦ ap (λ (t : Staged). t.image) (get_or-set_other batch i j new blank other) ∙ so_far j (omega arith)
]
  where
    new : Staged
    new = record { sector = n; image = x }

all_read_at : (batch : List Staged) (at : ℕ) (seen : Image) → ((j : ℕ) → j < length batch → (get_or batch j blank).image ≡ seen (at + j)) → batch ≡ logged (numbers batch) at seen
all_read_at [] at seen read = refl
all_read_at (s ∷ batch) at seen read =
    let e : at + 0 ≡ at = omega arith in
    let here : s.image ≡ seen at = read 0 (omega arith) ∙ ap seen e in
    let rest : batch ≡ logged (numbers batch) (at + 1) seen = all_read_at batch (at + 1) seen (λ j lt. read (suc j) (omega arith) ∙ ap seen (let k : at + suc j ≡ at + 1 + j = omega arith in k)) in
    (λ i. (record { sector = s.sector; image = here i }) ∷ rest i)

pub all_read : (batch old : List Staged) (seen : Image) → numbers batch ≡ numbers old → ((j : ℕ) → j < length batch → (get_or batch j blank).image ≡ seen (2 + j)) → batch ≡ logged (numbers old) 2 seen
all_read batch old seen same read = all_read_at batch 2 seen read ∙ ap (λ (ns : List ℕ). logged ns 2 seen) same
