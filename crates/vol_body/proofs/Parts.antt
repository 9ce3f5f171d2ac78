-- The bytes of a file, data block by data block.
use Rattle.std.proofs.Common.{◌≡◌, ◌≤◌, ◌<◌, ◌+◌, ◌/◌, ◌%◌, ℕ, zero, suc, List, [], ◌∷◌, ◌++◌, length, take, drop, get_or, sym, ◌∙◌, ap, arith}
use Rattle.std.proofs.lemmas.List.{ext_get_or, length-take-le, length-drop, length-map, get_or-take, get_or-drop, drop-drop, take_at, drop_at}
use Rattle.std.proofs.lemmas.List.FromFn.{get_or-map-range_with_len, length-range_with_len}
use Rattle.std.specs.List.{range_with_len}
use Rattle.vol_sector.specs.Disk.{Image}
use Rattle.vol_inode.specs.declared.entry.Entry.{Entry}
use Rattle.vol_body.specs.Body.{data_block, named, block_bytes, byte_at, bytes_of}

pub length-bytes_of : (content : Image) (e : Entry) → length (bytes_of content e) ≡ e.size
length-bytes_of content e = length-map (range_with_len 0 e.size) (byte_at content e) ∙ length-range_with_len 0 e.size

pub get_or-bytes_of : (content : Image) (e : Entry) (k : ℕ) → k < e.size → get_or (bytes_of content e) k 0 ≡ byte_at content e k
get_or-bytes_of content e k lt = get_or-map-range_with_len (byte_at content e) 0 e.size k k 0 lt (omega arith)

-- bytes within one data block are the file's
pub part_of_bytes : (content : Image) (e : Entry) (image : List ℕ) (at n : ℕ) → length image ≡ 512 → image ≡ block_bytes content (named content e (data_block (at / 512)))
    → at % 512 + n ≤ 512 → at + n ≤ e.size → take n (drop (at % 512) image) ≡ take n (drop at (bytes_of content e))
part_of_bytes content e image at n long is fits within =
    ext_get_or 0 (take n (drop (at % 512) image)) (take n (drop at (bytes_of content e))) (left ∙ sym right) (λ k lt. each k (omega (arith, left)))
  where
    left : length (take n (drop (at % 512) image)) ≡ n
    left = length-take-le n (drop (at % 512) image) (omega (arith, length-drop (at % 512) image, long))

    right : length (take n (drop at (bytes_of content e))) ≡ n
    right = length-take-le n (drop at (bytes_of content e)) (omega (arith, length-drop at (bytes_of content e), length-bytes_of content e))

    same_part : (k : ℕ) → k < n → (at + k) / 512 ≡ at / 512
    same_part k lt = omega arith

    same_place : (k : ℕ) → k < n → (at + k) % 512 ≡ at % 512 + k
    same_place k lt = omega arith

    each : (k : ℕ) → k < n → get_or (take n (drop (at % 512) image)) k 0 ≡ get_or (take n (drop at (bytes_of content e))) k 0
    each k lt =
        get_or-take n (drop (at % 512) image) k 0 lt
        ∙ get_or-drop (at % 512) image k 0
        ∙ ap (λ (l : List ℕ). get_or l (at % 512 + k) 0) is
        ∙ sym (ap (λ (j : ℕ). get_or (block_bytes content (named content e (data_block j))) ((at + k) % 512) 0) (same_part k lt)
        ∙ ap (λ (p : ℕ). get_or (block_bytes content (named content e (data_block (at / 512)))) p 0) (same_place k lt))
        ∙ sym (get_or-bytes_of content e (at + k) (omega arith))
        ∙ sym (get_or-take n (drop at (bytes_of content e)) k 0 lt ∙ get_or-drop at (bytes_of content e) k 0)

take_add : (m n : ℕ) (xs : List ℕ) → m ≤ length xs → take (m + n) xs ≡ take m xs ++ take n (drop m xs)
take_add zero n xs le = let e : 0 + n ≡ n = omega arith in ap (λ (k : ℕ). take k xs) e
take_add (suc m) n [] le = absurd (omega arith)
take_add (suc m) n (x ∷ xs) le =
    let e : suc m + n ≡ suc (m + n) = omega arith in
    ap (λ (k : ℕ). take k (x ∷ xs)) e ∙ ap (λ (l : List ℕ). x ∷ l) (take_add m n xs (omega arith))

-- one more piece of what is read
pub filled_more : (buffer now bytes new : List ℕ) (done n : ℕ) → done ≤ length bytes → now ≡ take done bytes ++ drop done buffer → take n new ≡ take n (drop done bytes)
    → take done now ++ take n new ++ drop (done + n) now ≡ take (done + n) bytes ++ drop (done + n) buffer
filled_more buffer now bytes new done n le is piece =
    let long : length (take done bytes) ≡ done = length-take-le done bytes le in
    let front : take done now ≡ take done bytes = ap (take done) is ∙ take_at (take done bytes) (drop done buffer) done long in
    let back : drop (done + n) now ≡ drop (done + n) buffer = sym (drop-drop n done now) ∙ ap (drop n) (ap (drop done) is ∙ drop_at (take done bytes) (drop done buffer) done long) ∙ drop-drop n done buffer in
    (λ i. front i ++ piece i ++ back i) ∙ ap (λ (l : List ℕ). l ++ drop (done + n) buffer) (sym (take_add done n bytes le))
