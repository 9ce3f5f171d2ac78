-- In versions 1 and 2 the last pointer is zero, so an entry's sector ends in four zeros.
use Rattle.std.proofs.Common.{◌≡◌, ◌≢◌, ℕ, zero, suc, ◌+◌, ◌*◌, ◌≤◌, ◌<◌, List, [], ◌∷◌, ◌++◌, length, drop, get_or, replicate, refl, sym, ◌∙◌, ap, arith}
use Rattle.std.proofs.lemmas.List.{drop_at, drop-drop, length-append}
use Rattle.std.specs.List.{flat_map}
use Rattle.byteorder.specs.Endian.{little_bytes}
use Rattle.vol_inode.specs.Space.{blocks_for_size, size_limit}
use Rattle.vol_inode.specs.Spelling.{spelling}
use Rattle.vol_inode.specs.Entry.{IsEntry}
use Rattle.vol_inode.specs.declared.entry.Entry.{Entry}
use Rattle.vol_inode.specs.declared.version.Version.{Version}
use Rattle.vol_inode.specs.declared.version.Version.TheVariants.{One, Two, Four}

drop_none : (k : ℕ) → drop {A = ℕ} k [] ≡ []
drop_none zero = refl
drop_none (suc k) = refl

-- numbers that are spelled, without the first
drop_flat : (k : ℕ) (ns : List ℕ) → drop (4 * k) (flat_map (little_bytes 4) ns) ≡ flat_map (little_bytes 4) (drop k ns)
drop_flat zero ns = refl
drop_flat (suc k) [] = drop_none (4 * suc k)
drop_flat (suc k) (n ∷ ns) =
    let four : 4 * suc k ≡ suc (suc (suc (suc (4 * k)))) = omega arith in
    ap (λ (m : ℕ). drop m (flat_map (little_bytes 4) (n ∷ ns))) four ∙ drop_flat k ns

-- the last of a list
last_alone : (k : ℕ) (ns : List ℕ) → length ns ≡ k + 1 → get_or ns k 0 ≡ 0 → drop k ns ≡ 0 ∷ []
last_alone zero [] long last = absurd (omega arith)
last_alone zero (n ∷ []) long last = ap (λ (m : ℕ). m ∷ []) last
last_alone zero (n ∷ m ∷ ns) long last = absurd (omega arith)
last_alone (suc k) [] long last = absurd (omega arith)
last_alone (suc k) (n ∷ ns) long last = last_alone k ns (omega arith) last

-- no file of versions 1 and 2 is long enough for the last pointer
pub few_blocks : (version : Version) (size : ℕ) → version ≢ Four → size ≤ size_limit version → blocks_for_size size ≤ 16570
few_blocks One size older small = omega arith
few_blocks Two size older small = omega arith
few_blocks Four size older small = absurd (older refl)

-- so its bytes are zeros
pub ends_in_zeros : (version : Version) (e : Entry) → IsEntry version e → version ≢ Four → drop 508 (spelling e) ≡ replicate 4 0
ends_in_zeros version e is older =
    let flat = flat_map (little_bytes 4) e.pointers in
    let front = e.name ++ (0 ∷ []) in
    let long : length front ≡ 256 = length-append e.name (0 ∷ []) ∙ ap (λ (n : ℕ). n + 1) is.widths.name in
    let last : get_or e.pointers 60 0 ≡ 0 = is.rules.pointers 60 (omega arith) (few_blocks version e.size older is.rules.size.small) in
    sym (drop-drop 240 256 (front ++ flat)) ∙ ap (drop 240) (drop_at front flat 256 long) ∙ drop_flat 60 e.pointers ∙ ap (flat_map (little_bytes 4)) (last_alone 60 e.pointers is.widths.pointers last)

-- an entry that is right in an older version is right in version 4
pub right_in_4 : (version : Version) (e : Entry) → IsEntry version e → IsEntry Four e
right_in_4 version e is = record {
  widths = is.widths;
  rules = record {
    name = is.rules.name;
    padded = is.rules.padded;
    size = record { directory = is.rules.size.directory; small = larger version is.rules.size.small };
    pointers = is.rules.pointers;
  };
}
  where
    larger : (v : Version) → e.size ≤ size_limit v → e.size ≤ size_limit Four
    larger One small = omega (arith, small)
    larger Two small = omega (arith, small)
    larger Four small = small
