-- Reading the bytes of a file.
use Rattle.std.proofs.Common.{◌≡◌, ℕ, zero, suc, ◌-◌, ◌≤◌, min, true, false, Bool, List, [], ◌∷◌, ◌++◌, length, take, drop, Some, Result, Ok, Err, IsErrAnd, refl, sym, ◌∙◌, ap, arith}
use Rattle.std.proofs.lemmas.List.{length-take, length-drop, take_min}
use Rattle.std.proofs.lemmas.List.FromFn.{length-map-range_with_len}
use Rattle.vol_sector.specs.Disk.{Image, counted}
use Rattle.vol_sector.specs.declared.device.Device.{Ghosts}
use Rattle.vol_log.specs.Log.{device_of, has_failed}
use Rattle.vol_log.specs.Reading.{OnlyReads}
use Rattle.vol_log.specs.declared.log.Log.{Log}
use Rattle.vol_inode.specs.declared.entry.Entry.{Entry}
use Rattle.vol_body.specs.Body.{bytes_of, byte_at}
use Rattle.vol_tree.specs.declared.errno.Errno.{Errno}
use Rattle.vol_tree.specs.declared.errno.Errno.TheVariants as errno
use Rattle.vol_tree.specs.declared.superblock.Superblock.{Superblock}
use Rattle.vol_tree.specs.Tree.{Tree}
use Rattle.vol_tree.specs.Calls.{read_bytes, is_file_at}
use Rattle.vol_tree.specs.Clauses.{tree_in, TellsBytes}
use Rattle.vol_tree.specs.internal.Slots.{slot_of}
use Rattle.vol_tree.specs.internal.Parts.{IsContent}
use Rattle.vol_tree.proofs.Committing.{LogReads}
use Rattle.vol_tree.proofs.WriteCalls.{old_bytes}

pub log_reads : {D : Type 0} {g : Ghosts D} (old new : Log D g) (io : Bool) → OnlyReads old new → has_failed old ≡ false → has_failed new ≡ io → LogReads old new io
log_reads {D} {g} old new io r ok failed = record {
  view = r.view;
  seen = r.seen;
  crash = r.crash;
  failed = failed;
  idle = λ was. absurd (let e : true ≡ false = sym was ∙ ok in cc);
  sectors = r.sectors;
  honest = r.honest;
  size = r.size;
  goes_on = r.goes_on;
  failures = λ fine. r.failures fine ∙ ap (λ (b : Bool). counted b (g.failures (device_of old))) failed;
}

take_within : (n m : ℕ) (xs : List ℕ) → n ≤ m → take n (take m xs) ≡ take n xs
take_within zero m xs le = refl
take_within (suc n) zero xs le = absurd (omega arith)
take_within (suc n) (suc m) [] le = refl
take_within (suc n) (suc m) (x ∷ xs) le = ap (λ (l : List ℕ). x ∷ l) (take_within n m xs (omega arith))

module _ (content : Image) (v : Superblock) (is : IsContent content v) (file : ℕ) (first : 1 ≤ file) (d : Entry) (slot_is : slot_of content v file ≡ Some d) (file_is : is_file_at (tree_in content v) file ≡ true) (offset : ℕ) (before : List ℕ) where
  abbrev meant : List ℕ
  meant = read_bytes (tree_in content v) file offset (length before)

  rest : List ℕ
  rest = drop offset (bytes_of content d)

  meant_is : meant ≡ take (length before) rest
  unfolding rest
  meant_is = ap (λ (l : List ℕ). take (length before) (drop offset l)) (old_bytes content v is file first d slot_is file_is)

  long_rest : length rest ≡ d.size - offset
  unfolding rest
  long_rest = omega (arith, length-drop offset (bytes_of content d), length-map-range_with_len (byte_at content d) 0 d.size)

  long_meant : length meant ≡ min (length before) (d.size - offset)
  long_meant = ap length meant_is ∙ length-take (length before) rest ∙ ap (min (length before)) long_rest

  pub read_all : (n : ℕ) (after : List ℕ) → n ≡ min (length before) (d.size - offset) → after ≡ take n (drop offset (bytes_of content d)) ++ drop n before → (n ≡ length meant) × (after ≡ meant ++ drop n before)
  unfolding rest
  read_all n after count is_after =
      let whole : take n rest ≡ meant = ap (λ (k : ℕ). take k rest) (count ∙ ap (min (length before)) (sym long_rest)) ∙ take_min (length before) rest ∙ sym meant_is in
      (count ∙ sym long_meant, is_after ∙ ap (λ (l : List ℕ). l ++ drop n before) whole)

  pub read_some : (n : ℕ) (after : List ℕ) → n ≤ min (length before) (d.size - offset) → after ≡ take n (drop offset (bytes_of content d)) ++ drop n before → (k : ℕ) × (k ≤ length meant) × (after ≡ take k meant ++ drop k before)
  unfolding rest
  read_some n after le is_after =
      let part : take n rest ≡ take n meant = sym (ap (take n) meant_is ∙ take_within n (length before) rest (omega arith)) in
      (n, omega (arith, long_meant), is_after ∙ ap (λ (l : List ℕ). l ++ drop n before) part)

pub tells_io : (meant before after : List ℕ) (old new : Tree) (r : Result ℕ Errno) → IsErrAnd r (λ e. e ≡ errno.Io) → new ≡ old → (k : ℕ) × (k ≤ length meant) × (after ≡ take k meant ++ drop k before) → TellsBytes meant before after old new r
tells_io m before after old new (Ok x) p same part = absurd p
tells_io m before after old new (Err e) p same part = (p, same, part)
