-- Calls that change the tree, and leave more than that.
use Rattle.std.proofs.Common.{◌≡◌, ◌≢◌, ◌⊎◌, ◌+◌, ◌^◌, ◌<◌, ◌==◌, ℕ, Bool, true, false, cond, nat_lt, length, take, if◌then◌else◌, lit<, arith, List, [], ◌∷◌, Result, Ok, Err, inl, inr, refl, sym, ap, ◌∙◌}
use Rattle.vol_tree.specs.declared.errno.Errno.{Errno}
use Rattle.vol_tree.specs.declared.errno.Errno.TheVariants as errno
use Rattle.vol_tree.specs.Numbers.{number_of}
use Rattle.vol_tree.specs.Tree.{Tree}
use Rattle.vol_tree.specs.Clauses.{is_io}
use Rattle.vol_tree.specs.Opened.{Opened, Keeps}
use Rattle.wasi_fd.specs.declared.descriptor.Opened.{Opened as Opened'}
use Rattle.wasi_fd.specs.declared.descriptor.Descriptor.TheVariants.{Entry}
use Rattle.byteorder.specs.Endian.{little_bytes}
use Rattle.vol_inode.specs.declared.version.Version.{Version}
use Rattle.vol_inode.specs.declared.version.Version.TheVariants.{One, Two, Four}
use Rattle.vol_inode.specs.Space.{size_limit}
use Rattle.wasi_bodies.specs.files.Rows.{file_write}
use Rattle.wasi_bodies.specs.internal.files.Writing.{written_on, written_to}
use Rattle.std.proofs.lemmas.Bool.{ltb-false}
use Rattle.vol_tree.specs.Space.{Geometry}
use Rattle.vol_body.specs.Bytes.{written_bytes}
use Rattle.vol_body.proofs.Written.{length-written}
use Rattle.vol_body.specs.declared.writing.TheConstants.{PIECE}
use Rattle.vol_tree.specs.Calls.{with_unit, written, bytes_at}
use Rattle.wasi_bodies.specs.World.{World, with_volume_failed, with_descriptor, moved_to}
use Rattle.wasi_bodies.specs.Checks.{Checked, Done, and_then, put, tree_call, numbered, with_result}
use Rattle.wasi_bodies.specs.Calls.{Answered, by_row}
use Rattle.wasi_bodies.specs.internal.Entries.{with_volume}
use Rattle.wasi_bodies.proofs.checks.Chains.{goes_on, stops}
use Rattle.wasi_bodies.proofs.bodies.Answering.{answers_done}
use Rattle.wasi_bodies.proofs.bodies.VolumeCalls.{was_working, same_tree, never_after, numbered_io, tree_refuses, tree_called_alive, tree_called_gone, fits_never, ok_no_io}

pub unit_gives : (r : Result Tree Errno) (T : Tree) → with_unit r ≡ Ok (T, tt) → r ≡ Ok T
unit_gives (Ok U) T h = ap Ok (sym (same_tree U T h))
unit_gives (Err e) T h = cc

pub unit_refuses : (r : Result Tree Errno) (e : Errno) → with_unit r ≡ Err e → r ≡ Err e
unit_refuses (Ok U) e h = cc
unit_refuses (Err d) e h = let same : d ≡ e = cc in ap Err same

pub written_never : (volume : Geometry) (T : Tree) (file at : ℕ) (bytes : List ℕ) → written volume T file at bytes ≢ Err errno.Io
written_never volume T file at [] = ok_no_io T
written_never volume T file at (b ∷ bytes) = fits_never volume T file _

-- what a row makes of an answer, and then of that
pub one_after : {A B C : Type 0} (r : Checked A) (f : A → B) (k : B → C) → and_then (and_then r (λ a. Ok (f a))) (λ b. Ok (k b)) ≡ and_then r (λ a. Ok (k (f a)))
unfolding and_then
one_after (Ok a) f k = refl
one_after (Err e) f k = refl

-- the tree that the call gives, and what the row makes of it
abbrev pub leaving : (World → Result Tree Errno) → (World → Tree → Done) → World → Checked Done
leaving r k u = and_then (tree_call u (r u)) (λ T. Ok (k u T))

module _ {D : Type 0} (honest : D → Type 0) (sectors_on failures : D → ℕ) (w : World) (m : List ℕ) (run : World → Checked Done) (r : World → Result Tree Errno) (k : World → Tree → Done)
    (v v' : Opened D) (shown : w ≡ with_volume v w) (same : (u : World) → run u ≡ leaving r k u) where
  pub left_ok : Keeps honest sectors_on failures v v' false → r (with_volume v w) ≡ Ok v'.tree → (w' : World) (m' : List ℕ)
      → w' ≡ (k w v'.tree).world → m' ≡ put (put m (k w v'.tree).fills) (k w v'.tree).results → Answered run w m w' m' 0
  left_ok kept is w' m' world bytes =
      let working : v.failed ≡ false = was_working honest sectors_on failures v v' false kept refl in
      let alive : w.volume_failed ≡ false = ap (λ (w : World). w.volume_failed) shown ∙ working in
      let gives : r w ≡ Ok v'.tree = ap r shown ∙ is in
      by_row (answers_done (run w) w m w' m' (k w v'.tree) (same w ∙ goes_on _ _ v'.tree (tree_called_alive w (r w) alive ∙ ap numbered gives)) world bytes)

  pub left_err : r w ≢ Err errno.Io → (e : Errno) → Keeps honest sectors_on failures v v' (is_io {X = ℕ} (Err e)) → v'.tree ≡ v.tree
      → (r (with_volume v w) ≡ Err e) ⊎ (e ≡ errno.Io) → Answered run w m (with_volume v' w) m (number_of e)
  left_err never e kept tree meant =
      tree_refuses w m honest sectors_on failures ℕ run v v' e kept shown tree
      (λ alive other. elim meant [
        | inl is ↦ same w ∙ stops _ _ (number_of e) (tree_called_alive w (r w) alive ∙ ap numbered (ap r shown ∙ is))
        | inr io ↦ absurd (other io)
      ])
      (same (with_volume_failed w) ∙ stops _ _ 29 (tree_called_gone w (r (with_volume_failed w))))
      (λ alive is. never_after (tree_call w (r w)) (λ T. Ok (k w T))
      (λ h. numbered_io (r w) never (sym (tree_called_alive w (r w) alive) ∙ h)) (λ T _ h. cc) (sym (same w) ∙ is))

-- ---- a file that is written where it stands

pub leaving_never : (r : World → Result Tree Errno) (k : World → Tree → Done) (w : World) → w.volume_failed ≡ false → r w ≢ Err errno.Io → leaving r k w ≢ Err 29
leaving_never r k w alive never is =
    never_after (tree_call w (r w)) (λ T. Ok (k w T)) (λ h. numbered_io (r w) never (sym (tree_called_alive w (r w) alive) ∙ h)) (λ T _ h. cc) is

abbrev pub part_of : List ℕ → List ℕ
part_of bytes = take PIECE bytes

abbrev pub tree_on : Opened' → List ℕ → World → Result Tree Errno
tree_on o bytes v = written v.volume v.tree o.serial o.position (part_of bytes)

abbrev pub done_on : ℕ → Opened' → List ℕ → ℕ → World → Tree → Done
done_on fd o bytes result v T = with_result
    (if length (part_of bytes) == 0 then record v { tree = T } else with_descriptor fd (moved_to o (o.position + length (part_of bytes))) (record v { tree = T }))
    result (little_bytes 4 (length (part_of bytes)))

pub row_on : (fd : ℕ) (o : Opened') (bytes : List ℕ) (result : ℕ) (v : World) → written_on v fd o bytes result ≡ leaving (tree_on o bytes) (done_on fd o bytes result) v
row_on fd o bytes result v =
    one_after (tree_call v (tree_on o bytes v)) (λ T. (record v { tree = T }, length (part_of bytes)))
    (λ r. with_result (if r.1 == 0 then r.0 else with_descriptor fd (moved_to o (o.position + r.1)) r.0) result (little_bytes 4 r.1))

pub row_to : (fd : ℕ) (o : Opened') (bytes : List ℕ) (result : ℕ) (v : World) (p : ℕ) → (if o.append then length (bytes_at v.tree o.serial) else o.position) ≡ p
    → written_to v fd (Entry o) bytes result ≡ written_on v fd (record o { position = p }) bytes result
row_to fd o bytes result v p is =
    one_after (file_write v o (if o.append then length (bytes_at v.tree o.serial) else o.position) bytes)
    (λ r. (if r.1 == 0 then r.0 else with_descriptor fd (moved_to o ((if o.append then length (bytes_at v.tree o.serial) else o.position) + r.1)) r.0, r.1))
    (λ r. with_result r.0 result (little_bytes 4 r.1))
    ∙ ap (λ (at : ℕ). written_on v fd (record o { position = at }) bytes result) is

-- ---- no file is longer than 2 ^ 32

limited : (version : Version) → size_limit version < 2 ^ 32
limited One = lit< tt
limited Two = lit< tt
limited Four = lit< tt

first_holds : {X : Type 0} (b : Bool) (e : Errno) (r : Result X Errno) (x : X) → cond b (Err e) r ≡ Ok x → b ≡ false
first_holds true e r x h = cc
first_holds false e r x h = refl

pub written_small : (volume : Geometry) (T : Tree) (file at : ℕ) (bytes : List ℕ) (U : Tree) → 0 < length bytes → written volume T file at bytes ≡ Ok U → at + length bytes < 2 ^ 32
written_small volume T file at [] U some h = absurd (omega arith)
written_small volume T file at (b ∷ bytes) U some h =
    let old = bytes_at T file in
    let new : List ℕ = b ∷ bytes in
    let all : List ℕ = written_bytes old at new in
    let fits = ltb-false _ _ (first_holds (nat_lt (size_limit volume.version) (length all)) errno.TooBig _ U h) in
    let small = limited volume.version in
    omega (arith, fits, small, length-written old at b bytes)
