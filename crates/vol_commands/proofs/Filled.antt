-- How far a file was filled with the input, and why no further.
use Rattle.std.proofs.Common.{◌≡◌, ℕ, List, ◌++◌, length, Option, Result, Ok, Err, IsErrAnd, ◌⊎◌, ⊎_elim, inl, inr, sym, ◌∙◌, subst}
use Rattle.std.specs.Io.KnownBytes.{Consumes}
use Rattle.std.proofs.KnownBytes.{Consumes-trans}
use Rattle.vol_tree.specs.declared.errno.Errno.{Errno}
use Rattle.vol_tree.specs.declared.errno.Errno.TheVariants as errno
use Rattle.vol_tree.specs.Tree.{Tree}
use Rattle.vol_tree.specs.Space.{Geometry}
use Rattle.vol_tree.specs.Calls.{with_bytes, if_it_fits, written, with_unit}
use Rattle.vol_tar.proofs.Filled.{IsFile, piece_refused}
use Rattle.vol_tar.proofs.Results.{consumed_begins}
use Rattle.vol_commands.specs.declared.failure.Failure.{Failure}
use Rattle.vol_commands.specs.declared.failure.Failure.TheVariants as failure
use Rattle.vol_commands.specs.Tasks.{BeginWith, Fills, HasBeginning}

-- a piece that doesn't fit leaves a beginning
pub fill_refused : (g : Geometry) (T M U : Tree) (file offset : ℕ) (done p : List ℕ) (before mid after : Option (List ℕ)) (e : Errno) (r : Result (Unit {0}) Failure) → IsFile T file
    → M ≡ with_bytes T file done → offset ≡ length done → Consumes before mid done → Consumes mid after p
    → (U ≡ M) × ((with_unit (written g M file offset p) ≡ Err e) ⊎ (e ≡ errno.Io)) → IsErrAnd r (λ f. f ≡ failure.Tree e) → Fills g T file before after U r
fill_refused g T M U file offset done p before mid after e (Ok x) is has at first second why err = absurd err
fill_refused g T M U file offset done p before mid after e (Err f) is has at first second why err =
    let part : HasBeginning T file before U = (done, consumed_begins before mid done first, why.0 ∙ has) in
    let cause : (e ≡ errno.Io) ⊎ ((bytes : List ℕ) × BeginWith before bytes × (if_it_fits g T file bytes ≡ Err e)) =
    ⊎_elim (λ refused. inr (done ++ p, consumed_begins before after (done ++ p) (Consumes-trans before mid after done p first second), piece_refused g T M file offset done is has at p e refused)) (λ io. inl io) why.1 in
    subst (λ (f : Failure). Fills g T file before after U (Err f)) (sym err) (part, cause)

-- a sync is refused only by the device
pub synced_not : (T : Tree) (e : Errno) → (with_unit (Ok T) ≡ Err e) ⊎ (e ≡ errno.Io) → e ≡ errno.Io
synced_not T e why = ⊎_elim (λ no. absurd (let n : ◌≡◌ {A = Result (Tree × Unit {0}) Errno} (Ok (T, tt)) (Err e) = no in cc)) (λ io. io) why

-- the file is filled, and then the device fails
pub sync_failed : (g : Geometry) (T : Tree) (file : ℕ) (before after : Option (List ℕ)) (M U : Tree) (e : Errno) (r : Result (Unit {0}) Failure) → Fills g T file before after M (Ok tt)
    → U ≡ M → e ≡ errno.Io → IsErrAnd r (λ f. f ≡ failure.Tree e) → Fills g T file before after U r
sync_failed g T file before after M U e (Ok x) filled same io err = absurd err
sync_failed g T file before after M U e (Err f) filled same io err =
    subst (λ (f : Failure). Fills g T file before after U (Err f)) (sym err) ((filled.0, consumed_begins before after filled.0 filled.1, same ∙ filled.3), inl io)

-- the input failed, and the file has a beginning of it
pub fill_stopped : (g : Geometry) (T U : Tree) (file : ℕ) (before after : Option (List ℕ)) (r : Result (Unit {0}) Failure) → HasBeginning T file before U
    → IsErrAnd r (λ f. f ≡ failure.Stream) → Fills g T file before after U r
fill_stopped g T U file before after (Ok x) has err = absurd err
fill_stopped g T U file before after (Err f) has err = subst (λ (w : Failure). Fills g T file before after U (Err w)) (sym err) has
