-- A file that is put beside another one, and moved over it or taken away.
use Rattle.std.proofs.Common.{◌≡◌, ◌⊎◌, ⊎_elim, inl, inr, ℕ, List, Option, Result, Ok, Err, true, false, sym, ◌∙◌, ap, subst}
use Rattle.std.specs.Borrow.{Bor}
use Rattle.std.proofs.lemmas.Bool.{false≢true}
use Rattle.vol_tree.specs.declared.superblock.Superblock.{Superblock}
use Rattle.vol_tree.specs.declared.errno.Errno.{Errno}
use Rattle.vol_tree.specs.declared.errno.Errno.TheVariants as errno
use Rattle.vol_tree.specs.Tree.{Tree}
use Rattle.vol_tree.specs.Clauses.{is_io}
use Rattle.vol_tree.specs.Opened.{geometry}
use Rattle.sandbox_args.specs.Request.{Text}
use Rattle.sandbox_args.specs.declared.request.Change.TheVariants.{Move, Remove}
use Rattle.vol_tar.proofs.Results.{consumed_begins}
use Rattle.vol_commands.specs.declared.failure.Failure.{Failure}
use Rattle.vol_commands.specs.declared.failure.Failure.TheVariants as failure
use Rattle.vol_commands.specs.Blame.{blames_device}
use Rattle.vol_commands.specs.Changes.{Changes, entry_moved}
use Rattle.vol_commands.specs.Replacing.{IsPartOfWhole, IsRemovalPart, Moves, Removes}
use Rattle.vol_commands.specs.Tasks.{Fills, HasBeginning, IsPartOfPut, Puts}

-- a move, as a change
pub moves : (M U : Tree) (from to : Bor Text) (r : Result (Unit {0}) Failure) → Changes M (Move from to) U r → Moves M from.now to.now U r
moves M U from to (Ok x) done = done
moves M U from to (Err (failure.Volume fault)) done = absurd done
moves M U from to (Err (failure.Tree e)) done = done
moves M U from to (Err failure.Stream) done = absurd done

-- a removal leaves the tree or the one that it means
pub removal_part : (M U : Tree) (path : Bor Text) (r : Result (Unit {0}) Failure) → Changes M (Remove path) U r → IsRemovalPart M path.now U
removal_part M U path (Ok x) done = inr done
removal_part M U path (Err (failure.Volume fault)) done = absurd done
removal_part M U path (Err (failure.Tree e)) done = ⊎_elim (λ refused. inl refused.1) (λ io. io.1) done
removal_part M U path (Err failure.Stream) done = absurd done

io_blames : (e : Errno) → e ≡ errno.Io → blames_device (Err (failure.Tree e)) ≡ true
io_blames e io = ap (λ (x : Errno). is_io {X = Unit {0}} (Err x)) io

-- and where the device didn't fail, it was done or had nothing to do
pub removed : (M U : Tree) (path : Bor Text) (r : Result (Unit {0}) Failure) → blames_device r ≡ false → Changes M (Remove path) U r → Removes M path.now U
removed M U path (Ok x) fine done = inl done
removed M U path (Err (failure.Volume fault)) fine done = absurd done
removed M U path (Err (failure.Tree e)) fine done =
    ⊎_elim (λ refused. inr (refused.1, e, refused.0)) (λ io. absurd (false≢true (sym fine ∙ io_blames e io.0))) done
removed M U path (Err failure.Stream) fine done = absurd done

-- what a put leaves is a part of it
pub put_part : (v : Superblock) (T U : Tree) (path : Text) (before after : Option (List ℕ)) (r : Result (Unit {0}) Failure) → Puts v T path before after U r → IsPartOfPut v T path before U
put_part v T U path before after r (inl refused) = inl refused.2
put_part v T U path before after r (inr begun) = inr (begun.0, begun.1, begun.2, filled r begun.3)
  where
    filled : (q : Result (Unit {0}) Failure) → Fills (geometry v) begun.0 begun.1 before after U q → HasBeginning begun.0 begun.1 before U
    filled (Ok x) fills = (fills.0, consumed_begins before after fills.0 fills.1, fills.3)
    filled (Err (failure.Volume fault)) fills = absurd fills
    filled (Err (failure.Tree e)) fills = fills.0
    filled (Err failure.Stream) fills = fills

pub moved_part : (v : Superblock) (T M U : Tree) (beside path : Text) (known : Option (List ℕ)) → IsPartOfPut v T beside known M → (U ≡ M) ⊎ (entry_moved M beside path ≡ Ok U) → IsPartOfWhole v T beside path known U
moved_part v T M U beside path known part next =
    ⊎_elim (λ same. inl (subst (IsPartOfPut v T beside known) (sym same) part)) (λ is. inr (M, part, inl is)) next

pub taken_part : (v : Superblock) (T M U : Tree) (beside path : Text) (known : Option (List ℕ)) → IsPartOfPut v T beside known M → IsRemovalPart M beside U → IsPartOfWhole v T beside path known U
taken_part v T M U beside path known part next =
    ⊎_elim (λ same. inl (subst (IsPartOfPut v T beside known) (sym same) part)) (λ is. inr (M, part, inr is)) next

-- the same after what only asked, of the text that was made
pub whole_same : (v w : Superblock) (T M : Tree) (beside made path : Text) (known : Option (List ℕ)) (U : Tree) → w ≡ v → M ≡ T → made ≡ beside
    → IsPartOfWhole w M made path known U → IsPartOfWhole v T beside path known U
whole_same v w T M beside made path known U numbers tree text part =
    subst (λ (x : Superblock). IsPartOfWhole x T beside path known U) numbers
    (subst (λ (X : Tree). IsPartOfWhole w X beside path known U) tree
    (subst (λ (t : Text). IsPartOfWhole w M t path known U) text part))
