-- What a task printed, by how it ended.
use Rattle.std.proofs.Common.{◌≡◌, ◌⊎◌, ⊎_elim, inl, inr, ℕ, List, [], ◌++◌, Option, Some, Result, Ok, Err, IsErrAnd, refl, sym, ◌∙◌, ap, subst}
use Rattle.std.specs.Io.KnownBytes.{Appends, Keeps}
use Rattle.std.proofs.KnownBytes.{Appends-kept, Keeps-refl, Keeps-trans}
use Rattle.vol_tree.specs.declared.errno.Errno.{Errno}
use Rattle.vol_tree.specs.declared.errno.Errno.TheVariants as errno
use Rattle.path_walk.specs.Paths.{◌>>=◌}
use Rattle.sandbox_args.specs.Request.{Text}
use Rattle.vol_commands.specs.declared.failure.Failure.{Failure}
use Rattle.vol_commands.specs.declared.failure.Failure.TheVariants as failure
use Rattle.stream_answers.specs.Printing.{AppendsPart}
use Rattle.vol_commands.specs.Tasks.{Prints, PrintsPart}
use Rattle.stream_answers.proofs.Handed.{part_none}
use Rattle.vol_commands.proofs.Handed.{part_kept}

-- a call on the tree is refused
pub tree_refused : (meant : Result Text Errno) (before after : Option (List ℕ)) (e : Errno) (r : Result (Unit {0}) Failure)
    → ((meant ≡ Err e) × Keeps before after) ⊎ ((e ≡ errno.Io) × PrintsPart meant before after) → IsErrAnd r (λ f. f ≡ failure.Tree e) → Prints meant before after r
tree_refused meant before after e (Ok x) why err = absurd err
tree_refused meant before after e (Err f) why err = subst (λ (f : Failure). Prints meant before after (Err f)) (sym err) why

-- the output failed
pub stream_refused : (text : Text) (before after : Option (List ℕ)) (r : Result (Unit {0}) Failure) → AppendsPart before after text → IsErrAnd r (λ f. f ≡ failure.Stream) → Prints (Ok text) before after r
stream_refused text before after (Ok x) part err = absurd err
stream_refused text before after (Err f) part err = subst (λ (f : Failure). Prints (Ok text) before after (Err f)) (sym err) (text, refl, part)

-- nothing was printed yet
part_yet : (meant : Result Text Errno) (out : Option (List ℕ)) → PrintsPart meant out out
part_yet (Ok text) out = part_none out out text (Keeps-refl out)
part_yet (Err e) out = Keeps-refl out

pub walk_refused : (named : Result ℕ Errno) (text_of : ℕ → Text) (out : Option (List ℕ)) (e : Errno) (r : Result (Unit {0}) Failure) → (named ≡ Err e) ⊎ (e ≡ errno.Io) → IsErrAnd r (λ f. f ≡ failure.Tree e)
    → Prints (named >>= λ serial. Ok (text_of serial)) out out r
walk_refused named text_of out e r why err =
    let meant : Result Text Errno = named >>= λ serial. Ok (text_of serial) in
    tree_refused meant out out e r
    (⊎_elim (λ is. inl (ap (λ (n : Result ℕ Errno). let m : Result Text Errno = n >>= λ serial. Ok (text_of serial) in m) is, Keeps-refl out)) (λ io. inr (io, part_yet meant out)) why) err

-- what is printed of what a path names
pub named_prints : (named : Result ℕ Errno) (text_of : ℕ → Text) (serial : ℕ) (before after : Option (List ℕ)) (r : Result (Unit {0}) Failure) → named ≡ Ok serial → Prints (Ok (text_of serial)) before after r
    → Prints (named >>= λ s. Ok (text_of s)) before after r
named_prints named text_of serial before after r is prints =
    subst (λ (n : Result ℕ Errno). Prints (n >>= λ s. Ok (text_of s)) before after r) (sym is) prints

-- a line holds what was written to it
pub line_holds : (empty items text : List ℕ) → empty ≡ [] → Appends (Some empty) (Some items) text → items ≡ text
line_holds empty items text is appended = appended ∙ ap (λ (xs : List ℕ). xs ++ text) is

-- a flush keeps it
pub prints_kept : (meant : Result Text Errno) (a b c : Option (List ℕ)) (r : Result (Unit {0}) Failure) → Prints meant a b r → Keeps b c → Prints meant a c r
prints_kept meant a b c (Ok x) prints kept = (prints.0, prints.1, Appends-kept a b c prints.0 prints.2 kept)
prints_kept meant a b c (Err (failure.Volume fault)) prints kept = prints
prints_kept meant a b c (Err (failure.Tree e)) (inl is) kept = inl (is.0, Keeps-trans a b c is.1 kept)
prints_kept meant a b c (Err (failure.Tree e)) (inr io) kept = inr (io.0, part_so meant io.1)
  where
    part_so : (m : Result Text Errno) → PrintsPart m a b → PrintsPart m a c
    part_so (Ok text) part = part_kept a b c text part kept
    part_so (Err e) stayed = Keeps-trans a b c stayed kept
prints_kept meant a b c (Err failure.Stream) prints kept = (prints.0, prints.1, part_kept a b c prints.0 prints.2 kept)
