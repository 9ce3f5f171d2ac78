-- A walk component by component, over the tree. `turned` is one step; `ends` is what the rest of the components gives
-- where a loop stands, with a name missing already or none.
use Rattle.std.specs.Prelude.{◌≡◌, ◌≢◌, ◌≤◌, ◌<◌, ℕ, length, get_or, not, List, ◌∷◌, Option, Some, None, Result, Ok, Err, if◌then◌else◌}
use denote.Ref.{Bor}
use Rattle.vol_tree.specs.declared.errno.Errno.{Errno}
use Rattle.vol_tree.specs.declared.errno.Errno.TheVariants as errno
use Rattle.vol_tree.specs.Tree.{Tree, Name, same_name, lookup}
use Rattle.vol_tree.specs.Calls.{directory_at}
use Rattle.path_walk.specs.Paths.{Reached, missing, stepped, parent_at, dots, slash, is_skipped, components_of}

-- one component from an entry: the next entry, or none of that name
abbrev pub turned : Tree → ℕ → Name → Result (Option ℕ) Errno
turned T here part = if not (directory_at T here) then Err errno.NotDirectory
    else (if same_name part dots then Ok (Some (parent_at T here)) else Ok (lookup T here part))

-- where a name was missing already, no other may follow
abbrev pub ends : Tree → ℕ → Option Name → List Name → Result Reached Errno
ends T here None names = stepped T here names
ends T here (Some name) names = missing here name names

-- the components with this part in front, if it counts
abbrev pub counting : Name → List Name → List Name
counting part names = if is_skipped part then names else (part ∷ names)

abbrev pub now_of : Option (Bor (List ℕ)) → Option Name
now_of None = None
now_of (Some name) = Some name.now

-- how far the first part goes
pub record IsPartLen (text : List ℕ) (n : ℕ) : Type 0 where
  pub within : n ≤ length text
  pub before : (k : ℕ) → k < n → get_or text k 0 ≢ slash
  pub at : n < length text → get_or text n 0 ≡ slash

-- along the components of a text
abbrev pub walks_as : Tree → ℕ → List ℕ → Result Reached Errno
walks_as T directory text = stepped T directory (components_of text)
