-- Paths from the root of a volume (`docs/PATHS.md`, "From the root"). `reached_from_root` takes what follows the first
-- slash; this is read as a guest's path is, and where nothing follows it is the root.
use Rattle.std.specs.Prelude.{ℕ, Bool, false, List, [], ◌∷◌, Result, Ok}
use Rattle.vol_tree.specs.declared.errno.Errno.{Errno}
use Rattle.vol_tree.specs.Tree.{Tree}
use Rattle.path_walk.specs.Paths.{Reached, Found, path_read, resolved, wants_directory, ◌>>=◌}

-- What a path reaches from the root, and whether it wants a directory. The empty path is the root.
abbrev pub reached_from_root : Tree → List ℕ → Result (Reached × Bool) Errno
reached_from_root T [] = Ok (Found 1, false)
reached_from_root T (c ∷ rest) = path_read (c ∷ rest) >>= λ names. resolved T 1 (wants_directory (c ∷ rest)) names >>= λ r. Ok (r, wants_directory (c ∷ rest))
