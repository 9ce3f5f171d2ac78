-- What is found of trees that are kept.
use Rattle.std.proofs.Common.{ℕ, zero, suc, ◌+◌, ◌≤◌, ◌<◌, Bool, true, false, cond, List, [], ◌∷◌, length, get_or, inl, inr, arith}
use Rattle.vol_sector.specs.Disk.{Image}
use Rattle.vol_tree.specs.Tree.{Tree}
use Rattle.vol_tree.specs.Stands.{StandsAs}
use Rattle.vol_tree.specs.declared.superblock.Superblock.{Superblock}
use Rattle.wasm_steps.specs.declared.pause.Pause.{Pause}
use Rattle.wasm_steps.specs.declared.pause.Pause.TheVariants.{Called, Spent, Ended}
use Rattle.wasm_interp.specs.Promise.{UnitsRise}
use Rattle.wasi_bodies.specs.laws.Moments.{Kept}
use Rattle.sandbox_tests.specs.Worked.{FindsOneOf}

finds_at : (size : ℕ) (v : Superblock) (image : Image) → v.sectors ≤ size → (trees : List Tree) (count : ℕ) → count < length trees → StandsAs image v (get_or trees count []) → FindsOneOf size v image trees
finds_at size v image room [] count low stands = absurd (omega (arith, low))
finds_at size v image room (T ∷ trees) zero low stands = inl (record { stands = stands; room = room })
finds_at size v image room (T ∷ trees) (suc n) low stands = inr (finds_at size v image room trees n (omega (arith, low)) stands)

pub found : (size : ℕ) (v : Superblock) (image : Image) (trees : List Tree) (from to : ℕ) → v.sectors ≤ size → Kept image v trees from to → FindsOneOf size v image trees
found size v image trees from to room kept = finds_at size v image room trees kept.count kept.there kept.stands

-- none from before the place
finds_later : (size : ℕ) (v : Superblock) (image : Image) → v.sectors ≤ size → (T : Tree) (trees : List Tree) (count : ℕ) → 1 ≤ count → count < length (T ∷ trees) → StandsAs image v (get_or (T ∷ trees) count []) → FindsOneOf size v image trees
finds_later size v image room T trees zero some low stands = absurd (omega (arith, some))
finds_later size v image room T trees (suc n) some low stands = finds_at size v image room trees n (omega (arith, low)) stands

pub found_after : (size : ℕ) (v : Superblock) (image : Image) (synced : Bool) (T : Tree) (trees : List Tree) (to : ℕ) → v.sectors ≤ size → Kept image v (T ∷ trees) (cond synced 1 0) to
    → FindsOneOf size v image (cond synced trees (T ∷ trees))
found_after size v image true T trees to room kept = finds_later size v image room T trees kept.count kept.after kept.there kept.stands
found_after size v image false T trees to room kept = found size v image (T ∷ trees) 0 to room kept

-- a resume takes no more units than it was let
pub rises : (p : Pause) (units old new : ℕ) → UnitsRise p units old new → new ≤ old + units
rises Spent units old new h = omega (arith, h)
rises (Called call e) units old new h = h.1
rises (Ended o) units old new h = h.1
