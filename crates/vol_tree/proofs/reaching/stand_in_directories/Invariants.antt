use Rattle.std.proofs.Common.{◌≡◌, ◌≢◌, ◌<◌, ◌-◌, ℕ, true, false, get_or}
use Rattle.vol_tree.proofs.reaching.stand_in_directories.Given as goal

abbrev pub invariant-loop-parent : goal.invariant-loop-parent
invariant-loop-parent l = record { so_far : (s : ℕ) → s < l.parent-index → get_or l.parents s 0 ≢ 0 → get_or l.directories (get_or l.parents s 0 - 1) false ≡ true }
