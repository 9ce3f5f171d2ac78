-- A volume's device goes on, from call to call.
use Rattle.std.proofs.Common.{◌≡◌, ◌≤◌, ℕ, sym, ap, subst}
use Rattle.vol_sector.specs.Past.{StillGoesOn}
use Rattle.vol_tree.specs.declared.superblock.Superblock.{Superblock}
use Rattle.vol_tree.specs.Opened.{Opened, GoesOn}

module _ {D : Type 0} (goes_on : ℕ → D → D → Type 0) where
  -- nothing was done
  pub goes_same : (a b : Opened D) → b.device ≡ a.device → GoesOn goes_on a b
  goes_same a b same end le first from = subst (goes_on end first) (sym same) from

  -- one call after another
  pub goes_then : (a b c : Opened D) → b.numbers ≡ a.numbers → GoesOn goes_on a b → GoesOn goes_on b c → GoesOn goes_on a c
  goes_then a b c numbers one two end le first from =
      two end (subst (λ (v : Superblock). v.sectors ≤ end) (sym numbers) le) first (one end le first from)
