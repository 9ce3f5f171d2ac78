-- A file of the system that was replaced, in the order that `Beside` has.
use Rattle.std.specs.Prelude.{◌≡◌, ℕ, List}
use Rattle.sandbox_device.specs.declared.replacing.Successor.{Successor}
use Rattle.sandbox_device.specs.Beside.{IsNotReplaced, IsReplaced, WasFilled, WasHindered, WasMadeLasting, WasRenamed, WasSettled}

-- These bytes were written beside the file of this name, made to last, and given the name, which was made to last.
pub record WasReplaced (R : Type 0) (path bytes : List ℕ) : Type 0 where
  pub before : Successor R
  pub after : Successor R
  pub is_named : before.path.now ≡ path
  pub replaced : IsReplaced WasFilled WasMadeLasting WasRenamed WasSettled bytes before after

-- One of these was refused, after those before it.
pub record WasNotReplaced (R : Type 0) (path bytes : List ℕ) : Type 0 where
  pub before : Successor R
  pub after : Successor R
  pub is_named : before.path.now ≡ path
  pub refused : IsNotReplaced WasFilled WasMadeLasting WasRenamed WasHindered bytes before after
