-- Input that goes on: its host hands over bytes while the guest runs, until it says that no more come.
use Rattle.std.specs.Prelude.{◌≡◌, ℕ, Bool, true, false, List, [], ◌∷◌, ◌++◌, if◌then◌else◌}
use Rattle.fed_input.specs.declared.fed.NotFed.{NotFed}
use Rattle.fed_input.specs.declared.fed.NotFed.TheVariants.{Ended, Memory}

-- the bytes that are there and weren't read yet, and whether no more come
pub record Fed : Type 0 where
  pub bytes : List ℕ
  pub ended : Bool

-- the same with bytes behind them
abbrev pub fed : List ℕ → Fed → Fed
fed more f = record f { bytes = f.bytes ++ more }

-- it ended already; or there was no memory
abbrev pub IsNotFed : Fed → NotFed → Type 0
IsNotFed f Ended = f.ended ≡ true
IsNotFed f Memory = f.ended ≡ false

-- What a caller may take for all that is left. While it goes on one more stands behind the bytes that are there, which is never read: so
-- nobody takes the end of these for the end of the input.
abbrev pub left_of : Fed → List ℕ
left_of f = f.bytes ++ (if f.ended then [] else (0 ∷ []))

-- it gave these bytes
pub record Gave (before : Fed) (bytes : List ℕ) (after : Fed) : Type 0 where
  pub given : before.bytes ≡ bytes ++ after.bytes
  pub ended : after.ended ≡ before.ended

-- it was read while it went on and nothing was there
pub record Starves (before after : Fed) : Type 0 where
  pub same : after ≡ before
  pub none : before.bytes ≡ []
  pub goes_on : before.ended ≡ false
