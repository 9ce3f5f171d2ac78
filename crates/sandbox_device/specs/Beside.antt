-- How a file is replaced: the new bytes last before they get its name, so that whoever is ended meanwhile leaves the old bytes or all
-- of the new ones under it. `IsReplaced` puts together what a trait gives evidence of; the rest is of files of the system.
use Rattle.std.specs.Prelude.{ℕ, List}

-- These bytes were written, then they were made to last, then they got the name, and then that was made to last.
pub record IsReplaced {B : Type 0} (filled : B → List ℕ → B → Type 0) (synced renamed settled : B → B → Type 0) (bytes : List ℕ) (old new : B) : Type 0 where
  pub written : B
  pub lasting : B
  pub named : B
  pub fills : filled old bytes written
  pub syncs : synced written lasting
  pub renames : renamed lasting named
  pub settles : settled named new

-- One of these was refused, after those before it.
pub data IsNotReplaced {B : Type 0} (filled : B → List ℕ → B → Type 0) (synced renamed refused : B → B → Type 0) (bytes : List ℕ) (old new : B) : Type 0 where
  unfilled : refused old new → IsNotReplaced filled synced renamed refused bytes old new
  unsynced : (written : B) → filled old bytes written → refused written new → IsNotReplaced filled synced renamed refused bytes old new
  unnamed : (written lasting : B) → filled old bytes written → synced written lasting → refused lasting new → IsNotReplaced filled synced renamed refused bytes old new
  unsettled : (written lasting named : B) → filled old bytes written → synced written lasting → renamed lasting named → refused named new
      → IsNotReplaced filled synced renamed refused bytes old new

-- No contract says what the system does, so `was_filled` and its like show it of anything; but only the proofs of the one instance of
-- the trait cite them.
pub WasFilled : {B : Type 0} → B → List ℕ → B → Type 0
WasFilled old bytes new = Unit {0}

pub was_filled : {B : Type 0} (old : B) (bytes : List ℕ) (new : B) → WasFilled old bytes new
unfolding WasFilled
was_filled old bytes new = tt

pub WasMadeLasting : {B : Type 0} → B → B → Type 0
WasMadeLasting old new = Unit {0}

pub was_made_lasting : {B : Type 0} (old new : B) → WasMadeLasting old new
unfolding WasMadeLasting
was_made_lasting old new = tt

pub WasRenamed : {B : Type 0} → B → B → Type 0
WasRenamed old new = Unit {0}

pub was_renamed : {B : Type 0} (old new : B) → WasRenamed old new
unfolding WasRenamed
was_renamed old new = tt

pub WasSettled : {B : Type 0} → B → B → Type 0
WasSettled old new = Unit {0}

pub was_settled : {B : Type 0} (old new : B) → WasSettled old new
unfolding WasSettled
was_settled old new = tt

pub WasHindered : {B : Type 0} → B → B → Type 0
WasHindered old new = Unit {0}

pub was_hindered : {B : Type 0} (old new : B) → WasHindered old new
unfolding WasHindered
was_hindered old new = tt
