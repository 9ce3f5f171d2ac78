-- What a stream of the system answered. No contract says what the system does, so `was_given` and its like show it of any stream; but
-- only the proofs of `src/system.rt` cite them, and all others see relations of which they know nothing.
use Rattle.std.specs.Prelude.{ℕ, List}

pub WasGiven : {S : Type 0} → S → List ℕ → S → Type 0
WasGiven before bytes after = Unit {0}

pub was_given : {S : Type 0} (before : S) (bytes : List ℕ) (after : S) → WasGiven before bytes after
unfolding WasGiven
was_given before bytes after = tt

pub WasTaken : {S : Type 0} → S → List ℕ → S → Type 0
WasTaken before bytes after = Unit {0}

pub was_taken : {S : Type 0} (before : S) (bytes : List ℕ) (after : S) → WasTaken before bytes after
unfolding WasTaken
was_taken before bytes after = tt

pub WasFlushed : {S : Type 0} → S → S → Type 0
WasFlushed before after = Unit {0}

pub was_flushed : {S : Type 0} (before after : S) → WasFlushed before after
unfolding WasFlushed
was_flushed before after = tt

pub HasRefused : {S : Type 0} → S → S → Type 0
HasRefused before after = Unit {0}

pub has_refused : {S : Type 0} (before after : S) → HasRefused before after
unfolding HasRefused
has_refused before after = tt
