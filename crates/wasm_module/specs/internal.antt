-- Definitions for private contracts and proofs: the grammar once more, as readers that compute a value from the bytes.
-- They build on those of `Reading`, and proofs show that they read what the grammar spells.
pub mod ModuleReading
