-- What public contracts cite, in reading order; `internal` serves private contracts and proofs. Start with `Paths`,
-- which has the meaning of a path over a tree; the other files build on it.
pub mod Paths
pub mod Walk
pub mod Rooted
pub mod Laws
pub mod internal
