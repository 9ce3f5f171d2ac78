-- What public contracts cite, in reading order; `internal` serves private contracts and proofs. Rows stand in
-- the `Rows` of their subjects; `Calls` gives each call its row, and `host` says what a host answers by them.
pub mod laws
pub mod host
pub mod internal
