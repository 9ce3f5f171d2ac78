-- What public contracts cite, in reading order; `internal` serves private contracts and proofs. `Ram`, `File` and
-- `Recorded` give three devices a `Disk`, and `Followed` says what the record of the third is good for.
pub mod Ram
pub mod File
pub mod Recorded
pub mod Followed
pub mod Opening
pub mod FileEvidence
pub mod Contents
pub mod Beside
pub mod Replaced
pub mod Named
pub mod Written
pub mod internal
