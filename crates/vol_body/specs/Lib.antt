-- The bytes of a file as public contracts see them, in reading order; `internal` serves private contracts and proofs.
-- `Body` says what a file is on a volume, `Survey` serves opening, and `Reading` to `Change` are about changes of a
-- file.
pub mod Body
pub mod Survey
pub mod Reading
pub mod Source
pub mod Bytes
pub mod Change
pub mod internal
