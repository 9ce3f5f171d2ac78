-- What public contracts cite, in reading order: how names and numbers are printed, what is told of a valid module,
-- where functions stand and are at work, refusals. All of it meets in `Printing`, whose `Tells` and `PrintsBeginning` are the clauses
-- of `survey`; `internal` serves private contracts and proofs.
pub mod Words
pub mod Survey
pub mod Places
pub mod Sites
pub mod Culprits
pub mod Refusal
pub mod Printing
pub mod internal
