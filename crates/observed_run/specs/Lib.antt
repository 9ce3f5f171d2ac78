-- What public contracts cite: `Telling` has what a run tells of the functions that were at work when it stopped, `Stacks` says what
-- a profile is, `Folded` its text, and `Printing` why it isn't printed; `Charging` has where the units of a run in slices went. `internal` serves private contracts
-- and proofs.
pub mod Telling
pub mod Stacks
pub mod Folded
pub mod Printing
pub mod Charging
pub mod internal
