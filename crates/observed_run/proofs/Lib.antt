-- What proofs cite.
pub mod Room
pub mod Functions
pub mod Trees
pub mod Lines
pub mod Charging
pub mod Going
pub mod Ending
mod Refused
