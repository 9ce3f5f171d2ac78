-- Definitions that only private contracts and proofs cite, and those that `Machine.antt` names. `Fast` is of the fast machine alone.
pub mod Programs
pub mod HeldState
pub mod Running
pub mod Begun
pub mod Invoking
pub mod Fast
pub mod InPlaces
