-- What runs keep.
pub mod HeldAlongRuns
