-- What private contracts and proofs cite of paths. `Runs` serves the check of long parts, and `Turns` and `Steps` serve
-- the loops that take a path part by part.
pub mod Runs
pub mod Turns
pub mod Steps
