-- What the worked example of this crate (`crates/sandbox_tests/src/worked.rt`) promises. Its one file, `Worked`, states
-- what the author of a host can conclude from public contracts and laws of sessions.
pub mod Worked
