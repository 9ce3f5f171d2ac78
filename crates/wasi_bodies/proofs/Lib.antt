pub mod OpenEntries
pub mod bodies
pub mod runs
