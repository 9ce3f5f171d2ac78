pub mod Examples
pub mod bodies
pub mod runs
pub mod calls
