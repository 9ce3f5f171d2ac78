pub mod Snapshots
pub mod internal
