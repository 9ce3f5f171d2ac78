pub mod Lists
pub mod Finding
pub mod Entries
pub mod Starting
pub mod Skipped
pub mod Placed
pub mod Spelled
