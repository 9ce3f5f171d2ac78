-- What runs keep.
pub mod ReachedEntries
