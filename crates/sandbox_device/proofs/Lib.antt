mod Ram
mod Reading
mod File
pub mod Recorded
pub mod Packing
pub mod InParts
pub mod Told
