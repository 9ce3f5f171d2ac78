pub mod Free
pub mod Named
pub mod Covers
