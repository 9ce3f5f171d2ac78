pub mod Allocating
pub mod WholeLives
pub mod Deeds
pub mod Handling
pub mod Confined
pub mod Moments
