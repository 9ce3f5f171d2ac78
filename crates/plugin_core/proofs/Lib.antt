pub mod Allocating
pub mod Deeds
pub mod Handling
pub mod Living
pub mod Confining
pub mod Keeping
