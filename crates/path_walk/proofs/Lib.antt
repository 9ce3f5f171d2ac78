pub mod Parts
pub mod Walks
pub mod Names
pub mod Turning
pub mod Entered
pub mod Chaining
pub mod FromRoot
pub mod Advancing
