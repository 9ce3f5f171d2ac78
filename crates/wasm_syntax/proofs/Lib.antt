pub mod Powers
pub mod Exits
pub mod Numbers
pub mod Widening
pub mod Floatlessness
