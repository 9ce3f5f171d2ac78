pub mod Feeding
pub mod Wholes
