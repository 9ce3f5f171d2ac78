pub mod Zeros
pub mod Rotations
